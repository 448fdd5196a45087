use Rattle.std.proofs.Common.{◌≡◌, ◌+◌, sum_by, length, take}
use Rattle.keel_disk.specs.State.{file_at}
use Rattle.keel_simdisk.proofs.tree.Tree.left.Given as goal

abbrev pub invariant-loop-entry : goal.invariant-loop-entry
invariant-loop-entry l = sum_by (λ entry. length (file_at entry.1 l.self.files).read) (take l.entry-index l.entry-items) + l.left ≡ l.capacity
