use Rattle.std.proofs.Common.{◌≡◌, ◌-◌, ◌^◌, min, sum_by, take}
use Rattle.keel_dirdisk.proofs.listing.total.Given as goal

abbrev pub invariant-loop-file : goal.invariant-loop-file
invariant-loop-file l = l.sum ≡ min (sum_by (λ file. file.size) (take l.file-index l.files)) (2 ^ 64 - 1)
