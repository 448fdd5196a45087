use Rattle.std.proofs.Common.{◌≡◌, ℕ, ◌+◌, ◌-◌, ◌<◌, ◌≤◌, List, length, take, get_or, sum_by, ◌∙◌, ap, subst, arith}
use Rattle.std.proofs.lemmas.List.Sums.{sum_by_more, sum_by_more_le}
use Rattle.keel_base.specs.declared.file_name.FileName.{FileName}
use Rattle.keel_base.specs.declared.file_name.FileName.TheVariants.{Log}
use Rattle.keel_disk.specs.declared.state.File.{File}
use Rattle.keel_disk.specs.Directory.{Named}
use Rattle.keel_disk.specs.State.{file_at, directory_read}
use Rattle.keel_simdisk.proofs.tree.Tree.left.Goals as goal

abbrev size_in : List File → FileName × ℕ → ℕ
size_in files entry = length (file_at entry.1 files).read

-- one file more
less : (files : List File) (items : Named ℕ) (i left capacity size : ℕ) (d : FileName × ℕ) → i < length items → size ≡ size_in files (get_or items i d) → size ≤ left
    → sum_by (size_in files) (take i items) + left ≡ capacity → sum_by (size_in files) (take (i + 1) items) + (left - size) ≡ capacity
less files items i left capacity size d below is within had = omega (arith, sum_by_more (size_in files) items i d below)

-- it is larger than what is left
over : (files : List File) (items : Named ℕ) (i left capacity size : ℕ) (d : FileName × ℕ) → i < length items → size ≡ size_in files (get_or items i d) → left < size
    → sum_by (size_in files) (take i items) + left ≡ capacity → capacity < sum_by (size_in files) items
over files items i left capacity size d below is more had = omega (arith, sum_by_more_le (size_in files) items i d below)

pub loop-entry-preserved : goal.loop-entry-preserved
loop-entry-preserved c =
    less c.args.self.now.files c.deref-entry-items.result.now c.loop-entry.entry-index c.loop-entry.left c.args.capacity (length c.read.result.now) (Log 0, 0)
    c.loop-entry-test.true (ap length c.read.ensures) c.if-left-size.false c.loop-entry.invariant

pub returns-then-left-size : goal.returns-then-left-size
returns-then-left-size c =
    let items : c.deref-entry-items.result.now ≡ directory_read c.args.self.now = c.deref-entry-items.ensures.value ∙ c.self.invariant ∙ ap directory_read c.self.view_is in
    subst (λ entries. c.args.capacity < sum_by (size_in c.args.self.now.files) entries) items
    (over c.args.self.now.files c.deref-entry-items.result.now c.loop-entry.entry-index c.loop-entry.left c.args.capacity (length c.read.result.now) (Log 0, 0)
    c.loop-entry-test.true (ap length c.read.ensures) c.if-left-size.true c.loop-entry.invariant)
