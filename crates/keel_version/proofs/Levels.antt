-- Whether level 0 is over its trigger, by a count.
use Rattle.std.proofs.Common.{◌≡◌, ℕ, List, leb, sym, ap, subst, ◌∙◌}
use Rattle.std.specs.Prelude.{◌==◌, count_by}
use Rattle.std.proofs.lemmas.List.Sums.{length-filter}
use Rattle.keel_base.specs.declared.options.Options.{Options}
use Rattle.keel_edit.specs.declared.edit.Added.{Added}
use Rattle.keel_version.specs.Picking.{is_over}

pub at_level0 : (options : Options) (tables : List Added) (count level : ℕ) → level ≡ 0 → count ≡ count_by (λ (t : Added). t.level == 0) tables
    → leb options.level0_trigger count ≡ is_over options tables level
at_level0 options tables count level zero_is counted =
    let same = counted ∙ sym (length-filter (λ (t : Added). t.level == 0) tables) in
    subst (λ (l : ℕ). leb options.level0_trigger count ≡ is_over options tables l) (sym zero_is) (ap (leb options.level0_trigger) same)
