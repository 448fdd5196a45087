use Rattle.std.proofs.Common.{◌∙◌, ap, sym, List, ℕ, Option}
use Rattle.keel_base.specs.Keys.{key_lt}
use Rattle.keel_table.specs.Fields.{is_over}
use Rattle.keel_table.proofs.Loops.{last_entry}
use Rattle.keel_table.proofs.reading.is_over.Goals as goal

pub returns-in-Some : goal.returns-in-Some
returns-in-Some c =
    c.is_below.ensures ∙ ap (λ (k : List ℕ). key_lt k c.args.key.now) c.as_slice.ensures ∙ ap (λ (before : Option (List ℕ)). is_over before c.args.key.now) (sym (last_entry c.args.entries.now c.in-Some.entry.now c.in-Some.ensures.value))
