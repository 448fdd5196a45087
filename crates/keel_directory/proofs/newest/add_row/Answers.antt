use Rattle.std.proofs.Common.{◌∷◌, sym, ◌∙◌, Ok, Err}
use Rattle.std.specs.Prelude.{OnOk}
use Rattle.keel_directory.specs.Answers.{ArePairsOf, Sets}
use Rattle.keel_directory.proofs.Mapping.{not_over, is_newest_row}
use Rattle.keel_directory.proofs.newest.add_row.Goals as goal

pub returns-then-not-is_newest : goal.returns-then-not-is_newest
returns-then-not-is_newest c = not_over c.args.row.now c.args.rest.now c.args.pairs.now.items (sym c.is_newest.ensures ∙ c.if-not-is_newest.true)

pub returns : goal.returns
returns c =
    elim c.set.result as (λ r. OnOk r (Sets c.args.row.now c.args.pairs.now.items c.set.new.pairs.items) → OnOk r (ArePairsOf c.args.rest.now c.args.pairs.now.items → ArePairsOf (c.args.row.now ∷ c.args.rest.now) c.set.new.pairs.items)) [
      | Ok u ↦ is_newest_row c.args.row.now c.args.rest.now c.args.pairs.now.items c.set.new.pairs.items (sym c.is_newest.ensures ∙ c.if-not-is_newest.false)
      | Err e ↦ λ h. tt
    ] c.set.ensures
