use Rattle.std.proofs.Common.{ℕ, ◌∷◌, ◌++◌, [], ap, ◌∙◌}
use Rattle.keel_name.proofs.Currents.{another_name}
use Rattle.keel_name.proofs.current.read_current.Goals as goal

pub returns-in_default : goal.returns-in_default
returns-in_default c =
    let name = c.in_ok-newline.name.now in
    let parts = c.in_ok-newline.ensures.cases.0 ∙ ap (λ (b : ℕ). name ++ b ∷ []) c.if-newline-ne10.false in
    record { found = tt; none = another_name c.args.bytes.now name c.in_ok-number.field-0 parts c.in_ok-number.ensures.found.0 c.in_ok-number.ensures.found.1 c.in_default.not-Manifest }
