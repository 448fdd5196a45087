use Rattle.std.proofs.Common.{◌≡◌, ◌+◌, false, ◌∷◌, [], get_or, subst, sym}
use Rattle.keel_draft.specs.Drafts.{pieces_in}
use Rattle.keel_flush.specs.Plans.{AddPiece, MakeTable, is_last}
use Rattle.keel_flush.specs.Courses.{act_at, later_at}
use Rattle.keel_flush.specs.declared.stage.Stage.{Stage}
use Rattle.keel_flush.proofs.Stages.{piece_left}
use Rattle.keel_flush.proofs.stage.Stage.ends.Goals as goal

pub returns-in-MakeTable : goal.returns-in-MakeTable
returns-in-MakeTable c = λ draft. subst (λ (s : Stage). false ≡ is_last (act_at s draft ∷ later_at s draft)) (sym c.in-MakeTable.is) (piece_left MakeTable 0 draft)

pub returns-in-AddPiece : goal.returns-in-AddPiece
returns-in-AddPiece c = λ draft.
    let piece = c.in-AddPiece.piece in
    subst (λ (s : Stage). false ≡ is_last (act_at s draft ∷ later_at s draft)) (sym c.in-AddPiece.is) (piece_left (AddPiece (get_or (pieces_in draft) piece [])) (piece + 1) draft)
