use Rattle.std.proofs.Common.{◌≡◌, List, arith, ap, length, get_or, ◌∙◌}
use Rattle.keel_draft.specs.Drafts.{Draft}
use Rattle.keel_resume.proofs.Stages.{pieces_there, behind_piece, behind_pieces}
use Rattle.keel_resume.proofs.course.Course.behind_piece.Goals as goal

pub overflow_add-piece : goal.overflow_add-piece
overflow_add-piece c =
    let drafts = c.args.self.now.drafts in
    let d = c.index-as_slice-table.result in
    let is : d ≡ get_or drafts c.args.table d = c.index-as_slice-table.is ∙ ap (λ (xs : List Draft). get_or xs c.args.table d) c.as_slice.ensures in
    omega (arith, ap length (pieces_there c.args.table drafts d c.requires.table is), c.pieces-pieces.ensures)

pub returns-then-piece-pieces-clause-stage : goal.returns-then-piece-pieces-clause-stage
returns-then-piece-pieces-clause-stage c =
    let drafts = c.args.self.now.drafts in
    let d = c.index-as_slice-table.result in
    let is : d ≡ get_or drafts c.args.table d = c.index-as_slice-table.is ∙ ap (λ (xs : List Draft). get_or xs c.args.table d) c.as_slice.ensures in
    behind_piece c.args.table c.args.piece drafts d c.requires.table is (omega (arith, c.pieces-pieces.ensures))

pub returns-clause-stage : goal.returns-clause-stage
returns-clause-stage c =
    let drafts = c.args.self.now.drafts in
    let d = c.index-as_slice-table.result in
    let is : d ≡ get_or drafts c.args.table d = c.index-as_slice-table.is ∙ ap (λ (xs : List Draft). get_or xs c.args.table d) c.as_slice.ensures in
    behind_pieces c.args.table c.args.piece drafts d c.requires.table is (omega (arith, c.pieces-pieces.ensures))
