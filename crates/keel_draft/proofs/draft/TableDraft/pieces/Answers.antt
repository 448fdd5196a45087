use Rattle.std.proofs.Common.{arith, ap, length, subst}
use Rattle.keel_draft.specs.TablesInMemory.{HoldsDraft}
use Rattle.keel_draft.proofs.Pieces.{count_pieces}
use Rattle.keel_draft.proofs.draft.TableDraft.pieces.Goals as goal

pub returns : goal.returns
returns c =
    let t = c.self.inside in
    let holds : HoldsDraft t.bytes t.footer t.entries t.least t.greatest c.args.self.now = subst (HoldsDraft t.bytes t.footer t.entries t.least t.greatest) c.self.view_is c.self.invariant in
    omega (arith, ap length c.as_slice.ensures, count_pieces c.args.self.now t.entries holds.entries_are)
