use Rattle.std.proofs.Common.{ap, subst, ◌∙◌}
use Rattle.keel_table.specs.declared.index.Footer.{Footer}
use Rattle.keel_draft.specs.TablesInMemory.{HoldsDraft}
use Rattle.keel_draft.proofs.Pieces.{piece_of_entry, piece_of_end}
use Rattle.keel_draft.proofs.draft.TableDraft.piece.Goals as goal

pub returns-in-Some : goal.returns-in-Some
returns-in-Some c =
    let t = c.self.inside in
    let holds : HoldsDraft t.bytes t.footer t.entries t.least t.greatest c.args.self.now = subst (HoldsDraft t.bytes t.footer t.entries t.least t.greatest) c.self.view_is c.self.invariant in
    let found = c.in-Some.ensures.lookup in
    c.block_at.ensures
    ∙ piece_of_entry c.args.self.now c.as_slice-bytes.result.now c.as_slice.result.now c.args.number c.in-Some.entry.now (c.as_slice-bytes.ensures ∙ holds.bytes_are)
    (c.as_slice.ensures ∙ holds.entries_are) found.3.0 found.1

pub returns-in-None : goal.returns-in-None
returns-in-None c =
    let t = c.self.inside in
    let holds : HoldsDraft t.bytes t.footer t.entries t.least t.greatest c.args.self.now = subst (HoldsDraft t.bytes t.footer t.entries t.least t.greatest) c.self.view_is c.self.invariant in
    c.behind.ensures
    ∙ piece_of_end c.args.self.now c.as_slice-bytes.result.now c.as_slice.result.now c.args.number t.footer.index (c.as_slice-bytes.ensures ∙ holds.bytes_are)
    (c.as_slice.ensures ∙ holds.entries_are) (ap (λ (f : Footer). f.index) holds.footer_is) c.in-None.ensures.lookup.3 c.requires
