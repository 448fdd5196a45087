use Rattle.std.proofs.Common.{◌≡◌, IfOk, sym, subst, ◌∙◌}
use Rattle.keel_core.proofs.Unopened.{entries_shown}
use Rattle.keel_core.proofs.tables.Tables.copied.Goals as goal

pub returns : goal.returns
returns c =
    let t = c.args.self.now in
    subst (λ l. IfOk c.copied.result (λ copies. copies ≡ l)) (c.as_slice.ensures ∙ sym (entries_shown t.live t.entries t.same)) c.copied.ensures
