use Rattle.std.proofs.Common.{◌≡◌, List, [], ◌∷◌, ◌++◌, unwrap_or, IfOk, ap, sym, subst, ◌∙◌}
use Rattle.keel_draft.specs.Drafts.{added_of, with_new}
use Rattle.keel_edit.specs.declared.edit.Added.{Added}
use Rattle.keel_flush.specs.Plans.{number_of}
use Rattle.keel_core.proofs.Unopened.{entries_shown}
use Rattle.keel_core.proofs.store.Core.tables_with.Goals as goal

pub returns : goal.returns
returns g c =
    let w = c.self.inside in
    let job = c.args.job.now.job in
    let number : number_of job ≡ c.in-Some.number = ap (λ o. unwrap_or o 0) (sym c.table.ensures ∙ c.in-Some.is) in
    let added = c.in_ok-added.ensures ∙ ap (λ n. added_of n job.draft) (sym number) in
    let new = c.as_slice-2.ensures ∙ c.in_ok-push.ensures.ok ∙ (λ i. c.new-new.ensures i ++ added i ∷ []) in
    let live = c.as_slice.ensures ∙ sym (entries_shown w.tables.live w.tables.entries w.tables.same) in
    rw (← c.self.view_is) (subst (λ (l : List Added). IfOk c.with_new.result (λ tables. tables ≡ l)) (λ i. with_new (λ (table : Added). table.level) (live i) (new i)) c.with_new.ensures)
