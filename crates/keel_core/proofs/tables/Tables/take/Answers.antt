use Rattle.std.proofs.Common.{◌≡◌, List, IfOk, None, subst, sym, ◌∙◌}
use Rattle.keel_directory.specs.TableFiles.{TableFile}
use Rattle.keel_edit.specs.declared.edit.Added.{Added}
use Rattle.keel_levels.specs.Live.{AreOpened, entries_of, tables_of}
use Rattle.keel_core.proofs.Taking.{new_taken}
use Rattle.keel_core.proofs.tables.Tables.take.Goals as goal

pub returns-in-None-clause-ok : goal.returns-in-None-clause-ok
returns-in-None-clause-ok c =
    let t = c.args.self.now in
    let none : t.live ≡ None = sym c.take.ensures.value ∙ c.in-None.is in
    let tables = subst (λ (l : List Added). IfOk c.new.result (λ levels. tables_of levels ≡ l)) c.as_slice.ensures c.new.ensures.tables in
    let opened = subst (λ (l : List Added). IfOk c.new.result (λ levels. (files : List TableFile) → entries_of files ≡ l → AreOpened levels files)) c.as_slice.ensures c.new.ensures.opened in
    new_taken t.live t.entries c.new.result none tables opened
