-- Tables that are taken out to be read are those before.
use Rattle.std.proofs.Common.{◌≡◌, List, [], ◌∷◌, Option, None, Result, Ok, Err, IfOk, refl, sym, subst, ◌∙◌}
use Rattle.keel_directory.specs.TableFiles.{TableFile}
use Rattle.keel_edit.specs.declared.edit.Added.{Added}
use Rattle.keel_levels.specs.declared.live.LiveTable.{LiveTable}
use Rattle.keel_levels.specs.Live.{AreOpened, entries_of, tables_of}
use Rattle.keel_core.specs.Reads.{IsTaken}
use Rattle.keel_core.specs.Tables.{lives_of, unopened}
use Rattle.keel_core.proofs.Unopened.{tables_unopened}

opened_entries : (lives : List LiveTable) (files : List TableFile) → AreOpened lives files → entries_of files ≡ tables_of lives
opened_entries [] [] are = refl
opened_entries [] (file ∷ files) are = absurd are
opened_entries (live ∷ lives) [] are = absurd are
opened_entries (live ∷ lives) (file ∷ files) are = λ i. sym are.0.entry i ∷ opened_entries lives files are.1 i

unopened_taken : {E : Type 0} (entries : List Added) (result : Result (List LiveTable) E) → IfOk result (λ levels. tables_of levels ≡ entries)
    → IfOk result (λ levels. (files : List TableFile) → entries_of files ≡ entries → AreOpened levels files) → IfOk result (IsTaken (unopened entries) entries)
unopened_taken entries (Ok levels) tables opened = record {
  entries_before = tables_unopened entries;
  entries_now = tables;
  opened = λ files are. opened files (opened_entries (unopened entries) files are ∙ tables_unopened entries);
}
unopened_taken entries (Err error) tables opened = tt

-- tables of which none is open, opened anew
pub new_taken : {E : Type 0} (live : Option (List LiveTable)) (entries : List Added) (result : Result (List LiveTable) E) → live ≡ None → IfOk result (λ levels. tables_of levels ≡ entries)
    → IfOk result (λ levels. (files : List TableFile) → entries_of files ≡ entries → AreOpened levels files) → IfOk result (IsTaken (lives_of live entries) entries)
new_taken live entries result none tables opened =
    subst (λ (l : Option (List LiveTable)). IfOk result (IsTaken (lives_of l entries) entries)) (sym none) (unopened_taken entries result tables opened)
