-- Tables of which none is open.
use Rattle.std.proofs.Common.{◌≡◌, List, [], ◌∷◌, Option, Some, None, refl, sym, ap}
use Rattle.keel_directory.specs.TableFiles.{TableFile}
use Rattle.keel_edit.specs.declared.edit.Added.{Added}
use Rattle.keel_levels.specs.declared.live.LiveTable.{LiveTable}
use Rattle.keel_levels.specs.Live.{AreOpened, entries_of, tables_of}
use Rattle.keel_core.specs.Tables.{IsOf, lives_of, unopened}

pub tables_unopened : (entries : List Added) → tables_of (unopened entries) ≡ entries
tables_unopened [] = refl
tables_unopened (entry ∷ entries) = ap (λ (l : List Added). entry ∷ l) (tables_unopened entries)

pub none_opened : (entries : List Added) (files : List TableFile) → entries_of files ≡ entries → AreOpened (unopened entries) files
none_opened [] [] is = tt
none_opened [] (file ∷ files) is = absurd (cc is)
none_opened (entry ∷ entries) [] is = absurd (cc is)
none_opened (entry ∷ entries) (file ∷ files) is =
    let first : file.entry ≡ entry = cc is in
    let rest : entries_of files ≡ entries = cc is in
    (record { entry = sym first; open_as = tt }, none_opened entries files rest)

pub entries_shown : (live : Option (List LiveTable)) (entries : List Added) → IsOf live entries → tables_of (lives_of live entries) ≡ entries
entries_shown None entries same = tables_unopened entries
entries_shown (Some levels) entries same = same levels refl
