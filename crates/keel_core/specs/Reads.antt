-- Tables that are taken out to be read.
use Rattle.std.specs.Prelude.{◌≡◌, List}
use Rattle.keel_directory.specs.TableFiles.{TableFile}
use Rattle.keel_edit.specs.declared.edit.Added.{Added}
use Rattle.keel_levels.specs.declared.live.LiveTable.{LiveTable}
use Rattle.keel_levels.specs.Live.{AreOpened, tables_of}

-- they have the entries, as those before did, and what was open of them
pub record IsTaken (before : List LiveTable) (entries : List Added) (levels : List LiveTable) : Type 0 where
  pub entries_before : tables_of before ≡ entries
  pub entries_now : tables_of levels ≡ entries
  pub opened : (files : List TableFile) → AreOpened before files → AreOpened levels files
