-- The tables of a store, of which some are open, and what their reads answer.
use Rattle.std.specs.Prelude.{◌≡◌, ℕ, List, [], ◌∷◌, map, Option, Some, None, Result, Ok, Err}
use Rattle.std.specs.List.{AllByRecursion, flat_map}
use Rattle.keel_base.specs.declared.failure.Fault.{Fault}
use Rattle.keel_base.specs.declared.row.Row.{Row}
use Rattle.keel_disk.specs.Plain.{image_read}
use Rattle.keel_disk.specs.Told.{Told}
use Rattle.keel_edit.specs.declared.edit.Added.{Added}
use Rattle.keel_table.specs.declared.fault.TableFault.{TableFault}
use Rattle.keel_table.specs.declared.fault.TableFault.TheVariants as fault
use Rattle.keel_table.specs.declared.table.Table.{Table}
use Rattle.keel_table.specs.Answers.{fault_in as fault_of}
use Rattle.keel_table.specs.Tables.{shown, number_of}
use Rattle.keel_directory.specs.Sound.{IsAsSaid}
use Rattle.keel_directory.specs.TableFiles.{TableFile, Opens, table_rows}
use Rattle.keel_levels.specs.declared.fault.LevelFault.{LevelFault}
use Rattle.keel_levels.specs.declared.fault.ScanFault.{ScanFault}
use Rattle.keel_levels.specs.declared.fault.ScanFault.TheVariants as scan
use Rattle.keel_levels.specs.declared.live.LiveTable.{LiveTable}

-- ---- what is open

-- the open table has the number, the footer and the entries of the file
pub record IsTableAs (file : TableFile) (table : Table) : Type 0 where
  pub number : number_of table ≡ file.entry.number
  pub shows : shown table ≡ file.file

abbrev pub IsOpenAs : TableFile → Option Table → Type 0
IsOpenAs file None = Unit {0}
IsOpenAs file (Some table) = IsTableAs file table

-- the table of the file, which is what is open where it is open
pub record IsLiveAs (file : TableFile) (live : LiveTable) : Type 0 where
  pub entry : live.entry ≡ file.entry
  pub open_as : IsOpenAs file live.table

-- the tables are those of the files
abbrev pub AreOpened : List LiveTable → List TableFile → Type 0
AreOpened [] [] = Unit {0}
AreOpened [] (file ∷ files) = ⊥
AreOpened (live ∷ lives) [] = ⊥
AreOpened (live ∷ lives) (file ∷ files) = IsLiveAs file live × AreOpened lives files

-- the entries of tables
abbrev pub tables_of : List LiveTable → List Added
tables_of lives = map (λ (live : LiveTable). live.entry) lives

abbrev pub entries_of : List TableFile → List Added
entries_of files = map (λ (file : TableFile). file.entry) files

-- the rows of all files
abbrev pub rows_of : List TableFile → List Row
rows_of files = flat_map table_rows files

-- ---- what the device has

-- The device has the table's file, which opens, and whose rows are as its entry says.
pub record IsReadable (told : Told) (last_seq : ℕ) (file : TableFile) : Type 0 where
  pub opens : Opens (image_read told.state) file.entry file
  pub said : IsAsSaid last_seq file

-- The device has all files, each as its entry says, with numbers up to one.
pub record AreReadable (told : Told) (files : List TableFile) : Type 0 where
  pub last_seq : ℕ
  pub each : AllByRecursion (IsReadable told last_seq) files

-- ---- answers

-- an Ok says this, and the only other causes are the device's own faults and want of memory
abbrev pub Yields : {T : Type 0} → (T → Type 0) → Result T TableFault → Type 0
Yields says (Ok value) = says value
Yields says (Err (fault.Device f)) = Unit {0}
Yields says (Err fault.Absent) = ⊥
Yields says (Err (fault.BadCheck stored computed)) = ⊥
Yields says (Err (fault.BadShape at)) = ⊥
Yields says (Err fault.OutOfMemory) = Unit {0}

-- Of a readable file a read says this, and what is open stays what the file has.
abbrev pub Reads : {T : Type 0} → Option Told → LiveTable → LiveTable → (TableFile → T → Type 0) → Result T TableFault → Type 0
Reads seen old new says result =
    (told : Told) (last_seq : ℕ) (file : TableFile) → seen ≡ Some told → IsReadable told last_seq file → IsLiveAs file old → IsLiveAs file new × Yields (says file) result

-- the fault that a table's fault is
abbrev pub table_fault : {T : Type 0} → Result T LevelFault → Result T TableFault
table_fault (Ok value) = Ok value
table_fault (Err e) = Err e.fault

-- the device's fault of an answer, where it has one
abbrev pub fault_in : {T : Type 0} → Result T LevelFault → Option Fault
fault_in result = fault_of (table_fault result)

-- Of readable files a read says this, and what is open stays what the files have.
abbrev pub ReadsAll : {T : Type 0} → Option Told → List LiveTable → List LiveTable → (List TableFile → T → Type 0) → Result T LevelFault → Type 0
ReadsAll seen old new says result =
    (told : Told) (files : List TableFile) → seen ≡ Some told → AreReadable told files → AreOpened old files → AreOpened new files × Yields (says files) (table_fault result)

-- the fault of a table, or want of memory
abbrev pub scan_fault : {T : Type 0} → Result T ScanFault → Result T TableFault
scan_fault (Ok value) = Ok value
scan_fault (Err (scan.Table e)) = Err e.fault
scan_fault (Err scan.OutOfMemory) = Err fault.OutOfMemory

-- the same of an answer to a scan
abbrev pub ScansAll : {T : Type 0} → Option Told → List LiveTable → List LiveTable → (List TableFile → T → Type 0) → Result T ScanFault → Type 0
ScansAll seen old new says result =
    (told : Told) (files : List TableFile) → seen ≡ Some told → AreReadable told files → AreOpened old files → AreOpened new files × Yields (says files) (scan_fault result)
