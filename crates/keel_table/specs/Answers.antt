-- What reading a table answers, over any device.
use Rattle.std.specs.Prelude.{◌≡◌, ◌≢◌, ℕ, List, Option, Some, None, Result, Ok, Err}
use Rattle.keel_base.specs.declared.failure.Fault.{Fault}
use Rattle.keel_base.specs.declared.file_name.FileName.{FileName}
use Rattle.keel_base.specs.declared.file_name.FileName.TheVariants.{Table as TableName}
use Rattle.keel_disk.specs.State.{file_of}
use Rattle.keel_disk.specs.Told.{Told, bytes_of}
use Rattle.keel_table.specs.declared.fault.TableFault.{TableFault}
use Rattle.keel_table.specs.declared.fault.TableFault.TheVariants as fault
use Rattle.keel_base.specs.declared.row.Row.{Row}
use Rattle.keel_table.specs.Opening.{Damage, bad_check, bad_shape, Covering, block_found, row_found}

-- the fault of an answer, where it has one
abbrev pub fault_in : {T : Type 0} → Result T TableFault → Option Fault
fault_in (Ok value) = None
fault_in (Err (fault.Device f)) = Some f
fault_in (Err fault.Absent) = None
fault_in (Err (fault.BadCheck stored computed)) = None
fault_in (Err (fault.BadShape at)) = None
fault_in (Err fault.OutOfMemory) = None

-- the two numbers of a bad check differ
abbrev pub ChecksDiffer : {T : Type 0} → Result T TableFault → Type 0
ChecksDiffer (Ok value) = Unit {0}
ChecksDiffer (Err (fault.Device f)) = Unit {0}
ChecksDiffer (Err fault.Absent) = Unit {0}
ChecksDiffer (Err (fault.BadCheck stored computed)) = stored ≢ computed
ChecksDiffer (Err (fault.BadShape at)) = Unit {0}
ChecksDiffer (Err fault.OutOfMemory) = Unit {0}

-- an answer, whose value is seen by view, is what the bytes give, unless memory ran out
abbrev pub Finds : {A B : Type 0} → (A → B) → Result A TableFault → Result B Damage → Type 0
Finds view (Ok value) found = found ≡ Ok (view value)
Finds view (Err (fault.Device f)) found = ⊥
Finds view (Err fault.Absent) found = ⊥
Finds view (Err (fault.BadCheck stored computed)) found = found ≡ Err (bad_check stored computed)
Finds view (Err (fault.BadShape at)) found = found ≡ Err (bad_shape at)
Finds view (Err fault.OutOfMemory) found = Unit {0}

-- the file is there, and its bytes give this
abbrev pub Gives : {B : Type 0} → (List ℕ → Result B Damage) → FileName → Told → Result B Damage → Type 0
Gives answer name told found = (bytes : List ℕ) × (bytes_of name told ≡ Some bytes) × (answer bytes ≡ found)

-- the cause of an answer in a file of a device that tells its state; that of a device's fault is its count
abbrev pub Causes : {A B : Type 0} → (A → B) → (List ℕ → Result B Damage) → FileName → Told → Result A TableFault → Type 0
Causes view answer name told (Ok value) = Gives answer name told (Ok (view value))
Causes view answer name told (Err (fault.Device f)) = Unit {0}
Causes view answer name told (Err fault.Absent) = file_of name told.state ≡ None
Causes view answer name told (Err (fault.BadCheck stored computed)) = Gives answer name told (Err (bad_check stored computed))
Causes view answer name told (Err (fault.BadShape at)) = Gives answer name told (Err (bad_shape at))
Causes view answer name told (Err fault.OutOfMemory) = Unit {0}

-- the same of a table's file, where the device tells its state
abbrev pub Answers : {A B : Type 0} → (A → B) → (List ℕ → Result B Damage) → ℕ → Option Told → Result A TableFault → Type 0
Answers view answer number None result = Unit {0}
Answers view answer number (Some told) result = Causes view answer (TableName number) told result

-- a get reads the block of the entry that covers its key, and nothing where none does
abbrev pub GetAnswers : Option Covering → List ℕ → ℕ → Option Told → Result (Option Row) TableFault → Type 0
GetAnswers None key number told result = result ≡ Ok None
GetAnswers (Some c) key number told result = Answers (λ row. row) (row_found c key) number told result

-- a block's answer is that of its entry
abbrev pub BlockAnswers : Option Covering → ℕ → Option Told → Result (List Row) TableFault → Type 0
BlockAnswers None number told result = ⊥
BlockAnswers (Some c) number told result = Answers (λ rows. rows) (block_found c.0 c.1) number told result
