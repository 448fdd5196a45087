-- The refusals of an opening, and what of the directory they name.
use Rattle.std.specs.Prelude.{Option, Some, None, Result, Ok, Err}
use Rattle.keel_base.specs.declared.failure.Fault.{Fault}
use Rattle.keel_disk.specs.declared.error.DiskError.{DiskError}
use Rattle.keel_disk.specs.declared.error.DiskError.TheVariants as disk
use Rattle.keel_table.specs.declared.fault.TableFault.{TableFault}
use Rattle.keel_table.specs.declared.fault.TableFault.TheVariants as fault
use Rattle.keel_table.specs.Opening.{Damage, bad_check, bad_shape}
use Rattle.keel_directory.specs.Refusals.{Refusal, no_current, bad_current, damaged_manifest, missing_table, bad_table, bad_log, log_gap}
use Rattle.keel_open.specs.declared.refusal.OpenRefusal.{OpenRefusal}
use Rattle.keel_open.specs.declared.refusal.OpenRefusal.TheVariants as refusal

-- a device's fault is handed on
abbrev pub refusal_for : DiskError → OpenRefusal
refusal_for (disk.Fault fault) = refusal.Device fault
refusal_for disk.OutOfMemory = refusal.OutOfMemory

-- the device's fault of an answer, where it has one
abbrev pub fault_in : {T : Type 0} → Result T OpenRefusal → Option Fault
fault_in (Ok value) = None
fault_in (Err (refusal.Device fault)) = Some fault
fault_in (Err (refusal.NoCurrent file)) = None
fault_in (Err (refusal.BadCurrent bytes)) = None
fault_in (Err (refusal.DamagedManifest at)) = None
fault_in (Err (refusal.MissingTable number)) = None
fault_in (Err (refusal.BadTable number fault)) = None
fault_in (Err (refusal.BadLog log at)) = None
fault_in (Err (refusal.LogGap log expected found)) = None
fault_in (Err refusal.OutOfMemory) = None

-- of the damage that a table's fault is this holds; another fault is none
abbrev pub Damages : TableFault → (Damage → Type 0) → Type 0
Damages (fault.Device f) Holds = ⊥
Damages fault.Absent Holds = ⊥
Damages (fault.BadCheck stored computed) Holds = Holds (bad_check stored computed)
Damages (fault.BadShape at) Holds = Holds (bad_shape at)
Damages fault.OutOfMemory Holds = ⊥

-- of what a refusal says of the directory this holds; a device's fault and want of memory say nothing of it
abbrev pub Names : OpenRefusal → (Refusal → Type 0) → Type 0
Names (refusal.Device fault) Holds = Unit {0}
Names (refusal.NoCurrent file) Holds = Holds (no_current file)
Names (refusal.BadCurrent bytes) Holds = Holds (bad_current bytes)
Names (refusal.DamagedManifest at) Holds = Holds (damaged_manifest at)
Names (refusal.MissingTable number) Holds = Holds (missing_table number)
Names (refusal.BadTable number fault) Holds = Damages fault (λ damage. Holds (bad_table number damage))
Names (refusal.BadLog log at) Holds = Holds (bad_log log at)
Names (refusal.LogGap log expected found) Holds = Holds (log_gap log expected found)
Names refusal.OutOfMemory Holds = Unit {0}

-- of an answer, whose value is seen by view, this holds, unless the device failed or memory ran out
abbrev pub Answers : {A B : Type 0} → (A → B) → (Result B Refusal → Type 0) → Result A OpenRefusal → Type 0
Answers view Holds (Ok x) = Holds (Ok (view x))
Answers view Holds (Err e) = Names e (λ refusal. Holds (Err refusal))
