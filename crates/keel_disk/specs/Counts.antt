-- The counts of calls and of faults behind an answer.
use Rattle.std.specs.Prelude.{◌≡◌, ◌≢◌, ℕ, ◌≤◌, Option, Some, None, Result, Ok, Err, IfSome}
use Rattle.keel_base.specs.Counts.{raised, Rose}
use Rattle.keel_base.specs.declared.failure.Fault.{Fault}
use Rattle.keel_base.specs.declared.failure.Fault.TheVariants.{SpaceLimit}
use Rattle.keel_disk.specs.declared.error.DiskError.{DiskError}
use Rattle.keel_disk.specs.declared.error.DiskError.TheVariants as disk
use Rattle.keel_disk.specs.declared.error.ReadError.{ReadError}
use Rattle.keel_disk.specs.declared.error.ReadError.TheVariants as read

-- the count of changing calls: a call for which there was no memory was none
abbrev pub counted : {T : Type 0} → ℕ → Result T DiskError → ℕ
counted count (Ok value) = raised count
counted count (Err (disk.Fault fault)) = raised count
counted count (Err disk.OutOfMemory) = count

-- the fault of an answer, where it has one
abbrev pub disk_fault : {T : Type 0} → Result T DiskError → Option Fault
disk_fault (Ok value) = None
disk_fault (Err (disk.Fault fault)) = Some fault
disk_fault (Err disk.OutOfMemory) = None

abbrev pub read_fault : {T : Type 0} → Result T ReadError → Option Fault
read_fault (Ok value) = None
read_fault (Err (read.Fault fault)) = Some fault
read_fault (Err read.Absent) = None
read_fault (Err read.OutOfMemory) = None

-- a fault is answered only where the count of faults rose, and is then the last one
pub record FaultCounted (before now : ℕ) (last answered : Option Fault) : Type 0 where
  pub never_falls : before ≤ now
  pub risen : IfSome answered (λ _. Rose before now)
  pub last_is : IfSome answered (λ fault. last ≡ Some fault)
  pub not_space_limit : IfSome answered (λ fault. fault ≢ SpaceLimit)
