-- Answers of the folder's device.
use Rattle.std.specs.Prelude.{◌≡◌, ◌⊎◌, Option, Some, None, Result, Ok, Err}
use Rattle.std.specs.declared.io.ErrorKind.{ErrorKind}
use Rattle.std.specs.declared.io.ErrorKind.TheVariants.{StorageFull, QuotaExceeded}
use Rattle.keel_base.specs.declared.failure.Fault.{Fault}
use Rattle.keel_base.specs.declared.failure.Fault.TheVariants.{Plain, NoSpace}
use Rattle.keel_disk.specs.declared.error.DiskError.{DiskError}
use Rattle.keel_disk.specs.declared.error.DiskError.TheVariants as error
use Rattle.keel_disk.specs.declared.error.ReadError.{ReadError}
use Rattle.keel_disk.specs.declared.error.ReadError.TheVariants as read
use Rattle.keel_dirdisk.specs.declared.stop.Stop.{Stop}
use Rattle.keel_dirdisk.specs.declared.stop.Stop.TheVariants as stop

-- the host has no room
abbrev pub IsFull : ErrorKind → Type 0
IsFull kind = (kind ≡ StorageFull) ⊎ (kind ≡ QuotaExceeded)

-- why a call stops at an error of the host of this kind
abbrev pub IsStopOf : ErrorKind → Stop → Type 0
IsStopOf kind stop.Host = ¬ IsFull kind
IsStopOf kind stop.Full = IsFull kind
IsStopOf kind stop.OutOfMemory = ⊥

-- want of room is one, and any other failure of the host is plain
abbrev pub error_of : Stop → DiskError
error_of stop.Host = error.Fault Plain
error_of stop.Full = error.Fault NoSpace
error_of stop.OutOfMemory = error.OutOfMemory

-- an answer, by how the work ended
abbrev pub answer_of : {T : Type 0} → Result T Stop → Result T DiskError
answer_of (Ok value) = Ok value
answer_of (Err why) = Err (error_of why)

-- the answer of a reading call: without a value, no file has the name
abbrev pub read_answer_of : {T : Type 0} → Result (Option T) Stop → Result T ReadError
read_answer_of (Ok (Some value)) = Ok value
read_answer_of (Ok None) = Err read.Absent
read_answer_of (Err stop.Host) = Err (read.Fault Plain)
read_answer_of (Err stop.Full) = Err (read.Fault NoSpace)
read_answer_of (Err stop.OutOfMemory) = Err read.OutOfMemory

-- no other fault than these two
abbrev pub IsPlainOrFull : Option Fault → Type 0
IsPlainOrFull None = Unit {0}
IsPlainOrFull (Some Plain) = Unit {0}
IsPlainOrFull (Some NoSpace) = Unit {0}
IsPlainOrFull (Some _) = ⊥
