-- What the calls on a log ask of the device, and what they leave.
use Rattle.std.specs.Prelude.{◌≡◌, ℕ, ◌+◌, List, length, Option, Some, None, Result, Ok, Err}
use Rattle.keel_base.specs.declared.failure.Call.TheVariants as call
use Rattle.keel_base.specs.declared.file_name.FileName.{FileName}
use Rattle.keel_base.specs.declared.file_name.FileName.TheVariants as name
use Rattle.keel_disk.specs.declared.change.Change.{Change}
use Rattle.keel_disk.specs.declared.change.Change.TheVariants as change
use Rattle.keel_disk.specs.declared.error.DiskError.{DiskError}
use Rattle.keel_disk.specs.declared.error.DiskError.TheVariants as error
use Rattle.keel_wal.specs.declared.log.Log.{Log}
use Rattle.keel_wal.specs.declared.log.LogProgress.{LogProgress}
use Rattle.keel_wal.specs.declared.log.LogProgress.TheVariants.{Going, Synced, NextMade, Failed}
use Rattle.keel_wal.specs.declared.log.Rotated.{Rotated}
use Rattle.keel_wal.specs.declared.log.Rotated.TheVariants.{Moved, Done}

-- the log in an empty file
abbrev pub empty : ℕ → Log
empty number = record { number = number; length = 0; progress = Going }

abbrev pub name_of : Log → FileName
name_of log = name.Log log.number

-- it takes groups: no call on it failed, and no rotation is under way
abbrev pub IsGoing : LogProgress → Type 0
IsGoing Going = Unit {0}
IsGoing _ = ⊥

-- no call failed
abbrev pub HasNotFailed : LogProgress → Type 0
HasNotFailed Failed = ⊥
HasNotFailed _ = Unit {0}

-- ---- groups

-- so many bytes more were handed to it
abbrev pub appended : List ℕ → Log → Log
appended records log = record log { length = log.length + length records }

-- nothing more is written to it
abbrev pub failed : Log → Log
failed log = record log { progress = Failed }

-- the bytes were handed to it, too
abbrev pub append_failed : List ℕ → Log → Log
append_failed records log = failed (appended records log)

-- by the answer of a call: what is behind an Ok, behind a fault, or the same where memory was wanting
abbrev pub by_answer : Result (Unit {0}) DiskError → Log → Log → Log → Log
by_answer (Ok done) next failed same = next
by_answer (Err (error.Fault fault)) next failed same = failed
by_answer (Err error.OutOfMemory) next failed same = same

-- ---- rotations

-- A rotation to that log may make a call: none failed, and the name that becomes firm is that of the log that it made.
abbrev pub MayRotate : ℕ → LogProgress → Type 0
MayRotate next Failed = ⊥
MayRotate next (NextMade made) = made ≡ next
MayRotate next _ = Unit {0}

abbrev pub change_at : LogProgress → ℕ → ℕ → Option Change
change_at Going number next = Some (change.Sync (name.Log number))
change_at Synced number next = Some (change.Create (name.Log next))
change_at (NextMade made) number next = Some change.SyncDir
change_at Failed number next = None

-- what its next call asks of the device; none behind one that failed
abbrev pub rotation_change : ℕ → Log → Option Change
rotation_change next log = change_at log.progress log.number next

-- how the device answered the call of a step
abbrev pub outcome : Result Rotated DiskError → Result (Unit {0}) DiskError
outcome (Ok rotated) = Ok tt
outcome (Err error) = Err error

-- behind a call that was answered Ok
abbrev pub Advances : LogProgress → ℕ → Log → Rotated → Log → Type 0
Advances Going next old rotated new = (rotated ≡ Moved call.Sync) × (new ≡ record old { progress = Synced })
Advances Synced next old rotated new = (rotated ≡ Moved call.Create) × (new ≡ record old { progress = NextMade next })
Advances (NextMade made) next old rotated new = (rotated ≡ Done) × (new ≡ empty next)
Advances Failed next old rotated new = ⊥

-- the answer of a step, and what it leaves
abbrev pub RotatesTo : ℕ → Log → Result Rotated DiskError → Log → Type 0
RotatesTo next old (Ok rotated) new = Advances old.progress next old rotated new
RotatesTo next old (Err (error.Fault fault)) new = new ≡ failed old
RotatesTo next old (Err error.OutOfMemory) new = new ≡ old
