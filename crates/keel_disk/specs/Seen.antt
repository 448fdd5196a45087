-- What a device shows, and what each of its calls does to that.
use Rattle.std.specs.Prelude.{◌≡◌, ℕ, ◌≤◌, Bool, true, List, ◌∷◌, length, Option, Result, Ok}
use Rattle.keel_base.specs.declared.failure.Fault.{Fault}
use Rattle.keel_disk.specs.declared.change.Change.{Change}
use Rattle.keel_disk.specs.declared.error.DiskError.{DiskError}
use Rattle.keel_disk.specs.declared.rule.Arranged.{Arranged}
use Rattle.keel_disk.specs.Counts.{FaultCounted, counted, disk_fault}
use Rattle.keel_disk.specs.Told.{Told, Changes}

pub record Seen : Type 0 where
  -- the state, where the device tells it
  pub told : Option Told
  -- how many changing calls were handed in, up to 2^64 - 1
  pub changes : ℕ
  -- how often the device has failed, up to 2^64 - 1, and how it failed last
  pub faults : ℕ
  pub last_fault : Option Fault
  -- whether failures and crashes can be arranged on it
  pub simulated : Bool
  -- what a driver arranged on it, the last first
  pub arranged : List Arranged

-- a changing call, answered so
pub record Calls (before : Seen) (change : Change) (answer : Result (Unit {0}) DiskError) (after : Seen) : Type 0 where
  pub step : Changes change before.told answer after.told
  -- one for which there was no memory isn't counted
  pub count : after.changes ≡ counted before.changes answer
  pub cause : FaultCounted before.faults after.faults after.last_fault (disk_fault answer)
  pub simulated : after.simulated ≡ before.simulated
  pub arranged : after.arranged ≡ before.arranged

-- no changing call was made, and a read failed with that fault, if any
pub record IsQuiet (before : Seen) (failed : Option Fault) (after : Seen) : Type 0 where
  pub same : after.told ≡ before.told
  pub count : after.changes ≡ before.changes
  pub cause : FaultCounted before.faults after.faults after.last_fault failed
  pub simulated : after.simulated ≡ before.simulated
  pub arranged : after.arranged ≡ before.arranged

-- what was handed in is noted where it is done, and nothing else is
abbrev pub Notes : {E : Type 0} → Arranged → List Arranged → Result Bool E → List Arranged → Type 0
Notes entry before (Ok true) after = after ≡ entry ∷ before
Notes entry before _ after = after ≡ before

-- a driver arranged something: that is noted, and no count changes
pub record IsArranged {E : Type 0} (entry : Arranged) (before : Seen) (answer : Result Bool E) (after : Seen) : Type 0 where
  pub count : after.changes ≡ before.changes
  pub faults : after.faults ≡ before.faults
  pub last_fault : after.last_fault ≡ before.last_fault
  pub simulated : after.simulated ≡ before.simulated
  pub arranged : Notes entry before.arranged answer after.arranged

-- a read gives at most so many bytes
abbrev pub AreAtMost : ℕ → List ℕ → Type 0
AreAtMost size bytes = length bytes ≤ size
