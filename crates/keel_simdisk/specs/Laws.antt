-- The clauses of the calls leave no choice.
use Rattle.std.specs.Prelude.{◌≡◌, ◌≢◌, Option, Result, Err}
use Rattle.keel_base.specs.declared.failure.Fault.{Fault}
use Rattle.keel_disk.specs.declared.change.Change.{Change}
use Rattle.keel_disk.specs.declared.error.DiskError.{DiskError}
use Rattle.keel_disk.specs.declared.error.DiskError.TheVariants.{OutOfMemory}
use Rattle.keel_simdisk.specs.declared.sim_disk.SimDisk.{SimDisk}
use Rattle.keel_simdisk.specs.Calls.{MakesCall, ReadsByRules}

-- a changing call for which there was memory has one answer, and leaves one device
abbrev pub OneAnswer : Type 0
OneAnswer =
    (change : Change) (disk : SimDisk) (one other : Result (Unit {0}) DiskError) (after behind : SimDisk)
    → MakesCall change disk one after → MakesCall change disk other behind → one ≢ Err OutOfMemory → other ≢ Err OutOfMemory
    → (one ≡ other) × (after ≡ behind)

-- and a reading call fails in one way or in none
abbrev pub OneRead : Type 0
OneRead =
    (disk : SimDisk) (one other : Option Fault) (after behind : SimDisk)
    → ReadsByRules disk one after → ReadsByRules disk other behind → (one ≡ other) × (after ≡ behind)
