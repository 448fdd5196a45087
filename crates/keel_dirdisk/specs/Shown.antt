-- What a folder's device shows of itself.
use Rattle.std.specs.Prelude.{ℕ, false, [], Option, None}
use Rattle.keel_base.specs.declared.failure.Fault.{Fault}
use Rattle.keel_disk.specs.Seen.{Seen}
use Rattle.keel_dirdisk.specs.declared.budget.Budget.{Budget}
use Rattle.keel_dirdisk.specs.declared.dir_disk.DirDisk.{DirDisk}

-- the bytes that the store's files may have, and those that were counted
abbrev pub budget_of : {R D : Type 0} → DirDisk R D → Budget
budget_of disk = disk.budget

-- how many changing calls were handed in, how often it has failed, and how it failed last
abbrev pub changes_of : {R D : Type 0} → DirDisk R D → ℕ
changes_of disk = disk.tally.changes

abbrev pub faults_of : {R D : Type 0} → DirDisk R D → ℕ
faults_of disk = disk.tally.faults

abbrev pub last_fault_of : {R D : Type 0} → DirDisk R D → Option Fault
last_fault_of disk = disk.tally.last_fault

-- it tells no state, and nothing is arranged on it
abbrev pub seen_of : {R D : Type 0} → DirDisk R D → Seen
seen_of disk = record {
  told = None;
  changes = changes_of disk;
  faults = faults_of disk;
  last_fault = last_fault_of disk;
  simulated = false;
  arranged = [];
}
