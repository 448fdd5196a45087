-- How a simulated device answers each call, and what it is then.
use Rattle.std.specs.Prelude.{◌≡◌, ◌⊎◌, ℕ, ◌+◌, ◌-◌, Bool, true, false, nat_lt, List, [], ◌∷◌, ◌++◌, length, Option, Some, None, Result, Ok, Err, MatchOption, if◌then◌else◌, unwrap_or, option_map}
use Rattle.keel_base.specs.Counts.{raised}
use Rattle.keel_base.specs.declared.failure.Call.{Call}
use Rattle.keel_base.specs.declared.failure.Call.TheVariants as call
use Rattle.keel_base.specs.declared.failure.Fault.{Fault}
use Rattle.keel_base.specs.declared.failure.Fault.TheVariants.{Plain, NoSpace}
use Rattle.keel_base.specs.declared.memory.OutOfMemory.{OutOfMemory}
use Rattle.keel_disk.specs.declared.change.Change.{Change}
use Rattle.keel_disk.specs.declared.change.Change.TheVariants.{Create, Append, Sync, Rename, Remove, Cut, SyncDir}
use Rattle.keel_disk.specs.declared.error.DiskError.{DiskError}
use Rattle.keel_disk.specs.declared.error.DiskError.TheVariants as disk_error
use Rattle.keel_disk.specs.declared.error.ReadError.{ReadError}
use Rattle.keel_disk.specs.declared.error.ReadError.TheVariants as read_error
use Rattle.keel_disk.specs.declared.rule.Arranged.TheVariants.{Armed as ArmedBy, Crashed}
use Rattle.keel_disk.specs.declared.rule.Pick.{Pick}
use Rattle.keel_disk.specs.declared.rule.Rule.{Rule}
use Rattle.keel_disk.specs.declared.rule.Rule.TheVariants.{Fail, Capacity}
use Rattle.keel_disk.specs.Image.{restarted}
use Rattle.keel_disk.specs.Seen.{Seen}
use Rattle.keel_disk.specs.Step.{done, failed}
use Rattle.keel_disk.specs.Told.{Told, CountsForged}
use Rattle.keel_simdisk.specs.declared.rules.Armed.{Armed}
use Rattle.keel_simdisk.specs.declared.rules.Planned.{Planned}
use Rattle.keel_simdisk.specs.declared.sim_disk.SimDisk.{SimDisk}
use Rattle.keel_simdisk.specs.Contents.{used}
use Rattle.keel_simdisk.specs.Crash.{image_left, IsPlainLeft}
use Rattle.keel_simdisk.specs.Rules.{Meets}

-- what the device tells of itself
abbrev pub told_of : SimDisk → Told
told_of disk = record { state = disk.state; room = disk.capacity - used disk.state; last = disk.last; forged = disk.forged }

-- what it shows
abbrev pub seen_of : SimDisk → Seen
seen_of disk = record {
  told = Some (told_of disk);
  changes = disk.changes;
  faults = disk.faults;
  last_fault = disk.last_fault;
  simulated = true;
  arranged = disk.arranged;
}

-- a device as it is made: an empty directory, and nothing armed
abbrev pub empty_disk : ℕ → SimDisk
empty_disk capacity = record {
  state = record { files = []; firm = []; waiting = [] };
  capacity = capacity;
  rules = [];
  last = None;
  changes = 0;
  faults = 0;
  last_fault = None;
  forged = 0;
  arranged = [];
}

-- ---- calls that change the device

-- the kind of a call, by which it meets rules
abbrev pub kind_of : Change → Call
kind_of (Create name) = call.Create
kind_of (Append name bytes) = call.Append
kind_of (Sync name) = call.Sync
kind_of (Rename from to) = call.Rename
kind_of (Remove name) = call.Remove
kind_of (Cut name length) = call.Cut
kind_of SyncDir = call.SyncDir

-- with the bytes of an append all named files together would have more than the capacity
abbrev pub is_overfull : Change → SimDisk → Bool
is_overfull (Append name bytes) disk = nat_lt disk.capacity (used disk.state + length bytes)
is_overfull (Create name) disk = false
is_overfull (Sync name) disk = false
is_overfull (Rename from to) disk = false
is_overfull (Remove name) disk = false
is_overfull (Cut name length) disk = false
is_overfull SyncDir disk = false

-- a call fails as a rule says, and where none does, for want of room, keeping no byte
abbrev pub failure_of : Option Planned → Change → SimDisk → Option Planned
failure_of (Some planned) change disk = Some planned
failure_of None change disk = if is_overfull change disk then Some (record { fault = NoSpace; keep = 0 }) else None

-- the device behind a call that was done
abbrev pub passed : Change → List Armed → SimDisk → SimDisk
passed change rules disk = record disk {
  state = unwrap_or (done change disk.state) disk.state;
  rules = rules;
  last = Some change;
  changes = raised disk.changes;
}

-- behind a call that failed
abbrev pub stopped : Change → Planned → List Armed → SimDisk → SimDisk
stopped change planned rules disk = record disk {
  state = failed change planned.keep disk.state;
  rules = rules;
  last = Some change;
  changes = raised disk.changes;
  faults = raised disk.faults;
  last_fault = Some planned.fault;
}

-- behind a call that it didn't take
abbrev pub refused : Change → SimDisk → SimDisk
refused change disk = record disk {
  last = Some change;
  changes = raised disk.changes;
  faults = raised disk.faults;
  last_fault = Some Plain;
}

-- the answer to a call that goes on or fails, and the device behind it
abbrev pub Comes : Option Planned → Change → List Armed → SimDisk → Result (Unit {0}) DiskError → SimDisk → Type 0
Comes None change rules disk answer after = (answer ≡ Ok tt) × (after ≡ passed change rules disk)
Comes (Some planned) change rules disk answer after = (answer ≡ Err (disk_error.Fault planned.fault)) × (after ≡ stopped change planned rules disk)

-- a call that the device takes meets the rules, and behind them the capacity
pub record MeetsRules (change : Change) (disk : SimDisk) (answer : Result (Unit {0}) DiskError) (after : SimDisk) : Type 0 where
  pub planned : Option Planned
  pub rules : List Armed
  pub met : Meets (kind_of change) disk.rules planned rules
  pub comes : Comes (failure_of planned change disk) change rules disk answer after

-- A changing call. For want of memory nothing changes. One on an absent file, and an append to a file with a
-- waiting cut, is refused before any rule is looked at.
abbrev pub MakesCall : Change → SimDisk → Result (Unit {0}) DiskError → SimDisk → Type 0
MakesCall change disk answer after =
    ((answer ≡ Err disk_error.OutOfMemory) × (after ≡ disk))
    ⊎ MatchOption (done change disk.state) ((answer ≡ Err (disk_error.Fault Plain)) × (after ≡ refused change disk)) (λ _. MeetsRules change disk answer after)

-- ---- calls that read

-- the device behind a read that goes on, or fails
abbrev pub behind_read : Option Planned → List Armed → SimDisk → SimDisk
behind_read None rules disk = record disk { rules = rules }
behind_read (Some planned) rules disk = record disk { rules = rules; faults = raised disk.faults; last_fault = Some planned.fault }

-- a read that answers with this fault, or with none, met the rules for reads
pub record ReadsByRules (disk : SimDisk) (answered : Option Fault) (after : SimDisk) : Type 0 where
  pub planned : Option Planned
  pub rules : List Armed
  pub met : Meets call.Read disk.rules planned rules
  pub fault_is : answered ≡ option_map (λ p. p.fault) planned
  pub after_is : after ≡ behind_read planned rules disk

-- a read of a file; for want of memory nothing changes
abbrev pub ReadsFile : {T : Type 0} → SimDisk → Result T ReadError → SimDisk → Type 0
ReadsFile disk (Ok value) after = ReadsByRules disk None after
ReadsFile disk (Err (read_error.Fault fault)) after = ReadsByRules disk (Some fault) after
ReadsFile disk (Err read_error.Absent) after = ReadsByRules disk None after
ReadsFile disk (Err read_error.OutOfMemory) after = after ≡ disk

-- a read of the directory or the room
abbrev pub ReadsDisk : {T : Type 0} → SimDisk → Result T DiskError → SimDisk → Type 0
ReadsDisk disk (Ok value) after = ReadsByRules disk None after
ReadsDisk disk (Err (disk_error.Fault fault)) after = ReadsByRules disk (Some fault) after
ReadsDisk disk (Err disk_error.OutOfMemory) after = after ≡ disk

-- ---- what a driver arranges

-- the device behind a rule
abbrev pub armed_with : Rule → SimDisk → SimDisk
armed_with (Fail call fault skip times keep) disk = record disk {
  rules = disk.rules ++ (record { call = call; fault = fault; skip = skip; times = times; keep = keep }) ∷ [];
  arranged = ArmedBy (Fail call fault skip times keep) ∷ disk.arranged;
}
armed_with (Capacity bytes) disk = record disk { capacity = bytes; arranged = ArmedBy (Capacity bytes) ∷ disk.arranged }

-- a rule is armed, and for want of memory none
abbrev pub ArmsRule : Rule → SimDisk → Result Bool OutOfMemory → SimDisk → Type 0
ArmsRule rule disk (Ok done) after = after ≡ armed_with rule disk
ArmsRule rule disk (Err error) after = after ≡ disk

-- the image that was picked is left, no rule is armed, and a forged image is counted
pub record CrashesAs (pick : Pick) (disk after : SimDisk) : Type 0 where
  pub leaves : after ≡ record disk {
    state = restarted (image_left pick disk.state);
    rules = [];
    forged = after.forged;
    arranged = Crashed pick ∷ disk.arranged;
  }
  pub counts : CountsForged (IsPlainLeft pick disk.state) disk.forged after.forged

-- a crash; for want of memory there is none
abbrev pub MakesCrash : Pick → SimDisk → Result Bool OutOfMemory → SimDisk → Type 0
MakesCrash pick disk (Ok done) after = CrashesAs pick disk after
MakesCrash pick disk (Err error) after = after ≡ disk
