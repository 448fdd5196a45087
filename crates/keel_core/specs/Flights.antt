-- The group in flight and the store's log as the machine has them.
use Rattle.std.specs.Prelude.{◌≡◌, ℕ, Bool, true, false, List, [], ◌∷◌, Option, Some, None, if◌then◌else◌, option_map}
use Rattle.keel_base.specs.declared.op.Batch.{Batch}
use Rattle.keel_machine.specs.States as machine
use Rattle.keel_machine.specs.States.{Group, SegmentLog}
use Rattle.keel_machine.specs.Writing.{group_plan}
use Rattle.keel_core.specs.declared.flight.Act.{Act}
use Rattle.keel_core.specs.declared.flight.Act.TheVariants.{CloseLog, MakeLog, SyncDirectory, AddRecords, SyncLog}
use Rattle.keel_core.specs.declared.flight.Flight.{Flight}
use Rattle.keel_core.specs.declared.log.OwnLog.{OwnLog}

-- the group in flight: whether it begins behind a full segment, whether it ends with a sync, and the call before it
pub record FlightShown : Type 0 where
  pub tickets : List ℕ
  pub batches : List Batch
  pub switches : Bool
  pub sync : Bool
  pub next : Act

abbrev pub act_of : Act → machine.Act
act_of CloseLog = machine.CloseLog
act_of MakeLog = machine.MakeLog
act_of (SyncDirectory log) = machine.SyncDirectory
act_of AddRecords = machine.AddRecords
act_of SyncLog = machine.SyncLog

-- the acts that follow one in a group that is synced or not
abbrev pub later_than : Act → Bool → List machine.Act
later_than CloseLog sync = machine.MakeLog ∷ machine.SyncDirectory ∷ machine.AddRecords ∷ (if sync then machine.SyncLog ∷ [] else [])
later_than MakeLog sync = machine.SyncDirectory ∷ machine.AddRecords ∷ (if sync then machine.SyncLog ∷ [] else [])
later_than (SyncDirectory log) sync = machine.AddRecords ∷ (if sync then machine.SyncLog ∷ [] else [])
later_than AddRecords sync = if sync then machine.SyncLog ∷ [] else []
later_than SyncLog sync = []

abbrev pub makes_log : Act → Bool
makes_log MakeLog = true
makes_log _ = false

-- how many calls the group has made before an act
abbrev pub made_before : Act → Bool → ℕ
made_before CloseLog switches = 0
made_before MakeLog switches = 1
made_before (SyncDirectory log) switches = 2
made_before AddRecords switches = if switches then 3 else 0
made_before SyncLog switches = if switches then 4 else 1

-- the group has such an act
abbrev pub IsPlanned : Act → Bool → Bool → Type 0
IsPlanned CloseLog switches sync = switches ≡ true
IsPlanned MakeLog switches sync = switches ≡ true
IsPlanned (SyncDirectory log) switches sync = switches ≡ true
IsPlanned AddRecords switches sync = Unit {0}
IsPlanned SyncLog switches sync = sync ≡ true

-- the log that was made and is not yet a segment's
abbrev pub made_log : Act → Option ℕ
made_log (SyncDirectory log) = Some log
made_log _ = None

abbrev pub group_of : FlightShown → Group
group_of flight = record {
  tickets = flight.tickets;
  batches = flight.batches;
  plan = group_plan flight.switches flight.sync;
  progress = record { made = made_before flight.next flight.switches; log = made_log flight.next };
}

abbrev pub running_of : Option FlightShown → Option Group
running_of flight = option_map group_of flight

abbrev pub flight_shown : Flight → FlightShown
flight_shown flight = record {
  tickets = flight.tickets.items;
  batches = flight.batches.items;
  switches = flight.switches;
  sync = flight.sync;
  next = flight.next;
}

abbrev pub flying : Option Flight → Option FlightShown
flying None = None
flying (Some flight) = Some (flight_shown flight)

-- ---- its parts

abbrev pub tickets_flying : Option FlightShown → List ℕ
tickets_flying None = []
tickets_flying (Some flight) = flight.tickets

abbrev pub batches_flying : Option FlightShown → List Batch
batches_flying None = []
batches_flying (Some flight) = flight.batches

abbrev pub next_flying : Option FlightShown → Option Act
next_flying None = None
next_flying (Some flight) = Some flight.next

abbrev pub is_synced : Option FlightShown → Bool
is_synced None = false
is_synced (Some flight) = flight.sync

abbrev pub gone_to : Act → Option FlightShown → Option FlightShown
gone_to next None = None
gone_to next (Some flight) = Some (record flight { next = next })

abbrev pub without_batches : Option FlightShown → Option FlightShown
without_batches None = None
without_batches (Some flight) = Some (record flight { batches = [] })

-- ---- the log

abbrev pub log_shown : Option OwnLog → Option SegmentLog
log_shown None = None
log_shown (Some own) = Some (record { number = own.number; size = own.size; failed = own.failed })
