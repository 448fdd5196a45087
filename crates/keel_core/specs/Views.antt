-- What a core shows, and the states of the machine that it stands for.
use Rattle.std.specs.Prelude.{◌≡◌, ◌≢◌, ℕ, ◌+◌, ◌*◌, ◌<◌, ◌≤◌, ◌^◌, ◌==◌, ◌&&◌, nat_le, Bool, true, false, List, [], ◌∷◌, length, Option, None, Some, IsSome, option_map}
use Rattle.std.specs.List.{AllByRecursion}
use Rattle.keel_base.specs.declared.limits.TheConstants.{LAST_NUMBER}
use Rattle.keel_base.specs.declared.failure.Counter.TheVariants.{FileNumber, JobNumber}
use Rattle.keel_base.specs.declared.failure.Failure.{Failure}
use Rattle.keel_base.specs.declared.op.Op.{Op}
use Rattle.keel_base.specs.declared.options.Options.{Options}
use Rattle.keel_base.specs.declared.row.Row.{Row}
use Rattle.keel_directory.specs.TableFiles.{TableFile}
use Rattle.keel_disk.specs.Seen.{Seen}
use Rattle.keel_flush.specs.Plans.{Job as FlushJob}
use Rattle.keel_group.specs.Queue.{Ticketed}
use Rattle.keel_handler.specs.Failures.{standing_of, where_severe}
use Rattle.keel_handler.specs.Recovery.{HandlerState}
use Rattle.keel_machine.specs.declared.answers.Outcome.{Outcome}
use Rattle.keel_machine.specs.declared.steps.WriteStep.{WriteStep}
use Rattle.keel_machine.specs.declared.steps.WriteStep.TheVariants as step
use Rattle.keel_levels.specs.declared.live.LiveTable.{LiveTable}
use Rattle.keel_levels.specs.Live.{AreOpened, tables_of}
use Rattle.keel_machine.specs.Reads.{IsBorne, WhereKnown}
use Rattle.keel_machine.specs.States as machine
use Rattle.keel_machine.specs.States.{State, Story, Footing, Unknown, Leaving, Phase, SegmentLog, Segment, Resumption, entries_in, left_of}
use Rattle.keel_machine.specs.Tests.{first_some, when, differing}
use Rattle.keel_machine.specs.Turns.{Event, Answers, after}
use Rattle.keel_machine.specs.Turns as turns
use Rattle.keel_machine.specs.Writing.{draws, write_rest}
use Rattle.keel_manifest.specs.State.{ManifestState}
use Rattle.keel_mem.specs.Totals.{weight_of}
use Rattle.keel_draft.specs.Drafts.{batch_rows, count_ops}
use Rattle.keel_core.specs.Flights.{FlightShown, IsPlanned, group_of, running_of}
use Rattle.keel_core.specs.Trails.{TrailShown, Continues, seq_in}

-- ---- what a core shows

-- How far the job has come that makes tables of all segments: none is under way in a store that boots; one was asked for,
-- and has made no call yet; one runs; none is under way, and the boot has cleared; or the store was closed. Of one that was
-- asked for or runs, and of a closed store, it is known whether the boot had cleared before.
pub data BootShown : Type 0 where
  ToStart : BootShown
  Started : Bool → BootShown
  Running : Bool → Resumption → BootShown
  Cleared : BootShown
  Closed : Bool → BootShown

-- the boot of this opening has cleared
abbrev pub has_booted : BootShown → Bool
has_booted ToStart = false
has_booted (Started booted) = booted
has_booted (Running booted resumption) = booted
has_booted Cleared = true
has_booted (Closed booted) = booted

-- the store was closed
abbrev pub is_closed : BootShown → Bool
is_closed (Closed booted) = true
is_closed _ = false

-- one was asked for, and has made no call yet
abbrev pub is_started : BootShown → Bool
is_started (Started booted) = true
is_started _ = false

-- none is under way
abbrev pub resting : Bool → BootShown
resting true = Cleared
resting false = ToStart

-- the rows of a full segment, and the numbers of the logs that have them
pub record FullSegment : Type 0 where
  pub rows : List Row
  pub logs : List ℕ

pub record CoreView : Type 0 where
  pub device : Seen
  pub options : Options
  pub boot : BootShown
  -- the number of the boot or resume that is or was last under way
  pub boot_job : ℕ
  -- the story since the opening
  pub trail : TrailShown
  -- the full segments, oldest first
  pub immutable : List FullSegment
  -- the rows of the active segment
  pub rows : List Row
  pub log : Option SegmentLog
  -- the tables, by level, then by number, with what is open of them
  pub levels : List LiveTable
  pub waiting : List Ticketed
  pub group : Option FlightShown
  -- those that weren't taken
  pub outcomes : List (ℕ × Outcome)
  pub last_ticket : ℕ
  pub job : ℕ
  -- the flush that runs, and the number of the one that runs or ran last
  pub flush : Option FlushJob
  pub flush_job : ℕ
  -- the failure that stands
  pub handler : HandlerState
  pub next_file : ℕ
  -- the manifest in use, and what a crash may leave of manifests
  pub manifest : ManifestState

-- the core over a device that shows this
abbrev pub with_device : Seen → CoreView → CoreView
with_device device view = record view { device = device }

-- the number of the last published op
abbrev pub last_in : CoreView → ℕ
last_in view = seq_in view.trail

-- the active segment takes no further group
abbrev pub is_full : CoreView → Bool
is_full view = nat_le view.options.write_buffer (weight_of view.rows)

-- and no other may follow it
abbrev pub is_store_full : CoreView → Bool
is_store_full view = is_full view && nat_le view.options.max_immutables (length view.immutable)

-- the failure that stands where it stops writes
abbrev pub stopping_in : CoreView → Option Failure
stopping_in view = where_severe view.handler.paranoid view.handler.standing

-- ---- the states that it stands for

-- what a state has beside what the core shows
pub record Beyond : Type 0 where
  pub footing : Footing
  pub left : Leaving
  pub story : Story
  pub immutable : List Segment
  -- the batches of the active segment
  pub active : List (List Op)
  pub levels : List TableFile
  pub in_tables : ℕ
  -- the failures since the last clear, oldest first
  pub failures : List Failure

-- a batch that has an op
abbrev pub HasOp : List Op → Type 0
HasOp ops = 1 ≤ length ops

abbrev pub HaveOps : List (List Op) → Type 0
HaveOps batches = AllByRecursion HasOp batches

-- The rows of the segments are those of their batches, which are numbered on behind that number up to the last one.
abbrev pub AreSegments : ℕ → List FullSegment → List Segment → List Row → List (List Op) → ℕ → Type 0
AreSegments seq [] [] rows active last = (rows ≡ batch_rows (seq + 1) active) × (seq + count_ops active ≡ last) × HaveOps active
AreSegments seq (full ∷ fulls) (segment ∷ segments) rows active last =
    (full.logs ≡ segment.logs) × (full.rows ≡ batch_rows (seq + 1) segment.batches)
    × AreSegments (seq + count_ops segment.batches) fulls segments rows active last
AreSegments seq _ _ rows active last = ⊥

-- a job that runs has these tables before it
abbrev pub IsLeading : BootShown → List LiveTable → Type 0
IsLeading (Running booted resumption) levels = resumption.job.live ≡ tables_of levels
IsLeading _ levels = Unit {0}

-- the handler has the settings of the options, has given up nothing, and has the failure that stands of these
pub record IsHandlerOf (options : Options) (failures : List Failure) (handler : HandlerState) : Type 0 where
  pub paranoid : handler.paranoid ≡ options.paranoid
  pub auto : handler.auto ≡ options.auto
  pub on : handler.given_up ≡ false
  pub standing : handler.standing ≡ standing_of options.paranoid failures

-- the batches of the first of these segments, which are numbered behind a number, end with that one
abbrev pub IsOfFirst : ℕ → ℕ → List Segment → Type 0
IsOfFirst seq last [] = ⊥
IsOfFirst seq last (segment ∷ segments) = last ≡ seq + count_ops segment.batches

-- a flush runs where no other job is under way and the boot has cleared, and is of the oldest full segment
abbrev pub IsFlushing : BootShown → Option FlushJob → ℕ → List Segment → Type 0
IsFlushing Cleared None seq segments = Unit {0}
IsFlushing Cleared (Some job) seq segments = IsOfFirst seq job.draft.last segments
IsFlushing _ flush seq segments = flush ≡ None

-- what is beyond the core goes with what it shows
pub record Fits (view : CoreView) (beyond : Beyond) : Type 0 where
  pub story : Continues (has_booted view.boot) view.trail beyond.story
  pub segments : AreSegments beyond.in_tables view.immutable beyond.immutable view.rows beyond.active (last_in view)
  pub tables : tables_of view.levels ≡ entries_in beyond.levels
  -- of a known device what is open is what its files have
  pub opened : WhereKnown beyond.footing (AreOpened view.levels beyond.levels)
  pub leads : IsLeading view.boot view.levels
  pub handled : IsHandlerOf view.options beyond.failures view.handler
  pub flushes : IsFlushing view.boot view.flush beyond.in_tables beyond.immutable

abbrev pub phase_if : Bool → Phase
phase_if true = machine.Open
phase_if false = machine.Booting

abbrev pub phase_of : BootShown → Phase
phase_of (Closed booted) = machine.Closing
phase_of boot = phase_if (has_booted boot)

abbrev pub resumption_of : BootShown → Option Resumption
resumption_of (Running booted resumption) = Some resumption
resumption_of _ = None

-- the state whose other parts are what the core shows
abbrev pub state_of : CoreView → Beyond → State
state_of view beyond = record {
  device = view.device;
  footing = beyond.footing;
  options = view.options;
  mode = record { phase = phase_of view.boot; left = beyond.left };
  story = beyond.story;
  segments = record { immutable = beyond.immutable; active = record { batches = beyond.active; log = view.log } };
  levels = beyond.levels;
  writing = record { waiting = view.waiting; outcomes = view.outcomes; last_ticket = view.last_ticket };
  failing = record { failures = beyond.failures };
  jobs = record {
    write = record { number = view.job; running = running_of view.group };
    flush = record { number = view.flush_job; running = view.flush };
    resume = record { number = view.boot_job; running = resumption_of view.boot };
    started = is_started view.boot;
  };
  numbers = record { next_file = view.next_file; manifest = view.manifest; in_tables = beyond.in_tables };
}

pub record StandsFor (view : CoreView) (s : State) : Type 0 where
  pub beyond : Beyond
  pub state_is : s ≡ state_of view beyond
  pub fits : Fits view beyond

-- ---- clauses of the calls

-- For each state that the core stands for, the answer has its cause, and the core then stands for the state behind the call.
pub record TakesTurn (old : CoreView) (event : Event) (new : CoreView) : Type 0 where
  pub goes : (s : State) → StandsFor old s → Answers s event new.device × StandsFor new (after s event new.device)

-- The same for each state whose device bears it out.
pub record TakesRead (old : CoreView) (event : Event) (new : CoreView) : Type 0 where
  pub goes : (s : State) → StandsFor old s → IsBorne s → Answers s event new.device × StandsFor new (after s event new.device)

-- ---- the write step

-- whether the next call draws a file's number
abbrev pub draws_next : Option FlightShown → Bool
draws_next None = false
draws_next (Some flight) = draws (left_of (group_of flight))

abbrev pub is_file_spent : CoreView → Bool
is_file_spent view = nat_le LAST_NUMBER view.next_file

abbrev pub rests_of : CoreView → Option FlightShown → List (Option WriteStep)
rests_of view None =
    when (length view.waiting == 0) step.Idle
    ∷ option_map (λ failure. step.Turned (length view.waiting) failure) (stopping_in view)
    ∷ when (is_store_full view) (step.Full (weight_of view.rows) (length view.immutable))
    ∷ when (nat_le LAST_NUMBER view.job) (step.Spent JobNumber)
    ∷ when (is_full view && is_file_spent view) (step.Spent FileNumber)
    ∷ []
rests_of view (Some flight) = when (draws_next (Some flight) && is_file_spent view) (step.Spent FileNumber) ∷ []

-- What a write step answers where it makes no call. It depends on what the core shows alone.
abbrev pub rest_of : CoreView → Option ℕ → Option WriteStep
rest_of view held = first_some (
    option_map (λ job. step.Cancelled job view.job) (differing held view.job)
    ∷ first_some (rests_of view view.group)
    ∷ [])

-- the answers of a step that makes no call
abbrev pub IsRest : WriteStep → Type 0
IsRest step.Idle = Unit {0}
IsRest (step.Turned batches failure) = Unit {0}
IsRest (step.Full active immutables) = Unit {0}
IsRest (step.Spent counter) = Unit {0}
IsRest (step.Cancelled job current) = Unit {0}
IsRest _ = ⊥

abbrev pub IsOnPlan : Option FlightShown → Type 0
IsOnPlan None = Unit {0}
IsOnPlan (Some flight) = IsPlanned flight.next flight.switches flight.sync

-- no other job is under way, and there is a log
pub record IsReady (view : CoreView) : Type 0 where
  pub cleared : view.boot ≡ Cleared
  pub log : IsSome view.log

-- a group is in flight or can be formed, and the numbers that its calls draw are below their ends
pub record MayGoOn (view : CoreView) : Type 0 where
  pub on_plan : IsOnPlan view.group
  pub some : view.group ≡ None → view.waiting ≢ []
  pub job : view.group ≡ None → view.job < 2 ^ 56
  pub file : draws_next view.group ≡ true → view.next_file < 2 ^ 56

-- a write step makes its call
pub record CanGoOn (view : CoreView) : Type 0 where
  pub cleared : view.boot ≡ Cleared
  pub log : IsSome view.log
  pub on_plan : IsOnPlan view.group
  pub some : view.group ≡ None → view.waiting ≢ []
  pub job : view.group ≡ None → view.job < 2 ^ 56
  pub file : draws_next view.group ≡ true → view.next_file < 2 ^ 56

-- The clause of a write step that makes its call: for each state in which it doesn't rest.
pub record MakesCall (old : CoreView) (made : WriteStep) (new : CoreView) : Type 0 where
  pub goes :
      (s : State) (held : Option ℕ) → StandsFor old s → write_rest s held ≡ None
      → Answers s (turns.Writing held made) new.device × StandsFor new (after s (turns.Writing held made) new.device)

-- how many calls those in the queue and in flight still have before them, at most
abbrev pub calls_in : Option FlightShown → ℕ
calls_in None = 0
calls_in (Some flight) = length (left_of (group_of flight))

abbrev pub calls_left : CoreView → ℕ
calls_left view = calls_in view.group + 6 * length view.waiting

-- a step that did something brings what waits nearer, and one finds nothing to do only where nothing waits
abbrev pub ComesNearer : CoreView → WriteStep → CoreView → Type 0
ComesNearer old step.Idle new = calls_left old ≡ 0
ComesNearer old (step.Moved job call) new = calls_left new < calls_left old
ComesNearer old (step.Done job seq batches) new = calls_left new < calls_left old
ComesNearer old (step.Failed failure) new = calls_left new < calls_left old
ComesNearer old (step.Turned batches failure) new = calls_left new < calls_left old
ComesNearer old _ new = Unit {0}

-- what a step that rests finds of the queue
abbrev pub Finds : CoreView → WriteStep → Type 0
Finds view step.Idle = calls_left view ≡ 0
Finds view (step.Turned batches failure) = 0 < length view.waiting
Finds view _ = Unit {0}
