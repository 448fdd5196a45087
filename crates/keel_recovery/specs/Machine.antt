-- The states of the machine whose device stands for their story, and that every turn keeps them so.
use Rattle.std.specs.List.{AllByRecursion}
use Rattle.std.specs.Prelude.{◌≡◌, ◌⊎◌, ℕ, ◌-◌, ◌^◌, ◌<◌, ◌≤◌, Bool, true, false, List, [], ◌∷◌, ◌++◌, length, Option, Some, None, is_some, if◌then◌else◌, Err, Ok}
use Rattle.keel_base.specs.declared.failure.Failure.{Failure}
use Rattle.keel_base.specs.declared.failure.Fault.{Fault}
use Rattle.keel_base.specs.declared.memory.OutOfMemory.{OutOfMemory}
use Rattle.keel_base.specs.declared.op.Batch.{Batch}
use Rattle.keel_base.specs.declared.op.Op.{Op}
use Rattle.keel_base.specs.Rows.{IsMapOf}
use Rattle.keel_batch.specs.Batches.{AreBatches}
use Rattle.keel_directory.specs.Reading.{Reading, IsReading, new, held, refused}
use Rattle.keel_directory.specs.Sound.{IsAsSaid, IsSoundReading}
use Rattle.keel_directory.specs.Standing.{ReadsAs}
use Rattle.keel_directory.specs.TableFiles.{TableFile, Opens}
use Rattle.keel_disk.specs.declared.change.Change.{Change}
use Rattle.keel_disk.specs.State.{State as Disk}
use Rattle.keel_disk.specs.Plain.{image_read}
use Rattle.keel_disk.specs.Told.{Told, Crashes}
use Rattle.keel_disk.specs.Sound.{IsOneToOne, IsAtRest}
use Rattle.keel_disk.specs.Steady.{CutsExist}
use Rattle.keel_open.specs.declared.refusal.OpenRefusal.{OpenRefusal}
use Rattle.keel_open.specs.declared.refusal.OpenRefusal.TheVariants as refusal
use Rattle.keel_disk.specs.declared.rule.Arranged.TheVariants as arranged
use Rattle.keel_disk.specs.declared.rule.Pick.{Pick}
use Rattle.keel_disk.specs.Seen.{Seen, IsArranged}
use Rattle.keel_flush.specs.Plans.{Job as FlushJob}
use Rattle.keel_manifest.specs.State.{ManifestState}
use Rattle.keel_machine.specs.Admission.{stopping}
use Rattle.keel_machine.specs.Crash.{CrashAnswers, has_story}
use Rattle.keel_base.specs.declared.options.Options.{Options}
use Rattle.keel_machine.specs.Opening.{Found, OpenAnswers, continues, opened}
use Rattle.keel_machine.specs.Reads.{BearsOut, contents, rows_of}
use Rattle.keel_group.specs.Queue.{Ticketed}
use Rattle.keel_machine.specs.States.{State, Footing, Known, Unknown, Mode, Phase, Shut, Booting, Open, Closing, is_open, is_left, unopened, Story, SegmentLog, Segment, Segments, Numbers, Group, Act, CloseLog, MakeLog, SyncDirectory, AddRecords, SyncLog, left_of, joined_story, point_of}
use Rattle.keel_machine.specs.declared.steps.ResumeStep.{ResumeStep}
use Rattle.keel_machine.specs.declared.steps.ResumeStep.TheVariants as resume_step
use Rattle.keel_machine.specs.declared.steps.JobStep.{JobStep}
use Rattle.keel_machine.specs.declared.steps.JobStep.TheVariants as job_step
use Rattle.keel_machine.specs.declared.steps.WriteStep.{WriteStep}
use Rattle.keel_machine.specs.declared.steps.WriteStep.TheVariants as step
use Rattle.keel_machine.specs.Turns.{Event, Opening, Writing, Resuming, Flushing, Listing, Arranging, Crashing, Turn}
use Rattle.keel_machine.specs.Writing.{ready, change_of}
use Rattle.keel_machine.specs.WritingAfter.{MadeCall, call_done, call_failed, failure_of}
use Rattle.keel_draft.specs.Drafts.{Draft}
use Rattle.keel_recovery.specs.BootCalls.{BootKept}
use Rattle.keel_recovery.specs.Calls.{IsNewLog, AllReach, CanGrow}
use Rattle.keel_recovery.specs.Chains.{Chained, IsWholeLog}
use Rattle.keel_recovery.specs.Crashing.{InsideCall}
use Rattle.keel_recovery.specs.Flushes.{HasFlush}
use Rattle.keel_recovery.specs.Keeping.{Keeps}
use Rattle.keel_recovery.specs.Leaving.{IsLeft}
use Rattle.keel_recovery.specs.Booting.{NoCuts}
use Rattle.keel_recovery.specs.Readings.{AreListed}
use Rattle.keel_recovery.specs.Roots.{Way, point_at}
use Rattle.keel_recovery.specs.Waiting.{AreOnTheirWay, ops_waiting}
use Rattle.keel_recovery.specs.Standing.{Stands}

-- what a caller may ask: a store is opened where none is open, and the other calls are those of an open one, but for
-- crashes, listings and what is arranged on the device
abbrev pub MayCall : State → Event → Type 0
MayCall s (Opening options answer) = is_open s.mode.phase ≡ false
MayCall s (Listing answer) = Unit {0}
MayCall s (Crashing pick kept) = Unit {0}
MayCall s (Arranging rule answer) = Unit {0}
MayCall s event = is_open s.mode.phase ≡ true

-- a reading is sound, where it isn't a refusal
abbrev pub IsSoundIfRead : Reading → Type 0
IsSoundIfRead new = Unit {0}
IsSoundIfRead (held found point) = IsSoundReading (held found point)
IsSoundIfRead (refused refusal) = Unit {0}

-- the device is at rest, and its directory reads as a sound store, or is refused
pub record IsFirst (state : Disk) : Type 0 where
  pub at_rest : IsAtRest state
  pub sound : (reading : Reading) → IsReading (image_read state) reading → IsSoundIfRead reading

-- the device tells its state, which is so
abbrev pub RestsIn : Option Told → Type 0
RestsIn None = ⊥
RestsIn (Some told) = IsFirst told.state

-- the device tells its state, which stands for the story
abbrev pub StandsIn : Option Told → Story → Type 0
StandsIn None story = ⊥
StandsIn (Some told) story = Stands told.state story

-- ---- what a store that writes keeps

-- these are the logs of the full segments
abbrev pub AreFull : List Segment → List Chained → Type 0
AreFull [] [] = Unit {0}
AreFull (segment ∷ rest) (own ∷ full) = (segment.logs ≡ own.number ∷ []) × (own.batches ≡ segment.batches) × AreFull rest full
AreFull _ _ = ⊥

-- the calls of a group from its append on
abbrev pub calls_from_append : Bool → List Act
calls_from_append sync = AddRecords ∷ (if sync then SyncLog ∷ [] else [])

-- the group has these calls before its append, and nothing is in limbo
pub record AwaitsAppend (story : Story) (first left : List Act) : Type 0 where
  pub none_in_limbo : story.limbo ≡ []
  pub sync : Bool
  pub left_is : left ≡ first ++ calls_from_append sync

-- the group has handed over its batches, and has its sync alone before it
pub record AwaitsSync (batches : List Batch) (left : List Act) : Type 0 where
  pub all_handed : batches ≡ []
  pub left_is : left ≡ SyncLog ∷ []

-- the group made a log that isn't the active segment's yet
pub record HasMade (state : Disk) (number next_file : ℕ) (own : Chained) : Type 0 where
  pub drawn : number < next_file
  pub above : own.number < number
  pub new : IsNewLog number state

-- Where a group is, by the log that it made: before its append or its sync, or where it changes the log.
abbrev pub AtStage : Disk → Story → ℕ → Chained → Option ℕ → List Batch → List Act → Type 0
AtStage state story next_file own None batches left =
    (AwaitsAppend story [] left ⊎ AwaitsSync batches left)
    ⊎ (AwaitsAppend story (CloseLog ∷ MakeLog ∷ SyncDirectory ∷ []) left ⊎ (AwaitsAppend story (MakeLog ∷ SyncDirectory ∷ []) left × IsWholeLog own state))
AtStage state story next_file own (Some number) batches left = AwaitsAppend story (SyncDirectory ∷ []) left × HasMade state number next_file own × IsWholeLog own state

-- without a group nothing is in limbo
abbrev pub IsAt : Disk → Story → ℕ → Chained → Option Group → Type 0
IsAt state story next_file own None = story.limbo ≡ []
IsAt state story next_file own (Some group) = AtStage state story next_file own group.progress.log group.batches (left_of group)

-- that is so while a group is in flight, or writes aren't stopped
abbrev pub WhileItGoes : Option Group → Option Failure → Type 0 → Type 0
WhileItGoes (Some group) stops goes = goes
WhileItGoes None None goes = goes
WhileItGoes None (Some failure) goes = Unit {0}

-- The logs hold the batches of the segments and what is in limbo. While writes aren't stopped, or a group is in flight, the last
-- one can be appended to. The manifest in use, and the flush that runs, go with them.
pub record HasLog (log : SegmentLog) (state : Disk) (levels : List TableFile) (story : Story) (immutable : List Segment) (batches : List (List Op)) (waiting : List Ticketed) (stops : Option Failure) (running : Option Group) (next_file in_tables : ℕ) (flush : Option FlushJob) (manifest : ManifestState) : Type 0 where
  pub way : Way
  pub place : ℕ
  pub full : List Chained
  pub are_full : AreFull immutable full
  pub own : Chained
  pub number_is : own.number ≡ log.number
  pub batches_are : own.batches ≡ batches ++ story.limbo
  pub keeps : Keeps (way ∷ []) place (full ++ own ∷ []) levels story next_file state
  pub reach : AllReach (way ∷ []) own.number
  pub tables_to : (point_at place story).seq ≡ in_tables
  pub flushes : HasFlush way levels in_tables (full ++ own ∷ []) stops flush next_file manifest state
  pub order : WhileItGoes running stops (CanGrow full own log.size state × IsAt state story next_file own running × AreOnTheirWay story running waiting)

abbrev pub HoldsBy : Option SegmentLog → Disk → List TableFile → Story → List Segment → List (List Op) → List Ticketed → Option Failure → Option Group → ℕ → ℕ → Option FlushJob → ManifestState → Type 0
HoldsBy None state levels story immutable batches waiting stops running next_file in_tables flush manifest = ⊥
HoldsBy (Some log) state levels story immutable batches waiting stops running next_file in_tables flush manifest =
    HasLog log state levels story immutable batches waiting stops running next_file in_tables flush manifest

-- what its logs hold, of the parts that it is about
abbrev pub IsStoredIn : Disk → List TableFile → Story → Segments → List Ticketed → Option Failure → Option Group → Numbers → Option FlushJob → Type 0
IsStoredIn state levels story segments waiting stops running numbers flush =
    HoldsBy segments.active.log state levels story segments.immutable segments.active.batches waiting stops running numbers.next_file numbers.in_tables flush
    numbers.manifest

abbrev pub IsStored : Disk → State → Type 0
IsStored state s = IsStoredIn state s.levels s.story s.segments s.writing.waiting (stopping s) s.jobs.write.running s.numbers s.jobs.flush.running

-- no group is in flight, no flush runs, and writes are stopped
pub record IsCalm (s : State) : Type 0 where
  pub no_group : s.jobs.write.running ≡ None
  pub no_flush : s.jobs.flush.running ≡ None
  pub stopped : is_some (stopping s) ≡ true

-- The device of a store that writes: names and files go one to one, the next file has a number, and its logs hold the story. No
-- resume runs, and one that was asked for finds the store calm.
pub record IsKept (state : Disk) (s : State) : Type 0 where
  pub one_to_one : IsOneToOne state
  pub cuts : CutsExist state
  pub uncut : NoCuts state
  pub listed : AreListed state
  pub numbered : 1 ≤ s.numbers.next_file
  pub none_boots : s.jobs.resume.running ≡ None
  pub calm : s.jobs.started ≡ true → IsCalm s
  pub waits : AreBatches (point_of s.story).seq (ops_waiting s.writing.waiting)
  pub stored : IsStored state s

-- That of a store that a resume took over, and hasn't cleared: writes are stopped.
pub record IsTakenOver (state : Disk) (s : State) : Type 0 where
  pub one_to_one : IsOneToOne state
  pub cuts : CutsExist state
  pub kept : BootKept s state
  pub stopped : is_some (stopping s) ≡ true

-- the device of a store that boots, which takes no batches
pub record IsBootingStore (state : Disk) (s : State) : Type 0 where
  pub one_to_one : IsOneToOne state
  pub cuts : CutsExist state
  pub kept : BootKept s state
  pub none_waits : s.writing.waiting ≡ []

-- what reads ask of a device: it has the tables, which are whole, and with the batches of the segments they say what the store
-- contains
pub record Bears (state : Disk) (s : State) : Type 0 where
  pub tables : AllByRecursion (λ (table : TableFile). Opens (image_read state) table.entry table) s.levels
  pub said : AllByRecursion (IsAsSaid s.numbers.in_tables) s.levels
  pub says : IsMapOf (rows_of s) (contents s)

-- The device of a store that was closed: it may be left so, and reads are borne out. No job is under way, and nobody waits.
pub record IsClosedStore (state : Disk) (s : State) : Type 0 where
  pub left : IsLeft state s.story
  pub bears : Bears state s
  pub none_waits : s.writing.waiting ≡ []
  pub no_group : s.jobs.write.running ≡ None
  pub no_boot : s.jobs.resume.running ≡ None
  pub unstarted : s.jobs.started ≡ false

-- what is kept where no store is open: of one that was left, and where there is no story
abbrev pub KeptShut : Bool → Disk → State → Type 0
KeptShut true state s = IsLeft state s.story
KeptShut false state s = IsFirst state

abbrev pub KeptBy : Phase → Bool → Disk → State → Type 0
KeptBy Open left state s = IsKept state s ⊎ IsTakenOver state s
KeptBy Booting left state s = IsBootingStore state s
KeptBy Closing left state s = IsClosedStore state s
KeptBy Shut left state s = KeptShut left state s

-- a known device tells its state, and of it that is kept
abbrev pub IsCoveredBy : Footing → Mode → Option Told → State → Type 0
IsCoveredBy Unknown mode told s = Unit {0}
IsCoveredBy Known mode None s = ⊥
IsCoveredBy Known mode (Some told) s = KeptBy mode.phase (is_left mode.left) told.state s

abbrev pub IsCovered : State → Type 0
IsCovered s = IsCoveredBy s.footing s.mode s.device.told s

-- ---- the laws

-- every turn that a caller may ask for keeps the device covered
abbrev pub TurnKeeps : Type 0
TurnKeeps = (s next : State) (event : Event) → MayCall s event → Turn s event next → IsCovered s → IsCovered next

-- a covered device that is known stands for the story, once there is one
abbrev pub CoveredStands : Type 0
CoveredStands = (s : State) → s.footing ≡ Known → has_story s.mode ≡ true → IsCovered s → StandsIn s.device.told s.story

-- an opening of a device that was left, and stands for the story, leaves a store that boots
abbrev pub OpeningBoots : Type 0
OpeningBoots =
    (s : State) (options : Options) (found : Found) (device : Seen) (told : Told)
    → s.device.told ≡ Some told → OpenAnswers s (Ok found) device → IsLeft told.state (opened options found s).story
    → BootKept (opened options found s) told.state

-- before a first opening, a device at rest is covered
abbrev pub StartsCovered : Type 0
StartsCovered = (s : State) → s.mode ≡ unopened → (s.footing ≡ Known → RestsIn s.device.told) → IsCovered s

-- a crash of a simulated device, as it was picked
pub record Drops (s : State) (pick : Pick) (device : Seen) : Type 0 where
  pub simulated : s.device.simulated ≡ true
  pub crash : Crashes {E = OutOfMemory} s.device.told (Ok true) device.told
  pub rest : IsArranged {E = OutOfMemory} (arranged.Crashed pick) s.device (Ok true) device

-- Whatever a crash leaves of a covered device is a turn of the machine: of a known one, so many batches of the story, and
-- all that must not be lost, unless the image is forged.
abbrev pub CrashTurns : Type 0
CrashTurns =
    (s : State) (pick : Pick) (device : Seen) → IsCovered s → Drops s pick device → (kept : Option ℕ) × CrashAnswers s pick kept device

-- where the story goes on, the directory reads as the point that it leads to with the first so many batches of its limbo
pub record ReadsOn (told : Told) (story : Story) : Type 0 where
  pub joined : ℕ
  pub within : joined ≤ length story.limbo
  pub reads : ReadsAs (image_read told.state) (point_of (joined_story joined story))

abbrev pub ReadsOnIn : Option Told → Story → Type 0
ReadsOnIn None story = ⊥
ReadsOnIn (Some told) story = ReadsOn told story

abbrev pub CoveredReads : Type 0
CoveredReads = (s : State) → is_open s.mode.phase ≡ false → continues s.mode s.footing ≡ true → IsCovered s → ReadsOnIn s.device.told s.story

-- an opening that goes on with a story is refused for a fault of the device or for want of memory alone
abbrev pub IsOfDevice : OpenRefusal → Type 0
IsOfDevice (refusal.Device fault) = Unit {0}
IsOfDevice refusal.OutOfMemory = Unit {0}
IsOfDevice other = ⊥

abbrev pub OpeningGoesOn : Type 0
OpeningGoesOn =
    (s : State) (refused : OpenRefusal) (device : Seen)
    → is_open s.mode.phase ≡ false → continues s.mode s.footing ≡ true → IsCovered s → OpenAnswers s (Err refused) device → IsOfDevice refused

-- the story behind the call of a write step, answered Ok or with that fault
abbrev pub story_behind : State → Option Fault → Story
story_behind s None = (call_done s).story
story_behind s (Some fault) = (call_failed (failure_of fault) s).story

-- A crash inside the call of a write step: every plain image reads as a prefix of the story before the step, or of the one
-- behind its answer, with all that must not be lost.
abbrev pub InsideStep : Type 0
InsideStep =
    (s : State) (told : Told) (held : Option ℕ) (group : Group) (act : Act) (later : List Act) (failed : Option Fault) (device : Seen)
    → is_open s.mode.phase ≡ true → s.footing ≡ Known → IsCovered s → s.device.told ≡ Some told → MadeCall s held group act later failed device
    → InsideCall told.state (change_of (ready s) group act) s.story (story_behind s failed)

-- Of a known device: it tells the last call that was handed in, and every plain image inside that call reads as a prefix of
-- the story before or of the one behind, with all that must not be lost.
abbrev pub CrashesWithin : Footing → Option Told → Option Told → Story → Story → Type 0
CrashesWithin Unknown before after story behind = Unit {0}
CrashesWithin Known (Some before) (Some after) story behind = (change : Change) × (after.last ≡ Some change) × InsideCall before.state change story behind
CrashesWithin Known before after story behind = ⊥

-- so it is of a write step that made a call
abbrev pub StepIsSafe : State → WriteStep → State → Type 0
StepIsSafe s (step.Moved job call) next = CrashesWithin s.footing s.device.told next.device.told s.story next.story
StepIsSafe s (step.Done job seq batches) next = CrashesWithin s.footing s.device.told next.device.told s.story next.story
StepIsSafe s (step.Failed failure) next = CrashesWithin s.footing s.device.told next.device.told s.story next.story
StepIsSafe s made next = Unit {0}

abbrev pub StepsAreSafe : Type 0
StepsAreSafe =
    (s next : State) (held : Option ℕ) (made : WriteStep) → is_open s.mode.phase ≡ true → Turn s (Writing held made) next → IsCovered s → StepIsSafe s made next

-- A crash inside the call of a resume step is as safe: the story stays, and behind a clear nothing of it may be lost.
abbrev pub ResumeIsSafe : State → ResumeStep → State → Type 0
ResumeIsSafe s (resume_step.Moved job call) next = CrashesWithin s.footing s.device.told next.device.told s.story next.story
ResumeIsSafe s (resume_step.Cleared job steps) next = CrashesWithin s.footing s.device.told next.device.told s.story next.story
ResumeIsSafe s (resume_step.Failed failure) next = CrashesWithin s.footing s.device.told next.device.told s.story next.story
ResumeIsSafe s made next = Unit {0}

abbrev pub ResumesAreSafe : Type 0
ResumesAreSafe =
    (s next : State) (drafts : List Draft) (held : Option ℕ) (made : ResumeStep)
    → is_open s.mode.phase ≡ true → Turn s (Resuming drafts held made) next → IsCovered s → ResumeIsSafe s made next

-- A crash inside the call of a flush step is as safe: the story stays.
abbrev pub FlushIsSafe : State → JobStep → State → Type 0
FlushIsSafe s (job_step.Moved job call) next = CrashesWithin s.footing s.device.told next.device.told s.story next.story
FlushIsSafe s (job_step.Done job) next = CrashesWithin s.footing s.device.told next.device.told s.story next.story
FlushIsSafe s (job_step.Failed failure) next = CrashesWithin s.footing s.device.told next.device.told s.story next.story
FlushIsSafe s made next = Unit {0}

abbrev pub FlushesAreSafe : Type 0
FlushesAreSafe =
    (s next : State) (draft : Draft) (held : Option ℕ) (made : JobStep) → Turn s (Flushing draft held made) next → IsCovered s → FlushIsSafe s made next

-- the device of an open store that is known bears out what reads say
abbrev pub CoveredBears : Type 0
CoveredBears = (s : State) → s.footing ≡ Known → is_open s.mode.phase ≡ true → IsCovered s → BearsOut s

-- how many crashes left a forged image, as far as the device tells it
abbrev pub forged_of : Option Told → ℕ
forged_of None = 0
forged_of (Some told) = told.forged

-- The count of forged images is so much at least, and it is more where the device isn't known to bear out the story.
pub record IsCounted (first : ℕ) (s : State) : Type 0 where
  pub least : first ≤ forged_of s.device.told
  pub risen : (s.footing ≡ Known) ⊎ (first < forged_of s.device.told)

-- Every turn keeps that. So a device that was known, and whose count hasn't risen since, is known still.
abbrev pub FootingStays : Type 0
FootingStays = (first : ℕ) (s next : State) (event : Event) → first < 2 ^ 64 - 1 → Turn s event next → IsCounted first s → IsCounted first next
