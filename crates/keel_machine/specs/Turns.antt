-- The turns of the machine: from a state, a call may be answered so and leave that state.
use Rattle.std.specs.Prelude.{◌≡◌, ℕ, Bool, List, [], ◌∷◌, Option, Result, IfOk}
use Rattle.keel_base.specs.declared.failure.Failure.{Failure}
use Rattle.keel_base.specs.declared.memory.OutOfMemory.{OutOfMemory}
use Rattle.keel_base.specs.declared.op.Batch.{Batch}
use Rattle.keel_base.specs.declared.options.Options.{Options}
use Rattle.keel_base.specs.declared.listing.Entry.{Entry}
use Rattle.keel_disk.specs.declared.error.DiskError.{DiskError}
use Rattle.keel_disk.specs.declared.rule.Pick.{Pick}
use Rattle.keel_disk.specs.declared.rule.Rule.{Rule}
use Rattle.keel_disk.specs.Counts.{disk_fault}
use Rattle.keel_disk.specs.Listings.{IsListing}
use Rattle.keel_disk.specs.Told.{TellsListing}
use Rattle.keel_open.specs.declared.refusal.OpenRefusal.{OpenRefusal}
use Rattle.keel_disk.specs.Seen.{IsQuiet, Seen}
use Rattle.keel_machine.specs.declared.answers.Admit.{Admit}
use Rattle.keel_machine.specs.declared.answers.Got.{Got}
use Rattle.keel_machine.specs.declared.answers.Outcome.{Outcome}
use Rattle.keel_machine.specs.declared.answers.Scanned.{Scanned}
use Rattle.keel_machine.specs.declared.answers.LevelsView.{LevelsView}
use Rattle.keel_machine.specs.declared.answers.Start.{Start}
use Rattle.keel_machine.specs.declared.steps.JobStep.{JobStep}
use Rattle.keel_machine.specs.declared.steps.ResumeStep.{ResumeStep}
use Rattle.keel_machine.specs.declared.steps.WriteStep.{WriteStep}
use Rattle.keel_machine.specs.Admission.{AdmitAnswers, admit_after, outcome_of, standing, without_outcome}
use Rattle.keel_machine.specs.Closing.{CloseAnswers, close_after}
use Rattle.keel_machine.specs.Crash.{CrashAnswers, crash_after}
use Rattle.keel_machine.specs.Flushing.{FlushAnswers, flush_after}
use Rattle.keel_machine.specs.Opening.{Found, OpenAnswers, open_after, finished}
use Rattle.keel_machine.specs.Reads.{GetAnswers, ScanAnswers}
use Rattle.keel_machine.specs.Resuming.{ResumeAnswers, resume_after}
use Rattle.keel_machine.specs.Starting.{StartAnswers, start_after}
use Rattle.keel_machine.specs.States.{State, with_device}
use Rattle.keel_machine.specs.Telling.{ArrangeAnswers, levels_view}
use Rattle.keel_machine.specs.WritingAfter.{WriteAnswers, write_after}
use Rattle.keel_draft.specs.Drafts.{Draft}

-- a call of the machine with its answer
pub data Event : Type 0 where
  Opening : Options → Result Found OpenRefusal → Event
  Admitting : Batch → Admit → Event
  Writing : Option ℕ → WriteStep → Event
  -- with the tables that the job has before it
  Resuming : List Draft → Option ℕ → ResumeStep → Event
  -- with the table that the job makes
  Flushing : Draft → Option ℕ → JobStep → Event
  TakingOutcome : ℕ → Outcome → Event
  Getting : List ℕ → Got → Event
  Scanning : List ℕ → List ℕ → Scanned → Event
  Listing : Result (List Entry) DiskError → Event
  TellingError : Option Failure → Event
  TellingLevels : LevelsView → Event
  Arranging : Rule → Result Bool OutOfMemory → Event
  -- what was picked, and what is left of the story, where anything is known of it
  Crashing : Pick → Option ℕ → Event
  -- a resume is asked for
  Starting : Start → Event
  -- the store is closed, with so many tickets that had no outcome
  ShuttingDown : ℕ → Event
  Finishing : Event

-- the files of the directory with their sizes, in the order of their printed names
pub record ListAnswers (s : State) (answer : Result (List Entry) DiskError) (device : Seen) : Type 0 where
  pub tells : IfOk answer (TellsListing s.device.told)
  pub order : IfOk answer IsListing
  pub quiet : IsQuiet s.device (disk_fault answer) device

-- each answer with its exact cause, and what the device then shows
abbrev pub Answers : State → Event → Seen → Type 0
Answers s (Opening options answer) device = OpenAnswers s answer device
Answers s (Admitting batch answer) device = AdmitAnswers s batch answer × (device ≡ s.device)
Answers s (Writing held step) device = WriteAnswers s held step device
Answers s (Resuming drafts held step) device = ResumeAnswers s drafts held step device
Answers s (Flushing draft held step) device = FlushAnswers s draft held step device
Answers s (TakingOutcome ticket outcome) device = (outcome ≡ outcome_of s ticket) × (device ≡ s.device)
Answers s (Getting key got) device = GetAnswers s key got device
Answers s (Scanning from to scanned) device = ScanAnswers s from to scanned device
Answers s (Listing answer) device = ListAnswers s answer device
Answers s (TellingError standing_error) device = (standing_error ≡ standing s) × (device ≡ s.device)
Answers s (TellingLevels view) device = (view ≡ levels_view s) × (device ≡ s.device)
Answers s (Arranging rule answer) device = ArrangeAnswers s rule answer device
Answers s (Crashing pick kept) device = CrashAnswers s pick kept device
Answers s (Starting start) device = StartAnswers s start × (device ≡ s.device)
Answers s (ShuttingDown tickets) device = CloseAnswers s tickets × (device ≡ s.device)
Answers s Finishing device = device ≡ s.device

-- the state behind the call, but for the device
abbrev pub behind : State → Event → State
behind s (Opening options answer) = open_after s options answer
behind s (Admitting batch answer) = admit_after s batch answer
behind s (Writing held step) = write_after s step
behind s (Resuming drafts held step) = resume_after s drafts step
behind s (Flushing draft held step) = flush_after s draft step
behind s (TakingOutcome ticket outcome) = without_outcome ticket s
behind s (Getting key got) = s
behind s (Scanning from to scanned) = s
behind s (Listing answer) = s
behind s (TellingError standing_error) = s
behind s (TellingLevels view) = s
behind s (Arranging rule answer) = s
behind s (Crashing pick kept) = crash_after s kept
behind s (Starting start) = start_after s start
behind s (ShuttingDown tickets) = close_after s
behind s Finishing = finished s

-- the state behind the call, with what the device then shows
abbrev pub after : State → Event → Seen → State
after s event device = with_device device (behind s event)

abbrev pub Turn : State → Event → State → Type 0
Turn s event next = Answers s event next.device × (next ≡ after s event next.device)

-- turns in order from one state to another
abbrev pub Turns : State → List Event → State → Type 0
Turns s [] last = last ≡ s
Turns s (event ∷ rest) last = (mid : State) × Turn s event mid × Turns mid rest last
