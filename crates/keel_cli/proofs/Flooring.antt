-- The number of the last op that must not be lost: no turn lowers it where a store is open, and no crash of a known device.
use Rattle.std.proofs.Common.{◌≡◌, ◌∙◌, ℕ, zero, suc, ◌+◌, ◌≤◌, ◌||◌, Bool, true, false, if◌then◌else◌, Option, None, Some, List, [], ◌∷◌, ◌++◌, length, take, Ok, Err, refl, ap, sym, subst, arith, take_all}
use Rattle.std.proofs.lemmas.List.{length-take}
use Rattle.keel_base.specs.Points.{Point}
use Rattle.keel_base.specs.declared.failure.Failure.{Failure}
use Rattle.keel_base.specs.declared.op.Batch.{Batch}
use Rattle.keel_base.specs.declared.op.Op.{Op}
use Rattle.keel_disk.specs.Told.{Told}
use Rattle.keel_disk.specs.Seen.{Seen}
use Rattle.keel_machine.specs.declared.answers.Admit.{Admit}
use Rattle.keel_machine.specs.declared.answers.Admit.TheVariants as admit
use Rattle.keel_machine.specs.declared.steps.ResumeStep.{ResumeStep}
use Rattle.keel_machine.specs.declared.steps.ResumeStep.TheVariants as boot_step
use Rattle.keel_machine.specs.declared.steps.WriteStep.{WriteStep}
use Rattle.keel_machine.specs.declared.steps.WriteStep.TheVariants as step
use Rattle.keel_machine.specs.Admission.{admit_after}
use Rattle.keel_disk.specs.Directory.{Named}
use Rattle.keel_disk.specs.Plain.{image_read}
use Rattle.keel_machine.specs.Crash.{has_story, LeavesOf, Leaves}
use Rattle.keel_machine.specs.Opening.{goes_on_from, story_opened, GoesOnWith, GoesOn}
use Rattle.keel_machine.specs.Resuming as boot
use Rattle.keel_draft.specs.Drafts.{Draft, count_ops}
use Rattle.keel_resume.specs.Plans as plans
use Rattle.keel_group.specs.Queue.{Ticketed}
use Rattle.keel_machine.specs.States.{State, Footing, Known, Unknown, Phase, Shut, Booting, Open, Leaving, Nothing, Crashed, Left, Mode, Story, Group, Act, CloseLog, MakeLog, SyncDirectory, AddRecords, SyncLog, Resumption, is_open, is_left, handed, published, cut_story, point_of, left_of, Closing, joined_story}
use Rattle.keel_machine.specs.Turns.{Event, Opening, Admitting, Writing as Makes, Resuming, Flushing, TakingOutcome, Getting, Scanning, Listing, TellingError, TellingLevels, Arranging, Crashing, Starting, Finishing, Turn, Answers, after, ShuttingDown}
use Rattle.keel_machine.specs.Writing.{started, started_or, ready}
use Rattle.keel_machine.specs.WritingAfter.{goes_on, switched, with_made, act_done, first_done, first_failed, group_done, group_failed, call_done, call_failed, write_after}
use Rattle.keel_recovery.specs.Machine.{MayCall}
use Rattle.keel_recovery.proofs.Numbering.{seq_folded, counted_append}
use Rattle.keel_recovery.proofs.Unchanged.{unmoved_ready, unmoved_done, unmoved_failed}
use Rattle.keel_cli.proofs.Beside.{beside, open_flushed}
use Rattle.keel_cli.proofs.Modes.{mode_written, open_resumed}
use Rattle.keel_cli.proofs.Starts.{open_started, still_there}

-- ---- ops of first batches

taken_within : (first : ℕ) (batches : List (List Op)) → count_ops (take first batches) ≤ count_ops batches
taken_within zero batches = omega arith
taken_within (suc first) [] = omega arith
taken_within (suc first) (ops ∷ batches) = omega (arith, taken_within first batches)

taken_grows : (first more : ℕ) (front rest : List (List Op)) → first ≤ more → count_ops (take first front) ≤ count_ops (take more (front ++ rest))
taken_grows zero more front rest fewer = omega arith
taken_grows (suc first) zero front rest fewer = absurd (omega (arith, fewer))
taken_grows (suc first) (suc more) [] rest fewer = omega arith
taken_grows (suc first) (suc more) (ops ∷ front) rest fewer = omega (arith, taken_grows first more front rest (omega (arith, fewer)))

-- ---- of a story

-- the number of the last op that must not be lost
abbrev pub firm_seq : Story → ℕ
firm_seq story = story.start.seq + count_ops (take story.floor story.log)

whole : (batches : List (List Op)) → count_ops (take (length batches) batches) ≡ count_ops batches
whole batches = ap count_ops (take_all (length batches) batches (omega arith))

pub firm_published : (sync : Bool) (story : Story) → firm_seq story ≤ firm_seq (published sync story)
firm_published false story = omega (arith, taken_grows story.floor story.floor story.log story.limbo (omega arith))
firm_published true story =
    omega (arith, taken_within story.floor story.log, whole (story.log ++ story.limbo), counted_append story.log story.limbo)

-- behind a sync it is the number of the last op that was published
pub published_firm : (story : Story) → (point_of story).seq + count_ops story.limbo ≡ firm_seq (published true story)
published_firm story = omega (arith, seq_folded story.start story.log, whole (story.log ++ story.limbo), counted_append story.log story.limbo)

firm_cleared : (story : Story) → firm_seq story ≤ firm_seq (boot.cleared_story story)
firm_cleared story = omega (arith, taken_within story.floor story.log, whole story.log)

firm_cut : (count : ℕ) (story : Story) → story.floor ≤ count → firm_seq story ≤ firm_seq (cut_story count story)
firm_cut count story enough =
    let all = story.log ++ story.limbo in
    let same : count_ops (take count (take count all)) ≡ count_ops (take count all) =
    ap count_ops (take_all count (take count all) (omega (arith, length-take count all))) in
    omega (arith, same, taken_grows story.floor count story.log story.limbo enough)

pub firm_last : (story : Story) → firm_seq story ≤ (point_of story).seq
firm_last story = omega (arith, taken_within story.floor story.log, seq_folded story.start story.log)

-- batches of limbo that an opening finds lower no number
firm_joined : (count : ℕ) (story : Story) → firm_seq story ≤ firm_seq (joined_story count story)
firm_joined count story = omega (arith, taken_grows story.floor story.floor story.log (take count story.limbo) (omega arith))

-- ---- of a write step

story_ready : (running : Option Group) (s : State) → (started_or running s).story ≡ s.story
story_ready None s = by s.writing.waiting
  where
    by : (waiting : List Ticketed) → (started waiting s).story ≡ s.story
    by [] = refl
    by (first ∷ rest) = refl
story_ready (Some group) s = refl

firm_goes_on : (sync : Bool) (group : Group) (later : List Act) (s : State) → firm_seq s.story ≤ firm_seq (goes_on sync group later s).story
firm_goes_on sync group [] s = firm_published sync s.story
firm_goes_on sync group (act ∷ later) s = omega arith

firm_switched : (log : Option ℕ) (group : Group) (later : List Act) (s : State) → firm_seq s.story ≤ firm_seq (goes_on false group later (switched log s)).story
firm_switched None group later s = firm_goes_on false group later s
firm_switched (Some number) group later s = firm_goes_on false group later (switched (Some number) s)

firm_act : (act : Act) (group : Group) (later : List Act) (s : State) → firm_seq s.story ≤ firm_seq (act_done act group later s).story
firm_act CloseLog group later s = firm_goes_on false group later s
firm_act MakeLog group [] s = firm_published false s.story
firm_act MakeLog group (act ∷ later) s = omega arith
firm_act SyncDirectory group later s = firm_switched group.progress.log (with_made None group) later s
firm_act AddRecords group [] s = firm_published false (handed _ s.story)
firm_act AddRecords group (act ∷ later) s = omega arith
firm_act SyncLog group later s = firm_goes_on true group later s

firm_first : (group : Group) (left : List Act) (s : State) → firm_seq s.story ≤ firm_seq (first_done group left s).story
firm_first group [] s = omega arith
firm_first group (act ∷ later) s = firm_act act group later s

firm_group : (running : Option Group) (s : State) → firm_seq s.story ≤ firm_seq (group_done running s).story
firm_group None s = omega arith
firm_group (Some group) s = firm_first group (left_of group) s

firm_first_failed : (group : Group) (left : List Act) (failure : Failure) (s : State) → firm_seq s.story ≤ firm_seq (first_failed group left failure s).story
firm_first_failed group [] failure s = omega arith
firm_first_failed group (CloseLog ∷ later) failure s = omega arith
firm_first_failed group (MakeLog ∷ later) failure s = omega arith
firm_first_failed group (SyncDirectory ∷ later) failure s = omega arith
firm_first_failed group (AddRecords ∷ later) failure s = omega arith
firm_first_failed group (SyncLog ∷ later) failure s = omega arith

firm_group_failed : (running : Option Group) (failure : Failure) (s : State) → firm_seq s.story ≤ firm_seq (group_failed running failure s).story
firm_group_failed None failure s = omega arith
firm_group_failed (Some group) failure s = firm_first_failed group (left_of group) failure s

firm_done : (s : State) → firm_seq s.story ≤ firm_seq (call_done s).story
firm_done s = omega (arith, ap firm_seq (story_ready s.jobs.write.running s), firm_group (ready s).jobs.write.running (ready s))

firm_failed : (failure : Failure) (s : State) → firm_seq s.story ≤ firm_seq (call_failed failure s).story
firm_failed failure s = omega (arith, ap firm_seq (story_ready s.jobs.write.running s), firm_group_failed (ready s).jobs.write.running failure (ready s))

pub firm_written : (s : State) (made : WriteStep) → firm_seq s.story ≤ firm_seq (write_after s made).story
firm_written s (step.Moved job call) = firm_done s
firm_written s (step.Done job seq batches) = firm_done s
firm_written s (step.Failed failure) = firm_failed failure s
firm_written s (step.Turned batches failure) = omega arith
firm_written s step.Idle = omega arith
firm_written s (step.Full active immutables) = omega arith
firm_written s (step.Spent counter) = omega arith
firm_written s (step.Cancelled job current) = omega arith
firm_written s step.OutOfMemory = omega arith

footing_done : (s : State) → (call_done s).footing ≡ s.footing
footing_done s = (unmoved_done (ready s).jobs.write.running (ready s)).footing ∙ (unmoved_ready s.jobs.write.running s).footing

footing_written : (s : State) (made : WriteStep) → (write_after s made).footing ≡ s.footing
footing_written s (step.Moved job call) = footing_done s
footing_written s (step.Done job seq batches) = footing_done s
footing_written s (step.Failed failure) = (unmoved_failed (ready s).jobs.write.running failure (ready s)).footing ∙ (unmoved_ready s.jobs.write.running s).footing
footing_written s (step.Turned batches failure) = refl
footing_written s step.Idle = refl
footing_written s (step.Full active immutables) = refl
footing_written s (step.Spent counter) = refl
footing_written s (step.Cancelled job current) = refl
footing_written s step.OutOfMemory = refl

-- ---- of a resume step

-- what a boot leaves alone, and that it lowers no number
pub record IsFirmer (s next : State) : Type 0 where
  pub footing : next.footing ≡ s.footing
  pub writing : next.writing ≡ s.writing
  pub group : next.jobs.write ≡ s.jobs.write
  pub firm : firm_seq s.story ≤ firm_seq next.story

same_boot : (s : State) → IsFirmer s s
same_boot s = record { footing = refl; writing = refl; group = refl; firm = omega arith }

boot_on : (s middle next : State) → IsFirmer s middle → IsFirmer middle next → IsFirmer s next
boot_on s middle next h k = record {
  footing = k.footing ∙ h.footing;
  writing = k.writing ∙ h.writing;
  group = k.group ∙ h.group;
  firm = omega (arith, h.firm, k.firm);
}

boot_ready : (running : Option Resumption) (drafts : List Draft) (s : State) → IsFirmer s (boot.started_or running drafts s)
boot_ready None drafts s = record { footing = refl; writing = refl; group = refl; firm = omega arith }
boot_ready (Some running) drafts s = same_boot s

boot_first : (running : Resumption) (left : List plans.Act) (s : State) → IsFirmer s (boot.first_done running left s)
boot_first running [] s = same_boot s
boot_first running (act ∷ []) s = record { footing = refl; writing = refl; group = refl; firm = firm_cleared s.story }
boot_first running (act ∷ next ∷ later) s = record { footing = refl; writing = refl; group = refl; firm = omega arith }

boot_done : (running : Option Resumption) (s : State) → IsFirmer s (boot.boot_done running s)
boot_done None s = same_boot s
boot_done (Some running) s = boot_first running (plans.left_of running.job) s

boot_first_failed : (job : plans.Job) (left : List plans.Act) (failure : Failure) (s : State) → IsFirmer s (boot.first_failed job left failure s)
boot_first_failed job [] failure s = same_boot s
boot_first_failed job (act ∷ later) failure s = record { footing = refl; writing = refl; group = refl; firm = omega arith }

boot_failed : (running : Option Resumption) (failure : Failure) (s : State) → IsFirmer s (boot.boot_failed running failure s)
boot_failed None failure s = same_boot s
boot_failed (Some running) failure s = boot_first_failed running.job (plans.left_of running.job) failure s

boot_called : (drafts : List Draft) (s : State) → IsFirmer s (boot.call_done drafts s)
boot_called drafts s =
    let at = boot.resume_ready drafts s in
    boot_on s at (boot.call_done drafts s) (boot_ready s.jobs.resume.running drafts s) (boot_done at.jobs.resume.running at)

pub firm_resumed : (s : State) (drafts : List Draft) (made : ResumeStep) → IsFirmer s (boot.resume_after s drafts made)
firm_resumed s drafts (boot_step.Moved job call) = boot_called drafts s
firm_resumed s drafts (boot_step.Cleared job steps) = boot_called drafts s
firm_resumed s drafts (boot_step.Failed failure) =
    let at = boot.resume_ready drafts s in
    boot_on s at (boot.call_failed drafts failure s) (boot_ready s.jobs.resume.running drafts s) (boot_failed at.jobs.resume.running failure at)
firm_resumed s drafts boot_step.Idle = same_boot s
firm_resumed s drafts (boot_step.Spent counter) = same_boot s
firm_resumed s drafts (boot_step.Cancelled job current) = same_boot s
firm_resumed s drafts boot_step.OutOfMemory = same_boot s

-- ---- an admission

pub firm_admitted : (s : State) (batch : Batch) (answer : Admit) → ((admit_after s batch answer).story ≡ s.story) × ((admit_after s batch answer).footing ≡ s.footing) × ((admit_after s batch answer).mode ≡ s.mode)
firm_admitted s batch (admit.Queued ticket) = (refl, refl, refl)
firm_admitted s batch (admit.BadSize part size) = (refl, refl, refl)
firm_admitted s batch admit.Closing = (refl, refl, refl)
firm_admitted s batch admit.Booting = (refl, refl, refl)
firm_admitted s batch (admit.Stopped failure) = (refl, refl, refl)
firm_admitted s batch (admit.Spent counter) = (refl, refl, refl)
firm_admitted s batch (admit.Full active immutables) = (refl, refl, refl)
firm_admitted s batch (admit.QueueFull waiting) = (refl, refl, refl)
firm_admitted s batch admit.OutOfMemory = (refl, refl, refl)

-- ---- a number that stays firm

-- Of a store that is open, or that was left, the story's firm number is that number at least. Before a first opening it
-- is none.
abbrev pub HeldBy : Bool → Leaving → ℕ → Story → Type 0
HeldBy true leaving number story = number ≤ firm_seq story
HeldBy false Crashed number story = number ≤ firm_seq story
HeldBy false Nothing number story = number ≡ 0
HeldBy false Left number story = number ≤ firm_seq story

-- so it is on a known footing
abbrev pub Held : ℕ → State → Type 0
Held number s = s.footing ≡ Known → HeldBy (is_open s.mode.phase) s.mode.left number s.story

pub held_open : (number : ℕ) (s : State) → is_open s.mode.phase ≡ true → s.footing ≡ Known → Held number s → number ≤ firm_seq s.story
held_open number s opened known held = subst (λ b. HeldBy b s.mode.left number s.story) opened (held known)

pub open_held : (number : ℕ) (s : State) → is_open s.mode.phase ≡ true → (s.footing ≡ Known → number ≤ firm_seq s.story) → Held number s
open_held number s opened held known = subst (λ b. HeldBy b s.mode.left number s.story) (sym opened) (held known)

still_held : (number : ℕ) (s next : State) → is_open s.mode.phase ≡ true → is_open next.mode.phase ≡ true → next.footing ≡ s.footing → firm_seq s.story ≤ firm_seq next.story → Held number s → Held number next
still_held number s next opened opens footing firm held =
    open_held number next opens (λ known. omega (arith, firm, held_open number s opened (sym footing ∙ known) held))

opened_firm : (left : Leaving) (footing : Footing) (number joined : ℕ) (story : Story) (point : Point) → footing ≡ Known → HeldBy false left number story
    → number ≤ firm_seq (story_opened (goes_on_from left footing) joined point story)
opened_firm Crashed Known number joined story point known held = omega (arith, held, firm_joined joined story)
opened_firm Crashed Unknown number joined story point known held = cc
opened_firm Left Known number joined story point known held = omega (arith, held, firm_joined joined story)
opened_firm Left Unknown number joined story point known held = cc
opened_firm Nothing footing number joined story point known held = omega (arith, held)

-- an opening that goes on with a story finds the last point of what it then publishes
goes_reaches : (number joined : ℕ) (story : Story) (point : Point) → number ≤ firm_seq story → GoesOn story joined point → number ≤ point.seq
goes_reaches number joined story point held goes =
    omega (arith, held, firm_joined joined story, firm_last (joined_story joined story), ap (λ (p : Point). p.seq) goes.point_is)

pub opened_reaches : (left : Leaving) (footing : Footing) (number joined : ℕ) (story : Story) (point : Point) → footing ≡ Known → HeldBy false left number story
    → GoesOnWith (goes_on_from left footing) story joined point → number ≤ point.seq
opened_reaches Crashed Known number joined story point known held goes = goes_reaches number joined story point held goes
opened_reaches Crashed Unknown number joined story point known held goes = cc
opened_reaches Left Known number joined story point known held goes = goes_reaches number joined story point held goes
opened_reaches Left Unknown number joined story point known held goes = cc
opened_reaches Nothing footing number joined story point known held goes = omega (arith, held)

crashed_held : (phase : Phase) (leaving : Leaving) (number count : ℕ) (story : Story) → ((is_open phase || is_left leaving) ≡ true → story.floor ≤ count) → HeldBy (is_open phase) leaving number story
    → HeldBy false (if is_open phase || is_left leaving then Crashed else Nothing) number (cut_story count story)
crashed_held Shut Nothing number count story least held = held
crashed_held Shut Crashed number count story least held = omega (arith, held, firm_cut count story (least refl))
crashed_held Shut Left number count story least held = omega (arith, held, firm_cut count story (least refl))
crashed_held Booting leaving number count story least held = omega (arith, held, firm_cut count story (least refl))
crashed_held Closing leaving number count story least held = omega (arith, held, firm_cut count story (least refl))
crashed_held Open leaving number count story least held = omega (arith, held, firm_cut count story (least refl))

prefix_least : (b : Bool) (count : ℕ) (story : Story) (image : Named (List ℕ)) → LeavesOf b count story image → b ≡ true → story.floor ≤ count
prefix_least true count story image prefix begun = prefix.not_lost
prefix_least false count story image prefix begun = cc

left_least : (footing : Footing) (mode : Mode) (story : Story) (count : ℕ) (before behind : Option Told) → Leaves footing mode story before (Some count) behind
    → has_story mode ≡ true → story.floor ≤ count
left_least Known mode story count (Some before) (Some behind) leaves begun = prefix_least (has_story mode) count story (image_read behind.state) leaves.1 begun
left_least Known mode story count None None leaves begun = absurd leaves
left_least Known mode story count None (Some behind) leaves begun = absurd leaves
left_least Known mode story count (Some before) None leaves begun = absurd leaves
left_least Unknown mode story count before behind leaves begun = absurd leaves

answer_held : (number : ℕ) (s : State) (event : Event) (device : Seen) → MayCall s event → Answers s event device → Held number s → Held number (after s event device)
answer_held number s (Opening options (Ok found)) device may a held = λ known.
    opened_firm s.mode.left s.footing number found.joined s.story found.point known (subst (λ b. HeldBy b s.mode.left number s.story) may (held known))
answer_held number s (Opening options (Err refused)) device may a held = held
answer_held number s (Admitting batch answer) device may a held =
    let same = firm_admitted s batch answer in
    still_held number s (after s (Admitting batch answer) device) may (ap (λ (m : Mode). is_open m.phase) same.2 ∙ may) same.1
    (omega (arith, ap firm_seq same.0)) held
answer_held number s (Makes written made) device may a held =
    still_held number s (after s (Makes written made) device) may (ap (λ (m : Mode). is_open m.phase) (mode_written s made) ∙ may) (footing_written s made)
    (firm_written s made) held
answer_held number s (Resuming drafts job made) device may a held =
    let more = firm_resumed s drafts made in
    still_held number s (after s (Resuming drafts job made) device) may (open_resumed s drafts made may) more.footing more.firm held
answer_held number s (Flushing draft job made) device may a held =
    let same = beside s draft made in
    still_held number s (after s (Flushing draft job made) device) may (open_flushed s draft made may) same.footing (omega (arith, ap firm_seq same.story)) held
answer_held number s (TakingOutcome ticket outcome) device may a held = held
answer_held number s (Getting key got) device may a held = held
answer_held number s (Scanning from to scanned) device may a held = held
answer_held number s (Listing answer) device may a held = held
answer_held number s (TellingError standing) device may a held = held
answer_held number s (TellingLevels view) device may a held = held
answer_held number s (Arranging rule answer) device may a held = held
answer_held number s (Crashing pick (Some count)) device may a held = λ known.
    crashed_held s.mode.phase s.mode.left number count s.story (left_least s.footing s.mode s.story count s.device.told device.told a.leaves) (held known)
answer_held number s (Crashing pick None) device may a held = λ known. cc
answer_held number s (Starting answer) device may a held =
    let same = still_there s answer in
    still_held number s (after s (Starting answer) device) may (open_started s answer may) same.footing (omega (arith, ap firm_seq same.story)) held
answer_held number s (ShuttingDown tickets) device may a held = still_held number s (after s (ShuttingDown tickets) device) may refl refl (omega arith) held
answer_held number s Finishing device may a held = λ known. held_open number s may known held

-- every turn keeps a firm number
pub keep_held : (number : ℕ) (old new : State) (event : Event) → MayCall old event → Turn old event new → Held number old → Held number new
keep_held number old new event may turn held = subst (Held number) (sym turn.1) (answer_held number old event new.device may turn.0 held)

known_before : (s : State) (event : Event) (device : Seen) → (after s event device).footing ≡ Known → s.footing ≡ Known
known_before s (Opening options (Ok found)) device known = known
known_before s (Opening options (Err refused)) device known = known
known_before s (Admitting batch answer) device known = sym (firm_admitted s batch answer).1 ∙ known
known_before s (Makes written made) device known = sym (footing_written s made) ∙ known
known_before s (Resuming drafts job made) device known = sym (firm_resumed s drafts made).footing ∙ known
known_before s (Flushing draft job made) device known = sym (beside s draft made).footing ∙ known
known_before s (TakingOutcome ticket outcome) device known = known
known_before s (Getting key got) device known = known
known_before s (Scanning from to scanned) device known = known
known_before s (Listing answer) device known = known
known_before s (TellingError standing) device known = known
known_before s (TellingLevels view) device known = known
known_before s (Arranging rule answer) device known = known
known_before s (Crashing pick (Some count)) device known = known
known_before s (Crashing pick None) device known = cc
known_before s (Starting answer) device known = sym (still_there s answer).footing ∙ known
known_before s (ShuttingDown tickets) device known = known
known_before s Finishing device known = known

-- what is known behind a turn was known before it
pub was_known : (old new : State) (event : Event) → Turn old event new → new.footing ≡ Known → old.footing ≡ Known
was_known old new event turn known = known_before old event new.device (subst (λ (s : State). s.footing ≡ Known) turn.1 known)
