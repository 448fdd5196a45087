-- The count of forged images over the machine's turns.
use Rattle.std.proofs.Common.{◌≡◌, ◌⊎◌, inl, inr, ⊎_elim, ℕ, ◌-◌, ◌^◌, ◌<◌, ◌≤◌, Bool, true, false, List, [], ◌∷◌, Option, Some, None, Result, Ok, Err, refl, sym, ap, subst, ◌∙◌, arith}
use Rattle.keel_base.specs.Counts.{raised}
use Rattle.keel_base.specs.declared.failure.Fault.{Fault}
use Rattle.keel_base.specs.declared.memory.OutOfMemory.{OutOfMemory}
use Rattle.keel_base.specs.declared.op.Batch.{Batch}
use Rattle.keel_disk.specs.declared.change.Change.{Change}
use Rattle.keel_disk.specs.Told.{Told, Arranges, Changes, Crashes}
use Rattle.keel_disk.specs.declared.rule.Pick.{Pick}
use Rattle.keel_disk.specs.Seen.{Seen}
use Rattle.keel_machine.specs.declared.answers.Admit.{Admit}
use Rattle.keel_machine.specs.declared.answers.Admit.TheVariants as admit
use Rattle.keel_machine.specs.declared.steps.WriteStep.{WriteStep}
use Rattle.keel_machine.specs.declared.steps.WriteStep.TheVariants as step
use Rattle.keel_base.specs.declared.failure.Failure.{Failure}
use Rattle.keel_machine.specs.Admission.{admit_after, standing}
use Rattle.keel_machine.specs.Crash.{Leaves, CrashAnswers, crash_after}
use Rattle.keel_machine.specs.Outside.{as_answer}
use Rattle.keel_machine.specs.States.{State, Footing, Known, Unknown, Mode, Story, Resumption, Group, Act, with_device}
use Rattle.keel_machine.specs.Turns.{Event, Opening, Admitting, Writing, Resuming, Flushing, TakingOutcome, Getting, Scanning, Listing, TellingError, TellingLevels, Arranging, Crashing, Starting, ShuttingDown, Finishing, Answers, after}
use Rattle.keel_machine.specs.Starting.{group_turned, job_started, start_after}
use Rattle.keel_machine.specs.declared.answers.Start.{Start}
use Rattle.keel_machine.specs.declared.answers.Start.TheVariants as start
use Rattle.keel_machine.specs.Writing.{ready, change_of}
use Rattle.keel_machine.specs.WritingAfter.{WriteAnswers, MadeCall, call_done, call_failed, write_after}
use Rattle.keel_recovery.specs.Machine.{forged_of, IsCounted, FootingStays}
use Rattle.keel_machine.specs.declared.steps.ResumeStep.{ResumeStep}
use Rattle.keel_machine.specs.declared.steps.ResumeStep.TheVariants as resume_step
use Rattle.keel_machine.specs.declared.steps.JobStep.{JobStep}
use Rattle.keel_machine.specs.declared.steps.JobStep.TheVariants as job_step
use Rattle.keel_machine.specs.Flushing as flushing
use Rattle.keel_machine.specs.Telling.{ArrangeAnswers}
use Rattle.keel_machine.specs.Resuming as resuming
use Rattle.keel_draft.specs.Drafts.{Draft}
use Rattle.keel_disk.specs.declared.rule.Rule.{Rule}
use Rattle.keel_flush.specs.Plans.{Job as FlushJob}
use Rattle.keel_flush.specs.Plans as flush
use Rattle.keel_resume.specs.Plans as plans
use Rattle.keel_recovery.proofs.FlushKeeping.{done_beside, failed_beside}
use Rattle.keel_recovery.proofs.Machine.{got_quiet, scan_quiet}
use Rattle.keel_recovery.proofs.ResumeCalls.{footing_ready, failed_is}
use Rattle.keel_recovery.proofs.ResumeTurns.{footing_done}
use Rattle.keel_recovery.proofs.Unchanged.{unmoved_ready, unmoved_done, unmoved_failed}

-- ---- turns that count nothing

stays : (first : ℕ) (s next : State) → forged_of next.device.told ≡ forged_of s.device.told → next.footing ≡ s.footing → IsCounted first s → IsCounted first next
stays first s next forged footing h = record {
  least = omega (arith, h.least, forged);
  risen = ⊎_elim (λ known. inl (footing ∙ known)) (λ risen. inr (omega (arith, risen, forged))) h.risen;
}

same_told : (first : ℕ) (s next : State) → next.device.told ≡ s.device.told → next.footing ≡ s.footing → IsCounted first s → IsCounted first next
same_told first s next told footing h = stays first s next (ap forged_of told) footing h

-- a changing call keeps the count
call_keeps : (change : Change) (before : Option Told) (failed : Option Fault) (behind : Option Told) → Changes change before (as_answer failed) behind → forged_of behind ≡ forged_of before
call_keeps change None failed None h = refl
call_keeps change None failed (Some behind) h = absurd h
call_keeps change (Some before) failed None h = absurd h
call_keeps change (Some before) None (Some behind) h = h.2
call_keeps change (Some before) (Some fault) (Some behind) h = h.2

-- ---- a write step

made_keeps : (first : ℕ) (s next : State) (held : Option ℕ) (group : Group) (act : Act) (later : List Act) (failed : Option Fault) → MadeCall s held group act later failed next.device
    → next.footing ≡ s.footing → IsCounted first s → IsCounted first next
made_keeps first s next held group act later failed made footing h =
    stays first s next (call_keeps (change_of (ready s) group act) s.device.told failed next.device.told made.calls.step) footing h

done_footing : (s : State) → (call_done s).footing ≡ s.footing
done_footing s = (unmoved_done (ready s).jobs.write.running (ready s)).footing ∙ (unmoved_ready s.jobs.write.running s).footing

write_keeps : (first : ℕ) (s : State) (held : Option ℕ) (answer : WriteStep) (device : Seen) → WriteAnswers s held answer device → IsCounted first s → IsCounted first (with_device device (write_after s answer))
write_keeps first s held (step.Moved job call) device a h =
    made_keeps first s (with_device device (call_done s)) held a.group a.act (a.next ∷ a.later) None a.made (done_footing s) h
write_keeps first s held (step.Done job seq batches) device a h =
    made_keeps first s (with_device device (call_done s)) held a.group a.act [] None a.made (done_footing s) h
write_keeps first s held (step.Failed failure) device a h =
    made_keeps first s (with_device device (call_failed failure s)) held a.group a.act a.later (Some a.fault) a.made
    ((unmoved_failed (ready s).jobs.write.running failure (ready s)).footing ∙ (unmoved_ready s.jobs.write.running s).footing) h
write_keeps first s held (step.Turned batches failure) device a h = same_told first s _ a.quiet.same refl h
write_keeps first s held step.Idle device a h = same_told first s _ a.quiet.same refl h
write_keeps first s held (step.Full weight immutables) device a h = same_told first s _ a.quiet.same refl h
write_keeps first s held (step.Spent counter) device a h = same_told first s _ a.quiet.same refl h
write_keeps first s held (step.Cancelled job current) device a h = same_told first s _ a.quiet.same refl h
write_keeps first s held step.OutOfMemory device a h = same_told first s _ a.quiet.same refl h

-- ---- a resume step

resumed : (first : ℕ) (s next : State) (drafts : List Draft) (held : Option ℕ) (running : Resumption) (act : plans.Act) (later : List plans.Act) (failed : Option Fault)
    → resuming.MadeCall s drafts held running act later failed next.device → next.footing ≡ s.footing → IsCounted first s → IsCounted first next
resumed first s next drafts held running act later failed made footing h =
    stays first s next (call_keeps (plans.change_of running.job s.numbers.next_file act) s.device.told failed next.device.told made.calls.step) footing h

resume_keeps : (first : ℕ) (s : State) (drafts : List Draft) (held : Option ℕ) (answer : ResumeStep) (device : Seen) → resuming.ResumeAnswers s drafts held answer device → IsCounted first s
    → IsCounted first (with_device device (resuming.resume_after s drafts answer))
resume_keeps first s drafts held (resume_step.Moved job call) device a h =
    resumed first s (with_device device (resuming.call_done drafts s)) drafts held a.running a.act (a.next ∷ a.later) None a.made (footing_done s drafts held a.running a.act (a.next ∷ a.later) a.made.makes) h
resume_keeps first s drafts held (resume_step.Cleared job steps) device a h =
    resumed first s (with_device device (resuming.call_done drafts s)) drafts held a.running a.act [] None a.made (footing_done s drafts held a.running a.act [] a.made.makes) h
resume_keeps first s drafts held (resume_step.Failed failure) device a h =
    resumed first s (with_device device (resuming.call_failed drafts failure s)) drafts held a.running a.act a.later (Some a.fault) a.made
    (ap (λ (m : State). m.footing) (failed_is s drafts held a.running a.act a.later failure a.made.makes) ∙ footing_ready s.jobs.resume.running drafts s) h
resume_keeps first s drafts held resume_step.Idle device a h = same_told first s _ a.quiet.same refl h
resume_keeps first s drafts held (resume_step.Spent counter) device a h = same_told first s _ a.quiet.same refl h
resume_keeps first s drafts held (resume_step.Cancelled job current) device a h = same_told first s _ a.quiet.same refl h
resume_keeps first s drafts held resume_step.OutOfMemory device a h = same_told first s _ a.quiet.same refl h

-- ---- a flush step, and what is arranged

flushed : (first : ℕ) (s next : State) (draft : Draft) (held : Option ℕ) (job : FlushJob) (act : flush.Act) (later : List flush.Act) (failed : Option Fault)
    → flushing.MadeCall s draft held job act later failed next.device → next.footing ≡ s.footing → IsCounted first s → IsCounted first next
flushed first s next draft held job act later failed made footing h =
    stays first s next (call_keeps (flush.change_of job s.numbers.next_file s.numbers.manifest act) s.device.told failed next.device.told made.calls.step) footing h

flush_keeps : (first : ℕ) (s : State) (draft : Draft) (held : Option ℕ) (answer : JobStep) (device : Seen) → flushing.FlushAnswers s draft held answer device → IsCounted first s
    → IsCounted first (with_device device (flushing.flush_after s draft answer))
flush_keeps first s draft held (job_step.Moved number call) device a h =
    flushed first s (with_device device (flushing.call_done draft s)) draft held a.job a.act (a.next ∷ a.later) None a.made (done_beside s draft held a.job a.act (a.next ∷ a.later) a.made.makes).footing h
flush_keeps first s draft held (job_step.Done number) device a h =
    flushed first s (with_device device (flushing.call_done draft s)) draft held a.job a.act [] None a.made (done_beside s draft held a.job a.act [] a.made.makes).footing h
flush_keeps first s draft held (job_step.Failed failure) device a h =
    flushed first s (with_device device (flushing.call_failed draft failure s)) draft held a.job a.act a.later (Some a.fault) a.made (failed_beside s draft held a.job a.act a.later a.made.makes failure).footing h
flush_keeps first s draft held job_step.Idle device a h = same_told first s _ a.quiet.same refl h
flush_keeps first s draft held (job_step.Spent counter) device a h = same_told first s _ a.quiet.same refl h
flush_keeps first s draft held (job_step.Cancelled number current) device a h = same_told first s _ a.quiet.same refl h
flush_keeps first s draft held job_step.OutOfMemory device a h = same_told first s _ a.quiet.same refl h

-- the room may change, and the count doesn't
arranged_forged : (told : Option Told) (answer : Result Bool OutOfMemory) (after : Option Told) → Arranges told answer after → forged_of after ≡ forged_of told
arranged_forged None answer after same = ap forged_of same
arranged_forged (Some before) (Err want) after same = ap forged_of same
arranged_forged (Some before) (Ok false) after same = ap forged_of same
arranged_forged (Some before) (Ok true) None same = ap forged_of same
arranged_forged (Some before) (Ok true) (Some after) same = ap (λ (t : Told). t.forged) same

arranged_keeps : (first : ℕ) (s : State) (rule : Rule) (answer : Result Bool OutOfMemory) (device : Seen) → ArrangeAnswers s rule answer device → IsCounted first s → IsCounted first (with_device device s)
arranged_keeps first s rule answer device a h = stays first s (with_device device s) (arranged_forged s.device.told answer device.told a.told) refl h

-- ---- a crash

one_more : (first old new : ℕ) → first < 2 ^ 64 - 1 → first ≤ old → new ≡ raised old → first < new
one_more first old new bound least is = omega (arith, bound, least, is)

-- where it has risen, it stays so whatever a crash leaves
still_risen : (first : ℕ) (before behind : Option Told) → first < 2 ^ 64 - 1 → first < forged_of before → Crashes {E = OutOfMemory} before (Ok true) behind → first < forged_of behind
still_risen first None behind bound risen crash = absurd (omega (arith, risen))
still_risen first (Some before) None bound risen crash = cc
still_risen first (Some before) (Some behind) bound risen crash = ⊎_elim
    (λ plain. omega (arith, risen, plain.1))
    (λ forged. one_more first before.forged behind.forged bound (omega (arith, risen)) forged.1)
    crash.forged

-- a crash that leaves nothing known
lost_risen : (f : Footing) (m : Mode) (story : Story) (first : ℕ) (before behind : Option Told) → first < 2 ^ 64 - 1 → first ≤ forged_of before
    → (f ≡ Known) ⊎ (first < forged_of before) → Leaves f m story before None behind → first < forged_of behind
lost_risen Known m story first None None bound least risen left = absurd left
lost_risen Known m story first None (Some behind) bound least risen left = absurd left
lost_risen Known m story first (Some before) None bound least risen left = absurd left
lost_risen Known m story first (Some before) (Some behind) bound least risen left = one_more first before.forged behind.forged bound least left.counted
lost_risen Unknown m story first before behind bound least (inl known) left = cc
lost_risen Unknown m story first before behind bound least (inr risen) left = still_risen first before behind bound risen left

-- one that leaves a prefix
prefix_keeps : (f : Footing) (m : Mode) (story : Story) (count : ℕ) (before behind : Option Told) → Leaves f m story before (Some count) behind → forged_of behind ≡ forged_of before
prefix_keeps Unknown m story count before behind left = absurd left
prefix_keeps Known m story count None None left = absurd left
prefix_keeps Known m story count None (Some behind) left = absurd left
prefix_keeps Known m story count (Some before) None left = absurd left
prefix_keeps Known m story count (Some before) (Some behind) left = left.0.forged

crash_keeps : (first : ℕ) (s : State) (pick : Pick) (kept : Option ℕ) (device : Seen) → first < 2 ^ 64 - 1 → CrashAnswers s pick kept device → IsCounted first s → IsCounted first (with_device device (crash_after s kept))
crash_keeps first s pick (Some count) device bound a h =
    stays first s (with_device device (crash_after s (Some count))) (prefix_keeps s.footing s.mode s.story count s.device.told device.told a.leaves) refl h
crash_keeps first s pick None device bound a h =
    let risen : first < forged_of device.told = lost_risen s.footing s.mode s.story first s.device.told device.told bound h.least h.risen a.leaves in
    record { least = omega (arith, risen); risen = inr risen }

-- ---- every turn

admit_keeps : (first : ℕ) (s : State) (batch : Batch) (answer : Admit) (device : Seen) → device.told ≡ s.device.told → IsCounted first s → IsCounted first (with_device device (admit_after s batch answer))
admit_keeps first s batch (admit.Queued ticket) device same h = same_told first s _ same refl h
admit_keeps first s batch (admit.BadSize part size) device same h = same_told first s _ same refl h
admit_keeps first s batch admit.Closing device same h = same_told first s _ same refl h
admit_keeps first s batch admit.Booting device same h = same_told first s _ same refl h
admit_keeps first s batch (admit.Full weight immutables) device same h = same_told first s _ same refl h
admit_keeps first s batch (admit.Stopped failure) device same h = same_told first s _ same refl h
admit_keeps first s batch (admit.Spent counter) device same h = same_told first s _ same refl h
admit_keeps first s batch (admit.QueueFull waiting) device same h = same_told first s _ same refl h
admit_keeps first s batch admit.OutOfMemory device same h = same_told first s _ same refl h

start_keeps : (first : ℕ) (s : State) (start : Start) (device : Seen) → device.told ≡ s.device.told → IsCounted first s → IsCounted first (with_device device (start_after s start))
start_keeps first s start.Closing device same h = same_told first s _ same refl h
start_keeps first s start.Nothing device same h = same_told first s _ same refl h
start_keeps first s (start.Busy job) device same h = same_told first s _ same refl h
start_keeps first s (start.Beyond failure) device same h = same_told first s _ same refl h
start_keeps first s start.Cleared device same h = same_told first s _ same refl h
start_keeps first s (start.Spent counter) device same h = same_told first s _ same refl h
start_keeps first s (start.Started job) device same h = same_told first s _ same (footing_turned (standing s)) h
  where
    footing_turned : (failure : Option Failure) → (job_started (group_turned failure s)).footing ≡ s.footing
    footing_turned None = refl
    footing_turned (Some failure) = refl

answer_keeps : (first : ℕ) (s : State) (event : Event) (device : Seen) → first < 2 ^ 64 - 1 → Answers s event device → IsCounted first s → IsCounted first (after s event device)
answer_keeps first s (Opening options (Ok found)) device bound a h = same_told first s _ a.quiet.same refl h
answer_keeps first s (Opening options (Err refused_by)) device bound a h = same_told first s _ a.quiet.same refl h
answer_keeps first s (Admitting batch answer) device bound a h = admit_keeps first s batch answer device (ap (λ (d : Seen). d.told) a.1) h
answer_keeps first s (Writing held answer) device bound a h = write_keeps first s held answer device a h
answer_keeps first s (Resuming drafts held answer) device bound a h = resume_keeps first s drafts held answer device a h
answer_keeps first s (TakingOutcome ticket outcome) device bound a h = same_told first s _ (ap (λ (d : Seen). d.told) a.1) refl h
answer_keeps first s (Getting key got) device bound a h = same_told first s _ (got_quiet s key got device a) refl h
answer_keeps first s (Scanning from to scanned) device bound a h = same_told first s _ (scan_quiet s from to scanned device a) refl h
answer_keeps first s (Listing answer) device bound a h = same_told first s _ a.quiet.same refl h
answer_keeps first s (Flushing draft held answer) device bound a h = flush_keeps first s draft held answer device a h
answer_keeps first s (TellingError failure) device bound a h = same_told first s _ (ap (λ (d : Seen). d.told) a.1) refl h
answer_keeps first s (TellingLevels view) device bound a h = same_told first s _ (ap (λ (d : Seen). d.told) a.1) refl h
answer_keeps first s (Arranging rule answer) device bound a h = arranged_keeps first s rule answer device a h
answer_keeps first s (Crashing pick kept) device bound a h = crash_keeps first s pick kept device bound a h
answer_keeps first s (Starting start) device bound a h = start_keeps first s start device (ap (λ (d : Seen). d.told) a.1) h
answer_keeps first s (ShuttingDown tickets) device bound a h = same_told first s _ (ap (λ (d : Seen). d.told) a.1) refl h
answer_keeps first s Finishing device bound a h = same_told first s _ (ap (λ (d : Seen). d.told) a) refl h

pub footing_stays : FootingStays
footing_stays first s next event bound turn h = subst (IsCounted first) (sym turn.1) (answer_keeps first s event next.device bound turn.0 h)
