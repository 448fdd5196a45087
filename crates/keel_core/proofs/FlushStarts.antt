-- The first step of a flush is that of the flush that it begins.
use Rattle.std.proofs.Common.{◌≡◌, ◌≢◌, ℕ, ◌+◌, ◌<◌, ◌≤◌, ◌^◌, not, nat_le, option_map, Bool, true, false, List, [], ◌∷◌, drop, length, Option, Some, None, Result, Ok, Err, refl, sym, ap, subst, ◌∙◌, arith}
use Rattle.std.specs.Prelude.{slice_get}
use Rattle.std.proofs.lemmas.List.{length-map}
use Rattle.keel_base.specs.declared.failure.Counter.TheVariants.{FileNumber, JobNumber}
use Rattle.keel_base.specs.declared.op.Op.{Op}
use Rattle.keel_base.specs.declared.row.Row.{Row}
use Rattle.keel_directory.specs.TableFiles.{TableFile}
use Rattle.keel_disk.specs.Seen.{Calls, Seen}
use Rattle.keel_draft.specs.Drafts.{Draft, IsDraftOf, IsTableFor, batch_rows}
use Rattle.keel_edit.specs.declared.edit.Added.{Added}
use Rattle.keel_flush.specs.Plans.{Job, change_of, job_of}
use Rattle.keel_levels.specs.declared.live.LiveTable.{LiveTable}
use Rattle.keel_machine.specs.declared.steps.JobStep.{JobStep}
use Rattle.keel_machine.specs.declared.steps.JobStep.TheVariants as step
use Rattle.keel_machine.specs.Flushing as machine
use Rattle.keel_machine.specs.Flushing.{FlushAnswers, IsNewTable, batches_of_first, first_log, flush_after, flush_done, flush_failed, flush_ready, flush_rest}
use Rattle.keel_machine.specs.Outside.{as_answer}
use Rattle.keel_machine.specs.States.{State, Segment, SegmentLog, with_device}
use Rattle.keel_machine.specs.Tests.{first_some, when, differing}
use Rattle.keel_machine.specs.Turns.{Answers, after}
use Rattle.keel_machine.specs.Turns as turns
use Rattle.keel_manifest.specs.State.{ManifestState}
use Rattle.keel_core.specs.declared.segments.Segment.{Segment as CoreSegment}
use Rattle.keel_core.specs.Segments.{segments_shown}
use Rattle.keel_core.specs.Flushes.{Advances, FlushesTurn, GoesOn, IsCall, IsNewFlush, IsTableOfFirst, MakesCall, flush_rest_of, log_in, may_flush, made_in, next_log, with_flush}
use Rattle.keel_core.specs.Views.{AreSegments, Beyond, Cleared, CoreView, Fits, FullSegment, IsOfFirst, StandsFor, last_in, state_of}
use Rattle.keel_core.proofs.BootCovers.{draft_is}
use Rattle.keel_core.proofs.FlushRests.{flush_rest_same, flush_wants}

module _ (s r : State) (draft : Draft) (p : flush_ready draft s ≡ flush_ready draft r) (files : r.numbers.next_file ≡ s.numbers.next_file) (manifests : r.numbers.manifest ≡ s.numbers.manifest) (same : r.device ≡ s.device)
    (held : Option ℕ) (none : flush_rest s draft held ≡ None) (is_draft : machine.IsDraftFor s.jobs.flush.running s draft) where
  makes_so : (job : Job) (act : _) (later : _) → machine.Makes r draft None job act later → machine.Makes s draft held job act later
  makes_so job act later m = record { no_rest = none; draft_is = is_draft; running_is = ap (λ (t : State). t.jobs.flush.running) p ∙ m.running_is; next = m.next }

  calls_so : (job : Job) (act : _) (answer : _) (device : Seen) → Calls r.device (change_of job r.numbers.next_file r.numbers.manifest act) answer device → Calls s.device (change_of job s.numbers.next_file s.numbers.manifest act) answer device
  calls_so job act answer device calls =
      subst (λ (m : ManifestState). Calls s.device (change_of job s.numbers.next_file m act) answer device) manifests
      (subst (λ n. Calls s.device (change_of job n r.numbers.manifest act) answer device) files
      (subst (λ (d : Seen). Calls d (change_of job r.numbers.next_file r.numbers.manifest act) answer device) same calls))

  answers_so : (made : JobStep) (device : Seen) → IsCall made → FlushAnswers r draft None made device → FlushAnswers s draft held made device
  answers_so (step.Moved number call) device is m = record {
    job = m.job;
    act = m.act;
    next = m.next;
    later = m.later;
    made = record { makes = makes_so m.job m.act _ m.made.makes; calls = calls_so m.job m.act (as_answer None) device m.made.calls };
    number_is = m.number_is ∙ ap (λ (t : State). t.jobs.flush.number) (sym p);
    call_is = m.call_is;
  }
  answers_so (step.Done number) device is m = record {
    job = m.job;
    act = m.act;
    made = record { makes = makes_so m.job m.act _ m.made.makes; calls = calls_so m.job m.act (as_answer None) device m.made.calls };
    number_is = m.number_is ∙ ap (λ (t : State). t.jobs.flush.number) (sym p);
  }
  answers_so (step.Failed failure) device is m = record {
    job = m.job;
    act = m.act;
    later = m.later;
    fault = m.fault;
    made = record { makes = makes_so m.job m.act _ m.made.makes; calls = calls_so m.job m.act (as_answer (Some m.fault)) device m.made.calls };
    failure_is = m.failure_is;
  }
  answers_so step.Idle device is m = absurd is
  answers_so (step.Spent counter) device is m = absurd is
  answers_so (step.Cancelled job current) device is m = absurd is
  answers_so step.OutOfMemory device is m = absurd is

  behind_so : (made : JobStep) → IsCall made → flush_after r draft made ≡ flush_after s draft made
  behind_so (step.Moved job call) is = ap (λ (t : State). flush_done t.jobs.flush.running t) (sym p)
  behind_so (step.Done job) is = ap (λ (t : State). flush_done t.jobs.flush.running t) (sym p)
  behind_so (step.Failed failure) is = ap (λ (t : State). flush_failed t.jobs.flush.running failure t) (sym p)
  behind_so step.Idle is = absurd is
  behind_so (step.Spent counter) is = absurd is
  behind_so (step.Cancelled job current) is = absurd is
  behind_so step.OutOfMemory is = absurd is

-- ---- the table of the oldest segment

no_batches : (seq : ℕ) (batches : List (List Op)) (rows : List Row) → rows ≡ batch_rows (seq + 1) batches → rows ≢ [] → 1 ≤ length batches
no_batches seq [] rows is some = absurd (some is)
no_batches seq (batch ∷ batches) rows is some = omega arith

-- what the machine asks of it
record IsFirstDraft (seq : ℕ) (segments : List Segment) (draft : Draft) : Type 0 where
  is : IsDraftOf seq (batches_of_first segments) draft
  some : 1 ≤ length (batches_of_first segments)
  ends : IsOfFirst seq draft.last segments

first_draft : (seq : ℕ) (fulls : List FullSegment) (segments : List Segment) (rows : List Row) (active : List (List Op)) (last : ℕ) (draft : Draft)
    → AreSegments seq fulls segments rows active last → IsTableOfFirst fulls draft → IsFirstDraft seq segments draft
first_draft seq [] segments rows active last draft h t = absurd t
first_draft seq (full ∷ fulls) [] rows active last draft h t = absurd h
first_draft seq (full ∷ fulls) (segment ∷ segments) rows active last draft h t =
    let is = draft_is seq segment.batches full.rows draft h.1 t.0 t.1 in
    record { is = is; some = no_batches seq segment.batches full.rows h.1 t.0; ends = is.last }

-- the log behind it
log_same : (seq : ℕ) (fulls : List FullSegment) (segments : List Segment) (rows : List Row) (active : List (List Op)) (last : ℕ) (log : Option SegmentLog)
    → AreSegments seq fulls segments rows active last → machine.log_in segments log ≡ log_in fulls log
log_same seq [] [] rows active last None h = refl
log_same seq [] [] rows active last (Some log) h = refl
log_same seq [] (segment ∷ segments) rows active last log h = absurd h
log_same seq (full ∷ fulls) [] rows active last log h = absurd h
log_same seq (full ∷ fulls) (segment ∷ segments) rows active last log h = ap first_log (sym h.0)

next_same : (seq : ℕ) (fulls : List FullSegment) (segments : List Segment) (rows : List Row) (active : List (List Op)) (last : ℕ) (log : Option SegmentLog)
    → AreSegments seq fulls segments rows active last → machine.log_in (drop 1 segments) log ≡ log_in (drop 1 fulls) log
next_same seq [] [] rows active last log h = log_same seq [] [] rows active last log h
next_same seq [] (segment ∷ segments) rows active last log h = absurd h
next_same seq (full ∷ fulls) [] rows active last log h = absurd h
next_same seq (full ∷ fulls) (segment ∷ segments) rows active last log h = log_same (seq + _) fulls segments rows active last log h.2

-- it is that of the first segment's rows
pub table_of_first : (segments : List CoreSegment) (first : CoreSegment) (draft : Draft) → Some first ≡ slice_get segments 0 → first.mem.rows ≢ [] → IsTableFor first.mem.rows draft
    → IsTableOfFirst (segments_shown segments) draft
table_of_first [] first draft is some table = absurd (cc is)
table_of_first (segment ∷ segments) first draft is some table =
    let same : first ≡ segment = cc is in
    subst (λ (s : CoreSegment). (s.mem.rows ≢ []) × IsTableFor s.mem.rows draft) same (some, table)

-- ---- the flush begins

module _ (view : CoreView) (draft : Draft) (is : IsTableOfFirst view.immutable draft) (few : length view.levels + 1 < 2 ^ 32) where
  abbrev before : CoreView
  before = record view { boot = Cleared; flush = None }

  abbrev begun : Job
  begun = job_of (next_log view) draft

  abbrev in_flush : CoreView
  in_flush = with_flush (view.flush_job + 1) begun before

  ready_same : (beyond : Beyond) → Fits before beyond → flush_ready draft (state_of before beyond) ≡ state_of in_flush beyond
  ready_same beyond fits =
      ap (λ n. record (state_of in_flush beyond) {
        jobs = record (state_of in_flush beyond).jobs { flush = record { number = view.flush_job + 1; running = Some (job_of n draft) } };
      }) (next_same beyond.in_tables view.immutable beyond.immutable view.rows beyond.active (last_in view) view.log fits.segments)

  first_of : (beyond : Beyond) → Fits before beyond → IsFirstDraft beyond.in_tables beyond.immutable draft
  first_of beyond fits = first_draft beyond.in_tables view.immutable beyond.immutable view.rows beyond.active (last_in view) draft fits.segments is

  new_table : (beyond : Beyond) → Fits before beyond → IsNewTable (state_of before beyond) draft
  new_table beyond fits =
      let many = ap (λ (l : List Added). length l) fits.tables in
      let lives = length-map view.levels (λ (live : LiveTable). live.entry) in
      let files = length-map beyond.levels (λ (t : TableFile). t.entry) in
      let first = first_of beyond fits in
      record { is = first.is; some = first.some; few = omega (arith, few, many, lives, files) }

  started : (made : JobStep) (new : CoreView) → IsCall made → MakesCall in_flush draft made new
      → (beyond : Beyond) (held : Option ℕ) → Fits before beyond → flush_rest (state_of before beyond) draft held ≡ None
      → flush_rest_of in_flush None ≡ None
      → Answers (state_of before beyond) (turns.Flushing draft held made) new.device × StandsFor new (after (state_of before beyond) (turns.Flushing draft held made) new.device)
  started made new is_call step_goes beyond held fits none rests_not =
      let s : State = state_of before beyond in
      let r : State = state_of in_flush beyond in
      let stood : StandsFor in_flush r = record {
        beyond = beyond;
        state_is = refl;
        fits = record {
          story = fits.story;
          segments = fits.segments;
          tables = fits.tables;
          opened = fits.opened;
          leads = fits.leads;
          handled = fits.handled;
          flushes = (first_of beyond fits).ends;
        };
      } in
      let rests : flush_rest r draft None ≡ None = flush_rest_same in_flush r draft None stood ∙ rests_not in
      let inner = step_goes.goes r None stood rests in
      let same = ready_same beyond fits in (
        answers_so s r draft same refl refl refl held none (new_table beyond fits) made new.device is_call inner.0,
        subst (λ (t : State). StandsFor new (with_device new.device t)) (behind_so s r draft same refl refl refl held none (new_table beyond fits) made is_call) inner.1,
      )

  -- where it may begin, no rest stands in the way of its first call
  rest_begun : (cancelled : Option JobStep) (may job file : Bool)
      → first_some (cancelled ∷ when (not may) step.Idle ∷ first_some (when job (step.Spent JobNumber) ∷ when file (step.Spent FileNumber) ∷ []) ∷ []) ≡ None
      → first_some (None ∷ when (not may) step.Idle ∷ first_some (when file (step.Spent FileNumber) ∷ []) ∷ []) ≡ None
  rest_begun (Some answer) may job file none = absurd (cc none)
  rest_begun None false job file none = absurd (cc none)
  rest_begun None true true file none = absurd (cc none)
  rest_begun None true false true none = absurd (cc none)
  rest_begun None true false false none = refl

  pub flush_starts : (held : Option ℕ) (made : JobStep) (new : CoreView) → IsCall made → MakesCall in_flush draft made new → flush_rest_of before held ≡ None → FlushesTurn before held made new
  flush_starts held made new is_call step_goes none = record {
    draft = draft;
    turn = record {
      goes = λ s stands.
          subst (λ (t : State). flush_rest t draft held ≡ None → Answers t (turns.Flushing draft held made) new.device × StandsFor new (after t (turns.Flushing draft held made) new.device)) (sym stands.state_is)
          (λ rest. started made new is_call step_goes stands.beyond held stands.fits rest
          (rest_begun (option_map (λ (job : ℕ). step.Cancelled job view.flush_job) (differing held view.flush_job)) (may_flush before) (nat_le (2 ^ 56) view.flush_job) (nat_le (2 ^ 56) view.next_file) none))
          (flush_rest_same before s draft held stands ∙ none);
    };
  }

-- a flush that runs
flush_goes_on : (view : CoreView) (draft : Draft) (held : Option ℕ) (made : JobStep) (new : CoreView) → MakesCall view draft made new → flush_rest_of view held ≡ None → FlushesTurn view held made new
flush_goes_on view draft held made new step_goes none = record {
  draft = draft;
  turn = record { goes = λ s stands. step_goes.goes s held stands (flush_rest_same view s draft held stands ∙ none) };
}

-- ---- what the code does

abbrev ready_in : CoreView → CoreView
ready_in view = record view { boot = Cleared; flush = None }

start_by : (view new : CoreView) (draft : Draft) (answer : Result JobStep Job) → IsTableOfFirst view.immutable draft → length view.levels + 1 < 2 ^ 32
    → Advances (ready_in view) (view.flush_job + 1) (job_of (next_log view) draft) answer new
    → (held : Option ℕ) → flush_rest_of (ready_in view) held ≡ None → FlushesTurn (ready_in view) held (made_in answer) new
start_by view new draft (Ok made) is few advanced held none = flush_starts view draft is few held made new advanced.0 advanced.1 none
start_by view new draft (Err same) is few advanced held none =
    subst (FlushesTurn (ready_in view) held step.OutOfMemory) (sym advanced.1.0) (flush_wants (ready_in view) new.device held none advanced.0)

pub start_goes : (view new : CoreView) (job : Job) (answer : Result JobStep Job) → view.boot ≡ Cleared → view.flush ≡ None → IsNewFlush view job
    → Advances view (view.flush_job + 1) job answer new → (held : Option ℕ) → flush_rest_of view held ≡ None → FlushesTurn view held (made_in answer) new
start_goes view new job answer cleared no_flush fresh advanced held none =
    let same : ready_in view ≡ view = λ i. record view { boot = sym cleared i; flush = sym no_flush i } in
    subst (λ (v : CoreView). FlushesTurn v held (made_in answer) new) same
    (start_by view new fresh.draft answer fresh.is fresh.few
    (subst (λ (j : Job). Advances (ready_in view) (view.flush_job + 1) j answer new) fresh.job_is
    (subst (λ (v : CoreView). Advances v (view.flush_job + 1) job answer new) (sym same) advanced))
    held (subst (λ (v : CoreView). flush_rest_of v held ≡ None) (sym same) none))

-- a flush that runs, whose number is so
pub on_made : (old new : CoreView) (number : ℕ) (job : Job) (made : JobStep) → number ≡ old.flush_job → Advances old number job (Ok made) new → GoesOn old job made new
on_made old new number job made is advanced = record {
  goes = λ held none.
      flush_goes_on (record old { flush = Some job }) job.draft held made new
      (subst (λ n. MakesCall (with_flush n job old) job.draft made new) is advanced.1) none;
}

-- it is put back where memory was wanting
pub on_want : (old new : CoreView) (number : ℕ) (job same : Job) → Advances old number job (Err same) new → GoesOn old job step.OutOfMemory (record new { flush = Some same })
on_want old new number job same advanced = record {
  goes = λ held none.
      subst (FlushesTurn (record old { flush = Some job }) held step.OutOfMemory)
      (λ i. record (sym advanced.1.0 i) { flush = Some (sym advanced.1.1 i) })
      (flush_wants (record old { flush = Some job }) new.device held none advanced.0);
}
