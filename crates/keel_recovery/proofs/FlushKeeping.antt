-- A flush step leaves the device covered.
use Rattle.std.specs.Prelude.{not, ◌&&◌, ◌||◌, is_some, nat_le}
use Rattle.std.proofs.Common.{◌≡◌, inl, inr, ℕ, ◌+◌, ◌^◌, ◌<◌, ◌≤◌, Bool, true, false, if◌then◌else◌, List, [], ◌∷◌, length, Option, Some, None, option_map, refl, sym, ap, subst, ◌∙◌, arith}
use Rattle.std.proofs.lemmas.Bool.{leb-false, leb-true}
use Rattle.keel_base.specs.declared.failure.Counter.TheVariants.{FileNumber, JobNumber}
use Rattle.keel_base.specs.declared.failure.Failure.{Failure}
use Rattle.keel_base.specs.declared.failure.Fault.{Fault}
use Rattle.keel_disk.specs.State.{State as Disk}
use Rattle.keel_disk.specs.Seen.{Seen}
use Rattle.keel_disk.specs.Step.{DiskStep}
use Rattle.keel_disk.proofs.Staying.{GivesNames, one_stays, cuts_stay}
use Rattle.keel_draft.specs.Drafts.{Draft}
use Rattle.keel_flush.specs.Plans.{Act, AddPiece, MakeTable, SyncTable, SyncName, AppendEdit, SyncManifest, Job, change_of, draws, draws_next, failure_of, left_of, next_behind}
use Rattle.keel_machine.specs.declared.steps.JobStep.{JobStep}
use Rattle.keel_machine.specs.declared.steps.JobStep.TheVariants as step
use Rattle.keel_machine.specs.Admission.{standing, stopping}
use Rattle.keel_machine.specs.Flushing.{FlushAnswers, IsDraftFor, MadeCall, Makes, acts_of, call_done, call_failed, cancelled, first_done, first_failed, flush_after, flush_done, flush_failed, flush_ready, is_file_spent, is_start_spent, may_flush, started_or, writes}
use Rattle.keel_machine.specs.States.{State, Phase, Shut, Booting, Open, Closing, Mode, Resumption, Slot, Story, Writing, is_left, point_of, with_device}
use Rattle.keel_machine.specs.Tests.{differing, first_some, when}
use Rattle.keel_machine.proofs.FirstTests.{none_later, none_of, none_when}
use Rattle.keel_recovery.specs.Machine.{IsCovered, IsKept, IsStored, KeptBy}
use Rattle.keel_recovery.proofs.Covered.{as_it_is, call_keeps}
use Rattle.keel_recovery.proofs.FlushStored.{begun_stored, flush_done_stored, flush_failed_stored}
use Rattle.keel_batch.specs.Batches.{AreBatches}
use Rattle.keel_recovery.specs.Waiting.{ops_waiting}
use Rattle.keel_recovery.proofs.Listing.{TakesNone, listed_stays}
use Rattle.keel_recovery.proofs.NoCuts.{CutsNothing, no_cuts_stay}
use Rattle.keel_recovery.proofs.Ordering.{went_well, went_wrong}

-- what a flush step leaves as it was
pub record IsBeside (s next : State) : Type 0 where
  pub mode : next.mode ≡ s.mode
  pub footing : next.footing ≡ s.footing
  pub story : next.story ≡ s.story
  pub resume : next.jobs.resume ≡ s.jobs.resume
  pub started : next.jobs.started ≡ s.jobs.started
  pub writing : next.writing ≡ s.writing

beside_both : (s mid next : State) → IsBeside s mid → IsBeside mid next → IsBeside s next
beside_both s mid next a b = record { mode = b.mode ∙ a.mode; footing = b.footing ∙ a.footing; story = b.story ∙ a.story; resume = b.resume ∙ a.resume; started = b.started ∙ a.started; writing = b.writing ∙ a.writing }

-- a number may be drawn
next_more : (a : Act) (next : ℕ) → next ≤ next_behind a next
next_more a next = more (draws a)
  where
    more : (b : Bool) → next ≤ (if b then next + 1 else next)
    more true = omega arith
    more false = omega arith

-- what a store that writes keeps
kept_written : (phase : Phase) (left : Bool) (state : Disk) (n : State) → writes phase ≡ true → IsKept state n → KeptBy phase left state n
kept_written Shut left state n is h = absurd (never is)
  where
    never : false ≡ true → ⊥
    never e = cc
kept_written Booting left state n is h = absurd (never is)
  where
    never : false ≡ true → ⊥
    never e = cc
kept_written Closing left state n is h = absurd (never is)
  where
    never : false ≡ true → ⊥
    never e = cc
kept_written Open left state n is h = inl h

-- ---- in a step that makes a call

module _ (s : State) (draft : Draft) (held : Option ℕ) (job : Job) (act : Act) (later : List Act) (makes : Makes s draft held job act later) where
  abbrev at : State
  at = flush_ready draft s

  abbrev later_tests : List (Option JobStep)
  later_tests = when (not (may_flush s)) step.Idle ∷ when (is_start_spent s.jobs.flush.running s) (step.Spent JobNumber) ∷ when (is_file_spent at) (step.Spent FileNumber) ∷ []

  tests : first_some later_tests ≡ None
  tests = none_later (option_map (cancelled s) (differing held s.jobs.flush.number)) later_tests makes.no_rest

  flushes : may_flush s ≡ true
  flushes = by (may_flush s) (none_when (not (may_flush s)) step.Idle (none_of later_tests tests).0)
    where
      by : (b : Bool) → not b ≡ false → b ≡ true
      by true is = refl
      by false is = cc

  both : (a b : Bool) → (a && b) ≡ true → (a ≡ true) × (b ≡ true)
  both true true is = (refl, refl)
  both true false is = cc
  both false b is = cc

  pub open_phase : writes s.mode.phase ≡ true
  open_phase = (both (writes s.mode.phase) _ flushes).0

  calm : stopping s ≡ None
  calm = by (stopping s) (both _ _ (both (writes s.mode.phase) _ flushes).1).0
    where
      by : (o : Option Failure) → not (is_some o || (is_some (standing s) && not s.options.auto)) ≡ true → o ≡ None
      by None is = refl
      by (Some failure) is = cc

  some_full : 1 ≤ length s.segments.immutable
  some_full = leb-true 1 (length s.segments.immutable) (both _ _ (both (writes s.mode.phase) _ flushes).1).1

  same_in : (running : Option Job) → (started_or running draft s).numbers ≡ s.numbers
  same_in None = refl
  same_in (Some own) = refl

  pub same_numbers : at.numbers ≡ s.numbers
  same_numbers = same_in s.jobs.flush.running

  pub below : (rest : List Act) → left_of job ≡ MakeTable ∷ rest → at.numbers.next_file < 2 ^ 56
  below rest is =
      let spent = none_when (is_file_spent at) (step.Spent FileNumber) (none_of later_tests tests).1.1.0 in
      let drawn : draws_next (acts_of at.jobs.flush.running) ≡ true = ap (λ (o : Option Job). draws_next (acts_of o)) makes.running_is ∙ ap draws_next is in
      leb-false (2 ^ 56) at.numbers.next_file (by (draws_next (acts_of at.jobs.flush.running)) drawn spent)
    where
      by : (b : Bool) → b ≡ true → (b && nat_le (2 ^ 56) at.numbers.next_file) ≡ false → nat_le (2 ^ 56) at.numbers.next_file ≡ false
      by true is none = none
      by false is none = cc

  ready_stored : (state : Disk) → IsStored state s → IsStored state at
  ready_stored state h = by s.jobs.flush.running refl makes.draft_is
    where
      by : (running : Option Job) → s.jobs.flush.running ≡ running → IsDraftFor running s draft → IsStored state (started_or running draft s)
      by None runs new = begun_stored state s draft calm some_full new runs h
      by (Some own) runs same = h

  same_ready : (running : Option Job) → IsBeside s (started_or running draft s)
  same_ready None = record { mode = refl; footing = refl; story = refl; resume = refl; started = refl; writing = refl }
  same_ready (Some own) = record { mode = refl; footing = refl; story = refl; resume = refl; started = refl; writing = refl }

  acts_done : (acts : List Act) → IsBeside at (first_done job acts at)
  acts_done [] = record { mode = refl; footing = refl; story = refl; resume = refl; started = refl; writing = refl }
  acts_done (a ∷ []) = record { mode = refl; footing = refl; story = refl; resume = refl; started = refl; writing = refl }
  acts_done (a ∷ b ∷ rest) = record { mode = refl; footing = refl; story = refl; resume = refl; started = refl; writing = refl }

  acts_failed : (acts : List Act) (failure : Failure) → IsBeside at (first_failed job acts failure at)
  acts_failed [] failure = record { mode = refl; footing = refl; story = refl; resume = refl; started = refl; writing = refl }
  acts_failed (a ∷ rest) failure = record { mode = refl; footing = refl; story = refl; resume = refl; started = refl; writing = refl }

  -- nothing was asked for, since writes aren't stopped
  not_stopped : {P : Type 0} → is_some (stopping s) ≡ true → P
  not_stopped stopped = absurd (never (sym (ap (λ (o : Option Failure). is_some o) calm) ∙ stopped))
    where
      never : false ≡ true → ⊥
      never e = cc

  not_running : {P : Type 0} → at.jobs.flush.running ≡ None → P
  not_running none = absurd (never (sym makes.running_is ∙ none))
    where
      never : Some job ≡ None → ⊥
      never e = cc

  waits_on : (before next : State) → IsBeside before next → AreBatches (point_of before.story).seq (ops_waiting before.writing.waiting) → AreBatches (point_of next.story).seq (ops_waiting next.writing.waiting)
  waits_on before next beside waits =
      subst (λ (story : Story). AreBatches (point_of story).seq (ops_waiting next.writing.waiting)) (sym beside.story)
      (subst (λ (w : Writing). AreBatches (point_of before.story).seq (ops_waiting w.waiting)) (sym beside.writing) waits)

  cuts_nothing : CutsNothing (change_of job at.numbers.next_file at.numbers.manifest act)
  cuts_nothing = by act
    where
      by : (a : Act) → CutsNothing (change_of job at.numbers.next_file at.numbers.manifest a)
      by MakeTable = tt
      by (AddPiece bytes) = tt
      by SyncTable = tt
      by SyncName = tt
      by AppendEdit = tt
      by SyncManifest = tt

  takes_none : (state : Disk) → TakesNone (change_of job at.numbers.next_file at.numbers.manifest act) state
  takes_none state = by act
    where
      by : (a : Act) → TakesNone (change_of job at.numbers.next_file at.numbers.manifest a) state
      by MakeTable = tt
      by (AddPiece bytes) = tt
      by SyncTable = tt
      by SyncName = tt
      by AppendEdit = tt
      by SyncManifest = tt

  pub ready_kept : (state : Disk) → IsKept state s → IsKept state at
  ready_kept state h = record {
    one_to_one = h.one_to_one;
    cuts = h.cuts;
    uncut = h.uncut;
    listed = h.listed;
    numbered = subst (λ n. 1 ≤ n) (sym (ap (λ n. n.next_file) same_numbers)) h.numbered;
    calm = λ started. not_stopped (h.calm (sym (same_ready s.jobs.flush.running).started ∙ started)).stopped;
    waits = waits_on s at (same_ready s.jobs.flush.running) h.waits;
    none_boots = ap (λ (slot : Slot Resumption). slot.running) (same_ready s.jobs.flush.running).resume ∙ h.none_boots;
    stored = ready_stored state h.stored;
  }

  -- ---- the states behind it

  pub done_is : call_done draft s ≡ first_done job (left_of job) at
  done_is = ap (λ (o : Option Job). flush_done o at) makes.running_is

  pub failed_is : (failure : Failure) → call_failed draft failure s ≡ first_failed job (left_of job) failure at
  failed_is failure = ap (λ (o : Option Job). flush_failed o failure at) makes.running_is

  pub gives_names : 1 ≤ at.numbers.next_file → GivesNames (change_of job at.numbers.next_file at.numbers.manifest act)
  gives_names numbered = by act makes.next
    where
      by : (a : Act) → left_of job ≡ a ∷ later → GivesNames (change_of job at.numbers.next_file at.numbers.manifest a)
      by MakeTable is = record { least = numbered; most = omega (arith, below later is) }
      by (AddPiece bytes) is = tt
      by SyncTable is = tt
      by SyncName is = tt
      by AppendEdit is = tt
      by SyncManifest is = tt

  pub done_kept : (before behind : Disk) → IsKept before at → DiskStep before (change_of job at.numbers.next_file at.numbers.manifest act) went_well behind → IsKept behind (call_done draft s)
  done_kept before behind h step = subst (IsKept behind) (sym done_is) (record {
    one_to_one = one_stays (change_of job at.numbers.next_file at.numbers.manifest act) went_well before behind (gives_names h.numbered) h.one_to_one step;
    cuts = cuts_stay (change_of job at.numbers.next_file at.numbers.manifest act) went_well before behind h.one_to_one h.cuts step;
    uncut = no_cuts_stay (change_of job at.numbers.next_file at.numbers.manifest act) went_well before behind cuts_nothing h.uncut step;
    listed = listed_stays (change_of job at.numbers.next_file at.numbers.manifest act) went_well before behind (takes_none before) h.listed step;
    numbered = omega (arith, h.numbered, files_done (left_of job));
    calm = λ started. not_running (h.calm (sym (acts_done (left_of job)).started ∙ started)).no_flush;
    waits = waits_on at _ (acts_done (left_of job)) h.waits;
    none_boots = ap (λ (slot : Slot Resumption). slot.running) (acts_done (left_of job)).resume ∙ h.none_boots;
    stored = flush_done_stored at job act later makes.running_is makes.next h.numbered below before behind h.one_to_one h.cuts h.stored step;
  })
    where
      files_done : (acts : List Act) → at.numbers.next_file ≤ (first_done job acts at).numbers.next_file
      files_done [] = omega arith
      files_done (a ∷ []) = next_more a at.numbers.next_file
      files_done (a ∷ b ∷ rest) = next_more a at.numbers.next_file

  pub failed_kept : (fault : Fault) (before behind : Disk) → IsKept before at → DiskStep before (change_of job at.numbers.next_file at.numbers.manifest act) (went_wrong fault) behind → IsKept behind (call_failed draft (failure_of act fault) s)
  failed_kept fault before behind h step = subst (IsKept behind) (sym (failed_is (failure_of act fault))) (record {
    one_to_one = one_stays (change_of job at.numbers.next_file at.numbers.manifest act) (went_wrong fault) before behind (gives_names h.numbered) h.one_to_one step;
    cuts = cuts_stay (change_of job at.numbers.next_file at.numbers.manifest act) (went_wrong fault) before behind h.one_to_one h.cuts step;
    uncut = no_cuts_stay (change_of job at.numbers.next_file at.numbers.manifest act) (went_wrong fault) before behind cuts_nothing h.uncut step;
    listed = listed_stays (change_of job at.numbers.next_file at.numbers.manifest act) (went_wrong fault) before behind (takes_none before) h.listed step;
    numbered = omega (arith, h.numbered, files_failed (left_of job));
    calm = λ started. not_running (h.calm (sym (acts_failed (left_of job) (failure_of act fault)).started ∙ started)).no_flush;
    waits = waits_on at _ (acts_failed (left_of job) (failure_of act fault)) h.waits;
    none_boots = ap (λ (slot : Slot Resumption). slot.running) (acts_failed (left_of job) (failure_of act fault)).resume ∙ h.none_boots;
    stored = flush_failed_stored at job act later fault makes.running_is makes.next h.numbered below before behind h.one_to_one h.cuts h.stored step;
  })
    where
      files_failed : (acts : List Act) → at.numbers.next_file ≤ (first_failed job acts (failure_of act fault) at).numbers.next_file
      files_failed [] = omega arith
      files_failed (a ∷ rest) = next_more a at.numbers.next_file

  -- a flush step leaves what isn't about it
  pub done_beside : IsBeside s (call_done draft s)
  done_beside = subst (IsBeside s) (sym done_is) (beside_both s at (first_done job (left_of job) at) (same_ready s.jobs.flush.running) (acts_done (left_of job)))

  pub failed_beside : (failure : Failure) → IsBeside s (call_failed draft failure s)
  failed_beside failure = subst (IsBeside s) (sym (failed_is failure)) (beside_both s at (first_failed job (left_of job) failure at) (same_ready s.jobs.flush.running) (acts_failed (left_of job) failure))

  pub change_is : change_of job at.numbers.next_file at.numbers.manifest act ≡ change_of job s.numbers.next_file s.numbers.manifest act
  change_is = ap (λ n. change_of job n.next_file n.manifest act) same_numbers

  -- a store that flushes has cleared its boot
  pub while_open : (phase : Phase) (left : Bool) (state : Disk) → writes phase ≡ true → KeptBy phase left state s → IsKept state s
  while_open Shut left state is h = cc
  while_open Booting left state is h = cc
  while_open Closing left state is h = cc
  while_open Open left state is (inl h) = h
  while_open Open left state is (inr h) = not_stopped h.stopped

  kept_as : (m : Mode) (state : Disk) (n : State) → writes m.phase ≡ true → IsKept state n → KeptBy m.phase (is_left m.left) state n
  kept_as m state n is h = kept_written m.phase (is_left m.left) state n is h

  told_kept : (state : Disk) (n : State) (device : Seen) → IsKept state n → IsKept state (with_device device n)
  told_kept state n device h = record {
    one_to_one = h.one_to_one;
    cuts = h.cuts;
    uncut = h.uncut;
    listed = h.listed;
    numbered = h.numbered;
    none_boots = h.none_boots;
    calm = λ started. let c = h.calm started in record { no_group = c.no_group; no_flush = c.no_flush; stopped = c.stopped };
    waits = h.waits;
    stored = h.stored;
  }

  pub done_keeps : (device : Seen) → MadeCall s draft held job act later None device → IsCovered s → IsCovered (with_device device (call_done draft s))
  done_keeps device made h =
      call_keeps s (with_device device (call_done draft s)) (change_of job s.numbers.next_file s.numbers.manifest act) None made.calls done_beside.footing
      (λ before behind kept step. kept_as (call_done draft s).mode behind (with_device device (call_done draft s)) (ap (λ (m : Mode). writes m.phase) done_beside.mode ∙ open_phase)
      (told_kept behind (call_done draft s) device
      (done_kept before behind (ready_kept before (while_open s.mode.phase (is_left s.mode.left) before open_phase kept)) (subst (λ c. DiskStep before c went_well behind) (sym change_is) step)))) h

  pub failed_keeps : (fault : Fault) (device : Seen) → MadeCall s draft held job act later (Some fault) device → IsCovered s → IsCovered (with_device device (call_failed draft (failure_of act fault) s))
  failed_keeps fault device made h =
      let failure = failure_of act fault in
      call_keeps s (with_device device (call_failed draft failure s)) (change_of job s.numbers.next_file s.numbers.manifest act) (Some fault) made.calls (failed_beside failure).footing
      (λ before behind kept step. kept_as (call_failed draft failure s).mode behind (with_device device (call_failed draft failure s)) (ap (λ (m : Mode). writes m.phase) (failed_beside failure).mode ∙ open_phase)
      (told_kept behind (call_failed draft failure s) device
      (failed_kept fault before behind (ready_kept before (while_open s.mode.phase (is_left s.mode.left) before open_phase kept)) (subst (λ c. DiskStep before c (went_wrong fault) behind) (sym change_is) step)))) h

pub flush_keeps : (s : State) (draft : Draft) (held : Option ℕ) (answer : JobStep) (device : Seen) → FlushAnswers s draft held answer device → IsCovered s → IsCovered (with_device device (flush_after s draft answer))
flush_keeps s draft held (step.Moved number call) device a h = done_keeps s draft held a.job a.act (a.next ∷ a.later) a.made.makes device a.made h
flush_keeps s draft held (step.Done number) device a h = done_keeps s draft held a.job a.act [] a.made.makes device a.made h
flush_keeps s draft held (step.Failed failure) device a h =
    subst (λ (f : Failure). IsCovered (with_device device (call_failed draft f s))) (sym a.failure_is) (failed_keeps s draft held a.job a.act a.later a.made.makes a.fault device a.made h)
flush_keeps s draft held step.Idle device a h = as_it_is s device a.quiet.same h
flush_keeps s draft held (step.Spent counter) device a h = as_it_is s device a.quiet.same h
flush_keeps s draft held (step.Cancelled number current) device a h = as_it_is s device a.quiet.same h
flush_keeps s draft held step.OutOfMemory device a h = as_it_is s device a.quiet.same h
