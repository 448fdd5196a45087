-- A store that has the last write of a key in its log, and none of the key behind it: each turn keeps it so.
use Rattle.std.proofs.Common.{◌≡◌, ◌∙◌, ℕ, zero, suc, ◌+◌, ◌≤◌, ◌||◌, Bool, true, false, if◌then◌else◌, Option, None, Some, List, [], ◌∷◌, ◌++◌, take, drop, nat_le, refl, sym, ap, subst, arith}
use Rattle.std.proofs.lemmas.Bool.{leb-true}
use Rattle.std.proofs.lemmas.List.{append-nil}
use Rattle.keel_base.specs.Points.{Point, fold_batches}
use Rattle.keel_base.specs.declared.failure.Failure.{Failure}
use Rattle.keel_base.specs.declared.op.Batch.{Batch}
use Rattle.keel_base.specs.declared.op.Op.{Op}
use Rattle.keel_base.specs.declared.options.Options.{Options}
use Rattle.keel_disk.specs.Seen.{Seen}
use Rattle.keel_group.specs.Forming.{next_size}
use Rattle.keel_group.specs.Queue.{Ticketed, batches_of}
use Rattle.keel_machine.specs.Admission.{ops_of, batches_of_group, queued}
use Rattle.keel_machine.specs.Flushing.{flush_after}
use Rattle.keel_machine.specs.Opening.{Found, GoesOn, opened, story_opened, goes_on_from, GoesOnWith}
use Rattle.keel_machine.specs.Resuming as boot
use Rattle.keel_machine.specs.States.{State, Footing, Known, Unknown, Phase, Shut, Booting, Open, Closing, Leaving, Nothing, Crashed, Left, Story, Group, Act, CloseLog, MakeLog, SyncDirectory, AddRecords, SyncLog, Resumption, Slot, Writing, is_open, is_left, left_of, cut_story, joined_story, point_of}
use Rattle.keel_machine.specs.Writing.{ready, started, started_or}
use Rattle.keel_machine.specs.WritingAfter.{with_made, with_log, log_longer, file_drawn, switched, batches_handed, goes_on, act_done, act_failed, first_done, first_failed, group_done, group_failed, call_done, call_failed, queue_turned, write_after}
use Rattle.keel_machine.specs.declared.steps.JobStep.{JobStep}
use Rattle.keel_machine.specs.declared.steps.ResumeStep.{ResumeStep}
use Rattle.keel_machine.specs.declared.steps.ResumeStep.TheVariants as boot_step
use Rattle.keel_machine.specs.declared.steps.WriteStep.{WriteStep}
use Rattle.keel_machine.specs.declared.steps.WriteStep.TheVariants as step
use Rattle.keel_machine.specs.declared.answers.Start.{Start}
use Rattle.keel_machine.specs.Starting.{start_after}
use Rattle.keel_recovery.specs.Waiting.{ops_waiting}
use Rattle.keel_cli.proofs.Starts.{each_start}
use Rattle.keel_draft.specs.Drafts.{Draft}
use Rattle.keel_resume.specs.Plans as plans
use Rattle.keel_cli.specs.ReadClaim.{Acked, found_to}
use Rattle.keel_cli.proofs.Beside.{beside}
use Rattle.keel_cli.proofs.Ledger.{FreeOf, AllFree, free_append, free_none, Lasts, Logged, logged_append, lasts_take, lasts_append}

-- the log has the last write, and neither limbo nor the group in flight has another
pub record HasStory (key : List ℕ) (last : Option Acked) (s : State) : Type 0 where
  pub logged : Logged key last s.story.start s.story.log
  pub limbo : AllFree key last s.story.limbo
  pub group : AllFree key last (ops_of (batches_of_group s.jobs.write.running))

-- nor has the queue
pub record HasLast (key : List ℕ) (last : Option Acked) (s : State) : Type 0 where
  pub story : HasStory key last s
  pub waits : AllFree key last (ops_waiting s.writing.waiting)

pub story_none : (key : List ℕ) (s : State) → HasStory key None s
story_none key s = record { logged = tt; limbo = free_none key s.story.limbo; group = free_none key (ops_of (batches_of_group s.jobs.write.running)) }

pub last_none : (key : List ℕ) (s : State) → HasLast key None s
last_none key s = record { story = story_none key s; waits = free_none key (ops_waiting s.writing.waiting) }

module _ (key : List ℕ) (last : Option Acked) where
  -- ---- write steps

  story_goes_on : (sync : Bool) (group : Group) (later : List Act) (s : State) → Logged key last s.story.start s.story.log → AllFree key last s.story.limbo
      → AllFree key last (ops_of group.batches) → HasStory key last (goes_on sync group later s)
  story_goes_on sync group [] s logged limbo free = record {
    logged = logged_append key last s.story.start s.story.log s.story.limbo logged limbo;
    limbo = tt;
    group = tt;
  }
  story_goes_on sync group (act ∷ later) s logged limbo free = record { logged = logged; limbo = limbo; group = free }

  story_switched : (log : Option ℕ) (group : Group) (later : List Act) (s : State) → Logged key last s.story.start s.story.log → AllFree key last s.story.limbo
      → AllFree key last (ops_of group.batches) → HasStory key last (goes_on false (with_made None group) later (switched log s))
  story_switched None group later s logged limbo free = story_goes_on false (with_made None group) later s logged limbo free
  story_switched (Some number) group later s logged limbo free = story_goes_on false (with_made None group) later (switched (Some number) s) logged limbo free

  module _ (group : Group) (s : State) (logged : Logged key last s.story.start s.story.log) (limbo : AllFree key last s.story.limbo) (free : AllFree key last (ops_of group.batches)) where
    story_act : (act : Act) (later : List Act) → HasStory key last (act_done act group later s)
    story_act CloseLog later = story_goes_on false group later s logged limbo free
    story_act MakeLog later = story_goes_on false (with_made (Some s.numbers.next_file) group) later (file_drawn s) logged limbo free
    story_act SyncDirectory later = story_switched group.progress.log group later s logged limbo free
    story_act AddRecords later =
        story_goes_on false (record group { batches = [] }) later (batches_handed group (with_log (log_longer _ s.segments.active.log) s)) logged
        (free_append key last s.story.limbo (ops_of group.batches) limbo free) tt
    story_act SyncLog later = story_goes_on true group later s logged limbo free

    story_act_failed : (act : Act) (failure : Failure) → HasStory key last (act_failed act group failure s)
    story_act_failed CloseLog failure = record { logged = logged; limbo = limbo; group = tt }
    story_act_failed MakeLog failure = record { logged = logged; limbo = limbo; group = tt }
    story_act_failed SyncDirectory failure = record { logged = logged; limbo = limbo; group = tt }
    story_act_failed AddRecords failure =
        record { logged = logged; limbo = free_append key last s.story.limbo (ops_of group.batches) limbo free; group = tt }
    story_act_failed SyncLog failure = record { logged = logged; limbo = limbo; group = tt }

  story_first : (group : Group) (left : List Act) (s : State) → AllFree key last (ops_of group.batches) → HasStory key last s → HasStory key last (first_done group left s)
  story_first group [] s free has = has
  story_first group (act ∷ later) s free has = story_act group s has.logged has.limbo free act later

  pub story_group : (running : Option Group) (s : State) → s.jobs.write.running ≡ running → HasStory key last s → HasStory key last (group_done running s)
  story_group None s is has = has
  story_group (Some group) s is has =
      story_first group (left_of group) s (subst (λ (r : Option Group). AllFree key last (ops_of (batches_of_group r))) is has.group) has

  story_first_failed : (group : Group) (left : List Act) (failure : Failure) (s : State) → AllFree key last (ops_of group.batches) → HasStory key last s
      → HasStory key last (first_failed group left failure s)
  story_first_failed group [] failure s free has = has
  story_first_failed group (act ∷ later) failure s free has = story_act_failed group s has.logged has.limbo free act failure

  pub story_group_failed : (running : Option Group) (failure : Failure) (s : State) → s.jobs.write.running ≡ running → HasStory key last s → HasStory key last (group_failed running failure s)
  story_group_failed None failure s is has = has
  story_group_failed (Some group) failure s is has =
      story_first_failed group (left_of group) failure s (subst (λ (r : Option Group). AllFree key last (ops_of (batches_of_group r))) is has.group) has

  free_taken : (count : ℕ) (waiting : List Ticketed) → AllFree key last (ops_waiting waiting) → AllFree key last (ops_of (take count (batches_of waiting)))
  free_taken zero waiting free = tt
  free_taken (suc count) [] free = tt
  free_taken (suc count) (member ∷ waiting) free = (free.0, free_taken count waiting free.1)

  free_dropped : (count : ℕ) (waiting : List Ticketed) → AllFree key last (ops_waiting waiting) → AllFree key last (ops_waiting (drop count waiting))
  free_dropped zero waiting free = free
  free_dropped (suc count) [] free = tt
  free_dropped (suc count) (member ∷ waiting) free = free_dropped count waiting free.1

  last_started : (waiting : List Ticketed) (s : State) → AllFree key last (ops_waiting waiting) → HasLast key last s → HasLast key last (started waiting s)
  last_started [] s free has = has
  last_started (first ∷ rest) s free has =
      let all : List Ticketed = first ∷ rest in
      record {
        story = record { logged = has.story.logged; limbo = has.story.limbo; group = free_taken (next_size all) all free };
        waits = free_dropped (next_size all) all free;
      }

  last_ready : (running : Option Group) (s : State) → HasLast key last s → HasLast key last (started_or running s)
  last_ready None s has = last_started s.writing.waiting s has.waits has
  last_ready (Some group) s has = has

-- the queue is no part of a group's calls
same_switched : (log : Option ℕ) (group : Group) (later : List Act) (s : State) → (goes_on false (with_made None group) later (switched log s)).writing.waiting ≡ s.writing.waiting
same_switched None group [] s = refl
same_switched None group (act ∷ later) s = refl
same_switched (Some number) group [] s = refl
same_switched (Some number) group (act ∷ later) s = refl

same_first : (group : Group) (left : List Act) (s : State) → (first_done group left s).writing.waiting ≡ s.writing.waiting
same_first group [] s = refl
same_first group (CloseLog ∷ []) s = refl
same_first group (CloseLog ∷ next ∷ later) s = refl
same_first group (MakeLog ∷ []) s = refl
same_first group (MakeLog ∷ next ∷ later) s = refl
same_first group (SyncDirectory ∷ later) s = same_switched group.progress.log group later s
same_first group (AddRecords ∷ []) s = refl
same_first group (AddRecords ∷ next ∷ later) s = refl
same_first group (SyncLog ∷ []) s = refl
same_first group (SyncLog ∷ next ∷ later) s = refl

pub same_group : (running : Option Group) (s : State) → (group_done running s).writing.waiting ≡ s.writing.waiting
same_group None s = refl
same_group (Some group) s = same_first group (left_of group) s

same_first_failed : (group : Group) (left : List Act) (failure : Failure) (s : State) → (first_failed group left failure s).writing.waiting ≡ s.writing.waiting
same_first_failed group [] failure s = refl
same_first_failed group (CloseLog ∷ later) failure s = refl
same_first_failed group (MakeLog ∷ later) failure s = refl
same_first_failed group (SyncDirectory ∷ later) failure s = refl
same_first_failed group (AddRecords ∷ later) failure s = refl
same_first_failed group (SyncLog ∷ later) failure s = refl

pub same_group_failed : (running : Option Group) (failure : Failure) (s : State) → (group_failed running failure s).writing.waiting ≡ s.writing.waiting
same_group_failed None failure s = refl
same_group_failed (Some group) failure s = same_first_failed group (left_of group) failure s

module _ (key : List ℕ) (last : Option Acked) where
  last_done : (s : State) → HasLast key last s → HasLast key last (call_done s)
  last_done s has =
      let at = ready s in
      let is : HasLast key last at = last_ready key last s.jobs.write.running s has in
      record {
        story = story_group key last at.jobs.write.running at refl is.story;
        waits = subst (λ (w : List Ticketed). AllFree key last (ops_waiting w)) (sym (same_group at.jobs.write.running at)) is.waits;
      }

  last_failed : (failure : Failure) (s : State) → HasLast key last s → HasLast key last (call_failed failure s)
  last_failed failure s has =
      let at = ready s in
      let is : HasLast key last at = last_ready key last s.jobs.write.running s has in
      record {
        story = story_group_failed key last at.jobs.write.running failure at refl is.story;
        waits = subst (λ (w : List Ticketed). AllFree key last (ops_waiting w)) (sym (same_group_failed at.jobs.write.running failure at)) is.waits;
      }

  pub last_turned : (failure : Failure) (s : State) → HasStory key last s → HasLast key last (queue_turned failure s)
  last_turned failure s has = record { story = record { logged = has.logged; limbo = has.limbo; group = has.group }; waits = tt }

  pub last_written : (s : State) (made : WriteStep) → HasLast key last s → HasLast key last (write_after s made)
  last_written s (step.Moved job call) has = last_done s has
  last_written s (step.Done job seq batches) has = last_done s has
  last_written s (step.Failed failure) has = last_failed failure s has
  last_written s (step.Turned batches failure) has = last_turned failure s has.story
  last_written s step.Idle has = has
  last_written s (step.Full active immutables) has = has
  last_written s (step.Spent counter) has = has
  last_written s (step.Cancelled job current) has = has
  last_written s step.OutOfMemory has = has

  -- the device alone differs
  pub last_seen : (s : State) (device : Seen) → HasLast key last s → HasLast key last (record s { device = device })
  last_seen s device has = record { story = record { logged = has.story.logged; limbo = has.story.limbo; group = has.story.group }; waits = has.waits }

  free_joined : (waiting : List Ticketed) (ticket : ℕ) (batch : Batch) → AllFree key last (ops_waiting waiting) → FreeOf key last batch.ops
      → AllFree key last (ops_waiting (waiting ++ (record { ticket = ticket; batch = batch }) ∷ []))
  free_joined [] ticket batch free own = (own, tt)
  free_joined (member ∷ waiting) ticket batch free own = (free.0, free_joined waiting ticket batch free.1 own)

  -- a batch that leaves the key alone joins
  pub last_queued : (s : State) (batch : Batch) → FreeOf key last batch.ops → HasLast key last s → HasLast key last (queued batch s)
  last_queued s batch own has = record {
    story = record { logged = has.story.logged; limbo = has.story.limbo; group = has.story.group };
    waits = free_joined s.writing.waiting (s.writing.last_ticket + 1) batch has.waits own;
  }

  -- ---- resume steps

  boot_ready : (running : Option Resumption) (drafts : List Draft) (s : State) → HasLast key last s → HasLast key last (boot.started_or running drafts s)
  boot_ready None drafts s has = record { story = record { logged = has.story.logged; limbo = has.story.limbo; group = has.story.group }; waits = has.waits }
  boot_ready (Some running) drafts s has = has

  boot_first : (running : Resumption) (left : List plans.Act) (s : State) → HasLast key last s → HasLast key last (boot.first_done running left s)
  boot_first running [] s has = has
  boot_first running (act ∷ []) s has = record { story = record { logged = has.story.logged; limbo = tt; group = has.story.group }; waits = has.waits }
  boot_first running (act ∷ next ∷ later) s has = record { story = record { logged = has.story.logged; limbo = has.story.limbo; group = has.story.group }; waits = has.waits }

  boot_done : (running : Option Resumption) (s : State) → HasLast key last s → HasLast key last (boot.boot_done running s)
  boot_done None s has = has
  boot_done (Some running) s has = boot_first running (plans.left_of running.job) s has

  boot_first_failed : (job : plans.Job) (left : List plans.Act) (failure : Failure) (s : State) → HasLast key last s → HasLast key last (boot.first_failed job left failure s)
  boot_first_failed job [] failure s has = has
  boot_first_failed job (act ∷ later) failure s has = record { story = record { logged = has.story.logged; limbo = has.story.limbo; group = has.story.group }; waits = has.waits }

  boot_failed : (running : Option Resumption) (failure : Failure) (s : State) → HasLast key last s → HasLast key last (boot.boot_failed running failure s)
  boot_failed None failure s has = has
  boot_failed (Some running) failure s has = boot_first_failed running.job (plans.left_of running.job) failure s has

  boot_called : (drafts : List Draft) (s : State) → HasLast key last s → HasLast key last (boot.call_done drafts s)
  boot_called drafts s has =
      let at = boot.resume_ready drafts s in
      boot_done at.jobs.resume.running at (boot_ready s.jobs.resume.running drafts s has)

  pub last_resumed : (s : State) (drafts : List Draft) (made : ResumeStep) → HasLast key last s → HasLast key last (boot.resume_after s drafts made)
  last_resumed s drafts (boot_step.Moved job call) has = boot_called drafts s has
  last_resumed s drafts (boot_step.Cleared job steps) has = boot_called drafts s has
  last_resumed s drafts (boot_step.Failed failure) has =
      let at = boot.resume_ready drafts s in
      boot_failed at.jobs.resume.running failure at (boot_ready s.jobs.resume.running drafts s has)
  last_resumed s drafts boot_step.Idle has = has
  last_resumed s drafts (boot_step.Spent counter) has = has
  last_resumed s drafts (boot_step.Cancelled job current) has = has
  last_resumed s drafts boot_step.OutOfMemory has = has

  -- a resume is asked for, and no group may be in flight any more
  pub last_begun : (s : State) (answer : Start) → HasLast key last s → HasLast key last (start_after s answer)
  last_begun s answer has =
      each_start (HasLast key last) s answer has
      (record { story = record { logged = has.story.logged; limbo = has.story.limbo; group = has.story.group }; waits = has.waits })
      (record { story = record { logged = has.story.logged; limbo = has.story.limbo; group = tt }; waits = has.waits })
      (λ failure. record { story = record { logged = has.story.logged; limbo = has.story.limbo; group = tt }; waits = has.waits })

  -- a flush step is beside all that
  pub last_flushed : (s : State) (draft : Draft) (made : JobStep) → HasLast key last s → HasLast key last (flush_after s draft made)
  last_flushed s draft made has =
      let same = beside s draft made in
      record {
        story = record {
          logged = subst (λ (story : Story). Logged key last story.start story.log) (sym same.story) has.story.logged;
          limbo = subst (λ (story : Story). AllFree key last story.limbo) (sym same.story) has.story.limbo;
          group = subst (λ (slot : Slot Group). AllFree key last (ops_of (batches_of_group slot.running))) (sym same.group) has.story.group;
        };
        waits = subst (λ (w : Writing). AllFree key last (ops_waiting w.waiting)) (sym same.writing) has.waits;
      }

-- ---- where no store is open

-- behind a crash of a store the story is what was left, and has nothing in limbo
pub record HasLeft (key : List ℕ) (write : Acked) (story : Story) : Type 0 where
  pub lasts : Lasts key write story.start story.log
  pub none : story.limbo ≡ []

abbrev pub LeftWith : List ℕ → Option Acked → Story → Type 0
LeftWith key None story = Unit {0}
LeftWith key (Some write) story = HasLeft key write story

-- behind a close it has the last write, and what is in limbo leaves the key alone
pub record ClosedWith (key : List ℕ) (last : Option Acked) (story : Story) : Type 0 where
  pub logged : Logged key last story.start story.log
  pub limbo : AllFree key last story.limbo

abbrev pub HeldBy : List ℕ → Option Acked → Bool → Leaving → State → Type 0
HeldBy key last true leaving s = HasLast key last s
HeldBy key last false Crashed s = LeftWith key last s.story
HeldBy key last false Left s = ClosedWith key last s.story
HeldBy key last false Nothing s = last ≡ None

-- so it is on a known footing
abbrev pub Holds : List ℕ → Option Acked → State → Type 0
Holds key last s = s.footing ≡ Known → HeldBy key last (is_open s.mode.phase) s.mode.left s

pub holds_open : (key : List ℕ) (last : Option Acked) (s : State) → is_open s.mode.phase ≡ true → s.footing ≡ Known → Holds key last s → HasLast key last s
holds_open key last s opened known holds = subst (λ b. HeldBy key last b s.mode.left s) opened (holds known)

pub open_holds : (key : List ℕ) (last : Option Acked) (s : State) → is_open s.mode.phase ≡ true → (s.footing ≡ Known → HasLast key last s) → Holds key last s
open_holds key last s opened has known = subst (λ b. HeldBy key last b s.mode.left s) (sym opened) (has known)

held_none : (key : List ℕ) (b : Bool) (leaving : Leaving) (s : State) → HeldBy key None b leaving s
held_none key true leaving s = last_none key s
held_none key false Crashed s = tt
held_none key false Nothing s = refl
held_none key false Left s = record { logged = tt; limbo = free_none key s.story.limbo }

pub holds_none : (key : List ℕ) (s : State) → Holds key None s
holds_none key s = λ known. held_none key (is_open s.mode.phase) s.mode.left s

-- ---- a crash

pub closed_holds : (key : List ℕ) (last : Option Acked) {s : State} → HasStory key last s → ClosedWith key last s.story
closed_holds key last has = record { logged = has.logged; limbo = has.limbo }

crashed_closed : (key : List ℕ) (last : Option Acked) (count : ℕ) (story : Story) → ClosedWith key last story → LeftWith key last (cut_story count story)
crashed_closed key None count story has = tt
crashed_closed key (Some write) count story has = record {
  lasts = lasts_take key write count story.start (story.log ++ story.limbo) (lasts_append key write story.start story.log story.limbo has.logged.0 has.logged.1 has.limbo);
  none = refl;
}

crashed_from : (key : List ℕ) (last : Option Acked) (count : ℕ) (s : State) → HasStory key last s → LeftWith key last (cut_story count s.story)
crashed_from key last count s has = crashed_closed key last count s.story (closed_holds key last has)

crashed_again : (key : List ℕ) (last : Option Acked) (count : ℕ) (story : Story) → LeftWith key last story → LeftWith key last (cut_story count story)
crashed_again key None count story left = tt
crashed_again key (Some write) count story left =
    let same : story.log ++ story.limbo ≡ story.log = ap (λ (l : List (List Op)). story.log ++ l) left.none ∙ append-nil story.log in
    record {
      lasts = lasts_take key write count story.start (story.log ++ story.limbo) (subst (λ (l : List (List Op)). Lasts key write story.start l) (sym same) left.lasts);
      none = refl;
    }

pub crashed_holds : (key : List ℕ) (last : Option Acked) (phase : Phase) (leaving : Leaving) (count : ℕ) (s next : State) → next.story ≡ cut_story count s.story
    → HeldBy key last (is_open phase) leaving s → HeldBy key last false (if is_open phase || is_left leaving then Crashed else Nothing) next
crashed_holds key last Shut Nothing count s next story held = held
crashed_holds key last Shut Crashed count s next story held = subst (LeftWith key last) (sym story) (crashed_again key last count s.story held)
crashed_holds key last Shut Left count s next story held = subst (LeftWith key last) (sym story) (crashed_closed key last count s.story held)
crashed_holds key last Booting leaving count s next story held = subst (LeftWith key last) (sym story) (crashed_from key last count s held.story)
crashed_holds key last Closing leaving count s next story held = subst (LeftWith key last) (sym story) (crashed_from key last count s held.story)
crashed_holds key last Open leaving count s next story held = subst (LeftWith key last) (sym story) (crashed_from key last count s held.story)

-- ---- an opening

opens_with : (key : List ℕ) (write : Acked) (seq : ℕ) (options : Options) (found : Found) (s : State) (b : Bool) → nat_le write.number seq ≡ b
    → (b ≡ true → HasLast key (Some write) (opened options found s)) → HasLast key (if b then Some write else None) (opened options found s)
opens_with key write seq options found s true is has = has refl
opens_with key write seq options found s false is has = last_none key (opened options found s)

free_first : (key : List ℕ) (last : Option Acked) (count : ℕ) (batches : List (List Op)) → AllFree key last batches → AllFree key last (take count batches)
free_first key last zero batches free = tt
free_first key last (suc count) [] free = free
free_first key last (suc count) (ops ∷ batches) free = (free.0, free_first key last count batches free.1)

free_rest : (key : List ℕ) (last : Option Acked) (count : ℕ) (batches : List (List Op)) → AllFree key last batches → AllFree key last (drop count batches)
free_rest key last zero batches free = free
free_rest key last (suc count) [] free = free
free_rest key last (suc count) (ops ∷ batches) free = free_rest key last count batches free.1

-- the last write is in what an opening goes on with
joined_last : (key : List ℕ) (last : Option Acked) (options : Options) (found : Found) (s : State) (left : Leaving) → s.mode.left ≡ left → s.footing ≡ Known → goes_on_from left Known ≡ true
    → ClosedWith key last s.story → HasLast key last (opened options found s)
joined_last key last options found s left left_is known goes has =
    let same : (opened options found s).story ≡ joined_story found.joined s.story =
    ap (λ (l : Leaving). story_opened (goes_on_from l s.footing) found.joined found.point s.story) left_is
    ∙ (ap (λ (f : Footing). story_opened (goes_on_from left f) found.joined found.point s.story) known ∙ ap (λ (b : Bool). story_opened b found.joined found.point s.story) goes) in
    record {
      story = record {
        logged = subst (λ (story : Story). Logged key last story.start story.log) (sym same)
            (logged_append key last s.story.start s.story.log (take found.joined s.story.limbo) has.logged (free_first key last found.joined s.story.limbo has.limbo));
        limbo = subst (λ (story : Story). AllFree key last story.limbo) (sym same) (free_rest key last found.joined s.story.limbo has.limbo);
        group = tt;
      };
      waits = tt;
    }

-- behind a crash nothing is in limbo, so the point is the one of the log
left_reached : (key : List ℕ) (write : Acked) (joined seq : ℕ) (story : Story) (point : Point) → HasLeft key write story → GoesOn story joined point → point.seq ≡ seq → write.number ≤ seq
    → ClosedWith key (Some write) story
left_reached key write joined seq story point left goes seq_is reached =
    let none : take joined story.limbo ≡ [] = ap (take joined) left.none ∙ taken_none joined in
    let same : (point_of (joined_story joined story)).seq ≡ (fold_batches story.start story.log).seq =
    ap (λ (l : List (List Op)). (fold_batches story.start (story.log ++ l)).seq) none ∙ ap (λ (l : List (List Op)). (fold_batches story.start l).seq) (append-nil story.log) in
    record {
      logged = (left.lasts, omega (arith, reached, same, seq_is, ap (λ (p : Point). p.seq) goes.point_is));
      limbo = subst (AllFree key (Some write)) (sym left.none) tt;
    }
  where
    taken_none : (count : ℕ) → take count (let none : List (List Op) = [] in none) ≡ []
    taken_none zero = refl
    taken_none (suc count) = refl

opens_from : (key : List ℕ) (write : Acked) (seq : ℕ) (options : Options) (found : Found) (s : State) (left : Leaving) (footing : Footing) → s.mode.left ≡ left → s.footing ≡ footing → footing ≡ Known
    → HeldBy key (Some write) false left s → GoesOnWith (goes_on_from left footing) s.story found.joined found.point → found.point.seq ≡ seq → write.number ≤ seq
    → HasLast key (Some write) (opened options found s)
opens_from key write seq options found s Crashed Known left_is footing_is known held goes seq_is reached =
    joined_last key (Some write) options found s Crashed left_is footing_is refl (left_reached key write found.joined seq s.story found.point held goes seq_is reached)
opens_from key write seq options found s Left Known left_is footing_is known held goes seq_is reached = joined_last key (Some write) options found s Left left_is footing_is refl held
opens_from key write seq options found s Crashed Unknown left_is footing_is known held goes seq_is reached = cc
opens_from key write seq options found s Left Unknown left_is footing_is known held goes seq_is reached = cc
opens_from key write seq options found s Nothing footing left_is footing_is known held goes seq_is reached = cc

pub opens : (key : List ℕ) (last : Option Acked) (seq : ℕ) (options : Options) (found : Found) (s : State) → s.footing ≡ Known → HeldBy key last false s.mode.left s
    → GoesOnWith (goes_on_from s.mode.left s.footing) s.story found.joined found.point → found.point.seq ≡ seq → HasLast key (found_to seq last) (opened options found s)
opens key None seq options found s known held goes seq_is = last_none key (opened options found s)
opens key (Some write) seq options found s known held goes seq_is =
    opens_with key write seq options found s (nat_le write.number seq) refl
    (λ is. opens_from key write seq options found s s.mode.left s.footing refl refl known held goes seq_is (leb-true write.number seq is))
