-- A crash inside the call of a write step.
use Rattle.std.proofs.Common.{◌≡◌, inl, inr, ⊎_elim, ℕ, ◌≤◌, Bool, true, false, List, [], ◌∷◌, ◌++◌, length, take, Option, Some, None, refl, sym, ap, subst, ◌∙◌, arith, ◌+◌}
use Rattle.std.proofs.lemmas.List.{append-nil, length-append}
use Rattle.keel_base.specs.Points.{fold_batches}
use Rattle.keel_base.specs.declared.failure.Failure.{Failure}
use Rattle.keel_base.specs.declared.failure.Fault.{Fault}
use Rattle.keel_disk.specs.Directory.{Named}
use Rattle.keel_disk.specs.Told.{Told}
use Rattle.keel_group.specs.Queue.{Ticketed}
use Rattle.keel_machine.specs.Admission.{ops_of}
use Rattle.keel_machine.specs.States.{State, is_left, Known, Story, Group, Act, CloseLog, MakeLog, SyncDirectory, AddRecords, SyncLog, left_of, handed, published, Footing}
use Rattle.keel_machine.specs.Writing.{started, started_or, ready, change_of}
use Rattle.keel_machine.specs.WritingAfter.{switched, failure_of, first_done, group_done, first_failed, group_failed, call_done}
use Rattle.keel_recovery.specs.Machine.{IsStored, IsKept, story_behind, InsideStep}
use Rattle.keel_recovery.specs.Standing.{ReadsIn}
use Rattle.keel_recovery.proofs.Grouping.{group_done_stored}
use Rattle.keel_recovery.proofs.Inside.{call_leaves_prefix}
use Rattle.keel_disk.proofs.Staying.{one_stays}
use Rattle.keel_recovery.proofs.Ordering.{went_well}
use Rattle.keel_recovery.proofs.Kept.{stored_stands, stored_floor, kept_stands}
use Rattle.keel_recovery.proofs.WriteTurns.{below_of, gives_names, kept_open, ready_file}
use Rattle.keel_recovery.proofs.Covered.{OpenBy, covered_by}
use Rattle.keel_recovery.proofs.Turning.{ready_keeps}

-- ---- the story of a call that failed

-- It has the batches of the one behind an Ok, and asks for no more.
pub record AsksLess (ok failed : Story) : Type 0 where
  pub start : ok.start ≡ failed.start
  pub all : ok.log ++ ok.limbo ≡ failed.log ++ failed.limbo
  pub floor : failed.floor ≤ ok.floor

less_same : (story : Story) → AsksLess story story
less_same story = record { start = refl; all = refl; floor = omega arith }

less_published : (sync : Bool) (story : Story) → story.floor ≤ length story.log → AsksLess (published sync story) story
less_published true story within = record { start = refl; all = append-nil (story.log ++ story.limbo); floor = omega (arith, within, length-append story.log story.limbo) }
less_published false story within = record { start = refl; all = append-nil (story.log ++ story.limbo); floor = omega arith }

switched_story : (drawn : Option ℕ) (s : State) → (switched drawn s).story ≡ s.story
switched_story None s = refl
switched_story (Some number) s = refl

less_asked : (group : Group) (calls : List Act) (failure : Failure) (s : State) → s.story.floor ≤ length s.story.log → AsksLess (first_done group calls s).story (first_failed group calls failure s).story
less_asked group [] failure s within = less_same s.story
less_asked group (CloseLog ∷ []) failure s within = less_published false s.story within
less_asked group (CloseLog ∷ next ∷ later) failure s within = less_same s.story
less_asked group (MakeLog ∷ []) failure s within = less_published false s.story within
less_asked group (MakeLog ∷ next ∷ later) failure s within = less_same s.story
less_asked group (SyncDirectory ∷ []) failure s within =
    subst (λ (story : Story). AsksLess (published false story) s.story) (sym (switched_story group.progress.log s)) (less_published false s.story within)
less_asked group (SyncDirectory ∷ next ∷ later) failure s within = subst (λ (story : Story). AsksLess story s.story) (sym (switched_story group.progress.log s)) (less_same s.story)
less_asked group (AddRecords ∷ []) failure s within = less_published false (handed (ops_of group.batches) s.story) within
less_asked group (AddRecords ∷ next ∷ later) failure s within = less_same (handed (ops_of group.batches) s.story)
less_asked group (SyncLog ∷ []) failure s within = less_published true s.story within
less_asked group (SyncLog ∷ next ∷ later) failure s within = less_same s.story

-- so a prefix of the one is a prefix of the other
pub reads_less : (ok failed : Story) (image : Named (List ℕ)) → AsksLess ok failed → ReadsIn ok ok.floor image → ReadsIn failed failed.floor image
reads_less ok failed image h (point, reads, at) =
    let size : length ok.log + length ok.limbo ≡ length failed.log + length failed.limbo =
    omega (arith, ap length h.all, length-append ok.log ok.limbo, length-append failed.log failed.limbo) in (
      point,
      reads,
      record {
        count = at.count;
        enough = omega (arith, at.enough, h.floor);
        within = omega (arith, at.within, size);
        point_is = at.point_is ∙ (λ i. fold_batches (h.start i) (take at.count (h.all i)));
      },
    )

-- ---- a write step

story_started : (waiting : List Ticketed) (s : State) → (started waiting s).story ≡ s.story
story_started [] s = refl
story_started (first ∷ rest) s = refl

story_ready : (running : Option Group) (s : State) → (started_or running s).story ≡ s.story
story_ready None s = story_started s.writing.waiting s
story_ready (Some group) s = refl

-- the story that an Ok would leave, as far as the call that was answered so leaves its batches
behind_answer : (failed : Option Fault) (s : State) (group : Group) (image : Named (List ℕ)) → (ready s).jobs.write.running ≡ Some group → (ready s).story.floor ≤ length (ready s).story.log
    → ReadsIn (call_done s).story (call_done s).story.floor image → ReadsIn (story_behind s failed) (story_behind s failed).floor image
behind_answer None s group image runs within reads = reads
behind_answer (Some fault) s group image runs within reads =
    let failure = failure_of fault in
    let less : AsksLess (call_done s).story (story_behind s (Some fault)) =
    subst (λ (running : Option Group). AsksLess (group_done running (ready s)).story (group_failed running failure (ready s)).story) (sym runs) (less_asked group (left_of group) failure (ready s) within) in
    reads_less (call_done s).story (story_behind s (Some fault)) image less reads

pub inside_step : InsideStep
inside_step s told held group act later failed device is known h tells made image mid =
    let kept : IsKept told.state s = (kept_open s.mode.phase (is_left s.mode.left) told.state s held group made.makes.no_rest is made.makes.group_is (subst (λ (t : Option Told). OpenBy Known t s) tells (subst (λ (f : Footing). OpenBy f s.device.told s) known (covered_by s h)))).1 in
    let at = ready s in
    let stored : IsStored told.state at = ready_keeps told.state s held made.makes.no_rest kept.stored in
    let within = stored_floor told.state at stored in
    ⊎_elim (λ before. inl before) (λ behind. inr (behind_answer failed s group image made.makes.group_is within behind))
    (call_leaves_prefix told.state (change_of at group act) s.story (call_done s).story (kept_stands told.state s kept)
    (λ after did. stored_stands after (call_done s)
    (one_stays (change_of at group act) went_well told.state after (gives_names s held group act later failed device made (omega (arith, kept.numbered, ready_file s))) kept.one_to_one did)
    (group_done_stored at group act later made.makes.group_is made.makes.next (λ rest left. below_of s held group rest made.makes.no_rest made.makes.group_is left) told.state after kept.one_to_one kept.cuts stored did))
    image mid)
