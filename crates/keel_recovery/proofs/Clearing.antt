-- A store whose boot has cleared is one that writes.
use Rattle.std.proofs.Common.{◌≡◌, ◌≤◌, true, false, List, [], ◌∷◌, ◌++◌, length, take, Option, Some, None, option_map, refl, sym, ap, subst, ◌∙◌, arith, take_all}
use Rattle.std.proofs.lemmas.List.{append-nil}
use Rattle.keel_base.specs.Points.{fold_batches}
use Rattle.keel_base.specs.declared.op.Op.{Op}
use Rattle.keel_disk.specs.State.{State as Disk}
use Rattle.keel_disk.specs.Steady.{CutsExist}
use Rattle.keel_disk.specs.Seen.{Seen}
use Rattle.keel_disk.specs.Sound.{IsOneToOne}
use Rattle.keel_group.specs.Queue.{Ticketed}
use Rattle.keel_flush.specs.Plans.{Job as FlushJob}
use Rattle.keel_machine.specs.Admission.{last_seq}
use Rattle.keel_machine.specs.Resuming.{cleared, cleared_story}
use Rattle.keel_machine.specs.States.{State, Story, point_of, SegmentLog, Group, new_log, with_device}
use Rattle.keel_batch.specs.Batches.{AreBatches}
use Rattle.keel_resume.specs.Plans.{Job}
use Rattle.keel_recovery.specs.BootTurns.{IsCleared, cleared_log}
use Rattle.keel_recovery.specs.Flushes.{HasFlush}
use Rattle.keel_recovery.specs.Machine.{IsKept, HoldsBy, IsAt, WhileItGoes}
use Rattle.keel_recovery.specs.Waiting.{AreOnTheirWay, ops_waiting}

on_way : (story : Story) (waiting : List Ticketed) (running : Option Group) → story.limbo ≡ [] → AreBatches (point_of story).seq (ops_waiting waiting) → running ≡ None → AreOnTheirWay story running waiting
on_way story waiting running none waits none_run =
    subst (λ (r : Option Group). AreOnTheirWay story r waiting) (sym none_run) (subst (λ (l : List (List Op)). AreBatches (point_of story).seq (l ++ ops_waiting waiting)) (sym none) waits)

-- what is cleared is what a store that writes keeps
pub clear_kept : (job : Job) (s : State) (device : Seen) (state : Disk) → IsOneToOne state → CutsExist state → 1 ≤ s.numbers.next_file → AreBatches (last_seq s) (ops_waiting s.writing.waiting) → s.jobs.started ≡ false → s.jobs.write.running ≡ None → s.jobs.flush.running ≡ None
    → IsCleared (cleared job s) state → IsKept state (with_device device (cleared job s))
clear_kept job s device state one cuts numbered waits unstarted none_runs none_flush h = record {
  one_to_one = one;
  cuts = cuts;
  numbered = numbered;
  uncut = h.uncut;
  listed = h.listed;
  none_boots = refl;
  calm = λ started. absurd (never (sym started ∙ unstarted));
  waits = waits;
  stored = by (option_map new_log job.progress.log) s.jobs.write.running h.log_is none_runs;
}
  where
    never : true ≡ false → ⊥
    never e = cc

    goes_in : (running : Option Group) {goes : Type 0} → goes → WhileItGoes running None goes
    goes_in None h = h
    goes_in (Some group) h = h

    by : (o : Option SegmentLog) (running : Option Group) → o ≡ Some (new_log h.log) → running ≡ None
        → HoldsBy o state (cleared job s).levels (cleared_story s.story) [] [] s.writing.waiting None running s.numbers.next_file (last_seq s) s.jobs.flush.running s.numbers.manifest
    by o running log none_too =
        subst (λ (l : Option SegmentLog). HoldsBy l state (cleared job s).levels (cleared_story s.story) [] [] s.writing.waiting None running s.numbers.next_file (last_seq s) s.jobs.flush.running s.numbers.manifest) (sym log)
        (record {
          way = h.way;
          place = length s.story.log;
          full = [];
          are_full = tt;
          own = cleared_log h.log (cleared job s);
          number_is = refl;
          batches_are = refl;
          keeps = h.keeps;
          reach = h.reach;
          tables_to = ap (λ (l : List (List Op)). (fold_batches s.story.start l).seq) (ap (take (length s.story.log)) (append-nil s.story.log) ∙ take_all (length s.story.log) s.story.log (omega arith));
          flushes = subst (λ (flush : Option FlushJob). HasFlush h.way (cleared job s).levels (last_seq s) (cleared_log h.log (cleared job s) ∷ []) None flush s.numbers.next_file s.numbers.manifest state) (sym none_flush) h.flushes;
          order = goes_in running (
            h.grows,
            subst (λ (r : Option Group). IsAt state (cleared_story s.story) s.numbers.next_file (cleared_log h.log (cleared job s)) r) (sym none_too) refl,
            on_way (cleared_story s.story) s.writing.waiting running refl waits none_too,
          );
        })
