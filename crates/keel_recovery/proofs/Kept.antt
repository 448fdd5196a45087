-- What is kept of the device of an open store gives what it stands for.
use Rattle.std.proofs.Common.{◌⊎◌, inl, inr, ℕ, ◌≤◌, List, [], ◌∷◌, ◌++◌, length, Option, Some, None}
use Rattle.keel_base.specs.declared.failure.Failure.{Failure}
use Rattle.keel_base.specs.declared.op.Op.{Op}
use Rattle.keel_directory.specs.TableFiles.{TableFile}
use Rattle.keel_disk.specs.Sound.{IsOneToOne}
use Rattle.keel_disk.specs.State.{State as Disk}
use Rattle.keel_group.specs.Queue.{Ticketed}
use Rattle.keel_flush.specs.Plans.{Job as FlushJob}
use Rattle.keel_manifest.specs.State.{ManifestState}
use Rattle.keel_machine.specs.Admission.{stopping}
use Rattle.keel_machine.specs.States.{State, Story, SegmentLog, Segment, Group}
use Rattle.keel_recovery.specs.Machine.{HoldsBy, IsStored, IsKept, IsTakenOver, IsBootingStore}
use Rattle.keel_recovery.specs.BootCalls.{BootKept}
use Rattle.keel_recovery.specs.Standing.{Stands}
use Rattle.keel_recovery.proofs.BootRolls.{booting_stands}
use Rattle.keel_recovery.proofs.Stands.{keeping_stands}

held_stands : (o : Option SegmentLog) (state : Disk) (levels : List TableFile) (story : Story) (immutable : List Segment) (batches : List (List Op)) (waiting : List Ticketed) (stops : Option Failure) (running : Option Group)
    (next_file in_tables : ℕ) (flush : Option FlushJob) (manifest : ManifestState) → IsOneToOne state → HoldsBy o state levels story immutable batches waiting stops running next_file in_tables flush manifest → Stands state story
held_stands None state levels story immutable batches waiting stops running next_file in_tables flush manifest one h = absurd h
held_stands (Some log) state levels story immutable batches waiting stops running next_file in_tables flush manifest one h = keeping_stands (h.way ∷ []) h.place (h.full ++ h.own ∷ []) levels story next_file state one h.keeps

floor_in : (o : Option SegmentLog) (state : Disk) (levels : List TableFile) (story : Story) (immutable : List Segment) (batches : List (List Op)) (waiting : List Ticketed) (stops : Option Failure) (running : Option Group)
    (next_file in_tables : ℕ) (flush : Option FlushJob) (manifest : ManifestState) → HoldsBy o state levels story immutable batches waiting stops running next_file in_tables flush manifest → story.floor ≤ length story.log
floor_in None state levels story immutable batches waiting stops running next_file in_tables flush manifest h = absurd h
floor_in (Some log) state levels story immutable batches waiting stops running next_file in_tables flush manifest h = h.keeps.stored.floor_within

pub stored_stands : (state : Disk) (s : State) → IsOneToOne state → IsStored state s → Stands state s.story
stored_stands state s one h =
    held_stands s.segments.active.log state s.levels s.story s.segments.immutable s.segments.active.batches s.writing.waiting (stopping s) s.jobs.write.running s.numbers.next_file s.numbers.in_tables s.jobs.flush.running s.numbers.manifest one h

pub stored_floor : (state : Disk) (s : State) → IsStored state s → s.story.floor ≤ length s.story.log
stored_floor state s h =
    floor_in s.segments.active.log state s.levels s.story s.segments.immutable s.segments.active.batches s.writing.waiting (stopping s) s.jobs.write.running s.numbers.next_file s.numbers.in_tables s.jobs.flush.running s.numbers.manifest h

pub kept_stands : (state : Disk) (s : State) → IsKept state s → Stands state s.story
kept_stands state s h = stored_stands state s h.one_to_one h.stored

pub boot_stands : (state : Disk) (s : State) → IsOneToOne state → BootKept s state → Stands state s.story
boot_stands state s one k = booting_stands k.bound k.old s.levels s.story s.numbers.next_file state one k.floor_within k.booting

pub booting_store_stands : (state : Disk) (s : State) → IsBootingStore state s → Stands state s.story
booting_store_stands state s h = boot_stands state s h.one_to_one h.kept

-- an open store, whether it writes or a resume took it over
pub open_one : (state : Disk) (s : State) → IsKept state s ⊎ IsTakenOver state s → IsOneToOne state
open_one state s (inl kept) = kept.one_to_one
open_one state s (inr taken) = taken.one_to_one

pub open_stands : (state : Disk) (s : State) → IsKept state s ⊎ IsTakenOver state s → Stands state s.story
open_stands state s (inl kept) = kept_stands state s kept
open_stands state s (inr taken) = boot_stands state s taken.one_to_one taken.kept
