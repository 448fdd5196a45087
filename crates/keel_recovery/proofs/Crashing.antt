-- A crash of the machine's device.
use Rattle.std.proofs.Common.{◌≡◌, ⊎_elim, ℕ, ◌≤◌, ◌||◌, Bool, true, false, if◌then◌else◌, List, [], ◌++◌, length, take, Option, Some, None, Ok, refl, sym, ap, subst, ◌∙◌, arith, take_all}
use Rattle.std.proofs.lemmas.List.{append-nil, length-append, length-take}
use Rattle.keel_base.specs.Points.{fold_batches}
use Rattle.keel_base.specs.declared.memory.OutOfMemory.{OutOfMemory}
use Rattle.keel_disk.specs.Directory.{Named}
use Rattle.keel_disk.specs.Image.{restarted}
use Rattle.keel_disk.specs.Plain.{PlainImage, image_read}
use Rattle.keel_disk.specs.State.{State as Disk}
use Rattle.keel_disk.specs.Sound.{IsOneToOne, IsAtRest}
use Rattle.keel_disk.specs.Told.{Told, Crashes, CrashedTo}
use Rattle.keel_disk.specs.declared.rule.Pick.{Pick}
use Rattle.keel_disk.specs.Seen.{Seen}
use Rattle.keel_machine.specs.Crash.{has_story, LeavesPlain, IsPrefix, LeavesOf, Leaves, CrashAnswers, mode_crashed, crash_after}
use Rattle.keel_machine.specs.States.{State, Footing, Known, Unknown, Phase, Shut, Booting, Open, Closing, Nothing, Crashed, is_open, is_left, Story, cut_story, point_of, with_device}
use Rattle.keel_directory.specs.Standing.{ReadsAs}
use Rattle.keel_recovery.specs.Leaving.{IsLeft}
use Rattle.keel_recovery.specs.Machine.{IsFirst, KeptBy, IsCoveredBy, IsCovered, CrashTurns}
use Rattle.keel_recovery.specs.Standing.{ReadsIn, Stands}
use Rattle.keel_recovery.proofs.Kept.{open_one, open_stands, booting_store_stands}
use Rattle.keel_disk.proofs.Resting.{rest_has_one}
use Rattle.keel_directory.specs.Reading.{IsReading}
use Rattle.keel_recovery.proofs.Crashed.{reading_leaves, read_restarted}
use Rattle.keel_recovery.proofs.LeftAtRest.{rest_left}
use Rattle.keel_recovery.proofs.Resting.{rest_stands}
use Rattle.keel_recovery.proofs.Restarted.{rests_behind}

-- ---- what a crash leaves is kept

-- where the directory of a device at rest reads as a first part of the story, the device stands for that part
prefix_left : (state : Disk) (count : ℕ) (story : Story) → IsAtRest state → IsPrefix count story (image_read state) → IsLeft state (cut_story count story)
prefix_left state count story rest is =
    let cut = cut_story count story in
    let all = story.log ++ story.limbo in
    let size : length (take count all) ≡ count = omega (arith, length-take count all, is.within, length-append story.log story.limbo) in
    let whole : take count (take count all ++ []) ≡ take count all = ap (take count) (append-nil (take count all)) ∙ take_all count (take count all) (omega (arith, size)) in
    let read : (least : ℕ) → least ≤ count → ReadsIn cut least (image_read state) = λ least within. (
      point_of cut,
      is.reads,
      record { count = count; enough = within; within = omega (arith, size); point_is = ap (fold_batches story.start) (sym whole) },
    ) in
    rest_left state cut rest (omega (arith, size)) (rest_stands state cut rest (read count (omega arith)) (read (length (take count all)) (omega (arith, size))))

plain_rests : (before after : Told) → IsOneToOne before.state → LeavesPlain before after → IsAtRest after.state
plain_rests before after one left = subst IsAtRest (sym left.leaves) (rests_behind before.state left.image one (left.plain.0, left.plain.1.0))

-- a device at rest is found again as it was
first_again : (before after : Told) → IsFirst before.state → LeavesPlain before after → IsFirst after.state
first_again before after first left =
    let same : image_read after.state ≡ image_read before.state =
    ap image_read left.leaves ∙ read_restarted left.image ∙ rest_has_one before.state first.at_rest left.image (left.plain.0, left.plain.1.0) in
    record {
      at_rest = plain_rests before after first.at_rest.sound.one_to_one left;
      sound = λ reading is. first.sound reading (subst (λ (image : Named (List ℕ)). IsReading image reading) same is);
    }

-- what is kept of an open store, of one that was left, and where there is no story
crash_kept : (phase : Phase) (left : Bool) (count : ℕ) (s : State) (before after : Told) (device : Seen) → LeavesPlain before after → LeavesOf (is_open phase || left) count s.story (image_read after.state)
    → KeptBy phase left before.state s
    → KeptBy Shut (is_left (if is_open phase || left then Crashed else Nothing)) after.state (with_device device (crash_after s (Some count)))
crash_kept Shut false count s before after device plain of h = first_again before after h plain
crash_kept Shut true count s before after device plain of h = prefix_left after.state count s.story (plain_rests before after h.one_to_one plain) of
crash_kept Booting left count s before after device plain of h = prefix_left after.state count s.story (plain_rests before after h.one_to_one plain) of
crash_kept Closing left count s before after device plain of h = prefix_left after.state count s.story (plain_rests before after h.left.one_to_one plain) of
crash_kept Open left count s before after device plain of h = prefix_left after.state count s.story (plain_rests before after (open_one before.state s h) plain) of

crash_by : (f : Footing) (before after : Option Told) (kept : Option ℕ) (s : State) (device : Seen) → f ≡ s.footing → Leaves f s.mode s.story before kept after
    → IsCoveredBy f s.mode before s
    → IsCoveredBy (with_device device (crash_after s kept)).footing (with_device device (crash_after s kept)).mode after (with_device device (crash_after s kept))
crash_by f before after None s device footing left h = tt
crash_by Known (Some before) (Some after) (Some count) s device footing left h =
    subst (λ (g : Footing). IsCoveredBy g (mode_crashed s.mode) (Some after) (with_device device (crash_after s (Some count)))) footing
    (crash_kept s.mode.phase (is_left s.mode.left) count s before after device left.0 left.1 h)
crash_by Known None (Some after) (Some count) s device footing left h = absurd left
crash_by Known None None (Some count) s device footing left h = absurd left
crash_by Known (Some before) None (Some count) s device footing left h = absurd left
crash_by Unknown before after (Some count) s device footing left h = absurd left

pub crash_keeps : (s : State) (pick : Pick) (kept : Option ℕ) (device : Seen) → CrashAnswers s pick kept device → IsCovered s → IsCovered (with_device device (crash_after s kept))
crash_keeps s pick kept device a h = crash_by s.footing s.device.told device.told kept s device refl a.leaves h

-- ---- every crash is a turn

-- a device that stands for the story, and a plain image of it
stands_prefix : (before : Disk) (story : Story) (image : Named (List ℕ)) → IsOneToOne before → Stands before story → PlainImage before image
    → (count : ℕ) × IsPrefix count story (image_read (restarted image))
stands_prefix before story image one stands plain =
    let left = reading_leaves story image (rests_behind before image one (plain.0, plain.1.0)) (stands.images image plain) in
    let now = left.stands.now in
    let at = now.2 in
    let cut = cut_story left.count story in
    let all : cut.log ++ [] ≡ cut.log = append-nil cut.log in
    let whole : take at.count (cut.log ++ []) ≡ cut.log = ap (take at.count) all ∙ take_all at.count cut.log at.enough in
    let point : now.0 ≡ point_of cut = at.point_is ∙ ap (fold_batches story.start) whole in
    (left.count, record { not_lost = left.not_lost; within = left.within; reads = subst (ReadsAs (image_read (restarted image))) point now.1 })

left_of : (phase : Phase) (left : Bool) (s : State) (before : Told) (image : Named (List ℕ)) → KeptBy phase left before.state s → PlainImage before.state image
    → (count : ℕ) × LeavesOf (is_open phase || left) count s.story (image_read (restarted image))
left_of Shut false s before image h plain = (0, tt)
left_of Shut true s before image h plain = stands_prefix before.state s.story image h.one_to_one h.stands plain
left_of Booting left s before image h plain = stands_prefix before.state s.story image h.one_to_one (booting_store_stands before.state s h) plain
left_of Closing left s before image h plain = stands_prefix before.state s.story image h.left.one_to_one h.left.stands plain
left_of Open left s before image h plain = stands_prefix before.state s.story image (open_one before.state s h) (open_stands before.state s h) plain

known_left : (s : State) (before after : Told) → KeptBy s.mode.phase (is_left s.mode.left) before.state s → CrashedTo before after
    → (kept : Option ℕ) × Leaves Known s.mode s.story (Some before) kept (Some after)
known_left s before after h crashed = ⊎_elim
    (λ plain.
    let image : PlainImage before.state crashed.image = (crashed.count, (crashed.is_image, plain.0)) in
    let left = left_of s.mode.phase (is_left s.mode.left) s before crashed.image h image in (
      Some left.0,
      (
        record { image = crashed.image; plain = image; leaves = crashed.leaves; last = crashed.last_same; forged = plain.1 },
        subst (λ (d : Disk). LeavesOf (has_story s.mode) left.0 s.story (image_read d)) (sym crashed.leaves) left.1,
      ),
    ))
    (λ forged. (None, record { crashed = crashed; counted = forged.1 }))
    crashed.forged

left_by : (f : Footing) (before after : Option Told) (s : State) → IsCoveredBy f s.mode before s → Crashes {E = OutOfMemory} before (Ok true) after
    → (kept : Option ℕ) × Leaves f s.mode s.story before kept after
left_by Unknown before after s h crash = (None, crash)
left_by Known None after s h crash = absurd h
left_by Known (Some before) None s h crash = cc
left_by Known (Some before) (Some after) s h crash = known_left s before after h crash

pub crash_turns : CrashTurns
crash_turns s pick device h drops =
    let left = left_by s.footing s.device.told device.told s h drops.crash in (
      left.0,
      record { simulated = drops.simulated; leaves = left.1; rest = drops.rest },
    )
