-- Every turn of the machine keeps its device covered.
use Rattle.std.proofs.Common.{◌≡◌, ℕ, Bool, true, false, List, [], Option, Some, None, Result, Ok, Err, refl, sym, ap, subst, arith}
use Rattle.keel_base.specs.declared.options.Options.{Options}
use Rattle.keel_base.specs.Points.{Point}
use Rattle.keel_disk.specs.Plain.{image_read}
use Rattle.keel_disk.specs.Seen.{Seen}
use Rattle.keel_disk.specs.Sound.{IsAtRest}
use Rattle.keel_disk.specs.State.{State as Disk}
use Rattle.keel_base.specs.declared.memory.OutOfMemory.{OutOfMemory}
use Rattle.keel_disk.specs.declared.rule.Rule.{Rule}
use Rattle.keel_disk.specs.Told.{Told, Arranges}
use Rattle.keel_directory.specs.Reading.{Reading, IsReading, HasPoint, new, held, refused}
use Rattle.keel_directory.specs.Sound.{IsSoundReading}
use Rattle.keel_directory.specs.Standing.{ReadsAs}
use Rattle.keel_directory.proofs.OneReading.{reading_one}
use Rattle.keel_machine.specs.Admission.{without_outcome}
use Rattle.keel_machine.specs.Opening.{Found, GoesOn, GoesOnWith, IsFoundIn, IsFoundBy, goes_on_from, OpenAnswers, story_opened, opened}
use Rattle.keel_machine.specs.States.{State, Footing, Known, Unknown, Phase, Shut, Booting, Open, Closing, Leaving, Nothing, Crashed, Left, Story, is_open, is_left, joined_story, new_story, with_device}
use Rattle.keel_machine.specs.Turns.{Event, Opening, Admitting, Writing, Resuming, Flushing, TakingOutcome, Getting, Scanning, Listing, TellingError, TellingLevels, Arranging, Crashing, Starting, ShuttingDown, Finishing, Answers, after}
use Rattle.keel_machine.specs.Telling.{ArrangeAnswers}
use Rattle.keel_machine.specs.Reads.{IsReadFault, GetAnswers, ScanAnswers}
use Rattle.keel_machine.specs.declared.answers.Got.{Got}
use Rattle.keel_machine.specs.declared.answers.Got.TheVariants as got
use Rattle.keel_machine.specs.declared.answers.Scanned.{Scanned}
use Rattle.keel_machine.specs.declared.answers.Scanned.TheVariants as scanned
use Rattle.keel_table.specs.declared.fault.TableFault.{TableFault}
use Rattle.keel_table.specs.declared.fault.TableFault.TheVariants as fault
use Rattle.keel_open.specs.Listed.{IsDirectory}
use Rattle.keel_open.proofs.Joining.{sound_is_directory}
use Rattle.keel_recovery.specs.BootTurns.{BootCallKeeps}
use Rattle.keel_recovery.specs.Leaving.{IsLeft}
use Rattle.keel_recovery.specs.Machine.{MayCall, IsSoundIfRead, KeptShut, KeptBy, IsCoveredBy, IsCovered, OpeningBoots, TurnKeeps}
use Rattle.keel_recovery.proofs.ClosedStore.{close_keeps, finish_keeps}
use Rattle.keel_recovery.proofs.Covered.{OpenBy, same_keeps, as_it_is, same_boot, told_keeps}
use Rattle.keel_recovery.proofs.Crashing.{crash_keeps}
use Rattle.keel_recovery.proofs.FlushKeeping.{flush_keeps}
use Rattle.keel_recovery.proofs.LeftAtRest.{rest_left}
use Rattle.keel_recovery.proofs.Rejoining.{left_joined}
use Rattle.keel_recovery.proofs.Resting.{first_stands}
use Rattle.keel_recovery.proofs.ResumeTurns.{resume_keeps}
use Rattle.keel_recovery.proofs.StartTurns.{start_keeps}
use Rattle.keel_recovery.proofs.WriteTurns.{write_keeps, admit_keeps}

-- ---- an opening

pub directory_at_rest : (state : Disk) → IsAtRest state → IsDirectory state
directory_at_rest state rest = sound_is_directory state rest.sound.one_to_one

-- a reading with a point is none that is refused
sound_of : (reading : Reading) (point : Point) → HasPoint reading point → IsSoundIfRead reading → IsSoundReading reading
sound_of new point has sound = tt
sound_of (held found at) point has sound = sound
sound_of (refused refusal) point has sound = absurd has

-- what is found of a device at rest is a sound reading of it
found_reads : (told : Told) (found : Found) → IsAtRest told.state → ((reading : Reading) → IsReading (image_read told.state) reading → IsSoundIfRead reading) → IsFoundIn told found → ReadsAs (image_read told.state) found.point
found_reads told found rest sound h = record {
  reading = h.reading;
  is_read = h.is_read;
  sound = sound_of h.reading found.point h.has (sound h.reading h.is_read);
  has = h.has;
}

-- a device that was left has one reading, which is sound
left_sound : (state : Disk) (story : Story) → IsLeft state story → (reading : Reading) → IsReading (image_read state) reading → IsSoundIfRead reading
left_sound state story h reading is =
    let now = h.stands.now.1 in
    subst IsSoundIfRead (reading_one (image_read state) now.reading reading now.is_read is) (if_read now.reading now.sound)
  where
    if_read : (r : Reading) → IsSoundReading r → IsSoundIfRead r
    if_read new sound = tt
    if_read (held found at) sound = sound
    if_read (refused refusal) sound = absurd sound

-- what an opening begins with, or goes on with
begins_new : (told : Told) (found : Found) → IsAtRest told.state → ((reading : Reading) → IsReading (image_read told.state) reading → IsSoundIfRead reading) → IsFoundIn told found → IsLeft told.state (new_story found.point)
begins_new told found rest sound h = rest_left told.state (new_story found.point) rest (omega arith) (first_stands told.state found.point rest (found_reads told found rest sound h))

-- an opening that goes on finds the point that the story leads to with the first so many batches of its limbo
begins_on : (told : Told) (found : Found) (story : Story) → IsLeft told.state story → GoesOn story found.joined found.point → IsFoundIn told found → IsLeft told.state (joined_story found.joined story)
begins_on told found story h goes inside = left_joined story found.joined told.state found.point h goes (record {
  reading = inside.reading;
  is_read = inside.is_read;
  sound = sound_of inside.reading found.point inside.has (left_sound told.state story h inside.reading inside.is_read);
  has = inside.has;
})

begins : (leaving : Leaving) (footing : Footing) (told : Told) (found : Found) (s : State) → footing ≡ Known → (IsDirectory told.state → IsFoundIn told found) → GoesOnWith (goes_on_from leaving footing) s.story found.joined found.point
    → KeptShut (is_left leaving) told.state s → IsLeft told.state (story_opened (goes_on_from leaving footing) found.joined found.point s.story)
begins leaving Unknown told found s known finds goes h = cc
begins Nothing Known told found s known finds goes h = begins_new told found h.at_rest h.sound (finds (directory_at_rest told.state h.at_rest))
begins Crashed Known told found s known finds goes h = begins_on told found s.story h goes (finds (sound_is_directory told.state h.one_to_one))
begins Left Known told found s known finds goes h = begins_on told found s.story h goes (finds (sound_is_directory told.state h.one_to_one))

shut_kept : (phase : Phase) (left : Bool) (state : Disk) (s : State) → is_open phase ≡ false → KeptBy phase left state s → KeptShut left state s
shut_kept Shut left state s shut h = h
shut_kept Booting left state s shut h = cc
shut_kept Open left state s shut h = cc
shut_kept Closing left state s shut h = cc

opens_by : OpeningBoots → (f : Footing) (o : Option Told) (s : State) (options : Options) (found : Found) (device : Seen) → f ≡ s.footing → o ≡ s.device.told → is_open s.mode.phase ≡ false → OpenAnswers s (Ok found) device
    → IsCoveredBy f s.mode o s → IsCoveredBy f (record s.mode { phase = Booting }) o (with_device device (opened options found s))
opens_by boots Unknown o s options found device footing told shut a h = tt
opens_by boots Known None s options found device footing told shut a h = h
opens_by boots Known (Some told) s options found device footing is shut a h =
    let known : s.footing ≡ Known = sym footing in
    let finds : IsDirectory told.state → IsFoundIn told found = subst (λ (o : Option Told). IsFoundBy o found) (sym is) a.finds.read in
    let left = begins s.mode.left s.footing told found s known finds a.finds.goes_on (shut_kept s.mode.phase (is_left s.mode.left) told.state s shut h) in
    let kept = boots s options found device told (sym is) a left in
    record {
      one_to_one = left.one_to_one;
      cuts = left.cuts;
      kept = same_boot told.state (opened options found s) device [] kept;
      none_waits = refl;
    }

open_keeps : OpeningBoots → (s : State) (options : Options) (found : Found) (device : Seen) → is_open s.mode.phase ≡ false → OpenAnswers s (Ok found) device → IsCovered s → IsCovered (with_device device (opened options found s))
open_keeps boots s options found device shut a h =
    subst (λ (o : Option Told). IsCoveredBy s.footing (record s.mode { phase = Booting }) o (with_device device (opened options found s))) (sym a.quiet.same)
    (opens_by boots s.footing s.device.told s options found device refl refl shut a h)

-- ---- reads

fault_quiet : (s : State) (cause : TableFault) (device : Seen) → IsReadFault s cause device → device.told ≡ s.device.told
fault_quiet s (fault.Device cause) device h = h.same
fault_quiet s fault.Absent device h = h.1.same
fault_quiet s (fault.BadCheck stored computed) device h = h.1.same
fault_quiet s (fault.BadShape at) device h = h.1.same
fault_quiet s fault.OutOfMemory device h = absurd h

pub got_quiet : (s : State) (key : List ℕ) (answer : Got) (device : Seen) → GetAnswers s key answer device → device.told ≡ s.device.told
got_quiet s key (got.Value value) device a = a.1.same
got_quiet s key got.Absent device a = a.1.same
got_quiet s key (got.ReadFault number cause) device a = fault_quiet s cause device a
got_quiet s key got.OutOfMemory device a = a.same

pub scan_quiet : (s : State) (from to : List ℕ) (answer : Scanned) (device : Seen) → ScanAnswers s from to answer device → device.told ≡ s.device.told
scan_quiet s from to (scanned.Rows rows) device a = a.1.same
scan_quiet s from to (scanned.ReadFault number cause) device a = fault_quiet s cause device a
scan_quiet s from to scanned.OutOfMemory device a = a.same

-- ---- what is arranged

-- the room may change, and nothing that is kept is about it
arranged_by : (f : Footing) (told : Option Told) (answer : Result Bool OutOfMemory) (after : Option Told) (s : State) → Arranges told answer after → OpenBy f told s → OpenBy f after s
arranged_by f None answer after s same h = subst (λ (t : Option Told). OpenBy f t s) (sym same) h
arranged_by f (Some before) (Err want) after s same h = subst (λ (t : Option Told). OpenBy f t s) (sym same) h
arranged_by f (Some before) (Ok false) after s same h = subst (λ (t : Option Told). OpenBy f t s) (sym same) h
arranged_by f (Some before) (Ok true) None s same h = subst (λ (t : Option Told). OpenBy f t s) (sym same) h
arranged_by Unknown (Some before) (Ok true) (Some after) s same h = tt
arranged_by Known (Some before) (Ok true) (Some after) s same h = subst (λ (d : Disk). KeptBy s.mode.phase (is_left s.mode.left) d s) (sym (ap (λ (t : Told). t.state) same)) h

arranged_keeps : (s : State) (rule : Rule) (answer : Result Bool OutOfMemory) (device : Seen) → ArrangeAnswers s rule answer device → IsCovered s → IsCovered (with_device device s)
arranged_keeps s rule answer device a h =
    told_keeps s device (λ f was. arranged_by f s.device.told answer device.told s a.told was) h

-- ---- every turn

answer_keeps : OpeningBoots → BootCallKeeps → (s : State) (event : Event) (device : Seen) → MayCall s event → Answers s event device → IsCovered s → IsCovered (after s event device)
answer_keeps opens boots s (Opening options (Ok found)) device may a h = open_keeps opens s options found device may a h
answer_keeps opens boots s (Opening options (Err refused_by)) device may a h = as_it_is s device a.quiet.same h
answer_keeps opens boots s (Admitting batch answer) device may a h = admit_keeps s batch answer device a.0 (ap (λ (d : Seen). d.told) a.1) h
answer_keeps opens boots s (Writing job answer) device may a h = write_keeps s job answer device may a h
answer_keeps opens boots s (Resuming drafts job answer) device may a h = resume_keeps boots s drafts job answer device may a h
answer_keeps opens boots s (Flushing draft job answer) device may a h = flush_keeps s draft job answer device a h
answer_keeps opens boots s (TakingOutcome ticket outcome) device may a h = same_keeps s device (without_outcome ticket s).writing.outcomes (ap (λ (d : Seen). d.told) a.1) h
answer_keeps opens boots s (Getting key got) device may a h = as_it_is s device (got_quiet s key got device a) h
answer_keeps opens boots s (Scanning from to scanned) device may a h = as_it_is s device (scan_quiet s from to scanned device a) h
answer_keeps opens boots s (Listing answer) device may a h = as_it_is s device a.quiet.same h
answer_keeps opens boots s (TellingError failure) device may a h = as_it_is s device (ap (λ (d : Seen). d.told) a.1) h
answer_keeps opens boots s (TellingLevels view) device may a h = as_it_is s device (ap (λ (d : Seen). d.told) a.1) h
answer_keeps opens boots s (Arranging rule answer) device may a h = arranged_keeps s rule answer device a h
answer_keeps opens boots s (Crashing pick kept) device may a h = crash_keeps s pick kept device a h
answer_keeps opens boots s (Starting answer) device may a h = start_keeps s answer device a.0 (ap (λ (d : Seen). d.told) a.1) h
answer_keeps opens boots s (ShuttingDown tickets) device may a h = close_keeps s device may (ap (λ (d : Seen). d.told) a.1) h
answer_keeps opens boots s Finishing device may a h = finish_keeps s device may (ap (λ (d : Seen). d.told) a) h

pub turn_keeps : OpeningBoots → BootCallKeeps → TurnKeeps
turn_keeps opens boots s next event may turn h = subst IsCovered (sym turn.1) (answer_keeps opens boots s event next.device may turn.0 h)
