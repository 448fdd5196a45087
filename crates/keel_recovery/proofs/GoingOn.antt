-- An opening that goes on with a story.
use Rattle.std.proofs.Common.{◌≡◌, true, false, refl, sym, ℕ, ◌+◌, ◌-◌, List, ◌++◌, length, take, take-add, Option, Some, None, Err, ap, subst, ◌∙◌, arith}
use Rattle.std.proofs.lemmas.List.{drop_at, take_at}
use Rattle.keel_base.specs.Points.{fold_batches}
use Rattle.keel_disk.specs.Told.{Told}
use Rattle.keel_disk.specs.Plain.{image_read}
use Rattle.keel_directory.specs.Reading.{IsReading, refused}
use Rattle.keel_directory.specs.Refusals.{Refusal}
use Rattle.keel_directory.specs.Sound.{IsSoundReading}
use Rattle.keel_directory.specs.Standing.{ReadsAs}
use Rattle.keel_directory.proofs.OneReading.{reading_one}
use Rattle.keel_machine.specs.Opening.{goes_on_from}
use Rattle.keel_machine.specs.States.{State, Footing, Known, Unknown, Phase, Shut, Booting, Open, Closing, Leaving, Nothing, Crashed, Left, is_open, is_left, Story}
use Rattle.keel_open.specs.declared.refusal.OpenRefusal.{OpenRefusal}
use Rattle.keel_open.specs.declared.refusal.OpenRefusal.TheVariants as refusal
use Rattle.keel_open.specs.Refusals.{Names}
use Rattle.keel_open.specs.Stores.{StoreTells}
use Rattle.keel_table.specs.declared.fault.TableFault.{TableFault}
use Rattle.keel_table.specs.declared.fault.TableFault.TheVariants as fault
use Rattle.keel_recovery.specs.Leaving.{IsLeft}
use Rattle.keel_recovery.specs.Machine.{KeptBy, IsCoveredBy, ReadsOn, ReadsOnIn, CoveredReads, IsOfDevice, OpeningGoesOn}
use Rattle.keel_open.proofs.Joining.{sound_is_directory}

take_over : {A : Type 0} (front back : List A) (more : ℕ) → take (length front + more) (front ++ back) ≡ front ++ take more back
take_over front back more =
    take-add (length front) more (front ++ back) ∙ (λ i. take_at front back (length front) refl i ++ take more (drop_at front back (length front) refl i))

left_reads : (told : Told) (story : Story) → IsLeft told.state story → ReadsOn told story
left_reads told story h =
    let now = h.stands.now in
    let at = now.2 in
    let joined = at.count - length story.log in
    let count : length story.log + joined ≡ at.count = omega (arith, at.enough) in
    let all = story.log ++ story.limbo in
    let first : take (length story.log + joined) all ≡ story.log ++ take joined story.limbo = take_over story.log story.limbo joined in
    record {
      joined = joined;
      within = omega (arith, at.within, at.enough);
      reads = subst (ReadsAs (image_read told.state)) (at.point_is ∙ ap (fold_batches story.start) (ap (λ n. take n all) (sym count) ∙ first)) now.1;
    }

-- where a store was left none is open
shut_left : (phase : Phase) (leaving : Leaving) (told : Told) (s : State) → is_left leaving ≡ true → is_open phase ≡ false → KeptBy phase (is_left leaving) told.state s → IsLeft told.state s.story
shut_left Booting leaving told s is shut h = cc
shut_left Open leaving told s is shut h = cc
shut_left Closing leaving told s is shut h = cc
shut_left Shut Nothing told s is shut h = cc
shut_left Shut Crashed told s is shut h = h
shut_left Shut Left told s is shut h = h

-- what is left of a story that goes on
abbrev LeftIn : Option Told → Story → Type 0
LeftIn None story = ⊥
LeftIn (Some told) story = IsLeft told.state story

left_by : (f : Footing) (leaving : Leaving) (told : Option Told) (s : State) → leaving ≡ s.mode.left → goes_on_from leaving f ≡ true → is_open s.mode.phase ≡ false → IsCoveredBy f s.mode told s → LeftIn told s.story
left_by Unknown Nothing told s is goes shut h = cc
left_by Unknown Crashed told s is goes shut h = cc
left_by Unknown Left told s is goes shut h = cc
left_by Known Nothing told s is goes shut h = cc
left_by Known Left None s is goes shut h = h
left_by Known Left (Some told) s is goes shut h = shut_left s.mode.phase s.mode.left told s (ap is_left (sym is)) shut h
left_by Known Crashed None s is goes shut h = h
left_by Known Crashed (Some told) s is goes shut h = shut_left s.mode.phase s.mode.left told s (ap is_left (sym is)) shut h

reads_in : (told : Option Told) (story : Story) → LeftIn told story → ReadsOnIn told story
reads_in None story h = h
reads_in (Some told) story h = left_reads told story h

pub covered_reads : CoveredReads
covered_reads s shut goes h = reads_in s.device.told s.story (left_by s.footing s.mode.left s.device.told s refl goes shut h)

-- ---- what refuses it

-- a directory with a sound reading isn't refused
not_read_so : (told : Told) (story : Story) (refusal : Refusal) → IsLeft told.state story → IsReading (image_read told.state) (refused refusal) → ⊥
not_read_so told story refusal h is =
    let now = h.stands.now.1 in
    subst IsSoundReading (reading_one (image_read told.state) now.reading (refused refusal) now.is_read is) now.sound

of_table : (told : Told) (story : Story) (number : ℕ) (cause : TableFault) → IsLeft told.state story → Names (refusal.BadTable number cause) (λ r. IsReading (image_read told.state) (refused r)) → ⊥
of_table told story number (fault.Device f) h names = names
of_table told story number fault.Absent h names = names
of_table told story number (fault.BadCheck stored computed) h names = not_read_so told story _ h names
of_table told story number (fault.BadShape at) h names = not_read_so told story _ h names
of_table told story number fault.OutOfMemory h names = names

not_refused : (told : Told) (story : Story) (refused_by : OpenRefusal) → IsLeft told.state story → Names refused_by (λ r. IsReading (image_read told.state) (refused r)) → IsOfDevice refused_by
not_refused told story (refusal.Device fault) h names = tt
not_refused told story refusal.OutOfMemory h names = tt
not_refused told story (refusal.NoCurrent file) h names = not_read_so told story _ h names
not_refused told story (refusal.BadCurrent bytes) h names = not_read_so told story _ h names
not_refused told story (refusal.DamagedManifest at) h names = not_read_so told story _ h names
not_refused told story (refusal.MissingTable number) h names = not_read_so told story _ h names
not_refused told story (refusal.BadTable number cause) h names = absurd (of_table told story number cause h names)
not_refused told story (refusal.BadLog log at) h names = not_read_so told story _ h names
not_refused told story (refusal.LogGap log expected found) h names = not_read_so told story _ h names

refused_for : (told : Option Told) (story : Story) (refused_by : OpenRefusal) → LeftIn told story → StoreTells told (Err refused_by) → IsOfDevice refused_by
refused_for None story refused_by h cause = absurd h
refused_for (Some told) story refused_by h cause = not_refused told story refused_by h (cause (sound_is_directory told.state h.one_to_one))

pub opening_goes_on : OpeningGoesOn
opening_goes_on s refused_by device shut goes h answers = refused_for s.device.told s.story refused_by (left_by s.footing s.mode.left s.device.told s refl goes shut h) answers.cause
