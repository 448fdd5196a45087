-- A device at rest has one image, which is what reads give.
use Rattle.std.proofs.Common.{length, refl, sym, subst, arith}
use Rattle.keel_base.specs.Points.{Point}
use Rattle.keel_disk.specs.Plain.{image_read}
use Rattle.keel_disk.specs.Sound.{IsAtRest}
use Rattle.keel_disk.specs.State.{State}
use Rattle.keel_disk.proofs.Resting.{rest_has_one}
use Rattle.keel_directory.specs.Standing.{ReadsAs}
use Rattle.keel_machine.specs.States.{Story, new_story}
use Rattle.keel_recovery.specs.Standing.{ReadsIn, Stands}

-- where the directory of a device at rest has a reading in the story, so has every plain image
pub rest_stands : (state : State) (story : Story) → IsAtRest state → ReadsIn story story.floor (image_read state) → ReadsIn story (length story.log) (image_read state) → Stands state story
rest_stands state story rest images now = record {
  images = λ image plain. subst (ReadsIn story story.floor) (sym (rest_has_one state rest image (plain.0, plain.1.0))) images;
  now = now;
}

-- it stands for the story that begins with what is read
pub first_stands : (state : State) (point : Point) → IsAtRest state → ReadsAs (image_read state) point → Stands state (new_story point)
first_stands state point rest reads =
    let read : ReadsIn (new_story point) 0 (image_read state) = (point, reads, record { count = 0; enough = omega arith; within = omega arith; point_is = refl }) in
    rest_stands state (new_story point) rest read read
