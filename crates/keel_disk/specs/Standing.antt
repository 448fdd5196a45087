-- What it is that a device stands for a story.
use Rattle.std.specs.Prelude.{ℕ, List, length}
use Rattle.keel_base.specs.declared.op.Op.{Op}
use Rattle.keel_base.specs.Points.{Point}
use Rattle.keel_base.specs.Prefixes.{InPrefixes}
use Rattle.keel_disk.specs.Directory.{Named}
use Rattle.keel_disk.specs.State.{State}
use Rattle.keel_disk.specs.Plain.{PlainImage, image_read}

-- what it is that a directory reads as a point
abbrev pub Reader : Type 1
Reader = Named (List ℕ) → Point → Type 0

-- the directory has a reading, and it is such a point
abbrev pub ReadsIn : Reader → Point → List (List Op) → List (List Op) → ℕ → Named (List ℕ) → Type 0
ReadsIn Reads start log limbo least image = (point : Point) × Reads image point × InPrefixes start log limbo least point

-- A device stands for a story: every image that a crash can leave, with no fragment good by chance, has a reading
-- with all batches that must not be lost, and the directory as it is read has one with all that are published.
pub record Stands (Reads : Reader) (state : State) (start : Point) (log limbo : List (List Op)) (floor : ℕ) : Type 0 where
  pub images : (image : Named (List ℕ)) → PlainImage state image → ReadsIn Reads start log limbo floor image
  pub now : ReadsIn Reads start log limbo (length log) (image_read state)
