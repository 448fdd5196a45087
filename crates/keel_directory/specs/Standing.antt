-- What it is that a device stands for a story, where its directory is read as a store.
use Rattle.std.specs.Prelude.{ℕ, List}
use Rattle.keel_base.specs.declared.op.Op.{Op}
use Rattle.keel_base.specs.Points.{Point}
use Rattle.keel_disk.specs.Directory.{Named}
use Rattle.keel_disk.specs.State.{State}
use Rattle.keel_disk.specs.Standing as device
use Rattle.keel_directory.specs.Reading.{Reading, IsReading, HasPoint}
use Rattle.keel_directory.specs.Sound.{IsSoundReading}

-- the directory has a sound reading, which gives that point
pub record ReadsAs (image : Named (List ℕ)) (point : Point) : Type 0 where
  pub reading : Reading
  pub is_read : IsReading image reading
  pub sound : IsSoundReading reading
  pub has : HasPoint reading point

abbrev pub StandsRead : State → Point → List (List Op) → List (List Op) → ℕ → Type 0
StandsRead state start log limbo floor = device.Stands ReadsAs state start log limbo floor
