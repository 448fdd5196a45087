-- What holds of a boot's job before its last call.
use Rattle.std.specs.Prelude.{◌≡◌, ℕ, false, List, ◌++◌, Option, Some, None}
use Rattle.keel_resume.specs.Jobs.{JobState}
use Rattle.keel_resume.specs.Plans.{Act, Job, left_of, log_acts, roll_acts}

-- until a log was made its calls are before the job
abbrev pub MakesLog : Option ℕ → List Act → Type 0
MakesLog (Some log) left = Unit {0}
MakesLog None left = (front : List Act) × (left ≡ front ++ (log_acts ++ roll_acts))

pub record IsOnWay (job : Job) : Type 0 where
  pub log : MakesLog job.progress.log (left_of job)

-- it makes further calls
pub record IsGoing (state : JobState) : Type 0 where
  pub going : state.over ≡ false
  pub way : IsOnWay state.job
