-- How a store is told to tell its standing failure and its levels, and how that is answered.
use Rattle.std.specs.Prelude.{◌≡◌, Bool, Option, None, Some, List, [], ◌∷◌}
use Rattle.keel_base.specs.declared.failure.Failure.{Failure}
use Rattle.keel_grade.specs.Grades.{grade_of}
use Rattle.keel_machine.specs.declared.answers.LevelsView.{LevelsView}
use Rattle.keel_machine.specs.Turns.{TellingError, TellingLevels}
use Rattle.keel_script.specs.declared.reply.Reply.{Reply}
use Rattle.keel_script.specs.declared.reply.Reply.TheVariants as reply
use Rattle.keel_cli.specs.Jobs.{Driven, PlainTurn}

-- the reply that prints what stands, by the table of grades
abbrev pub error_reply : Bool → Option Failure → Reply
error_reply paranoid None = reply.ErrorNone
error_reply paranoid (Some failure) = reply.Error failure (grade_of failure.reason failure.fault paranoid)

-- the failure that stands is told, with the grade that it has by the options of the opening
pub record ErrorRun (old : Driven) (replies : List Reply) (new : Driven) : Type 0 where
  pub standing : Option Failure
  pub turn : PlainTurn old (TellingError standing) new
  pub prints : replies ≡ error_reply old.state.options.paranoid standing ∷ []

-- a line for each level from 0 to 3, and one for the memory
abbrev pub level_replies : LevelsView → List Reply
level_replies view =
    reply.Level 0 view.level0.files view.level0.bytes
    ∷ reply.Level 1 view.level1.files view.level1.bytes
    ∷ reply.Level 2 view.level2.files view.level2.bytes
    ∷ reply.Level 3 view.level3.files view.level3.bytes
    ∷ reply.Memory view.active view.immutables view.waiting
    ∷ []

-- the levels and the memory are told
pub record LevelsRun (old : Driven) (replies : List Reply) (new : Driven) : Type 0 where
  pub view : LevelsView
  pub turn : PlainTurn old (TellingLevels view) new
  pub prints : replies ≡ level_replies view
