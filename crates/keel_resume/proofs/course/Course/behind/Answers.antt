use Rattle.std.proofs.Common.{◌<◌, Some, length, subst, sym}
use Rattle.keel_resume.specs.Courses.{IsStage, StageBehind, later_at}
use Rattle.keel_resume.specs.declared.stage.Stage.{Stage}
use Rattle.keel_resume.specs.declared.stage.Stage.TheVariants as stage
use Rattle.keel_resume.proofs.Stages.{behind_making}
use Rattle.keel_resume.proofs.course.Course.behind.Goals as goal

pub returns-in-MakeTable-clause-stage : goal.returns-in-MakeTable-clause-stage
returns-in-MakeTable-clause-stage c =
    let drafts = c.args.self.now.drafts in
    let there : c.in-MakeTable.table < length drafts = subst (λ (s : Stage). IsStage s drafts) c.in-MakeTable.is c.requires.stage in
    subst (λ (s : Stage). StageBehind (later_at s drafts) drafts (Some (stage.AddPiece c.in-MakeTable.table 0))) (sym c.in-MakeTable.is) (behind_making c.in-MakeTable.table drafts there)
