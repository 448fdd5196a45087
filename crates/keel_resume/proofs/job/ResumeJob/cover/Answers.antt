use Rattle.std.proofs.Common.{◌∷◌, [], length, ap, arith, length-append, ◌∙◌}
use Rattle.keel_resume.specs.Jobs.{JobState}
use Rattle.keel_resume.proofs.Steps.{covered}
use Rattle.keel_resume.proofs.job.ResumeJob.cover.Goals as goal

pub invariant_of-self-2 : goal.invariant_of-self-2
invariant_of-self-2 c =
    covered c.self.inside.course c.push.new.self (ap (λ (s : JobState). s.job.progress) c.self.view_is ∙ c.requires.start)
    (omega (arith, ap length c.in_ok-push.ensures.ok, length-append c.self.inside.course.drafts (c.in_ok-of.field-0 ∷ [])))
