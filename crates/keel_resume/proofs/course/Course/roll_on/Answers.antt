use Rattle.std.proofs.Common.{◌≡◌, false, Option, Some, subst, sym, ◌∙◌}
use Rattle.keel_manifest.specs.declared.roll.RollCall.{RollCall}
use Rattle.keel_manifest.specs.Rolls.{RollState, RollSteps}
use Rattle.keel_resume.specs.Courses.{HasRoll, is_refused, job_in}
use Rattle.keel_resume.proofs.Rolling.{roll_at, rolled_on}
use Rattle.keel_resume.proofs.course.Course.roll_on.Goals as goal

pub returns-clause-leaves : goal.returns-clause-leaves
returns-clause-leaves g c = λ next behind.
    let course = c.args.self.now in
    let r = c.in-Some.roll in
    let has : HasRoll (Some c.args.call) (Some r) (job_in course) course.tables =
    subst (λ (roll : Option RollState). HasRoll (Some c.args.call) roll (job_in course) course.tables) c.in-Some.is (roll_at c.args.call course c.requires.later c.requires.roll) in
    let made : is_refused c.roll_step-answer.result ≡ false = sym c.is_refused.ensures ∙ c.if-is_refused.false in
    rolled_on c.args.call course r c.roll_step-answer.new.roll next c.args.manifest.now c.roll_step-answer.new.self c.roll_step-answer.result c.rolled.result c.temporary_behind-self.result
    c.requires.later has behind (subst (λ (o : Option RollCall). RollSteps o c.roll_step-answer.result r c.roll_step-answer.new.roll c.args.manifest.now c.roll_step-answer.new.self) has.next_is c.roll_step-answer.ensures.step)
    c.rolled.ensures.done c.rolled.ensures.call made (c.temporary_behind-self.ensures next)
