use Rattle.keel_resume.proofs.Latest.{last_is_latest}
use Rattle.keel_resume.proofs.course.latest_of.Goals as goal

pub returns-in-Some : goal.returns-in-Some
returns-in-Some c = last_is_latest c.args.numbers.now c.in-Some.number.now c.in-Some.ensures.value
