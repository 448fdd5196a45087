use Rattle.keel_version.proofs.Coming.{applied_may_come}
use Rattle.keel_version.proofs.laws.applied_may_come.Goals as goal

pub returns : goal.returns
returns c = applied_may_come
