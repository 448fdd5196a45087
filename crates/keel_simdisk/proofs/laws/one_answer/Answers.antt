use Rattle.keel_simdisk.proofs.Deciding.{one_answer, one_read}
use Rattle.keel_simdisk.proofs.laws.one_answer.Goals as goal

pub returns-clause-changes : goal.returns-clause-changes
returns-clause-changes c = one_answer

pub returns-clause-reads : goal.returns-clause-reads
returns-clause-reads c = one_read
