use Rattle.keel_disk.proofs.Meaning.{all_read_stays, rest_reads}
use Rattle.keel_disk.proofs.laws.all_read_stays.Goals as goal

pub returns-clause-stays : goal.returns-clause-stays
returns-clause-stays c = all_read_stays

pub returns-clause-at_rest : goal.returns-clause-at_rest
returns-clause-at_rest c = rest_reads
