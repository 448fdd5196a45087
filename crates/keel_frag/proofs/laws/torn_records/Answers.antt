use Rattle.keel_frag.proofs.TornRecords.{torn_records}
use Rattle.keel_frag.proofs.laws.torn_records.Goals as goal

pub returns : goal.returns
returns c = torn_records
