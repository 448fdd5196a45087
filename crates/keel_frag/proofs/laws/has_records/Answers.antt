use Rattle.keel_frag.proofs.Existing.{has_records}
use Rattle.keel_frag.proofs.laws.has_records.Goals as goal

pub returns : goal.returns
returns c = has_records
