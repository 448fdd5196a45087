use Rattle.keel_frag.proofs.Spelled.{record_bytes_law}
use Rattle.keel_frag.proofs.laws.one_spelling.Goals as goal

pub returns : goal.returns
returns c = record_bytes_law
