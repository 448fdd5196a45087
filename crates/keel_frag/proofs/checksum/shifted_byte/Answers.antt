use Rattle.keel_frag.proofs.Shifting.{table_at}
use Rattle.keel_frag.proofs.checksum.shifted_byte.Goals as goal

pub returns : goal.returns
returns c = table_at c.args.more c.args.byte c.requires.more c.requires.byte
