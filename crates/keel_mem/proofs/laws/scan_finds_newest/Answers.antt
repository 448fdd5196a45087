use Rattle.keel_mem.proofs.Newest as laws
use Rattle.keel_mem.proofs.laws.scan_finds_newest.Goals as goal

pub returns : goal.returns
returns c = laws.scan_finds_newest
