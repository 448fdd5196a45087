use Rattle.keel_mem.proofs.Folding as laws
use Rattle.keel_mem.proofs.laws.memtable_folds.Goals as goal

pub returns : goal.returns
returns c = laws.rows_fold
