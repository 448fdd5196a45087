use Rattle.keel_merge.proofs.Along.{hands_out_all}
use Rattle.keel_merge.proofs.laws.hands_out_all.Goals as goal

pub returns : goal.returns
returns c = hands_out_all
