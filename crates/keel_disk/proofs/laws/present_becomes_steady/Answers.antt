use Rattle.keel_disk.proofs.Steadily.{present_firm}
use Rattle.keel_disk.proofs.laws.present_becomes_steady.Goals as goal

pub returns : goal.returns
returns c = λ name file state after present step. let firm = present_firm name file state after present step in (firm.steady, firm.file_same)
