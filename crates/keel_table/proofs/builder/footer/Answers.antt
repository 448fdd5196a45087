use Rattle.std.proofs.Common.{arith}
use Rattle.keel_table.proofs.builder.footer.Goals as goal

pub returns-clause-fits : goal.returns-clause-fits
returns-clause-fits c = record { index = omega arith; size = omega arith; blocks = omega arith; rows = omega arith; first = omega arith; last = omega arith }
