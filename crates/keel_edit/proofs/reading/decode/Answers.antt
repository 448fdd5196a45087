use Rattle.std.proofs.Common.{arith}
use Rattle.keel_edit.proofs.Fitting.{decoded, decoded_only}
use Rattle.keel_edit.proofs.reading.decode.Goals as goal

pub returns-clause-found : goal.returns-clause-found
returns-clause-found c = decoded c.args.bytes.now c.read.result (λ i. omega (arith, c.type_inv.bytes i)) c.read.ensures

pub returns-clause-only : goal.returns-clause-only
returns-clause-only c = decoded_only c.args.bytes.now c.read.result c.read.ensures
