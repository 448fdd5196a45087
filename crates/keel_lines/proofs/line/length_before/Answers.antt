use Rattle.std.proofs.Common.{arith}
use Rattle.keel_lines.proofs.Newlines.{at_place, nowhere}
use Rattle.keel_lines.proofs.line.length_before.Goals as goal

pub returns-in-Some-clause-length : goal.returns-in-Some-clause-length
returns-in-Some-clause-length c =
    let found = c.in-Some.ensures in
    at_place c.args.bytes.now c.in-Some.place (omega (arith, found.0.high)) found.1 (λ k less is. found.0.before k (omega arith) less is)

pub returns-in-None-clause-length : goal.returns-in-None-clause-length
returns-in-None-clause-length c = nowhere c.args.bytes.now (λ k less is. c.in-None.ensures k (omega arith) less is)
