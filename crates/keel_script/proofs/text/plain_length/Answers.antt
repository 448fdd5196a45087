use Rattle.std.proofs.Common.{◌+◌, arith}
use Rattle.keel_script.proofs.PlainEights.{joined}
use Rattle.keel_script.proofs.text.plain_length.Goals as goal

pub eights-preserved : goal.eights-preserved
eights-preserved c = record {
  within = omega (arith, c.eights-test.true);
  plain = λ k high. joined c.args.bytes.now 0 c.eights.count (c.eights.count + 8) (λ j low less. c.eights.invariant.plain j less)
      (c.are_plain.ensures c.if-are_plain.true) k (omega arith) high;
}

pub returns-clause-plain : goal.returns-clause-plain
returns-clause-plain c k high = joined c.args.bytes.now 0 c.eights.count c.plain_to.result (λ j low less. c.eights.invariant.plain j less) c.plain_to.ensures.plain k (omega arith) high
