use Rattle.std.proofs.Common.{sym, ◌∙◌, ◌-◌, length, arith}
use Rattle.std.proofs.lemmas.Bool.{leb-true}
use Rattle.keel_core.proofs.Limits.{ops_within}
use Rattle.keel_core.proofs.placing.may_be_placed.Goals as goal

pub returns : goal.returns
returns c = λ is.
    let within = leb-true (length c.args.ops.now) (72057594037927936 - c.args.last) is in
    record {
      some = grind (arith, c.if-length-eq0.false);
      few = omega (arith, c.if-length-gt-MOST_OPS.false);
      each = ops_within c.args.ops.now (sym c.ops_refusal.ensures ∙ c.in-None.is);
      within = omega (arith, within, c.if-last-gt-LAST_NUMBER.false);
    }
