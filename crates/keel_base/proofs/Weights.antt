-- What ops weigh, one after another.
use Rattle.std.proofs.Common.{◌≡◌, ℕ, suc, ◌+◌, ◌*◌, ◌<◌, ◌≤◌, List, [], ◌∷◌, length, drop, get_or, ap, sym, subst, ◌∙◌, arith, add-one}
use Rattle.std.proofs.Math.Seq.{drop-cons}
use Rattle.std.specs.List.{AllByRecursion}
use Rattle.keel_base.specs.declared.op.Op.{Op}
use Rattle.keel_base.specs.declared.op.Op.TheVariants.{Put, Del}
use Rattle.keel_base.specs.Weight.{weight, weight_of, IsWithinLimits}

op_weight : (op : Op) → IsWithinLimits op → weight op ≤ 66576
op_weight (Put key value) h = omega (arith, h.0.most, h.1)
op_weight (Del key) h = omega (arith, h.most)

-- no op weighs more than its longest key and value
pub weight_most : (ops : List Op) → AllByRecursion IsWithinLimits ops → weight_of ops ≤ 66576 * length ops
weight_most [] h = omega arith
weight_most (op ∷ ops) h = omega (arith, op_weight op h.0, weight_most ops h.1)

pub next_op : (ops : List Op) (i : ℕ) (op : Op) → i < length ops → op ≡ get_or ops i op → drop i ops ≡ op ∷ drop (i + 1) ops
next_op ops i op lt is = rw add-one (drop-cons ops i op lt ∙ ap (λ (o : Op). o ∷ drop (suc i) ops) (sym is))

pub both_within : (ops rest : List Op) (op : Op) → rest ≡ op ∷ ops → AllByRecursion IsWithinLimits rest → AllByRecursion IsWithinLimits (op ∷ ops)
both_within ops rest op is h = subst (AllByRecursion IsWithinLimits) is h
