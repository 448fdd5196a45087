use Rattle.std.proofs.Common.{◌≡◌, ◌<◌, ◌+◌, ◌-◌, ◌/◌, true, false, length, arith, ap, sym, ◌∙◌, List, ℕ}
use Rattle.keel_base.specs.Keys.{key_lt}
use Rattle.keel_table.specs.declared.index.BlockEntry.{BlockEntry}
use Rattle.keel_table.proofs.Searching.{at_index, below_through, not_below_from}
use Rattle.keel_table.proofs.table.count_below.Goals as goal

pub halving-preserved-then-is_below : goal.halving-preserved-then-is_below
halving-preserved-then-is_below c =
    let middle : ℕ = c.halving.low + (c.halving.high - c.halving.low) / 2 in
    let within : middle < length c.args.entries.now = omega (arith, c.halving-test.true, c.halving.invariant.1) in
    let below : key_lt c.index-entries-middle.result.last c.args.key.now ≡ true = ap (λ (k : List ℕ). key_lt k c.args.key.now) (ap (λ (e : BlockEntry). e.last) c.index-entries-middle.is ∙ sym c.as_slice.ensures) ∙ sym c.is_below.ensures ∙ c.if-is_below.true in (
      omega (arith, c.halving-test.true),
      c.halving.invariant.1,
      below_through c.args.index c.args.entries.now c.args.key.now middle c.index-entries-middle.result c.requires (at_index c.args.entries.now middle c.index-entries-middle.result _ within c.index-entries-middle.is) below,
      c.halving.invariant.3,
    )

pub halving-preserved : goal.halving-preserved
halving-preserved c =
    let middle : ℕ = c.halving.low + (c.halving.high - c.halving.low) / 2 in
    let within : middle < length c.args.entries.now = omega (arith, c.halving-test.true, c.halving.invariant.1) in
    let over : key_lt c.index-entries-middle.result.last c.args.key.now ≡ false = ap (λ (k : List ℕ). key_lt k c.args.key.now) (ap (λ (e : BlockEntry). e.last) c.index-entries-middle.is ∙ sym c.as_slice.ensures) ∙ sym c.is_below.ensures ∙ c.if-is_below.false in (
      omega arith,
      omega (arith, within),
      c.halving.invariant.2,
      not_below_from c.args.index c.args.entries.now c.args.key.now middle c.index-entries-middle.result c.requires (at_index c.args.entries.now middle c.index-entries-middle.result _ within c.index-entries-middle.is) over,
    )
