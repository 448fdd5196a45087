use Rattle.std.proofs.Common.{◌≡◌, ℕ, List, drop, [], length, sym, subst, arith}
use Rattle.keel_base.specs.declared.row.Row.{Row}
use Rattle.keel_directory.specs.Answers.{ArePairsOf}
use Rattle.keel_directory.proofs.Mapping.{no_pairs}
use Rattle.keel_directory.proofs.Sliced.{none_behind, rest_whole, item_before}
use Rattle.keel_directory.proofs.newest.pairs_of.Goals as goal

pub rows-init : goal.rows-init
rows-init c =
    let rows = c.args.rows.now in
    record {
      within = omega arith;
      pairs = subst (λ (rest : List Row). ArePairsOf rest c.new-pairs.result.items) (sym (none_behind rows (length rows) (omega arith)))
          (subst (ArePairsOf []) (sym c.new-pairs.ensures.items) no_pairs);
    }

pub rows-preserved : goal.rows-preserved
rows-preserved c =
    let all = item_before c.args.rows.now c.rows.left c.index-rows-left.result (omega (arith, c.rows-test.true)) c.rows.invariant.within c.index-rows-left.is in
    record {
      within = omega (arith, c.rows.invariant.within);
      pairs = subst (λ (rest : List Row). ArePairsOf rest c.add_row.new.pairs.items) (sym all) (c.in_ok-add_row.ensures
          (subst (λ (rest : List Row). ArePairsOf rest c.rows.pairs.items) (rest_whole c.args.rows.now c.rows.left) c.rows.invariant.pairs));
    }

pub returns : goal.returns
returns c =
    let none : c.rows.left ≡ 0 = omega (arith, c.rows-test.false) in
    subst (λ (n : ℕ). ArePairsOf (drop n c.args.rows.now) c.rows.pairs.items) none c.rows.invariant.pairs
