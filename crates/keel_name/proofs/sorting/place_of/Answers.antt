use Rattle.std.proofs.Common.{◌≡◌, true, false, List, take, length, None, All, refl, sym, ◌∙◌, ap, subst, arith}
use Rattle.std.specs.List.{slice_get}
use Rattle.std.proofs.lemmas.List.{take_all}
use Rattle.std.proofs.lemmas.List.Elements.{All-more}
use Rattle.std.proofs.lemmas.Option.{slice_get_past, slice_get_read}
use Rattle.keel_base.specs.Keys.{key_lt}
use Rattle.keel_name.specs.declared.spelled.Spelled.{Spelled}
use Rattle.keel_name.proofs.sorting.place_of.Goals as goal

pub loop-place-preserved : goal.loop-place-preserved
loop-place-preserved c =
    let spelling = c.args.spelling.now in
    let before : key_lt c.index-sorted-place.result.spelling spelling ≡ true =
    ap (λ s. key_lt s spelling) (sym c.as_slice.ensures) ∙ sym c.is_before.ensures ∙ c.if-not-is_before.false in
    All-more (λ (other : Spelled). key_lt other.spelling spelling ≡ true) c.args.sorted.now c.loop-place.place c.index-sorted-place.result c.loop-place-test.true c.loop-place.invariant
    (subst (λ (other : Spelled). key_lt other.spelling spelling ≡ true) c.index-sorted-place.is before)

pub returns : goal.returns
returns c =
    let spelling = c.args.spelling.now in
    let sorted = c.args.sorted.now in
    let none : slice_get sorted (length sorted) ≡ None = slice_get_past sorted (length sorted) (omega arith) in
    let same : take c.loop-place.place sorted ≡ take (length sorted) sorted = take_all c.loop-place.place sorted c.loop-place-test.false ∙ sym (take_all (length sorted) sorted (omega arith)) in
    record {
      within = omega arith;
      front = subst (λ (xs : List Spelled). All (λ other. key_lt other.spelling spelling ≡ true) xs) same c.loop-place.invariant;
      here = rw none tt;
    }

pub returns-then-not-is_before : goal.returns-then-not-is_before
returns-then-not-is_before c =
    let spelling = c.args.spelling.now in
    let found = slice_get_read c.args.sorted.now (length c.args.sorted.now) c.loop-place.place c.index-sorted-place.result refl c.loop-place-test.true c.index-sorted-place.is in
    let not_before : key_lt c.index-sorted-place.result.spelling spelling ≡ false =
    ap (λ s. key_lt s spelling) (sym c.as_slice.ensures) ∙ sym c.is_before.ensures ∙ c.if-not-is_before.true in
    record { within = omega arith; front = c.loop-place.invariant; here = rw found not_before }
