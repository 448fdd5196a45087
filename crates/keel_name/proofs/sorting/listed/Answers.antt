use Rattle.std.proofs.Common.{◌≡◌, ℕ, ◌≤◌, List, take, length, sym, ◌∙◌, ap, subst, take_all}
use Rattle.keel_base.specs.declared.listing.Entry.{Entry}
use Rattle.keel_name.specs.declared.spelled.Spelled.{Spelled}
use Rattle.keel_name.specs.Sorting.{HaveSameSizes, entries}
use Rattle.keel_name.proofs.Ascending.{listing_of}
use Rattle.keel_name.proofs.sorting.listed.Goals as goal

-- all are taken over
whole : (xs ys : List Spelled) (i : ℕ) (listing : List Entry) → length xs ≤ i → xs ≡ ys → listing ≡ entries (take i xs) → listing ≡ entries ys
whole xs ys i listing all same is = is ∙ ap entries (take_all i xs all ∙ same)

pub returns-clause-order : goal.returns-clause-order
returns-clause-order c =
    listing_of c.in_ok-sorted.sorted.items c.loop-spelled.listing
    (whole c.deref-spelled-items.result.now c.in_ok-sorted.sorted.items c.loop-spelled.spelled-index c.loop-spelled.listing c.loop-spelled-test.false c.deref-spelled-items.ensures.value c.loop-spelled.invariant)
    c.in_ok-sorted.ensures.order

pub returns-clause-sizes : goal.returns-clause-sizes
returns-clause-sizes c =
    let is = whole c.deref-spelled-items.result.now c.in_ok-sorted.sorted.items c.loop-spelled.spelled-index c.loop-spelled.listing c.loop-spelled-test.false c.deref-spelled-items.ensures.value c.loop-spelled.invariant in
    subst (λ (listing : List Entry). HaveSameSizes listing c.args.files.now) (sym is) c.in_ok-sorted.ensures.sizes
