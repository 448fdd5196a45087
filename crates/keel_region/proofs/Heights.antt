-- Heights of trees, as roots are put over them and turned.
use Rattle.std.proofs.Common.{◌≡◌, ℕ, suc, ◌+◌, ◌-◌, ◌^◌, ◌<◌, ◌≤◌, inl, inr, refl, sym, ap, subst, ◌∙◌, arith}
use Rattle.std.specs.Prelude.{min, max}
use Rattle.std.proofs.lemmas.Bool.{cases_lt}
use Rattle.keel_region.specs.declared.span.IndexEntry.{IndexEntry}
use Rattle.keel_region.specs.Trees.{Tree, Leaf, Fork, height_of, AreEven, IsBalanced}
use Rattle.keel_region.specs.Turns.{greatest_height, IsOver, IsLowerLeft, IsLowerRight, RaisesLeft, RaisesRight, LeansLeft, LeansRight, AreNear, IsEvenedOf, Evens, Grows}

pub record IsHigherOf (left right tree : Tree) : Type 0 where
  pub balanced : IsBalanced tree
  pub height : height_of tree ≡ suc (max (height_of left) (height_of right))

-- a root over two even trees that aren't too high
pub over_even : (left right tree : Tree) → IsOver left right tree → IsBalanced left → IsBalanced right → AreEven left right
    → height_of left ≤ greatest_height + 2 → height_of right ≤ greatest_height + 2 → IsHigherOf left right tree
over_even left right tree over one two even low high =
    let size : min (2 ^ 8 - 1) (suc (max (height_of left) (height_of right))) ≡ suc (max (height_of left) (height_of right)) = omega (arith, low, high) in
    record {
      balanced = subst IsBalanced (sym over.is) (size, even, one, two);
      height = ap height_of over.is ∙ size;
    }

evened : (left right tree : Tree) → IsHigherOf left right tree → IsEvenedOf left right tree
evened left right tree higher = record {
  balanced = higher.balanced;
  least = omega (arith, higher.height);
  most = omega (arith, higher.height);
  over = λ even. higher.height;
}

pub evens_over : (left right tree : Tree) → height_of left ≤ height_of right + 1 → height_of right ≤ height_of left + 1 → IsOver left right tree → Evens left right tree
evens_over left right tree low high over near =
    evened left right tree (over_even left right tree over near.left_balanced near.right_balanced (record { left_low = low; right_low = high })
    (omega (arith, near.left_low)) (omega (arith, near.right_low)))

higher_left : (left right tree : Tree) → height_of right + 1 < height_of left → (IsBalanced tree) → (height_of left ≤ height_of tree) → (height_of tree ≤ height_of left + 1) → IsEvenedOf left right tree
higher_left left right tree more balanced least most = record {
  balanced = balanced;
  least = omega (arith, more, least);
  most = omega (arith, more, most);
  over = λ even. absurd (omega (arith, more, even.left_low));
}

higher_right : (left right tree : Tree) → height_of left + 1 < height_of right → (IsBalanced tree) → (height_of right ≤ height_of tree) → (height_of tree ≤ height_of right + 1) → IsEvenedOf left right tree
higher_right left right tree more balanced least most = record {
  balanced = balanced;
  least = omega (arith, more, least);
  most = omega (arith, more, most);
  over = λ even. absurd (omega (arith, more, even.right_low));
}

-- the left tree is higher by two: its own left side is as high as its right one
left_single : (place : ℕ) (entry : IndexEntry) (height : ℕ) (outer inner right tree : Tree) → height_of right + 1 < height → height_of inner ≤ height_of outer
    → AreNear (Fork place entry height outer inner) right → IsLowerRight outer inner right tree → IsEvenedOf (Fork place entry height outer inner) right tree
left_single place entry height outer inner right tree more le near raised =
    let own = near.left_balanced in
    let size : height ≡ suc (max (height_of outer) (height_of inner)) = own.0 in
    let even : AreEven outer inner = own.1 in
    let below = over_even inner right raised.below raised.pair own.3 near.right_balanced
    (record { left_low = omega (arith, size, le, more, near.left_near); right_low = omega (arith, size, le, more, near.left_near, even.left_low) })
    (omega (arith, size, near.left_low)) (omega (arith, near.right_low)) in
    let whole = over_even outer raised.below tree raised.whole own.2 below.balanced
    (record { left_low = omega (arith, below.height, size, le, more, near.left_near, even.left_low); right_low = omega (arith, below.height, size, le, more, near.left_near, even.left_low) })
    (omega (arith, size, near.left_low)) (omega (arith, below.height, size, le, near.left_low, near.right_low, more)) in
    higher_left (Fork place entry height outer inner) right tree more whole.balanced (omega (arith, whole.height, below.height, size, le, more, near.left_near, even.left_low))
    (omega (arith, whole.height, below.height, size, le, more, near.left_near, even.left_low))

-- or its right side is the higher one, and its root comes up
left_double : (place : ℕ) (entry : IndexEntry) (height : ℕ) (outer inner right lower tree : Tree) → height_of right + 1 < height → height_of outer < height_of inner
    → AreNear (Fork place entry height outer inner) right → RaisesRight outer inner lower → RaisesLeft lower right tree → IsEvenedOf (Fork place entry height outer inner) right tree
left_double place entry height outer Leaf right lower tree more less near turned raised = absurd (omega (arith, less))
left_double place entry height outer (Fork mid_place mid_entry mid_height first second) right lower tree more less near turned raised =
    let own = near.left_balanced in
    let mid = own.3 in
    let size : height ≡ suc (max (height_of outer) mid_height) = own.0 in
    let even : AreEven outer (Fork mid_place mid_entry mid_height first second) = own.1 in
    let mid_size : mid_height ≡ suc (max (height_of first) (height_of second)) = mid.0 in
    let mid_even : AreEven first second = mid.1 in
    let up : IsLowerRight turned.below second right tree = subst (λ (t : Tree). RaisesLeft t right tree) turned.whole.is raised in
    let one = over_even outer first turned.below turned.pair own.2 mid.2
    (record { left_low = omega (arith, size, mid_size, less, more, near.left_near, near.left_low, near.right_low, even.left_low, even.right_low, mid_even.left_low, mid_even.right_low); right_low = omega (arith, size, mid_size, less, more, near.left_near, near.left_low, near.right_low, even.left_low, even.right_low, mid_even.left_low, mid_even.right_low) }) (omega (arith, size, mid_size, less, more, near.left_near, near.left_low, near.right_low, even.left_low, even.right_low, mid_even.left_low, mid_even.right_low)) (omega (arith, size, mid_size, less, more, near.left_near, near.left_low, near.right_low, even.left_low, even.right_low, mid_even.left_low, mid_even.right_low)) in
    let two = over_even second right up.below up.pair mid.3 near.right_balanced
    (record { left_low = omega (arith, size, mid_size, less, more, near.left_near, near.left_low, near.right_low, even.left_low, even.right_low, mid_even.left_low, mid_even.right_low); right_low = omega (arith, size, mid_size, less, more, near.left_near, near.left_low, near.right_low, even.left_low, even.right_low, mid_even.left_low, mid_even.right_low) }) (omega (arith, size, mid_size, less, more, near.left_near, near.left_low, near.right_low, even.left_low, even.right_low, mid_even.left_low, mid_even.right_low)) (omega (arith, size, mid_size, less, more, near.left_near, near.left_low, near.right_low, even.left_low, even.right_low, mid_even.left_low, mid_even.right_low)) in
    let whole = over_even turned.below up.below tree up.whole one.balanced two.balanced
    (record { left_low = omega (arith, size, mid_size, less, more, near.left_near, near.left_low, near.right_low, even.left_low, even.right_low, mid_even.left_low, mid_even.right_low, one.height, two.height); right_low = omega (arith, size, mid_size, less, more, near.left_near, near.left_low, near.right_low, even.left_low, even.right_low, mid_even.left_low, mid_even.right_low, one.height, two.height) })
    (omega (arith, size, mid_size, less, more, near.left_near, near.left_low, near.right_low, even.left_low, even.right_low, mid_even.left_low, mid_even.right_low, one.height)) (omega (arith, size, mid_size, less, more, near.left_near, near.left_low, near.right_low, even.left_low, even.right_low, mid_even.left_low, mid_even.right_low, two.height)) in
    higher_left (Fork place entry height outer (Fork mid_place mid_entry mid_height first second)) right tree more whole.balanced
    (omega (arith, size, mid_size, less, more, near.left_near, near.left_low, near.right_low, even.left_low, even.right_low, mid_even.left_low, mid_even.right_low, one.height, two.height, whole.height)) (omega (arith, size, mid_size, less, more, near.left_near, near.left_low, near.right_low, even.left_low, even.right_low, mid_even.left_low, mid_even.right_low, one.height, two.height, whole.height))

pub evens_left : (left right lower tree : Tree) → height_of right + 1 < height_of left → LeansLeft left lower → RaisesLeft lower right tree → Evens left right tree
evens_left Leaf right lower tree more leans raised near = absurd (omega (arith, more))
evens_left (Fork place entry height outer inner) right lower tree more leans raised near =
    elim (cases_lt (height_of outer) (height_of inner)) [
      | inl less ↦ left_double place entry height outer inner right lower tree more less near (leans.turned less) raised
      | inr le ↦ left_single place entry height outer inner right tree more le near (subst (λ (t : Tree). RaisesLeft t right tree) (leans.same le) raised)
    ]

-- the same where the right tree is higher by two
right_single : (place : ℕ) (entry : IndexEntry) (height : ℕ) (left inner outer tree : Tree) → height_of left + 1 < height → height_of inner ≤ height_of outer
    → AreNear left (Fork place entry height inner outer) → IsLowerLeft left inner outer tree → IsEvenedOf left (Fork place entry height inner outer) tree
right_single place entry height left inner outer tree more le near raised =
    let own = near.right_balanced in
    let size : height ≡ suc (max (height_of inner) (height_of outer)) = own.0 in
    let even : AreEven inner outer = own.1 in
    let below = over_even left inner raised.below raised.pair near.left_balanced own.2
    (record { left_low = omega (arith, size, le, more, near.right_near, near.left_low, near.right_low, even.left_low, even.right_low); right_low = omega (arith, size, le, more, near.right_near, near.left_low, near.right_low, even.left_low, even.right_low) }) (omega (arith, size, le, more, near.right_near, near.left_low, near.right_low, even.left_low, even.right_low)) (omega (arith, size, le, more, near.right_near, near.left_low, near.right_low, even.left_low, even.right_low)) in
    let whole = over_even raised.below outer tree raised.whole below.balanced own.3
    (record { left_low = omega (arith, below.height, size, le, more, near.right_near, near.left_low, near.right_low, even.left_low, even.right_low); right_low = omega (arith, below.height, size, le, more, near.right_near, near.left_low, near.right_low, even.left_low, even.right_low) }) (omega (arith, below.height, size, le, more, near.right_near, near.left_low, near.right_low, even.left_low, even.right_low)) (omega (arith, size, le, more, near.right_near, near.left_low, near.right_low, even.left_low, even.right_low)) in
    higher_right left (Fork place entry height inner outer) tree more whole.balanced (omega (arith, whole.height, below.height, size, le, more, near.right_near, near.left_low, near.right_low, even.left_low, even.right_low)) (omega (arith, whole.height, below.height, size, le, more, near.right_near, near.left_low, near.right_low, even.left_low, even.right_low))

right_double : (place : ℕ) (entry : IndexEntry) (height : ℕ) (left inner outer lower tree : Tree) → height_of left + 1 < height → height_of outer < height_of inner
    → AreNear left (Fork place entry height inner outer) → RaisesLeft inner outer lower → RaisesRight left lower tree → IsEvenedOf left (Fork place entry height inner outer) tree
right_double place entry height left Leaf outer lower tree more less near turned raised = absurd (omega (arith, less))
right_double place entry height left (Fork mid_place mid_entry mid_height first second) outer lower tree more less near turned raised =
    let own = near.right_balanced in
    let mid = own.2 in
    let size : height ≡ suc (max mid_height (height_of outer)) = own.0 in
    let even : AreEven (Fork mid_place mid_entry mid_height first second) outer = own.1 in
    let mid_size : mid_height ≡ suc (max (height_of first) (height_of second)) = mid.0 in
    let mid_even : AreEven first second = mid.1 in
    let up : IsLowerLeft left first turned.below tree = subst (λ (t : Tree). RaisesRight left t tree) turned.whole.is raised in
    let one = over_even second outer turned.below turned.pair mid.3 own.3
    (record { left_low = omega (arith, size, mid_size, less, more, near.right_near, near.left_low, near.right_low, even.left_low, even.right_low, mid_even.left_low, mid_even.right_low); right_low = omega (arith, size, mid_size, less, more, near.right_near, near.left_low, near.right_low, even.left_low, even.right_low, mid_even.left_low, mid_even.right_low) }) (omega (arith, size, mid_size, less, more, near.right_near, near.left_low, near.right_low, even.left_low, even.right_low, mid_even.left_low, mid_even.right_low)) (omega (arith, size, mid_size, less, more, near.right_near, near.left_low, near.right_low, even.left_low, even.right_low, mid_even.left_low, mid_even.right_low)) in
    let two = over_even left first up.below up.pair near.left_balanced mid.2
    (record { left_low = omega (arith, size, mid_size, less, more, near.right_near, near.left_low, near.right_low, even.left_low, even.right_low, mid_even.left_low, mid_even.right_low); right_low = omega (arith, size, mid_size, less, more, near.right_near, near.left_low, near.right_low, even.left_low, even.right_low, mid_even.left_low, mid_even.right_low) }) (omega (arith, size, mid_size, less, more, near.right_near, near.left_low, near.right_low, even.left_low, even.right_low, mid_even.left_low, mid_even.right_low)) (omega (arith, size, mid_size, less, more, near.right_near, near.left_low, near.right_low, even.left_low, even.right_low, mid_even.left_low, mid_even.right_low)) in
    let whole = over_even up.below turned.below tree up.whole two.balanced one.balanced
    (record { left_low = omega (arith, size, mid_size, less, more, near.right_near, near.left_low, near.right_low, even.left_low, even.right_low, mid_even.left_low, mid_even.right_low, one.height, two.height); right_low = omega (arith, size, mid_size, less, more, near.right_near, near.left_low, near.right_low, even.left_low, even.right_low, mid_even.left_low, mid_even.right_low, one.height, two.height) })
    (omega (arith, size, mid_size, less, more, near.right_near, near.left_low, near.right_low, even.left_low, even.right_low, mid_even.left_low, mid_even.right_low, two.height)) (omega (arith, size, mid_size, less, more, near.right_near, near.left_low, near.right_low, even.left_low, even.right_low, mid_even.left_low, mid_even.right_low, one.height)) in
    higher_right left (Fork place entry height (Fork mid_place mid_entry mid_height first second) outer) tree more whole.balanced
    (omega (arith, size, mid_size, less, more, near.right_near, near.left_low, near.right_low, even.left_low, even.right_low, mid_even.left_low, mid_even.right_low, one.height, two.height, whole.height)) (omega (arith, size, mid_size, less, more, near.right_near, near.left_low, near.right_low, even.left_low, even.right_low, mid_even.left_low, mid_even.right_low, one.height, two.height, whole.height))

pub evens_right : (left right lower tree : Tree) → height_of left + 1 < height_of right → LeansRight right lower → RaisesRight left lower tree → Evens left right tree
evens_right left Leaf lower tree more leans raised near = absurd (omega (arith, more))
evens_right left (Fork place entry height inner outer) lower tree more leans raised near =
    elim (cases_lt (height_of outer) (height_of inner)) [
      | inl less ↦ right_double place entry height left inner outer lower tree more less near (leans.turned less) raised
      | inr le ↦ right_single place entry height left inner outer tree more le near (subst (λ (t : Tree). RaisesRight left t tree) (leans.same le) raised)
    ]

-- a node over a subtree that grew
pub grows_left : (place : ℕ) (entry : IndexEntry) (height : ℕ) (left right lower tree : Tree) → Grows left lower → Evens lower right tree → Grows (Fork place entry height left right) tree
grows_left place entry height left right lower tree grown evens own low =
    let size : height ≡ suc (max (height_of left) (height_of right)) = own.0 in
    let even : AreEven left right = own.1 in
    let lesser : height_of left ≤ greatest_height = omega (arith, size, low) in
    let sub = grown own.2 lesser in
    let next = evens (record {
      left_balanced = sub.balanced;
      right_balanced = own.3;
      left_near = omega (arith, size, low, even.left_low, even.right_low, sub.least, sub.most);
      right_near = omega (arith, size, low, even.left_low, even.right_low, sub.least, sub.most);
      left_low = omega (arith, size, low, even.left_low, even.right_low, sub.least, sub.most);
      right_low = omega (arith, size, low, even.left_low, even.right_low, sub.least, sub.most);
    }) in
    elim (cases_lt (height_of right + 1) (height_of lower)) [
      | inl more ↦ record { balanced = next.balanced; least = omega (arith, size, low, even.left_low, even.right_low, sub.least, sub.most, more, next.least); most = omega (arith, size, low, even.left_low, even.right_low, sub.least, sub.most, more, next.most) }
      | inr le ↦
          let is = next.over (record { left_low = le; right_low = omega (arith, size, low, even.left_low, even.right_low, sub.least, sub.most) }) in
          record { balanced = next.balanced; least = omega (arith, size, low, even.left_low, even.right_low, sub.least, sub.most, is); most = omega (arith, size, low, even.left_low, even.right_low, sub.least, sub.most, is) }
    ]

pub grows_right : (place : ℕ) (entry : IndexEntry) (height : ℕ) (left right lower tree : Tree) → Grows right lower → Evens left lower tree → Grows (Fork place entry height left right) tree
grows_right place entry height left right lower tree grown evens own low =
    let size : height ≡ suc (max (height_of left) (height_of right)) = own.0 in
    let even : AreEven left right = own.1 in
    let lesser : height_of right ≤ greatest_height = omega (arith, size, low) in
    let sub = grown own.3 lesser in
    let next = evens (record {
      left_balanced = own.2;
      right_balanced = sub.balanced;
      left_near = omega (arith, size, low, even.left_low, even.right_low, sub.least, sub.most);
      right_near = omega (arith, size, low, even.left_low, even.right_low, sub.least, sub.most);
      left_low = omega (arith, size, low, even.left_low, even.right_low, sub.least, sub.most);
      right_low = omega (arith, size, low, even.left_low, even.right_low, sub.least, sub.most);
    }) in
    elim (cases_lt (height_of left + 1) (height_of lower)) [
      | inl more ↦ record { balanced = next.balanced; least = omega (arith, size, low, even.left_low, even.right_low, sub.least, sub.most, more, next.least); most = omega (arith, size, low, even.left_low, even.right_low, sub.least, sub.most, more, next.most) }
      | inr le ↦
          let is = next.over (record { left_low = omega (arith, size, low, even.left_low, even.right_low, sub.least, sub.most); right_low = le }) in
          record { balanced = next.balanced; least = omega (arith, size, low, even.left_low, even.right_low, sub.least, sub.most, is); most = omega (arith, size, low, even.left_low, even.right_low, sub.least, sub.most, is) }
    ]

-- a node over a subtree that is as high as it was
pub grows_still_left : (place : ℕ) (entry : IndexEntry) (height : ℕ) (left right lower : Tree) → Grows left lower → height_of lower ≡ height_of left
    → Grows (Fork place entry height left right) (Fork place entry height lower right)
grows_still_left place entry height left right lower grown same own low =
    let size : height ≡ suc (max (height_of left) (height_of right)) = own.0 in
    let even : AreEven left right = own.1 in
    let sub = grown own.2 (omega (arith, size, low)) in
    record {
      balanced = (
        omega (arith, size, same),
        record { left_low = omega (arith, same, even.left_low); right_low = omega (arith, same, even.right_low) },
        sub.balanced,
        own.3,
      );
      least = omega arith;
      most = omega arith;
    }

pub grows_still_right : (place : ℕ) (entry : IndexEntry) (height : ℕ) (left right lower : Tree) → Grows right lower → height_of lower ≡ height_of right
    → Grows (Fork place entry height left right) (Fork place entry height left lower)
grows_still_right place entry height left right lower grown same own low =
    let size : height ≡ suc (max (height_of left) (height_of right)) = own.0 in
    let even : AreEven left right = own.1 in
    let sub = grown own.3 (omega (arith, size, low)) in
    record {
      balanced = (
        omega (arith, size, same),
        record { left_low = omega (arith, same, even.left_low); right_low = omega (arith, same, even.right_low) },
        own.2,
        sub.balanced,
      );
      least = omega arith;
      most = omega arith;
    }

-- the first node
pub grows_first : (place : ℕ) (entry : IndexEntry) → Grows Leaf (Fork place entry 1 Leaf Leaf)
grows_first place entry own low = record {
  balanced = (refl, record { left_low = omega arith; right_low = omega arith }, tt, tt);
  least = omega arith;
  most = omega arith;
}
