-- The number of the next file, file by file.
use Rattle.std.proofs.Common.{◌≡◌, ◌⊎◌, inl, inr, ℕ, ◌+◌, ◌<◌, ◌≤◌, List, [], ◌∷◌, ◌++◌, length, take, get_or, refl, sym, subst, arith}
use Rattle.keel_base.specs.declared.listing.Entry.{Entry}
use Rattle.keel_listing.proofs.Parts.{one_more}
use Rattle.keel_open.specs.NextFiles.{number_in, IsOverAll, IsNextFile}

over_more : (n m : ℕ) (listing : List Entry) → n ≤ m → IsOverAll n listing → IsOverAll m listing
over_more n m [] le h = tt
over_more n m (entry ∷ listing) le h = (omega (arith, h.0, le), over_more n m listing le h.1)

over_push : (n : ℕ) (listing : List Entry) (entry : Entry) → IsOverAll n listing → number_in entry.name < n → IsOverAll n (listing ++ entry ∷ [])
over_push n [] entry h k = (k, tt)
over_push n (first ∷ listing) entry h k = (h.0, over_push n listing entry h.1 k)

over_front : (n : ℕ) (listing : List Entry) (entry : Entry) → IsOverAll n (listing ++ entry ∷ []) → IsOverAll n listing × (number_in entry.name < n)
over_front n [] entry h = (tt, h.0)
over_front n (first ∷ listing) entry h = let rest = over_front n listing entry h.1 in ((h.0, rest.0), rest.1)

pub next_push : (listing : List Entry) (floor next raised : ℕ) (entry : Entry) → IsNextFile listing floor next → next ≤ raised → number_in entry.name < raised → (raised ≡ next) ⊎ (raised ≡ number_in entry.name + 1)
    → IsNextFile (listing ++ entry ∷ []) floor raised
next_push listing floor next raised entry h kept over one = record {
  no_less = omega (arith, h.no_less, kept);
  positive = omega (arith, h.positive, kept);
  over = over_push raised listing entry (over_more next raised listing kept h.over) over;
  least = λ number low positive all.
      let parts = over_front number listing entry all in
      let before : next ≤ number = h.least number low positive parts.0 in
      let here : number_in entry.name < number = parts.1 in
      elim one [ inl same ↦ omega (arith, same, before) | inr same ↦ omega (arith, same, here) ];
}

pub next_more : (listing : List Entry) (i : ℕ) (d : Entry) (floor next raised : ℕ) → i < length listing → IsNextFile (take i listing) floor next → next ≤ raised → number_in (get_or listing i d).name < raised
    → (raised ≡ next) ⊎ (raised ≡ number_in (get_or listing i d).name + 1) → IsNextFile (take (i + 1) listing) floor raised
next_more listing i d floor next raised lt h kept over one =
    let entry : Entry = get_or listing i d in
    subst (λ (l : List Entry). IsNextFile l floor raised) (sym (one_more listing i entry d lt refl)) (next_push (take i listing) floor next raised entry h kept over one)

pub next_first : (floor next : ℕ) → floor ≤ next → 1 ≤ next → (next ≡ floor) ⊎ (next ≡ 1) → IsNextFile [] floor next
next_first floor next low positive one = record {
  no_less = low;
  positive = positive;
  over = tt;
  least = λ number above some all. elim one [ inl same ↦ omega (arith, same, above) | inr same ↦ omega (arith, same, some) ];
}
