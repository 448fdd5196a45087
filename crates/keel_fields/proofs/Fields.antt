-- A field that is read is the field that was written, and what was written is read again.
use Rattle.std.proofs.Common.{◌≡◌, ℕ, zero, suc, ◌+◌, ◌^◌, ◌<◌, ◌≤◌, Bool, true, false, cond, ltb, eqb, List, [], ◌∷◌, ◌++◌, length, get_or, take, drop, Result, Ok, Err, refl, sym, ap, subst, ◌∙◌, append_assoc, arith, inl, inr}
use Rattle.std.specs.Prelude.{◌&&◌, nat_le}
use Rattle.std.specs.Int.{Width, w32, w64, byte_len, from_le_bytes, to_le_bytes}
use Rattle.std.specs.List.{flat_map, AllByRecursion}
use Rattle.std.proofs.lemmas.Bool.{cases_lt, ltb-false, le-ltb, eqb-true, leb-true, le-leb}
use Rattle.std.proofs.lemmas.List.{take_at, drop_at, take-append-drop, length-append, length-take, get_or-drop, get_or-take, get_or_past, nil_from_length, append-nil}
use Rattle.std.proofs.lemmas.List.Concat.{flat_map-cons}
use Rattle.std.proofs.lemmas.Nat.{le_bytes_4, le_bytes_8, from_le_bytes-to_le_bytes_4, from_le_bytes-to_le_bytes_8}
use Rattle.keel_fields.specs.Reading.{Read, ◌>>=◌, number_at, bounded_at, bytes_at, sized_at, linked, both, made, many_at, counted_at, alone}

abbrev pub IsBytes : List ℕ → Type 0
IsBytes bytes = (i : ℕ) → get_or bytes i 0 < 256

pub IsBytes-drop : (n : ℕ) (bytes : List ℕ) → IsBytes bytes → IsBytes (drop n bytes)
IsBytes-drop n bytes h i = rw get_or-drop (h (n + i))

pub IsBytes-rest : (b : ℕ) (bytes : List ℕ) → IsBytes (b ∷ bytes) → IsBytes bytes
IsBytes-rest b bytes h i = h (suc i)

IsBytes-take : (n : ℕ) (bytes : List ℕ) → IsBytes bytes → IsBytes (take n bytes)
IsBytes-take n bytes h i =
    elim (cases_lt i n) [
      | inl lt ↦ rw (get_or-take n bytes i 0 lt) (h i)
      | inr le ↦ rw (get_or_past (take n bytes) i 0 (omega (arith, length-take n bytes))) (omega arith)
    ]

-- the value of a step that did not fail
pub bind_ok : {A B : Type 0} (r : Result A ℕ) (f : A → Result B ℕ) (y : B) → (r >>= f) ≡ Ok y → (x : A) × (r ≡ Ok x) × (f x ≡ Ok y)
bind_ok (Ok x) f y e = (x, refl, e)
bind_ok (Err d) f y e = absurd cc

-- a test that did not fail
pub guard_ok : {A : Type 0} (b : Bool) (d : ℕ) (x y : A) → cond b (Err d) (Ok x) ≡ Ok y → (b ≡ false) × (x ≡ y)
guard_ok true d x y e = absurd cc
guard_ok false d x y e = (refl, cc)

pub check_ok : {A : Type 0} (b : Bool) (d : ℕ) (x y : A) → cond b (Ok x) (Err d) ≡ Ok y → (b ≡ true) × (x ≡ y)
check_ok true d x y e = (refl, cc)
check_ok false d x y e = absurd cc

abbrev done : {A : Type 0} → A → Result A ℕ
done x = Ok x

pub ok_is : {A : Type 0} (x y : A) → done x ≡ done y → x ≡ y
ok_is x y e = cc

-- what a reader took from the front
pub record Takes (bytes text rest : List ℕ) : Type 0 where
  pub parts : bytes ≡ text ++ rest
  pub rest_fits : IsBytes rest

pub Takes-then : (a x b y c : List ℕ) → Takes a x b → Takes b y c → Takes a (x ++ y) c
Takes-then a x b y c p q = record { parts = p.parts ∙ ap (λ (t : List ℕ). x ++ t) q.parts ∙ sym (append_assoc x y c); rest_fits = q.rest_fits }

-- a reader and the text that it reads
pub record IsField {A : Type 0} (read : List ℕ → Read A) (text : A → List ℕ) (Fits : A → Type 0) : Type 0 where
  pub takes : (bytes : List ℕ) (x : A × List ℕ) → IsBytes bytes → read bytes ≡ Ok x → Takes bytes (text x.0) x.1 × Fits x.0
  pub again : (a : A) (rest : List ℕ) → Fits a → read (text a ++ rest) ≡ Ok (a, rest)

-- ---- numbers

pub record IsWide (w : Width) (limit : ℕ) : Type 0 where
  pub len : (n : ℕ) → length (to_le_bytes w n) ≡ byte_len w
  pub back : (bytes : List ℕ) → length bytes ≡ byte_len w → IsBytes bytes → to_le_bytes w (from_le_bytes w bytes) ≡ bytes
  pub again : (n : ℕ) → n < limit → from_le_bytes w (to_le_bytes w n) ≡ n
  pub below : (bytes : List ℕ) → IsBytes bytes → from_le_bytes w bytes < limit

pub wide32 : IsWide w32 (2 ^ 32)
wide32 = record {
  len = λ n. refl;
  back = λ bytes len fits. le_bytes_4 bytes _ len fits refl;
  again = λ n lt. from_le_bytes-to_le_bytes_4 n lt;
  below = λ bytes fits. omega (arith, fits 0, fits 1, fits 2, fits 3);
}

pub wide64 : IsWide w64 (2 ^ 64)
wide64 = record {
  len = λ n. refl;
  back = λ bytes len fits. le_bytes_8 bytes _ len fits refl;
  again = λ n lt. from_le_bytes-to_le_bytes_8 n lt;
  below = λ bytes fits. omega (arith, fits 0, fits 1, fits 2, fits 3, fits 4, fits 5, fits 6, fits 7);
}

number_takes : (w : Width) (limit : ℕ) (wide : IsWide w limit) (bytes : List ℕ) (n : ℕ) (rest : List ℕ) → IsBytes bytes → number_at w bytes ≡ Ok (n, rest) → Takes bytes (to_le_bytes w n) rest × (n < limit)
number_takes w limit wide bytes n rest fits e =
    let g = guard_ok (ltb (length bytes) (byte_len w)) (length bytes) (from_le_bytes w (take (byte_len w) bytes), drop (byte_len w) bytes) (n, rest) e in
    let long : byte_len w ≤ length bytes = ltb-false _ _ g.0 in
    let n-is : from_le_bytes w (take (byte_len w) bytes) ≡ n = ap (λ (p : ℕ × List ℕ). p.0) g.1 in
    let rest-is : drop (byte_len w) bytes ≡ rest = ap (λ (p : ℕ × List ℕ). p.1) g.1 in
    let front : to_le_bytes w n ≡ take (byte_len w) bytes = rw (← n-is) (wide.back (take (byte_len w) bytes) (omega (arith, length-take (byte_len w) bytes)) (IsBytes-take (byte_len w) bytes fits)) in
    (record { parts = rw (front, ← rest-is) (sym (take-append-drop (byte_len w) bytes)); rest_fits = rw (← rest-is) (IsBytes-drop (byte_len w) bytes fits) }, rw (← n-is) (wide.below (take (byte_len w) bytes) (IsBytes-take (byte_len w) bytes fits)))

pub number_again : (w : Width) (limit : ℕ) (wide : IsWide w limit) (n : ℕ) (rest : List ℕ) → n < limit → number_at w (to_le_bytes w n ++ rest) ≡ Ok (n, rest)
number_again w limit wide n rest lt =
    let len = wide.len n in
    let long : ltb (length (to_le_bytes w n ++ rest)) (byte_len w) ≡ false = le-ltb _ _ (omega (arith, length-append (to_le_bytes w n) rest)) in
    rw (long, take_at (to_le_bytes w n) rest (byte_len w) len, drop_at (to_le_bytes w n) rest (byte_len w) len, wide.again n lt) refl

pub number_field : (w : Width) (limit : ℕ) → IsWide w limit → IsField (number_at w) (to_le_bytes w) (λ n. n < limit)
number_field w limit wide = record {
  takes = λ bytes x fits e. number_takes w limit wide bytes x.0 x.1 fits e;
  again = λ n rest lt. number_again w limit wide n rest lt;
}

abbrev pub Between : ℕ → ℕ → ℕ → Type 0
Between least most n = (least ≤ n) × (n ≤ most)

both_true : (b c : Bool) → (b && c) ≡ true → (b ≡ true) × (c ≡ true)
both_true true true h = (refl, refl)
both_true true false h = absurd cc
both_true false c h = absurd cc

pub between_true : (least n most : ℕ) → (nat_le least n && nat_le n most) ≡ true → Between least most n
between_true least n most h =
    let p = both_true (nat_le least n) (nat_le n most) h in
    (leb-true least n p.0, leb-true n most p.1)

pub true_between : (least n most : ℕ) → Between least most n → (nat_le least n && nat_le n most) ≡ true
true_between least n most h = rw (le-leb least n h.0, le-leb n most h.1) refl

pub bounded_field : (w : Width) (limit : ℕ) → IsWide w limit → (least most : ℕ) → most < limit → IsField (bounded_at w least most) (to_le_bytes w) (Between least most)
unfolding bounded_at
bounded_field w limit wide least most below = record {
  takes = λ bytes x fits e.
      let b = bind_ok (number_at w bytes) (λ n. cond (nat_le least n.0 && nat_le n.0 most) (Ok n) (Err (length bytes))) x e in
      let g = check_ok (nat_le least b.0.0 && nat_le b.0.0 most) (length bytes) b.0 x b.2 in
      let t = number_takes w limit wide bytes b.0.0 b.0.1 fits b.1 in
      subst (λ (y : ℕ × List ℕ). Takes bytes (to_le_bytes w y.0) y.1 × Between least most y.0) g.1 (t.0, between_true least b.0.0 most g.0);
  again = λ n rest h. rw (number_again w limit wide n rest (omega (arith, h.1)), true_between least n most h) refl;
}

-- ---- bytes behind their length

pub bytes_takes : (n : ℕ) (bytes : List ℕ) (x : List ℕ × List ℕ) → IsBytes bytes → bytes_at n bytes ≡ Ok x → Takes bytes x.0 x.1 × (length x.0 ≡ n)
bytes_takes n bytes x fits e =
    let g = guard_ok (ltb (length bytes) n) (length bytes) (take n bytes, drop n bytes) x e in
    let long : n ≤ length bytes = ltb-false _ _ g.0 in
    subst (λ (y : List ℕ × List ℕ). Takes bytes y.0 y.1 × (length y.0 ≡ n)) g.1 (record { parts = sym (take-append-drop n bytes); rest_fits = IsBytes-drop n bytes fits }, omega (arith, length-take n bytes))

pub bytes_again : (text rest : List ℕ) → bytes_at (length text) (text ++ rest) ≡ Ok (text, rest)
bytes_again text rest =
    let long : ltb (length (text ++ rest)) (length text) ≡ false = le-ltb _ _ (omega (arith, length-append text rest)) in
    rw (long, take_at text rest (length text) refl, drop_at text rest (length text) refl) refl

pub sized_field : (length_at : List ℕ → Read ℕ) (length_text : ℕ → List ℕ) (Fits : ℕ → Type 0) → IsField length_at length_text Fits
    → IsField (sized_at length_at) (λ text. length_text (length text) ++ text) (λ text. Fits (length text))
sized_field length_at length_text Fits field = record {
  takes = λ bytes x fits e.
      let b = bind_ok (length_at bytes) (λ n. bytes_at n.0 n.1) x e in
      let t = field.takes bytes b.0 fits b.1 in
      let u = bytes_takes b.0.0 b.0.1 x t.0.rest_fits b.2 in
      let both = Takes-then bytes (length_text b.0.0) b.0.1 x.0 x.1 t.0 u.0 in
      (subst (λ (k : ℕ). Takes bytes (length_text k ++ x.0) x.1) (sym u.1) both, subst Fits (sym u.1) t.1);
  again = λ text rest h.
      ap (sized_at length_at) (append_assoc (length_text (length text)) text rest) ∙ rw (field.again (length text) (text ++ rest) h) (bytes_again text rest);
}

-- the same text and the same limits, said otherwise
pub refit_field : {A : Type 0} (read : List ℕ → Read A) (text : A → List ℕ) (Fits : A → Type 0) (other_text : A → List ℕ) (Other : A → Type 0)
    → ((a : A) → text a ≡ other_text a) → ((a : A) → Fits a → Other a) → ((a : A) → Other a → Fits a) → IsField read text Fits → IsField read other_text Other
refit_field read text Fits other_text Other same to from field = record {
  takes = λ bytes x fits e.
      let t = field.takes bytes x fits e in
      (subst (λ (u : List ℕ). Takes bytes u x.1) (same x.0) t.0, to x.0 t.1);
  again = λ a rest h. ap (λ (u : List ℕ). read (u ++ rest)) (sym (same a)) ∙ field.again a rest (from a h);
}

-- ---- fields behind each other

pub linked_field : {A B : Type 0} (first_at : List ℕ → Read A) (first_text : A → List ℕ) (First : A → Type 0) (second_at : A → List ℕ → Read B) (second_text : B → List ℕ) (Second : A → B → Type 0)
    → IsField first_at first_text First → ((a : A) → First a → IsField (second_at a) second_text (Second a))
    → IsField (linked first_at second_at) (λ p. first_text p.0 ++ second_text p.1) (λ p. First p.0 × Second p.0 p.1)
linked_field {A} {B} first_at first_text First second_at second_text Second first second = record {
  takes = λ bytes x fits e.
      let a = bind_ok (first_at bytes) (λ a. second_at a.0 a.1 >>= λ b. Ok ((a.0, b.0), b.1)) x e in
      let b = bind_ok (second_at a.0.0 a.0.1) (λ b. Ok ((a.0.0, b.0), b.1)) x a.2 in
      let t = first.takes bytes a.0 fits a.1 in
      let u = (second a.0.0 t.1).takes a.0.1 b.0 t.0.rest_fits b.1 in
      subst (λ (y : (A × B) × List ℕ). Takes bytes (first_text y.0.0 ++ second_text y.0.1) y.1 × (First y.0.0 × Second y.0.0 y.0.1)) (ok_is ((a.0.0, b.0.0), b.0.1) x b.2)
      (Takes-then bytes (first_text a.0.0) a.0.1 (second_text b.0.0) b.0.1 t.0 u.0, (t.1, u.1));
  again = λ p rest h.
      ap (linked first_at second_at) (append_assoc (first_text p.0) (second_text p.1) rest)
      ∙ rw (first.again p.0 (second_text p.1 ++ rest) h.0, (second p.0 h.0).again p.1 rest h.1) refl;
}

pub both_field : {A B : Type 0} (first_at : List ℕ → Read A) (first_text : A → List ℕ) (First : A → Type 0) (second_at : List ℕ → Read B) (second_text : B → List ℕ) (Second : B → Type 0)
    → IsField first_at first_text First → IsField second_at second_text Second
    → IsField (both first_at second_at) (λ p. first_text p.0 ++ second_text p.1) (λ p. First p.0 × Second p.1)
both_field first_at first_text First second_at second_text Second first second =
    linked_field first_at first_text First (λ _. second_at) second_text (λ _. Second) first (λ _ _. second)

pub made_field : {A B : Type 0} (make : A → B) (back : B → A) → (read_at : List ℕ → Read A) (text : A → List ℕ) (Fits : A → Type 0)
    → ((a : A) → Fits a → back (make a) ≡ a) → ((b : B) → make (back b) ≡ b) → IsField read_at text Fits
    → IsField (made make read_at) (λ b. text (back b)) (λ b. Fits (back b))
made_field {A} {B} make back read_at text Fits undone done_again field = record {
  takes = λ bytes x fits e.
      let a = bind_ok (read_at bytes) (λ a. Ok (make a.0, a.1)) x e in
      let t = field.takes bytes a.0 fits a.1 in
      subst (λ (y : B × List ℕ). Takes bytes (text (back y.0)) y.1 × Fits (back y.0)) (ok_is (make a.0.0, a.0.1) x a.2)
      (subst (λ (v : A). Takes bytes (text v) a.0.1 × Fits v) (sym (undone a.0.0 t.1)) t);
  again = λ b rest h.
      rw (field.again (back b) rest h) (ap (λ (v : B). Ok (v, rest)) (done_again b));
}

-- ---- many values

pub many_takes : {A : Type 0} (one : List ℕ → Read A) (text : A → List ℕ) (Fits : A → Type 0) → IsField one text Fits
    → (n : ℕ) (bytes : List ℕ) (x : List A × List ℕ) → IsBytes bytes → many_at one n bytes ≡ Ok x
    → Takes bytes (flat_map text x.0) x.1 × (length x.0 ≡ n) × AllByRecursion Fits x.0
unfolding many_at
many_takes {A} one text Fits field zero bytes x fits e =
    subst (λ (y : List A × List ℕ). Takes bytes (flat_map text y.0) y.1 × (length y.0 ≡ 0) × AllByRecursion Fits y.0) (ok_is ([], bytes) x e) (record { parts = refl; rest_fits = fits }, refl, tt)
many_takes {A} one text Fits field (suc n) bytes x fits e =
    let a = bind_ok (one bytes) (λ first. many_at one n first.1 >>= λ others. Ok (first.0 ∷ others.0, others.1)) x e in
    let b = bind_ok (many_at one n a.0.1) (λ others. Ok (a.0.0 ∷ others.0, others.1)) x a.2 in
    let first = field.takes bytes a.0 fits a.1 in
    let second = many_takes one text Fits field n a.0.1 b.0 first.0.rest_fits b.1 in
    let both = Takes-then bytes (text a.0.0) a.0.1 (flat_map text b.0.0) b.0.1 first.0 second.0 in
    let made : List A × List ℕ = (a.0.0 ∷ b.0.0, b.0.1) in
    subst (λ (y : List A × List ℕ). Takes bytes (flat_map text y.0) y.1 × (length y.0 ≡ suc n) × AllByRecursion Fits y.0) (ok_is made x b.2) (rw flat_map-cons both, ap suc second.1, (first.1, second.2))

pub many_again : {A : Type 0} (one : List ℕ → Read A) (text : A → List ℕ) (Fits : A → Type 0) → IsField one text Fits
    → (xs : List A) (rest : List ℕ) → AllByRecursion Fits xs → many_at one (length xs) (flat_map text xs ++ rest) ≡ Ok (xs, rest)
unfolding many_at
many_again one text Fits field [] rest fits = refl
many_again one text Fits field (x ∷ xs) rest fits =
    let regrouped : flat_map text (x ∷ xs) ++ rest ≡ text x ++ (flat_map text xs ++ rest) = ap (λ (t : List ℕ). t ++ rest) (flat_map-cons text x xs) ∙ append_assoc (text x) (flat_map text xs) rest in
    ap (many_at one (suc (length xs))) regrouped ∙ rw (field.again x (flat_map text xs ++ rest) fits.0, many_again one text Fits field xs rest fits.1) refl

-- counted values
pub counted_field : {A : Type 0} (w : Width) (limit : ℕ) → IsWide w limit → (one : List ℕ → Read A) (text : A → List ℕ) (Fits : A → Type 0) → IsField one text Fits
    → IsField (counted_at w one) (λ xs. to_le_bytes w (length xs) ++ flat_map text xs) (λ xs. (length xs < limit) × AllByRecursion Fits xs)
counted_field {A} w limit wide one text Fits field = record {
  takes = λ bytes x fits e.
      let n = bind_ok (number_at w bytes) (λ n. many_at one n.0 n.1) x e in
      let t = number_takes w limit wide bytes n.0.0 n.0.1 fits n.1 in
      let u = many_takes one text Fits field n.0.0 n.0.1 x t.0.rest_fits n.2 in
      (subst (λ (k : ℕ). Takes bytes (to_le_bytes w k ++ flat_map text x.0) x.1) (sym u.1) (Takes-then bytes (to_le_bytes w n.0.0) n.0.1 (flat_map text x.0) x.1 t.0 u.0), (subst (λ (k : ℕ). k < limit) (sym u.1) t.1, u.2));
  again = λ xs rest h.
      ap (counted_at w one) (append_assoc (to_le_bytes w (length xs)) (flat_map text xs) rest)
      ∙ rw (number_again w limit wide (length xs) (flat_map text xs ++ rest) h.0) (many_again one text Fits field xs rest h.1);
}

-- ---- nothing behind it

pub alone_takes : {A : Type 0} (read : List ℕ → Read A) (text : A → List ℕ) (Fits : A → Type 0) → IsField read text Fits
    → (bytes : List ℕ) (a : A) → IsBytes bytes → alone (read bytes) ≡ Ok a → (bytes ≡ text a) × Fits a
alone_takes read text Fits field bytes a fits e =
    let b = bind_ok (read bytes) (λ x. cond (eqb (length x.1) 0) (Ok x.0) (Err (length x.1))) a e in
    let g = check_ok (eqb (length b.0.1) 0) (length b.0.1) b.0.0 a b.2 in
    let t = field.takes bytes b.0 fits b.1 in
    let nothing : b.0.1 ≡ [] = nil_from_length b.0.1 (eqb-true _ _ g.0) in
    (t.0.parts ∙ ap (λ (r : List ℕ). text b.0.0 ++ r) nothing ∙ append-nil (text b.0.0) ∙ ap text g.1, subst Fits g.1 t.1)

pub alone_again : {A : Type 0} (read : List ℕ → Read A) (text : A → List ℕ) (Fits : A → Type 0) → IsField read text Fits
    → (a : A) → Fits a → alone (read (text a)) ≡ Ok a
alone_again read text Fits field a fits =
    let whole : read (text a) ≡ Ok (a, []) = ap read (sym (append-nil (text a))) ∙ field.again a [] fits in
    rw whole refl
