-- Logs that rise by number are known by what is found under each number.
use Rattle.std.proofs.Common.{◌≡◌, ℕ, ◌<◌, ◌≤◌, Bool, true, false, cond, eqb, List, [], ◌∷◌, ◌++◌, Option, Some, None, refl, sym, ap, subst, ◌∙◌, inl, inr, arith}
use Rattle.std.specs.List.{AllByRecursion}
use Rattle.std.proofs.lemmas.Bool.{cases_order, eq-eqb, ne_eqb, eqb-true}
use Rattle.keel_directory.specs.declared.logs.LogFile.{LogFile}
use Rattle.keel_directory.specs.Laws.{log_of, Rise}

abbrev pub Over : ℕ → List LogFile → Type 0
Over k logs = AllByRecursion (λ other. k < other.number) logs

abbrev pub Below : ℕ → List LogFile → Type 0
Below k logs = AllByRecursion (λ other. other.number < k) logs

no_bytes : Option (List ℕ)
no_bytes = None

-- under a number below all there is none
pub none_over : (n : ℕ) (logs : List LogFile) → ((m : ℕ) → n ≡ m → Over m logs) → log_of n logs ≡ None
none_over n [] over = refl
none_over n (log ∷ logs) over =
    rw (ne_eqb log.number n (λ e. omega (arith, e, (over n refl).0))) (none_over n logs (λ m same. (over m same).1))

-- under a number that all are below there is none
pub none_below : (n : ℕ) (logs : List LogFile) → Below n logs → log_of n logs ≡ None
none_below n [] below = refl
none_below n (log ∷ logs) below = rw (ne_eqb log.number n (λ e. omega (arith, e, below.0))) (none_below n logs below.1)

here : (log : LogFile) (logs : List LogFile) → log_of log.number (log ∷ logs) ≡ Some log.bytes
here log logs = rw (eq-eqb log.number log.number refl) refl

absent : (n : ℕ) (log : LogFile) (logs : List LogFile) → n < log.number → Over log.number logs → log_of n (log ∷ logs) ≡ None
absent n log logs lt over = rw (ne_eqb log.number n (λ e. omega (arith, e, lt))) (none_over n logs (λ m same. over_more m log.number logs (omega (arith, same, lt)) over))
  where
    over_more : (k m : ℕ) (logs : List LogFile) → k < m → Over m logs → Over k logs
    over_more k m [] lt over = tt
    over_more k m (log ∷ logs) lt over = (omega (arith, lt, over.0), over_more k m logs lt over.1)

some_not_none : (bytes : List ℕ) (o : Option (List ℕ)) → o ≡ Some bytes → o ≡ None → ⊥
some_not_none bytes None e f = cc
some_not_none bytes (Some other) e f = cc

same_some : (a b : List ℕ) → Some a ≡ Some b → a ≡ b
same_some a b e = cc

same_log : (a b : LogFile) → a.number ≡ b.number → a.bytes ≡ b.bytes → a ≡ b
same_log a b e f = λ i. record { number = e i; bytes = f i }

-- so are those behind two first ones of the same number
behind : (n : ℕ) (a b : LogFile) (xs ys : List LogFile) → a.number ≡ b.number → Over a.number xs → Over b.number ys → log_of n (a ∷ xs) ≡ log_of n (b ∷ ys) → log_of n xs ≡ log_of n ys
behind n a b xs ys e over_a over_b h = by (eqb a.number n) refl
  where
    by : (t : Bool) → eqb a.number n ≡ t → log_of n xs ≡ log_of n ys
    by true is =
        let at : a.number ≡ n = eqb-true a.number n is in
        none_over n xs (λ m same. subst (λ (k : ℕ). Over k xs) (at ∙ same) over_a) ∙ sym (none_over n ys (λ m same. subst (λ (k : ℕ). Over k ys) (sym e ∙ at ∙ same) over_b))
    by false is =
        let other : eqb b.number n ≡ false = subst (λ (k : ℕ). eqb k n ≡ false) e is in
        rw (is, other) at h

pub rising_same : (xs ys : List LogFile) → Rise xs → Rise ys → ((n : ℕ) → log_of n xs ≡ log_of n ys) → xs ≡ ys
rising_same [] [] rise_a rise_b h = refl
rising_same [] (b ∷ ys) rise_a rise_b h = absurd (some_not_none b.bytes (log_of b.number (b ∷ ys)) (here b ys) (sym (h b.number)))
rising_same (a ∷ xs) [] rise_a rise_b h = absurd (some_not_none a.bytes (log_of a.number (a ∷ xs)) (here a xs) (h a.number))
rising_same (a ∷ xs) (b ∷ ys) rise_a rise_b h =
    elim (cases_order a.number b.number) [
      | inl e ↦
          let found : log_of a.number (b ∷ ys) ≡ Some b.bytes = subst (λ (n : ℕ). log_of n (b ∷ ys) ≡ Some b.bytes) (sym e) (here b ys) in
          let first : a ≡ b = same_log a b e (same_some a.bytes b.bytes (sym (here a xs) ∙ h a.number ∙ found)) in
          let rest : xs ≡ ys = rising_same xs ys rise_a.1 rise_b.1 (λ n. behind n a b xs ys e rise_a.0 rise_b.0 (h n)) in
          λ i. first i ∷ rest i
      | inr (inl lt) ↦ absurd (some_not_none a.bytes (log_of a.number (a ∷ xs)) (here a xs) (h a.number ∙ absent a.number b ys lt rise_b.0))
      | inr (inr gt) ↦ absurd (some_not_none b.bytes (log_of b.number (b ∷ ys)) (here b ys) (sym (h b.number) ∙ absent b.number a xs gt rise_a.0))
    ]

-- ---- one more, above all

pub rise_more : (logs : List LogFile) (log : LogFile) → Rise logs → Below log.number logs → Rise (logs ++ log ∷ [])
rise_more [] log rise below = (tt, tt)
rise_more (first ∷ logs) log rise below = (over_end first.number logs log rise.0 below.0, rise_more logs log rise.1 below.1)
  where
    over_end : (k : ℕ) (logs : List LogFile) (log : LogFile) → Over k logs → k < log.number → Over k (logs ++ log ∷ [])
    over_end k [] log over lt = (lt, tt)
    over_end k (first ∷ logs) log over lt = (over.0, over_end k logs log over.1 lt)

pub below_more : (k m : ℕ) (logs : List LogFile) → k ≤ m → Below k logs → Below m logs
below_more k m [] le below = tt
below_more k m (log ∷ logs) le below = (omega (arith, le, below.0), below_more k m logs le below.1)

pub below_end : (k : ℕ) (logs : List LogFile) (log : LogFile) → Below k logs → log.number < k → Below k (logs ++ log ∷ [])
below_end k [] log below lt = (lt, tt)
below_end k (first ∷ logs) log below lt = (below.0, below_end k logs log below.1 lt)

pub log_of-append : (n : ℕ) (front back : List LogFile) → log_of n front ≡ None → log_of n (front ++ back) ≡ log_of n back
log_of-append n [] back none = refl
log_of-append n (log ∷ front) back none = by (eqb log.number n) none (log_of-append n front back)
  where
    by : (t : Bool) → cond t (Some log.bytes) (log_of n front) ≡ None → (log_of n front ≡ None → log_of n (front ++ back) ≡ log_of n back) → cond t (Some log.bytes) (log_of n (front ++ back)) ≡ log_of n back
    by true none rest = absurd cc
    by false none rest = rest none

pub log_of-front : (n : ℕ) (front back : List LogFile) → log_of n back ≡ None → log_of n (front ++ back) ≡ log_of n front
log_of-front n [] back none = none
log_of-front n (log ∷ front) back none = ap (λ (o : Option (List ℕ)). cond (eqb log.number n) (Some log.bytes) o) (log_of-front n front back none)
