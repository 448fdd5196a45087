-- A log and a pair at their places.
use Rattle.std.proofs.Common.{◌≡◌, ℕ, suc, ◌+◌, ◌<◌, Bool, true, false, cond, ltb, List, [], ◌∷◌, ◌++◌, length, get_or, set, take, drop, Option, Some, None, refl, sym, ap, subst, ◌∙◌, arith}
use Rattle.std.specs.Prelude.{not}
use Rattle.std.specs.List.{prefix_len}
use Rattle.std.proofs.lemmas.Bool.{ltb-true, ltb-false, lt-ltb, le-ltb, eq-eqb, ne_eqb}
use Rattle.std.specs.declared.cmp.Ordering.{Ordering}
use Rattle.std.specs.declared.cmp.Ordering.TheVariants.{Less, Equal, Greater}
use Rattle.std.specs.Ordering.{is_lt, is_eq}
use Rattle.std.specs.FinMap.Entries.{find, put}
use Rattle.keel_base.specs.Keys.{key_cmp, key_lt}
use Rattle.keel_directory.specs.declared.logs.LogFile.{LogFile}
use Rattle.keel_directory.specs.Replays.{put_log}

one_more : (b : Bool) (n : ℕ) → cond b (suc n) 0 ≡ cond b (1 + n) 0
one_more b n = let e : suc n ≡ 1 + n = omega arith in ap (λ (k : ℕ). cond b k 0) e

-- ---- logs

abbrev pub place : LogFile → List LogFile → ℕ
place log logs = prefix_len (λ other. ltb other.number log.number) logs

behind_lesser : (log other : LogFile) (logs : List LogFile) → other.number < log.number → put_log log (other ∷ logs) ≡ other ∷ put_log log logs
behind_lesser log other logs lt =
    rw (le-ltb log.number other.number (omega arith), ne_eqb log.number other.number (λ e. omega (arith, lt, e))) refl

abbrev pub Over : LogFile → LogFile → List LogFile → ℕ → Type 0
Over log d logs at = at < length logs → (get_or logs at d).number ≡ log.number → set logs at log ≡ put_log log logs

over_by : (b : Bool) (log d other : LogFile) (logs : List LogFile) → ltb other.number log.number ≡ b → Over log d logs (place log logs) → Over log d (other ∷ logs) (cond b (suc (place log logs)) 0)
over_by true log d other logs e rest lt same = ap (λ (ls : List LogFile). other ∷ ls) (rest (omega (arith, lt)) same) ∙ sym (behind_lesser log other logs (ltb-true other.number log.number e))
over_by false log d other logs e rest lt same = rw (le-ltb log.number other.number (omega (arith, same)), eq-eqb log.number other.number (sym same)) refl

-- a log takes the place of one with its number
pub put_over : (log d : LogFile) (logs : List LogFile) → Over log d logs (place log logs)
put_over log d [] = λ lt same. absurd (omega (arith, lt))
put_over log d (other ∷ logs) =
    let b : Bool = ltb other.number log.number in
    subst (Over log d (other ∷ logs)) (one_more b (place log logs)) (over_by b log d other logs refl (put_over log d logs))

abbrev pub Between : LogFile → LogFile → List LogFile → ℕ → Type 0
Between log d logs at = (at < length logs → (get_or logs at d).number ≡ log.number → ⊥) → take at logs ++ log ∷ drop at logs ≡ put_log log logs

between_by : (b : Bool) (log d other : LogFile) (logs : List LogFile) → ltb other.number log.number ≡ b → Between log d logs (place log logs) → Between log d (other ∷ logs) (cond b (suc (place log logs)) 0)
between_by true log d other logs e rest apart =
    ap (λ (ls : List LogFile). other ∷ ls) (rest (λ lt same. apart (omega (arith, lt)) same)) ∙ sym (behind_lesser log other logs (ltb-true other.number log.number e))
between_by false log d other logs e rest apart =
    let from = ltb-false other.number log.number e in
    let ne : log.number ≡ other.number → ⊥ = λ same. apart (omega arith) (sym same) in
    rw (lt-ltb log.number other.number (omega (arith, from, ne))) refl

-- else it stands between those that are lesser and those that are greater
pub put_between : (log d : LogFile) (logs : List LogFile) → Between log d logs (place log logs)
put_between log d [] = λ apart. refl
put_between log d (other ∷ logs) =
    let b : Bool = ltb other.number log.number in
    subst (Between log d (other ∷ logs)) (one_more b (place log logs)) (between_by b log d other logs refl (put_between log d logs))

-- ---- pairs

abbrev PairList : Type 0
PairList = List (List ℕ × List ℕ)

abbrev pub spot : List ℕ → PairList → ℕ
spot key pairs = prefix_len (λ pair. not (key_lt key pair.0)) pairs

abbrev pub Puts : List ℕ → List ℕ → PairList → ℕ → Type 0
Puts key value pairs at = take at pairs ++ (key, value) ∷ drop at pairs ≡ put key_cmp key value pairs

put_by : (o : Ordering) (key value : List ℕ) (pair : List ℕ × List ℕ) (pairs : PairList) → key_cmp key pair.0 ≡ o → is_eq o ≡ false → Puts key value pairs (spot key pairs)
    → Puts key value (pair ∷ pairs) (cond (not (is_lt o)) (suc (spot key pairs)) 0)
put_by Less key value pair pairs is apart rest = rw is refl
put_by Equal key value pair pairs is apart rest = absurd cc
put_by Greater key value pair pairs is apart rest = rw is (ap (λ (ps : PairList). pair ∷ ps) rest)

none_here : (b : Bool) (value : List ℕ) (rest : Option (List ℕ)) → cond b (Some value) rest ≡ None → (b ≡ false) × (rest ≡ None)
none_here true value rest e = absurd cc
none_here false value rest e = (refl, e)

-- a pair whose key isn't there stands before the first that is over it
pub put_pair : (key value : List ℕ) (pairs : PairList) → find key_cmp key pairs ≡ None → Puts key value pairs (spot key pairs)
put_pair key value [] none = refl
put_pair key value (pair ∷ pairs) none =
    let apart = none_here (is_eq (key_cmp key pair.0)) pair.1 (find key_cmp key pairs) none in
    subst (Puts key value (pair ∷ pairs)) (one_more (not (key_lt key pair.0)) (spot key pairs)) (put_by (key_cmp key pair.0) key value pair pairs refl apart.0 (put_pair key value pairs apart.1))
