-- The front of a list, with one more.
use Rattle.std.proofs.Common.{◌≡◌, ℕ, ◌+◌, ◌<◌, List, [], ◌∷◌, ◌++◌, length, take, get_or, sym, ap, ◌∙◌}
use Rattle.std.proofs.lemmas.Grind.{take_at_read}

pub one_more : {A : Type 0} (xs : List A) (i : ℕ) (x d : A) → i < length xs → x ≡ get_or xs i d → take (i + 1) xs ≡ take i xs ++ x ∷ []
one_more {A = A} xs i x d lt is = (take_at_read xs i d lt).1 ∙ ap (λ (y : A). take i xs ++ y ∷ []) (sym is)
