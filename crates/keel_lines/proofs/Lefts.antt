-- What is left of an input, where that is told.
use Rattle.std.proofs.Common.{◌≡◌, ℕ, Option, None, Some, List, [], ◌++◌, ap, sym, ◌∙◌, append_assoc, Result, Ok, Err, OnErr}
use Rattle.std.specs.Io.KnownBytes.{Consumes, IsAtEnd, Keeps, prepend_known}

-- the same bytes in front of what is kept
pub kept_behind : (front first second : List ℕ) (a b : Option (List ℕ))
    → Keeps (prepend_known first a) (prepend_known second b) → Keeps (prepend_known (front ++ first) a) (prepend_known (front ++ second) b)
kept_behind front first second None b kept = tt
kept_behind front first second (Some x) None kept = absurd kept
kept_behind front first second (Some x) (Some y) kept =
    append_assoc front second y ∙ ap (λ l. front ++ l) kept ∙ sym (append_assoc front first x)

-- the front of what was kept is taken
pub taken_front : (bytes front rest : List ℕ) (old now : Option (List ℕ))
    → Keeps old (prepend_known bytes now) → bytes ≡ front ++ rest → Consumes old (prepend_known rest now) front
taken_front bytes front rest None now kept same = tt
taken_front bytes front rest (Some x) None kept same = absurd kept
taken_front bytes front rest (Some x) (Some y) kept same = sym kept ∙ ap (λ l. l ++ y) same ∙ append_assoc front rest y

-- at its end a source has no byte, and nothing is left where none is held
pub at_end : (rest : List ℕ) (now : Option (List ℕ)) → rest ≡ [] → IsAtEnd now → IsAtEnd (prepend_known rest now)
at_end rest None none ended = tt
at_end rest (Some x) none ended = ap (λ l. l ++ x) none ∙ ended

-- what holds of an error holds of this one
pub on_err : {T E : Type 0} (result : Result T E) (P : Type 0) → P → OnErr result P
on_err (Ok value) P holds = tt
on_err (Err error) P holds = holds

error_or : {T E : Type 0} → E → Result T E → E
error_or other (Ok value) = other
error_or other (Err error) = error

-- a result has one error
pub one_error : {T E : Type 0} (result : Result T E) (first second : E) → result ≡ Err first → result ≡ Err second → first ≡ second
unfolding error_or
one_error result first second is was = ap (error_or first) (sym is ∙ was)
