-- Open files that are closed.
use Rattle.std.proofs.Common.{◌≡◌, ℕ, zero, suc, Bool, false, List, [], ◌∷◌, All, take, get_or, cond, refl, ap, arith}
use Rattle.std.specs.Prelude.{IsSomeAnd}
use Rattle.std.specs.List.{filter, remove, slice_get, slice_set}
use Rattle.std.proofs.lemmas.List.Elements.{All-tail}
use Rattle.keel_base.specs.declared.file_name.FileName.{FileName}
use Rattle.keel_base.specs.Name.{name_eq}
use Rattle.keel_dirdisk.specs.declared.held.Held.{Held}
use Rattle.keel_dirdisk.specs.Opened.{IsOpen, with_name}

-- a test loses nothing with an element at which it fails
pub filter-remove : {X : Type 0} (p : X → Bool) (xs : List X) (i : ℕ) → IsSomeAnd (slice_get xs i) (λ x. p x ≡ false) → filter p (remove xs i) ≡ filter p xs
filter-remove p [] i fails = absurd fails
filter-remove p (x ∷ xs) zero fails = rw fails refl
filter-remove p (x ∷ xs) (suc i) fails = ap (λ rest. cond (p x) (x ∷ rest) rest) (filter-remove p xs i fails)

-- none of these has the name
pub with_name-none : {F : Type 0} (from to : FileName) (files : List (Held F)) → All (λ held. name_eq held.name from ≡ false) files → with_name from to files ≡ files
with_name-none from to [] others = refl
with_name-none from to (held ∷ files) others =
    let here : name_eq held.name from ≡ false = others 0 held (omega arith) in
    rw here (ap (λ rest. held ∷ rest) (with_name-none from to files (All-tail (λ h. name_eq h.name from ≡ false) held files others)))

-- the file at this place has the name, and none before it
pub with_name-at : {F : Type 0} (from to : FileName) (files : List (Held F)) (place : ℕ) (found : Held F) → IsOpen from files place → All (λ held. name_eq held.name from ≡ false) (take place files)
    → found ≡ get_or files place found → slice_set files place (record found { name = to }) ≡ with_name from to files
with_name-at {F} from to [] place found open_is others found_is = absurd open_is
with_name-at {F} from to (held ∷ files) zero found open_is others found_is = rw open_is (ap {A = Held F} (λ h. record h { name = to } ∷ files) found_is)
with_name-at {F} from to (held ∷ files) (suc place) found open_is others found_is =
    let here : name_eq held.name from ≡ false = others 0 held (omega arith) in
    rw here (ap (λ rest. held ∷ rest) (with_name-at from to files place found open_is (All-tail (λ h. name_eq h.name from ≡ false) held (take place files) others) found_is))
