-- Fields read from left to right, up to the first that isn't there in full or isn't allowed.
use Rattle.std.specs.Prelude.{◌≡◌, ℕ, zero, suc, List, [], ◌∷◌, length, take, drop, Result, Ok, Err, nat_lt, nat_le, ◌&&◌, ◌==◌, if◌then◌else◌}
use Rattle.std.specs.Int.{Width, byte_len, from_le_bytes}
use Rattle.keel_fields.specs.declared.error.FieldError.{FieldError}
use Rattle.keel_fields.specs.declared.error.FieldError.TheVariants as errors

-- a value and the bytes behind it; or how many bytes are left where the first field begins that can't
-- be read
abbrev pub Read : Type 0 → Type 0
Read A = Result (A × List ℕ) ℕ

-- what is read next, if reading has not ended
infixl 10 ◌>>=◌
abbrev pub ◌>>=◌ : {A B : Type 0} → Result A ℕ → (A → Result B ℕ) → Result B ℕ
(Ok x) >>= f = f x
(Err left) >>= f = Err left

-- an error tells where reading ends, or that memory ran out
abbrev pub Fails : {B : Type 0} → FieldError → Result B ℕ → Type 0
Fails errors.OutOfMemory read = Unit {0}
Fails (errors.Bad left) read = read ≡ Err left

-- what a function returned, seen by view, is what reading gives, unless memory ran out
abbrev pub Gives : {A B : Type 0} → (A → B) → Result A FieldError → Result B ℕ → Type 0
Gives view (Ok x) read = read ≡ Ok (view x)
Gives view (Err e) read = Fails e read

-- a number of that width
abbrev pub number_at : Width → List ℕ → Read ℕ
number_at w bytes =
    if nat_lt (length bytes) (byte_len w) then Err (length bytes)
    else Ok (from_le_bytes w (take (byte_len w) bytes), drop (byte_len w) bytes)

-- one byte
abbrev pub byte_at : List ℕ → Read ℕ
byte_at [] = Err 0
byte_at (b ∷ rest) = Ok (b, rest)

-- a number of that width between two bounds
unfoldable pub bounded_at : Width → ℕ → ℕ → List ℕ → Read ℕ
bounded_at w least most bytes = do
  n ← number_at w bytes
  if nat_le least n.0 && nat_le n.0 most then Ok n else Err (length bytes)

-- that many bytes
abbrev pub bytes_at : ℕ → List ℕ → Read (List ℕ)
bytes_at n bytes =
    if nat_lt (length bytes) n then Err (length bytes) else Ok (take n bytes, drop n bytes)

-- a length, and that many bytes
abbrev pub sized_at : (List ℕ → Read ℕ) → List ℕ → Read (List ℕ)
sized_at length_at bytes = do
  n ← length_at bytes
  bytes_at n.0 n.1

-- a field, and behind it another that may ask for the first
abbrev pub linked : {A B : Type 0} → (List ℕ → Read A) → (A → List ℕ → Read B) → List ℕ → Read (A × B)
linked first_at second_at bytes = do
  a ← first_at bytes
  b ← second_at a.0 a.1
  Ok ((a.0, b.0), b.1)

-- two fields, one behind the other
abbrev pub both : {A B : Type 0} → (List ℕ → Read A) → (List ℕ → Read B) → List ℕ → Read (A × B)
both first_at second_at = linked first_at (λ _. second_at)

-- a value made of what was read
abbrev pub made : {A B : Type 0} → (A → B) → (List ℕ → Read A) → List ℕ → Read B
made make read_at bytes = do
  a ← read_at bytes
  Ok (make a.0, a.1)

-- that many values, one behind the other
unfoldable pub many_at : {A : Type 0} → (List ℕ → Read A) → ℕ → List ℕ → Read (List A)
many_at one_at zero bytes = Ok ([], bytes)
many_at one_at (suc n) bytes = do
  first ← one_at bytes
  others ← many_at one_at n first.1
  Ok (first.0 ∷ others.0, others.1)

-- a count, and that many values
abbrev pub counted_at : {A : Type 0} → Width → (List ℕ → Read A) → List ℕ → Read (List A)
counted_at w one_at bytes = do
  n ← number_at w bytes
  many_at one_at n.0 n.1

-- a value, and nothing behind it
abbrev pub alone : {A : Type 0} → Read A → Result A ℕ
alone read = read >>= λ x. if length x.1 == 0 then Ok x.0 else Err (length x.1)
