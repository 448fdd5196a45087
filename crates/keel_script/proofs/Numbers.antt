-- Which number a word is.
use Rattle.std.proofs.Common.{◌≡◌, ◌≢◌, ℕ, ◌<◌, ◌^◌, ◌&&◌, ltb, List, Option, Some, None, IfSome, IfNone, refl, sym, ap, ◌∙◌}
use Rattle.std.specs.Fmt.{decimal}
use Rattle.std.specs.Str.{bytes_eq}
use Rattle.std.specs.Str.Parse.{AllDigits, digits_value}
use Rattle.std.proofs.lemmas.Bool.{lt-ltb, ltb-true}
use Rattle.std.proofs.lemmas.Fmt.{digits_value-decimal}
use Rattle.std.proofs.lemmas.Slice.Eq.{bytes_eq-Decides}
use Rattle.std.proofs.lemmas.Str.Parse.{numerals_by_value, tells_digits}
use Rattle.keel_script.specs.Reading.{decimal_from}
use Rattle.keel_script.proofs.Choices.{only_if, both}

value_decimal : (n : ℕ) → n < 2 ^ 64 → digits_value 10 (decimal n) ≡ n
value_decimal n small = digits_value-decimal (numerals_by_value (AllDigits 10) tells_digits) n small

-- what is printed of a number is read as it
pub decimal_from-decimal : (word : List ℕ) (n : ℕ) → n < 2 ^ 64 → word ≡ decimal n → decimal_from word ≡ Some n
unfolding decimal_from
decimal_from-decimal word n small same =
    let value : digits_value 10 word ≡ n = ap (digits_value 10) same ∙ value_decimal n small in
    rw (value, (bytes_eq-Decides word (decimal n)).1 same, lt-ltb n (2 ^ 64) small) refl

-- what is read is what is printed
pub decimal_from-some : (word : List ℕ) (n : ℕ) → decimal_from word ≡ Some n → (n < 2 ^ 64) × (word ≡ decimal n)
unfolding decimal_from
decimal_from-some word n read =
    let value = digits_value 10 word in
    let tests = only_if (bytes_eq word (decimal value) && ltb value (2 ^ 64)) (Some value) n read in
    let parts = both (bytes_eq word (decimal value)) (ltb value (2 ^ 64)) tests.0 in
    let same : value ≡ n = cc in
    (rw same at (ltb-true value (2 ^ 64) parts.1), rw same at ((bytes_eq-Decides word (decimal value)).0 parts.0))

nothing : (word : List ℕ) (read : Option ℕ) → decimal_from word ≡ read → ((n : ℕ) → n < 2 ^ 64 → word ≢ decimal n) → None ≡ read
nothing word None is none = refl
nothing word (Some n) is none = let found = decimal_from-some word n is in absurd (none n found.0 found.1)

-- no other answer has these properties
pub decimal_from-is : (word : List ℕ) (read : Option ℕ) → IfSome read (λ n. word ≡ decimal n) → IfSome read (λ n. n < 2 ^ 64)
    → IfNone read ((n : ℕ) → n < 2 ^ 64 → word ≢ decimal n) → read ≡ decimal_from word
decimal_from-is word (Some n) found fits none = sym (decimal_from-decimal word n fits found)
decimal_from-is word None found fits none = nothing word (decimal_from word) refl none
