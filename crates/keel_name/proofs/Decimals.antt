-- Digits, the numbers that they spell, and zeros in front of them.
use Rattle.std.proofs.Common.{◌*◌, take, lit≤, ◌≡◌, ℕ, zero, suc, ◌+◌, ◌-◌, ◌<◌, ◌≤◌, ◌^◌, List, [], ◌∷◌, ◌++◌, length, get_or, replicate, refl, sym, ap, ◌∙◌, subst, inl, inr, arith, lit<}
use Rattle.std.specs.Char.{digit_value, IsAsciiDigit, IsNotAsciiDigit}
use Rattle.std.specs.Fmt.{decimal}
use Rattle.std.specs.Str.Parse.{AllDigits, digits_value}
use Rattle.std.proofs.lemmas.Bool.{cases_eq, cases_lt}
use Rattle.std.proofs.lemmas.Fmt.{digits_decimal, digits_value-decimal, decimal-digits_value, length-decimal-le, first_decimal, decimal_digit, decimal_nonempty}
use Rattle.std.proofs.lemmas.Int.Digits.{digits_value-lt, digits_value_more, digits_more}
use Rattle.std.proofs.lemmas.List.{length-append, length-replicate}
use Rattle.std.proofs.lemmas.Str.{digit_value_digit}
use Rattle.std.proofs.lemmas.Str.Parse.{IsNumeralModel, numerals_by_value, tells_digits, digit_at, digits_value-take-le}
use Rattle.keel_name.specs.Decimal.{padded, IsFilled}

pub own : IsNumeralModel (AllDigits 10) (digits_value 10)
own = numerals_by_value (AllDigits 10) tells_digits

-- zeros in front are digits and change no value
pub digits-zeros : (count : ℕ) (ds : List ℕ) → AllDigits 10 ds → AllDigits 10 (replicate count 48 ++ ds)
digits-zeros zero ds all = all
digits-zeros (suc count) ds all = (lit< tt, digits-zeros count ds all)

pub value-zeros : (count : ℕ) (ds : List ℕ) → digits_value 10 (replicate count 48 ++ ds) ≡ digits_value 10 ds
value-zeros zero ds = refl
value-zeros (suc count) ds = value-zeros count ds

-- a list that is filled up to its own length
filled : (xs ds : List ℕ) → xs ≡ ds → replicate (length ds - length xs) 48 ++ xs ≡ ds
filled xs ds same =
    let none : length ds - length xs ≡ 0 = omega (arith, ap length same) in
    rw none same

one_zero : (count len : ℕ) (xs ds : List ℕ) → len ≤ count → replicate (count - len) 48 ++ xs ≡ ds → replicate (suc count - len) 48 ++ xs ≡ 48 ∷ ds
one_zero count len xs ds within same =
    let more : suc count - len ≡ suc (count - len) = omega arith in
    rw more (ap (λ rest. 48 ∷ rest) same)

behind_zero : (ds : List ℕ) → AllDigits 10 ds → digits_value 10 ds < 2 ^ 64 → (0 < length ds → padded (length ds) (digits_value 10 ds) ≡ ds)
    → padded (suc (length ds)) (digits_value 10 ds) ≡ 48 ∷ ds
behind_zero [] all small same = rw (decimal_digit 0 (lit< tt)) refl
behind_zero (d ∷ ds) all small same =
    let within = length-decimal-le (length (d ∷ ds)) (digits_value 10 (d ∷ ds)) (omega arith) (digits_value-lt 10 (d ∷ ds) all) small in
    one_zero (length (d ∷ ds)) _ _ (d ∷ ds) within (same (omega arith))

-- digits are their value, filled up with zeros to their number
pub digits-padded : (ds : List ℕ) → AllDigits 10 ds → digits_value 10 ds < 2 ^ 64 → 0 < length ds → padded (length ds) (digits_value 10 ds) ≡ ds
digits-padded [] all small some = absurd (omega arith)
digits-padded (d ∷ ds) all small some =
    let is_padded : ℕ → Type 0 = λ (c : ℕ). AllDigits 10 (c ∷ ds) → digits_value 10 (c ∷ ds) < 2 ^ 64 → padded (length (c ∷ ds)) (digits_value 10 (c ∷ ds)) ≡ c ∷ ds in
    elim (cases_eq d 48) [
      | inl zero_first ↦ subst is_padded (sym zero_first) (λ all small. behind_zero ds all.1 small (digits-padded ds all.1 small)) all small
      | inr another ↦ filled (decimal (digits_value 10 (d ∷ ds))) (d ∷ ds)
          (decimal-digits_value own (d ∷ ds) all (omega arith) (λ is_zero. absurd (another is_zero)) small)
    ]

-- what is filled with zeros to a width and no further is what is printed so of its value
pub filled-padded : (width : ℕ) (ds : List ℕ) → 1 ≤ width → IsFilled width ds → AllDigits 10 ds → digits_value 10 ds < 2 ^ 64 → ds ≡ padded width (digits_value 10 ds)
filled-padded width ds some is all small =
    elim (cases_lt width (length ds)) [
      | inl more ↦
          let plain : decimal (digits_value 10 ds) ≡ ds = decimal-digits_value own ds all (omega (arith, is.least)) (λ is_zero. absurd (is.first more is_zero)) small in
          let none : width - length (decimal (digits_value 10 ds)) ≡ 0 = omega (arith, ap length plain) in
          rw none (sym plain)
      | inr most ↦
          let same : length ds ≡ width = omega (arith, is.least) in
          sym (rw same at (digits-padded ds all small (omega (arith, is.least))))
    ]

-- a padded number is digits of its value, and filled
pub digits_padded : (width number : ℕ) → number < 2 ^ 64 → AllDigits 10 (padded width number)
digits_padded width number small = digits-zeros (width - length (decimal number)) (decimal number) (digits_decimal own number small)

pub value_padded : (width number : ℕ) → number < 2 ^ 64 → digits_value 10 (padded width number) ≡ number
value_padded width number small = value-zeros (width - length (decimal number)) (decimal number) ∙ digits_value-decimal own number small

length_padded : (width number : ℕ) → length (padded width number) ≡ (width - length (decimal number)) + length (decimal number)
length_padded width number =
    omega (arith, length-append (replicate (width - length (decimal number)) 48) (decimal number), length-replicate {A = ℕ} (width - length (decimal number)) 48)

pub filled_padded : (width number : ℕ) → 1 ≤ width → number < 2 ^ 64 → IsFilled width (padded width number)
filled_padded width number some small = record {
  least = omega (arith, length_padded width number);
  first = λ more is_zero.
      let none : width - length (decimal number) ≡ 0 = omega (arith, length_padded width number) in
      let is_zero : get_or (decimal number) 0 0 ≡ 48 = rw none at is_zero in
      let short = λ (zero : number ≡ 0). ap (λ (n : ℕ). length (decimal n)) zero in
      elim (cases_lt 0 number) [
        | inl above ↦ omega (arith, first_decimal number above small)
        | inr none_above ↦
            let zero : number ≡ 0 = omega arith in
            omega (arith, short zero, ap length (decimal_digit 0 (lit< tt)), length_padded width number)
      ];
}

-- at a width of one digit no zero is added
pub padded_one : (number : ℕ) → number < 2 ^ 64 → padded 1 number ≡ decimal number
padded_one number small =
    let none : 1 - length (decimal number) ≡ 0 = omega (arith, decimal_nonempty number small) in
    rw none refl

-- the first digits of a number are no greater than it
pub value_within : (ds : List ℕ) (i : ℕ) → i < length ds → digits_value 10 (take i ds) * 10 + digit_value (get_or ds i 0) ≤ digits_value 10 ds
value_within ds i inside = omega (arith, digits_value_more 10 ds i inside, digits_value-take-le 10 ds (i + 1) (lit≤ tt))

-- what reads on from the digits so far: a byte that is no digit, a number that grows too large, and another digit
pub no_digit : (ds : List ℕ) (i : ℕ) → i < length ds → IsNotAsciiDigit (get_or ds i 0) → AllDigits 10 ds → ⊥
no_digit ds i inside other all =
    let digit = digit_at ds i all inside in
    elim other [ inl below ↦ omega (arith, digit.0) | inr above ↦ omega (arith, digit.1) ]

pub too_large : (ds : List ℕ) (i value : ℕ) → i < length ds → value ≡ digits_value 10 (take i ds) → (value * 10 + digit_value (get_or ds i 0) < 2 ^ 64 → ⊥)
    → digits_value 10 ds < 2 ^ 64 → ⊥
too_large ds i value inside same over small = over (omega (arith, same, value_within ds i inside))

pub one_more : (ds : List ℕ) (i value more : ℕ) → i < length ds → IsAsciiDigit (get_or ds i 0) → AllDigits 10 (take i ds) → value ≡ digits_value 10 (take i ds)
    → more + 48 ≡ value * 10 + get_or ds i 0 → AllDigits 10 (take (i + 1) ds) × (more ≡ digits_value 10 (take (i + 1) ds))
one_more ds i value more inside digit all same grown =
    let valued = digit_value_digit (get_or ds i 0) digit in (
      digits_more 10 ds i inside all (omega (arith, valued, digit.1)),
      omega (arith, valued, same, grown, digits_value_more 10 ds i inside),
    )
