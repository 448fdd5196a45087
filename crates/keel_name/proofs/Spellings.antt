-- A spelling tells the name: what of it are no digits tells the kind, and the digits tell the number.
use Rattle.std.proofs.Common.{◌≡◌, ℕ, ◌<◌, ◌^◌, Bool, false, not, List, [], ◌∷◌, ◌++◌, refl, sym, ap, ◌∙◌, arith, codes, lt-ltb}
use Rattle.std.specs.Prelude.{nat_lt}
use Rattle.std.specs.Char.{digit_value}
use Rattle.std.specs.List.{filter}
use Rattle.std.specs.Str.Parse.{AllDigits, digits_value}
use Rattle.std.proofs.lemmas.List.{append-nil}
use Rattle.std.proofs.lemmas.List.Elements.{filter-append}
use Rattle.std.proofs.lemmas.Bool.{false≢true}
use Rattle.std.proofs.lemmas.Slice.Eq.{bytes_eq-Decides}
use Rattle.std.specs.Str.{bytes_eq}
use Rattle.keel_base.specs.declared.file_name.FileName.{FileName}
use Rattle.keel_base.specs.declared.file_name.FileName.TheVariants.{Log, Table, Trash, Manifest, Current, Temp}
use Rattle.keel_base.specs.Name.{IsFileNumber, IsName, numeral, printed}
use Rattle.keel_name.proofs.Decimals.{digits_padded, value_padded}

abbrev is_digit : ℕ → Bool
is_digit byte = nat_lt (digit_value byte) 10

abbrev is_no_digit : ℕ → Bool
is_no_digit byte = not (is_digit byte)

digits-kept : (ds : List ℕ) → AllDigits 10 ds → filter is_digit ds ≡ ds
digits-kept [] all = refl
digits-kept (d ∷ ds) all = rw (lt-ltb (digit_value d) 10 all.0) (ap (λ rest. d ∷ rest) (digits-kept ds all.1))

digits-left_out : (ds : List ℕ) → AllDigits 10 ds → filter is_no_digit ds ≡ []
digits-left_out [] all = refl
digits-left_out (d ∷ ds) all = rw (lt-ltb (digit_value d) 10 all.0) (digits-left_out ds all.1)

-- the digits and the other bytes of a number with other bytes round it
module _ (number : ℕ) (is : IsFileNumber number) where
  small : number < 2 ^ 64
  small = omega (arith, is.most)

  mark_before : (before : List ℕ) → filter is_no_digit (before ++ numeral number) ≡ filter is_no_digit before
  mark_before before =
      filter-append is_no_digit before (numeral number) ∙ rw (digits-left_out (numeral number) (digits_padded 6 number small)) (append-nil (filter is_no_digit before))

  mark_behind : (behind : List ℕ) → filter is_no_digit (numeral number ++ behind) ≡ filter is_no_digit behind
  mark_behind behind =
      filter-append is_no_digit (numeral number) behind ∙ rw (digits-left_out (numeral number) (digits_padded 6 number small)) refl

  digits_before : (before : List ℕ) → filter is_digit before ≡ [] → digits_value 10 (filter is_digit (before ++ numeral number)) ≡ number
  digits_before before none =
      rw (filter-append is_digit before (numeral number), none, digits-kept (numeral number) (digits_padded 6 number small)) (value_padded 6 number small)

  digits_behind : (behind : List ℕ) → filter is_digit behind ≡ [] → digits_value 10 (filter is_digit (numeral number ++ behind)) ≡ number
  digits_behind behind none =
      rw (filter-append is_digit (numeral number) behind, none, digits-kept (numeral number) (digits_padded 6 number small), append-nil (numeral number)) (value_padded 6 number small)

-- the bytes of a name's spelling that are no digits
abbrev mark : FileName → List ℕ
mark (Log n) = codes ".log"
mark (Table n) = codes ".sst"
mark (Trash n) = codes ".sst.trash"
mark (Manifest n) = codes "MANIFEST-"
mark Current = codes "CURRENT"
mark (Temp n) = codes ".dbtmp"

-- the number of a name, and 0 where it has none
abbrev number_of : FileName → ℕ
number_of (Log n) = n
number_of (Table n) = n
number_of (Trash n) = n
number_of (Manifest n) = n
number_of Current = 0
number_of (Temp n) = n

mark_is : (a : FileName) → IsName a → filter is_no_digit (printed a) ≡ mark a
unfolding printed
mark_is (Log n) is = mark_behind n is (codes ".log")
mark_is (Table n) is = mark_behind n is (codes ".sst")
mark_is (Trash n) is = mark_behind n is (codes ".sst.trash")
mark_is (Manifest n) is = mark_before n is (codes "MANIFEST-")
mark_is Current is = refl
mark_is (Temp n) is = mark_behind n is (codes ".dbtmp")

number_is : (a : FileName) → IsName a → digits_value 10 (filter is_digit (printed a)) ≡ number_of a
unfolding printed
number_is (Log n) is = digits_behind n is (codes ".log") refl
number_is (Table n) is = digits_behind n is (codes ".sst") refl
number_is (Trash n) is = digits_behind n is (codes ".sst.trash") refl
number_is (Manifest n) is = digits_before n is (codes "MANIFEST-") refl
number_is Current is = refl
number_is (Temp n) is = digits_behind n is (codes ".dbtmp") refl

apart : (xs ys : List ℕ) → bytes_eq xs ys ≡ false → xs ≡ ys → ⊥
apart xs ys differ same = false≢true (sym differ ∙ (bytes_eq-Decides xs ys).1 same)

marked : (a b : FileName) → mark a ≡ mark b → number_of a ≡ number_of b → a ≡ b
marked (Log m) (Log n) same e = ap Log e
marked (Table m) (Table n) same e = ap Table e
marked (Trash m) (Trash n) same e = ap Trash e
marked (Manifest m) (Manifest n) same e = ap Manifest e
marked Current Current same e = refl
marked (Temp m) (Temp n) same e = ap Temp e
marked a b same e = absurd (apart (mark a) (mark b) refl same)

pub printed_injective : (a b : FileName) → IsName a → IsName b → printed a ≡ printed b → a ≡ b
printed_injective a b is_a is_b same =
    marked a b (sym (mark_is a is_a) ∙ ap (filter is_no_digit) same ∙ mark_is b is_b)
    (sym (number_is a is_a) ∙ ap (λ bytes. digits_value 10 (filter is_digit bytes)) same ∙ number_is b is_b)
