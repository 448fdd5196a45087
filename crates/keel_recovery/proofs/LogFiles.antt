-- The files of logs that a directory has, by what it has of each number.
use Rattle.std.specs.List.{AllByRecursion}
use Rattle.std.proofs.Common.{◌≡◌, inl, inr, ℕ, ◌+◌, ◌<◌, ◌≤◌, Bool, true, false, cond, eqb, ltb, eqb-true, List, [], ◌∷◌, Option, Some, None, unwrap_or, refl, sym, ap, subst, ◌∙◌, arith}
use Rattle.std.proofs.lemmas.Bool.{cases_order, eq-eqb, ne_eqb, ltb-true, ltb-false}
use Rattle.keel_base.specs.declared.file_name.FileName.TheVariants.{Log}
use Rattle.keel_disk.specs.Directory.{Named, find}
use Rattle.keel_directory.specs.declared.logs.LogFile.{LogFile}
use Rattle.keel_directory.specs.Laws.{AreNamedOnce, log_of, some_bytes, Rise}
use Rattle.keel_directory.specs.Replays.{logs_from}
use Rattle.keel_directory.proofs.Those.{logs_those}

-- the bytes of the log of a number; one that isn't there has none
abbrev pub log_bytes : ℕ → Named (List ℕ) → List ℕ
log_bytes number image = unwrap_or (find (Log number) image) []

-- ---- logs that rise by number are known by their bytes

abbrev Over : ℕ → List LogFile → Type 0
Over n logs = AllByRecursion (λ (other : LogFile). n < other.number) logs

none_over : (n least : ℕ) (logs : List LogFile) → n ≤ least → Over least logs → log_of n logs ≡ None
none_over n least [] le over = refl
none_over n least (log ∷ logs) le over = rw (ne_eqb log.number n (λ e. omega (arith, e, le, over.0))) (none_over n least logs le over.1)

found_first : (log : LogFile) (logs : List LogFile) → log_of log.number (log ∷ logs) ≡ Some log.bytes
found_first log logs = rw (eq-eqb log.number log.number refl) refl

some_none : (bytes : List ℕ) → Some bytes ≡ None → ⊥
some_none bytes e = cc

some_some : (a b : List ℕ) → Some a ≡ Some b → a ≡ b
some_some a b e = cc

-- without the first, others are found as before
found_rest : (n : ℕ) (log : LogFile) (logs : List LogFile) → log.number < n → log_of n (log ∷ logs) ≡ log_of n logs
found_rest n log logs lt = rw (ne_eqb log.number n (λ e. omega (arith, e, lt))) refl

pub same_files : (a b : List LogFile) → Rise a → Rise b → ((n : ℕ) → log_of n a ≡ log_of n b) → a ≡ b
same_files [] [] rise rise_too same = refl
same_files [] (y ∷ b) rise rise_too same = absurd (some_none y.bytes (sym (found_first y b) ∙ sym (same y.number)))
same_files (x ∷ a) [] rise rise_too same = absurd (some_none x.bytes (sym (found_first x a) ∙ same x.number))
same_files (x ∷ a) (y ∷ b) rise rise_too same =
    elim (cases_order x.number y.number) [
      | inl e ↦ equal e (same_files a b rise.1 rise_too.1)
      | inr (inl below) ↦ absurd (some_none x.bytes (sym (found_first x a) ∙ same x.number ∙ none_over x.number x.number (y ∷ b) (omega arith) (below, over_more x.number y.number b below rise_too.0)))
      | inr (inr above) ↦ absurd (some_none y.bytes (sym (found_first y b) ∙ sym (same y.number) ∙ none_over y.number y.number (x ∷ a) (omega arith) (above, over_more y.number x.number a above rise.0)))
    ]
  where
    over_more : (n least : ℕ) (logs : List LogFile) → n < least → Over least logs → Over n logs
    over_more n least [] lt over = tt
    over_more n least (log ∷ logs) lt over = (omega (arith, lt, over.0), over_more n least logs lt over.1)

    equal : x.number ≡ y.number → (((n : ℕ) → log_of n a ≡ log_of n b) → a ≡ b) → x ∷ a ≡ y ∷ b
    equal e later =
        let bytes : x.bytes ≡ y.bytes = some_some x.bytes y.bytes (sym (found_first x a) ∙ same x.number ∙ ap (λ (n : ℕ). log_of n (y ∷ b)) e ∙ found_first y b) in
        let rest : a ≡ b = later rests in
        λ i. record { number = e i; bytes = bytes i } ∷ rest i
      where
        rests : (n : ℕ) → log_of n a ≡ log_of n b
        rests n = elim (cases_order x.number n) [
          | inl here ↦ none_over n x.number a (omega (arith, here)) rise.0 ∙ sym (none_over n y.number b (omega (arith, here, e)) rise_too.0)
          | inr (inl below) ↦ sym (found_rest n x a below) ∙ same n ∙ found_rest n y b (omega (arith, below, e))
          | inr (inr above) ↦ none_over n x.number a (omega (arith, above)) rise.0 ∙ sym (none_over n y.number b (omega (arith, above, e)) rise_too.0)
        ]

-- ---- the files of logs of these numbers

-- a log of that number before others, where it has a byte
abbrev pub with_some : ℕ → List ℕ → List LogFile → List LogFile
with_some n [] files = files
with_some n (b ∷ bytes) files = record { number = n; bytes = b ∷ bytes } ∷ files

abbrev pub files_of : List ℕ → Named (List ℕ) → List LogFile
files_of [] image = []
files_of (n ∷ numbers) image = with_some n (log_bytes n image) (files_of numbers image)

-- the numbers rise, from the least on
abbrev pub RiseFrom : ℕ → List ℕ → Type 0
RiseFrom least [] = Unit {0}
RiseFrom least (n ∷ numbers) = (least ≤ n) × RiseFrom (n + 1) numbers

abbrev pub is_in : ℕ → List ℕ → Bool
is_in n [] = false
is_in n (m ∷ numbers) = cond (eqb m n) true (is_in n numbers)

files_over : (least n : ℕ) (numbers : List ℕ) (image : Named (List ℕ)) → n < least → RiseFrom least numbers → Over n (files_of numbers image)
files_over least n [] image lt rise = tt
files_over least n (m ∷ numbers) image lt rise =
    with_one (log_bytes m image) (files_over (m + 1) n numbers image (omega (arith, lt, rise.0)) rise.1)
  where
    with_one : (bytes : List ℕ) → Over n (files_of numbers image) → Over n (with_some m bytes (files_of numbers image))
    with_one [] over = over
    with_one (b ∷ bytes) over = (omega (arith, lt, rise.0), over)

files_rise : (least : ℕ) (numbers : List ℕ) (image : Named (List ℕ)) → RiseFrom least numbers → Rise (files_of numbers image)
files_rise least [] image rise = tt
files_rise least (m ∷ numbers) image rise = with_one (log_bytes m image) (files_rise (m + 1) numbers image rise.1)
  where
    with_one : (bytes : List ℕ) → Rise (files_of numbers image) → Rise (with_some m bytes (files_of numbers image))
    with_one [] later = later
    with_one (b ∷ bytes) later = (files_over (m + 1) m numbers image (omega arith) rise.1, later)

-- the bytes of a file that has any
some_of : (found : Option (List ℕ)) → some_bytes found ≡ some_bytes (Some (unwrap_or found []))
some_of None = refl
some_of (Some []) = refl
some_of (Some (b ∷ bytes)) = refl

files_found : (least n : ℕ) (numbers : List ℕ) (image : Named (List ℕ)) → RiseFrom least numbers → log_of n (files_of numbers image) ≡ cond (is_in n numbers) (some_bytes (Some (log_bytes n image))) None
files_found least n [] image rise = refl
files_found least n (m ∷ numbers) image rise =
    by (eqb m n) refl (files_found (m + 1) n numbers image rise.1)
  where
    here : (bytes : List ℕ) → log_of m (with_some m bytes (files_of numbers image)) ≡ some_bytes (Some bytes)
    here [] = none_over m m (files_of numbers image) (omega arith) (files_over (m + 1) m numbers image (omega arith) rise.1)
    here (b ∷ bytes) = rw (eq-eqb m m refl) refl

    there : (bytes : List ℕ) → eqb m n ≡ false → log_of n (with_some m bytes (files_of numbers image)) ≡ log_of n (files_of numbers image)
    there [] e = refl
    there (b ∷ bytes) e = rw e refl

    by : (t : Bool) → eqb m n ≡ t → log_of n (files_of numbers image) ≡ cond (is_in n numbers) (some_bytes (Some (log_bytes n image))) None
        → log_of n (with_some m (log_bytes m image) (files_of numbers image)) ≡ cond (cond t true (is_in n numbers)) (some_bytes (Some (log_bytes n image))) None
    by true e later = subst (λ (k : ℕ). log_of k (with_some m (log_bytes m image) (files_of numbers image)) ≡ some_bytes (Some (log_bytes k image))) (eqb-true m n e) (here (log_bytes m image))
    by false e later = there (log_bytes m image) e ∙ later

not_below : (least n : ℕ) (numbers : List ℕ) → n < least → RiseFrom least numbers → is_in n numbers ≡ false
not_below least n [] lt rise = refl
not_below least n (m ∷ numbers) lt rise = rw (ne_eqb m n (λ e. omega (arith, e, lt, rise.0))) (not_below (m + 1) n numbers (omega (arith, lt, rise.0)) rise.1)

-- The logs that a directory has from a number on are those of these numbers, where each other holds no byte.
pub logs_are : (least : ℕ) (numbers : List ℕ) (image : Named (List ℕ)) → AreNamedOnce image → RiseFrom least numbers
    → ((n : ℕ) → least ≤ n → is_in n numbers ≡ false → log_bytes n image ≡ []) → logs_from least image ≡ files_of numbers image
logs_are least numbers image once rise others =
    let those = logs_those least image once in
    same_files (logs_from least image) (files_of numbers image) those.0 (files_rise least numbers image rise)
    (λ n. those.1 n ∙ by n (ltb n least) (is_in n numbers) refl refl ∙ sym (files_found least n numbers image rise))
  where
    by : (n : ℕ) (low inside : Bool) → ltb n least ≡ low → is_in n numbers ≡ inside
        → cond (ltb n least) None (some_bytes (find (Log n) image)) ≡ cond (is_in n numbers) (some_bytes (Some (log_bytes n image))) None
    by n true inside low is = rw (low, not_below least n numbers (ltb-true n least low) rise) refl
    by n false true low is = rw (low, is) (some_of (find (Log n) image))
    by n false false low is = rw (low, is) (some_of (find (Log n) image) ∙ ap (λ (b : List ℕ). some_bytes (Some b)) (others n (ltb-false n least low) is))
