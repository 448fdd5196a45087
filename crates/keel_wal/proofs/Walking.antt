-- The logs of a directory, one after the other.
use Rattle.std.proofs.Common.{◌≡◌, ℕ, ◌+◌, ◌^◌, ◌<◌, ◌≤◌, ◌||◌, Bool, true, false, cond, eqb, ltb, List, [], ◌∷◌, ◌++◌, Option, Some, None, unwrap_or, option_map, refl, sym, ap, subst, ◌∙◌, inl, inr, arith}
use Rattle.std.specs.Prelude.{not, ◌&&◌, is_some}
use Rattle.std.specs.List.{AllByRecursion}
use Rattle.std.proofs.lemmas.Bool.{cases_order, cases_lt, ltb-true, ltb-false, eq-eqb, ne_eqb}
use Rattle.std.proofs.lemmas.List.{append-nil}
use Rattle.keel_base.specs.declared.file_name.FileName.TheVariants.{Log}
use Rattle.keel_base.specs.declared.listing.Entry.{Entry}
use Rattle.keel_base.specs.Name.{IsName}
use Rattle.keel_disk.specs.Directory.{Named, find}
use Rattle.keel_disk.specs.Files.{IsContent}
use Rattle.keel_disk.specs.Listings.{IsListing, size_listed}
use Rattle.keel_disk.specs.Plain.{image_read}
use Rattle.keel_disk.specs.State.{directory_read, file_at}
use Rattle.keel_disk.specs.Told.{Told, TellsListing}
use Rattle.keel_directory.specs.declared.logs.LogFile.{LogFile}
use Rattle.keel_directory.specs.Laws.{log_of, some_bytes, Rise}
use Rattle.keel_directory.specs.Replays.{logs_from}
use Rattle.keel_directory.proofs.Those.{logs_those}
use Rattle.keel_listing.specs.declared.logs.ListedLog.{ListedLog}
use Rattle.keel_listing.specs.Logs.{IsNextLog, NoLogFrom}
use Rattle.keel_listing.proofs.Files.{image_has, log_content}
use Rattle.keel_listing.proofs.Names.{not_named}
use Rattle.keel_listing.proofs.Telling.{listed_none, listed_some, log_is_name}
use Rattle.keel_wal.specs.Replays.{IsOrderly, AreLogsFrom, LogsTold, RiseNumbers, file_of, has}
use Rattle.keel_wal.proofs.Rising.{Below, none_below, rising_same, rise_more, below_more, below_end, log_of-append, log_of-front}

abbrev BelowNumber : ℕ → List ℕ → Type 0
BelowNumber k numbers = AllByRecursion (λ n. n < k) numbers

-- the logs from a number on and below another were read
pub record ReadTo (image : Named (List ℕ)) (min least : ℕ) (files : List LogFile) (numbers : List ℕ) : Type 0 where
  pub above : min ≤ least
  pub rise : Rise files
  pub below : Below least files
  pub found : (n : ℕ) → min ≤ n → n < least → log_of n files ≡ some_bytes (find (Log n) image)
  pub none : (n : ℕ) → n < min → log_of n files ≡ None
  pub rise_numbers : RiseNumbers numbers
  pub below_numbers : BelowNumber least numbers
  pub listed : (n : ℕ) → min ≤ n → n < least → has n numbers ≡ is_some (find (Log n) image)
  pub not_listed : (n : ℕ) → n < min → has n numbers ≡ false

abbrev pub ReadSoFar : Option Told → ℕ → ℕ → List LogFile → List ℕ → Type 0
ReadSoFar None min least files numbers = Unit {0}
ReadSoFar (Some told) min least files numbers = IsOrderly told → ReadTo (image_read told.state) min least files numbers

pub none_read : (told : Option Told) (min : ℕ) → ReadSoFar told min min [] []
none_read None min = tt
none_read (Some told) min = λ orderly. record {
  above = omega arith;
  rise = tt;
  below = tt;
  found = λ n low high. absurd (omega (arith, low, high));
  none = λ n lt. refl;
  rise_numbers = tt;
  below_numbers = tt;
  listed = λ n low high. absurd (omega (arith, low, high));
  not_listed = λ n lt. refl;
}

-- ---- numbers

has_last : (n m : ℕ) (front : List ℕ) → eqb m n ≡ true → has n (front ++ m ∷ []) ≡ true
has_last n m [] is = rw is refl
has_last n m (k ∷ front) is = rw (has_last n m front is) (or_true (eqb k n))
  where
    or_true : (b : Bool) → (b || true) ≡ true
    or_true true = refl
    or_true false = refl

has_front : (n m : ℕ) (front : List ℕ) → eqb m n ≡ false → has n (front ++ m ∷ []) ≡ has n front
has_front n m [] is = rw is refl
has_front n m (k ∷ front) is = ap (λ (b : Bool). eqb k n || b) (has_front n m front is)

not_below : (n : ℕ) (numbers : List ℕ) → BelowNumber n numbers → has n numbers ≡ false
not_below n [] below = refl
not_below n (m ∷ numbers) below = rw (ne_eqb m n (λ e. omega (arith, e, below.0))) (not_below n numbers below.1)

numbers_below_more : (k m : ℕ) (numbers : List ℕ) → k ≤ m → BelowNumber k numbers → BelowNumber m numbers
numbers_below_more k m [] le below = tt
numbers_below_more k m (n ∷ numbers) le below = (omega (arith, le, below.0), numbers_below_more k m numbers le below.1)

numbers_below_end : (k n : ℕ) (numbers : List ℕ) → BelowNumber k numbers → n < k → BelowNumber k (numbers ++ n ∷ [])
numbers_below_end k n [] below lt = (lt, tt)
numbers_below_end k n (m ∷ numbers) below lt = (below.0, numbers_below_end k n numbers below.1 lt)

abbrev OverNumber : ℕ → List ℕ → Type 0
OverNumber k numbers = AllByRecursion (λ other. k < other) numbers

over_end : (k n : ℕ) (numbers : List ℕ) → OverNumber k numbers → k < n → OverNumber k (numbers ++ n ∷ [])
over_end k n [] over lt = (lt, tt)
over_end k n (m ∷ numbers) over lt = (over.0, over_end k n numbers over.1 lt)

numbers_rise_more : (n : ℕ) (numbers : List ℕ) → RiseNumbers numbers → BelowNumber n numbers → RiseNumbers (numbers ++ n ∷ [])
numbers_rise_more n [] rise below = (tt, tt)
numbers_rise_more n (m ∷ numbers) rise below = (over_end m n numbers rise.0 below.0, numbers_rise_more n numbers rise.1 below.1)

-- ---- a log's file

file_here : (number : ℕ) (bytes : List ℕ) → log_of number (file_of number bytes) ≡ some_bytes (Some bytes)
file_here number [] = refl
file_here number (b ∷ bytes) = rw (eq-eqb number number refl) refl

file_other : (n number : ℕ) (bytes : List ℕ) → (number ≡ n → ⊥) → log_of n (file_of number bytes) ≡ None
file_other n number [] other = refl
file_other n number (b ∷ bytes) other = rw (ne_eqb number n other) refl

rise_with : (files : List LogFile) (number : ℕ) (bytes : List ℕ) → Rise files → Below number files → Rise (files ++ file_of number bytes)
rise_with files number [] rise below = subst Rise (sym (append-nil files)) rise
rise_with files number (b ∷ bytes) rise below = rise_more files (record { number = number; bytes = b ∷ bytes }) rise below

below_with : (files : List LogFile) (number : ℕ) (bytes : List ℕ) → Below number files → Below (number + 1) (files ++ file_of number bytes)
below_with files number [] below = subst (Below (number + 1)) (sym (append-nil files)) (below_more number (number + 1) files (omega arith) below)
below_with files number (b ∷ bytes) below = below_end (number + 1) files (record { number = number; bytes = b ∷ bytes }) (below_more number (number + 1) files (omega arith) below) (omega arith)

-- ---- what isn't listed

log_absent : (told : Told) (n : ℕ) → IsOrderly told → (IsName (Log n) → ⊥) → find (Log n) (image_read told.state) ≡ None
log_absent told n orderly other =
    image_has told (Log n) ∙ ap (λ (o : Option ℕ). option_map (λ file. (file_at file told.state.files).read) o) (not_named n (directory_read told.state) orderly.names other)

-- a log of the store that isn't listed isn't there, nor is one with another number
unlisted : (told : Told) (listing : List Entry) (n : ℕ) → IsOrderly told → TellsListing (Some told) listing → (1 ≤ n → n ≤ 2 ^ 56 → find (Log n) (image_read told.state) ≡ None) → find (Log n) (image_read told.state) ≡ None
unlisted told listing n orderly tells h =
    elim (cases_lt n 1) [
      | inl low ↦ log_absent told n orderly (λ is. omega (arith, low, is.least))
      | inr above ↦ elim (cases_lt (2 ^ 56) n) [
        | inl high ↦ log_absent told n orderly (λ is. omega (arith, high, is.most))
        | inr below ↦ h (omega (arith, above)) (omega (arith, below))
      ]
    ]

none_listed : (told : Told) (listing : List Entry) (n : ℕ) → IsOrderly told → TellsListing (Some told) listing
    → size_listed (Log n) listing ≡ None → find (Log n) (image_read told.state) ≡ None
none_listed told listing n orderly tells none =
    unlisted told listing n orderly tells (λ low high. listed_none told listing tells (Log n) (record { least = low; most = omega (arith, high) }) none)

-- ---- the next log

next_to : (told : Told) (listing : List Entry) (min least : ℕ) (log : ListedLog) (bytes : List ℕ) (files : List LogFile) (numbers : List ℕ)
    → IsOrderly told → TellsListing (Some told) listing → IsListing listing → IsNextLog listing least log → IsContent (Log log.number) (Some told) bytes
    → ReadTo (image_read told.state) min least files numbers → ReadTo (image_read told.state) min (log.number + 1) (files ++ file_of log.number bytes) (numbers ++ log.number ∷ [])
next_to told listing min least log bytes files numbers orderly tells order next holds h = record {
  above = omega (arith, h.above, next.above);
  rise = rise_with files log.number bytes h.rise below;
  below = below_with files log.number bytes below;
  found = λ n low high. elim (cases_order n log.number) [
    | inl e ↦ subst (λ (k : ℕ). log_of k (files ++ file_of log.number bytes) ≡ some_bytes (find (Log k) image)) (sym e)
        (log_of-append log.number files (file_of log.number bytes) (none_below log.number files below) ∙ file_here log.number bytes ∙ sym (ap some_bytes there))
    | inr (inl lt) ↦ log_of-front n files (file_of log.number bytes) (file_other n log.number bytes (λ e. omega (arith, e, lt))) ∙ earlier n low lt
    | inr (inr gt) ↦ absurd (omega (arith, gt, high))
  ];
  none = λ n lt. log_of-front n files (file_of log.number bytes) (file_other n log.number bytes (λ e. omega (arith, e, lt, h.above, next.above))) ∙ h.none n lt;
  rise_numbers = numbers_rise_more log.number numbers h.rise_numbers below_number;
  below_numbers = numbers_below_end (log.number + 1) log.number numbers (numbers_below_more log.number (log.number + 1) numbers (omega arith) below_number) (omega arith);
  listed = λ n low high. elim (cases_order n log.number) [
    | inl e ↦ has_last n log.number numbers (eq-eqb log.number n (sym e)) ∙ sym (ap is_some (subst (λ (k : ℕ). find (Log k) image ≡ Some bytes) (sym e) there))
    | inr (inl lt) ↦ has_front n log.number numbers (ne_eqb log.number n (λ e. omega (arith, e, lt))) ∙ earlier_listed n low lt
    | inr (inr gt) ↦ absurd (omega (arith, gt, high))
  ];
  not_listed = λ n lt. has_front n log.number numbers (ne_eqb log.number n (λ e. omega (arith, e, lt, h.above, next.above))) ∙ h.not_listed n lt;
}
  where
    image : Named (List ℕ)
    image = image_read told.state

    below : Below log.number files
    below = below_more least log.number files next.above h.below

    below_number : BelowNumber log.number numbers
    below_number = numbers_below_more least log.number numbers next.above h.below_numbers

    found_there : (all : List ℕ) × (find (Log log.number) image ≡ Some all)
    found_there = listed_some told listing tells (Log log.number) (log_is_name listing least log order next) log.size next.listed

    all_are : found_there.0 ≡ bytes
    all_are = sym (ap (λ (o : Option (List ℕ)). unwrap_or o []) found_there.1) ∙ (log_content told log.number ∙ holds)

    there : find (Log log.number) image ≡ Some bytes
    there = found_there.1 ∙ ap (λ (all : List ℕ). Some all) all_are

    between : (n : ℕ) → least ≤ n → n < log.number → find (Log n) image ≡ None
    between n low high = none_listed told listing n orderly tells (next.between n low high)

    earlier : (n : ℕ) → min ≤ n → n < log.number → log_of n files ≡ some_bytes (find (Log n) image)
    earlier n low lt = elim (cases_lt n least) [
      | inl before ↦ h.found n low before
      | inr after ↦ none_below n files (below_more least n files after h.below) ∙ sym (ap some_bytes (between n after lt))
    ]

    earlier_listed : (n : ℕ) → min ≤ n → n < log.number → has n numbers ≡ is_some (find (Log n) image)
    earlier_listed n low lt = elim (cases_lt n least) [
      | inl before ↦ h.listed n low before
      | inr after ↦ not_below n numbers (numbers_below_more least n numbers after h.below_numbers) ∙ sym (ap is_some (between n after lt))
    ]

pub next_read : (told : Option Told) (listing : List Entry) (min least : ℕ) (log : ListedLog) (bytes : List ℕ) (files after : List LogFile) (numbers numbers_after : List ℕ)
    → TellsListing told listing → IsListing listing → IsNextLog listing least log → IsContent (Log log.number) told bytes
    → after ≡ files ++ file_of log.number bytes → numbers_after ≡ numbers ++ log.number ∷ []
    → ReadSoFar told min least files numbers → ReadSoFar told min (log.number + 1) after numbers_after
next_read None listing min least log bytes files after numbers numbers_after tells order next holds e f h = tt
next_read (Some told) listing min least log bytes files after numbers numbers_after tells order next holds e f h = λ orderly.
    rw (e, f) (next_to told listing min least log bytes files numbers orderly tells order next holds (h orderly))

-- ---- all of them

all_read : (told : Told) (listing : List Entry) (min least : ℕ) (files : List LogFile) (numbers : List ℕ) → IsOrderly told → TellsListing (Some told) listing → NoLogFrom listing least
    → ReadTo (image_read told.state) min least files numbers → AreLogsFrom min (image_read told.state) files numbers
all_read told listing min least files numbers orderly tells none h = record {
  files_are = rising_same files (logs_from min image) h.rise those.0 (λ n. by n (ltb n min) refl ∙ sym (those.1 n));
  rise = h.rise_numbers;
  numbers_are = λ n. by_number n (ltb n min) refl;
}
  where
    image : Named (List ℕ)
    image = image_read told.state

    those : Rise (logs_from min image) × ((n : ℕ) → log_of n (logs_from min image) ≡ cond (ltb n min) None (some_bytes (find (Log n) image)))
    those = logs_those min image orderly.once

    none_from : (n : ℕ) → least ≤ n → find (Log n) image ≡ None
    none_from n low = none_listed told listing n orderly tells (none n low)

    by : (n : ℕ) (t : Bool) → ltb n min ≡ t → log_of n files ≡ cond t None (some_bytes (find (Log n) image))
    by n true is = h.none n (ltb-true n min is)
    by n false is = elim (cases_lt n least) [
      | inl before ↦ h.found n (ltb-false n min is) before
      | inr after ↦ none_below n files (below_more least n files after h.below) ∙ sym (ap some_bytes (none_from n after))
    ]

    by_number : (n : ℕ) (t : Bool) → ltb n min ≡ t → has n numbers ≡ (not t && is_some (find (Log n) image))
    by_number n true is = h.not_listed n (ltb-true n min is)
    by_number n false is = elim (cases_lt n least) [
      | inl before ↦ h.listed n (ltb-false n min is) before
      | inr after ↦ not_below n numbers (numbers_below_more least n numbers after h.below_numbers) ∙ sym (ap is_some (none_from n after))
    ]

pub finished : (told : Option Told) (listing : List Entry) (min least : ℕ) (files : List LogFile) (numbers : List ℕ) → TellsListing told listing → NoLogFrom listing least
    → ReadSoFar told min least files numbers → LogsTold told min files numbers
finished None listing min least files numbers tells none h = tt
finished (Some told) listing min least files numbers tells none h = λ orderly. all_read told listing min least files numbers orderly tells none (h orderly)
