-- Running totals of tracked files.
use Rattle.std.proofs.Common.{◌≡◌, ℕ, ◌+◌, ◌*◌, ◌-◌, ◌^◌, ◌<◌, ◌≤◌, suc, true, false, List, [], ◌∷◌, ◌++◌, length, All, take, drop, get_or, arith, sym, ap}
use Rattle.std.specs.Prelude.{if◌then◌else◌}
use Rattle.std.specs.List.{slice_set, remove}
use Rattle.std.proofs.lemmas.List.Sums.{sum_by_push, sum_by-set, sum_by-remove, sum_by-le, sum_by-cons, get_or-le-sum_by}
use Rattle.std.proofs.lemmas.List.Elements.{All-weaker, All-push, All-set, All-append, All-take, All-drop}
use Rattle.keel_base.specs.declared.listing.Entry.{Entry}
use Rattle.keel_space.specs.Tracked.{total_of, trash_of, trash_size, is_trash, AreDistinct}
use Rattle.keel_space.specs.State.{AreSums}

-- a file adds to trash at most its size
pub trash_size-le : (file : Entry) → trash_size file ≤ file.size
trash_size-le file = elim (is_trash file.name) as (λ trash. (if trash then file.size else 0) ≤ file.size) [ true ↦ omega arith | false ↦ omega arith ]

-- trash is a part of the total
pub trash-le-total : (files : List Entry) → trash_of files ≤ total_of files
trash-le-total [] = omega arith
trash-le-total (file ∷ files) =
    omega (arith, sum_by-cons trash_size file files, sum_by-cons (λ (e : Entry). e.size) file files, trash_size-le file, trash-le-total files)

-- a list has fewer than 2^64 files, so that a sum and one size more are of 128 bits
pub sums-most : (files : List Entry) (total trash : ℕ) → AreSums files total trash → length files < 2 ^ 64
    → (total ≤ (2 ^ 64 - 1) * (2 ^ 64 - 1)) × (trash ≤ total)
sums-most files total trash sums few =
    let most = sum_by-le (λ (file : Entry). file.size) (2 ^ 64 - 1) files (All-weaker (λ (file : Entry). file.size < 2 ^ 64) (λ (file : Entry). file.size ≤ 2 ^ 64 - 1) (λ file small. omega (arith, small)) files sums.sizes) in
    (omega (arith, most, sums.total_is), omega (arith, sums.total_is, sums.trash_is, trash-le-total files))

All-remove : {X : Type 0} (P : X → Type 0) (xs : List X) (place : ℕ) → All P xs → All P (remove xs place)
All-remove P xs place all = All-append P (take place xs) (drop (suc place) xs) (All-take P place xs all) (All-drop P (suc place) xs all)

-- the sums where a file is added, changed or taken away
pub sums-pushed : (files : List Entry) (total trash : ℕ) (file : Entry) → AreSums files total trash → file.size < 2 ^ 64 → AreDistinct (files ++ file ∷ [])
    → AreSums (files ++ file ∷ []) (total + file.size) (trash + trash_size file)
sums-pushed files total trash file sums small distinct = record {
  distinct = distinct;
  sizes = All-push (λ (e : Entry). e.size < 2 ^ 64) files file sums.sizes small;
  total_is = omega (arith, sums.total_is, sum_by_push (λ (e : Entry). e.size) files file);
  trash_is = omega (arith, sums.trash_is, sum_by_push trash_size files file);
}

pub sums-set : (files : List Entry) (total trash place : ℕ) (file before : Entry) → place < length files → before ≡ get_or files place before
    → AreSums files total trash → file.size < 2 ^ 64 → AreDistinct (slice_set files place file)
    → (before.size ≤ total) × (trash_size before ≤ trash) × AreSums (slice_set files place file) (total - before.size + file.size) (trash - trash_size before + trash_size file)
sums-set files total trash place file before within is sums small distinct =
    let total_set = sum_by-set (λ (e : Entry). e.size) files place file before within in
    let trash_set = sum_by-set trash_size files place file before within in
    let total_in = get_or-le-sum_by (λ (e : Entry). e.size) files place before within in
    let trash_in = get_or-le-sum_by trash_size files place before within in
    let same_size : (get_or files place before).size ≡ before.size = sym (ap {A = Entry} (λ e. e.size) is) in
    let same_trash : trash_size (get_or files place before) ≡ trash_size before = sym (ap trash_size is) in (
      omega (arith, sums.total_is),
      omega (arith, sums.trash_is),
      record {
        distinct = distinct;
        sizes = All-set (λ (e : Entry). e.size < 2 ^ 64) files place file small sums.sizes;
        total_is = omega (arith, sums.total_is);
        trash_is = omega (arith, sums.trash_is);
      },
    )

pub sums-removed : (files : List Entry) (total trash place : ℕ) (before : Entry) → place < length files → before ≡ get_or files place before
    → AreSums files total trash → AreDistinct (remove files place)
    → (before.size ≤ total) × (trash_size before ≤ trash) × AreSums (remove files place) (total - before.size) (trash - trash_size before)
sums-removed files total trash place before within is sums distinct =
    let total_less = sum_by-remove (λ (e : Entry). e.size) files place before within in
    let trash_less = sum_by-remove trash_size files place before within in
    let same_size : (get_or files place before).size ≡ before.size = sym (ap {A = Entry} (λ e. e.size) is) in
    let same_trash : trash_size (get_or files place before) ≡ trash_size before = sym (ap trash_size is) in (
      omega (arith, sums.total_is),
      omega (arith, sums.trash_is),
      record {
        distinct = distinct;
        sizes = All-remove (λ (e : Entry). e.size < 2 ^ 64) files place sums.sizes;
        total_is = omega (arith, sums.total_is);
        trash_is = omega (arith, sums.trash_is);
      },
    )
