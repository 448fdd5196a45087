-- A table that a key isn't asked of.
use Rattle.std.proofs.Common.{◌≡◌, ℕ, ◌≤◌, Bool, true, false, not, cond, ltb, List, [], ◌∷◌, Option, Some, None, refl, sym, ap, subst, ◌∙◌, arith}
use Rattle.std.specs.Prelude.{◌&&◌}
use Rattle.std.specs.List.{AllByRecursion}
use Rattle.std.proofs.lemmas.Bool.{ltb-false}
use Rattle.std.proofs.lemmas.Cmp.{nat_list_cmp_total}
use Rattle.std.specs.declared.cmp.Ordering.{Ordering}
use Rattle.std.specs.declared.cmp.Ordering.TheVariants.{Less, Equal, Greater}
use Rattle.std.specs.Ordering.{is_lt, is_gt, ordering_reverse}
use Rattle.keel_base.specs.declared.row.Row.{Row}
use Rattle.keel_base.specs.Keys.{key_cmp, key_lt, key_le, key_eq}
use Rattle.keel_base.specs.Rows.{newer, newest}
use Rattle.keel_base.proofs.Newest.{newer_is_row}
use Rattle.keel_merge.proofs.Behind.{lt_lt_all}
use Rattle.keel_merge.proofs.Newer.{newest_none}
use Rattle.keel_table.specs.Spelling.{Ascend}
use Rattle.keel_directory.specs.Sound.{IsAsSaid, first_key}
use Rattle.keel_directory.specs.TableFiles.{TableFile, table_rows}
use Rattle.keel_levels.specs.Newest.{newest_of_both, has_range, may_be_newer}
use Rattle.keel_levels.proofs.Rising.{whole_ascend}
use Rattle.keel_levels.proofs.Finding.{all_over, none_below, and_none}

-- ---- keys

greater : (o p : Ordering) → p ≡ ordering_reverse o → not (is_gt o) ≡ false → is_lt p ≡ true
greater Less p e h = absurd cc
greater Equal p e h = absurd cc
greater Greater p e h = ap is_lt e

pub not_le : (a b : List ℕ) → key_le a b ≡ false → key_lt b a ≡ true
not_le a b h = greater (key_cmp a b) (key_cmp b a) (nat_list_cmp_total.antisymm b a) h

either_false : {P : Type 0} (b c : Bool) → (b && c) ≡ false → (b ≡ false → P) → (c ≡ false → P) → P
either_false true c h first second = second h
either_false false c h first second = first refl

-- ---- a key out of range

before_first : (key : List ℕ) (rows : List Row) → Ascend [] rows → key_lt key (first_key rows) ≡ true → newest key rows ≡ None
before_first key [] rise lt = refl
before_first key (row ∷ rows) rise lt = newest_none key (row ∷ rows) (lt, lt_lt_all key row.key rows lt (all_over row.key rows rise.1))

pub rows_rise : (last_seq : ℕ) (file : TableFile) → IsAsSaid last_seq file → Ascend [] (table_rows file)
rows_rise last_seq file said = whole_ascend file.bytes [] file.file.entries said.whole

pub out_of_range : (last_seq : ℕ) (file : TableFile) (key : List ℕ) → IsAsSaid last_seq file → has_range file.entry key ≡ false → newest key (table_rows file) ≡ None
out_of_range last_seq file key said out =
    let rise = rows_rise last_seq file said in
    either_false (key_le file.entry.least key) (key_le key file.entry.greatest) out
    (λ low. before_first key (table_rows file) rise (subst (λ (k : List ℕ). key_lt key k ≡ true) said.least (not_le file.entry.least key low)))
    (λ high. none_below [] key (table_rows file) rise (subst (λ (k : List ℕ). key_lt k key ≡ true) said.greatest (not_le key file.entry.greatest high)))

-- ---- rows that are older

abbrev IsUpTo : ℕ → Option Row → Type 0
IsUpTo last None = Unit {0}
IsUpTo last (Some row) = row.seq ≤ last

newer_up_to : (last : ℕ) (row : Row) (found : Option Row) → row.seq ≤ last → IsUpTo last found → IsUpTo last (newer row found)
newer_up_to last row None le rest = le
newer_up_to last row (Some other) le rest =
    elim (ltb row.seq other.seq) as (λ b. IsUpTo last (cond b (Some other) (Some row))) [ true ↦ rest | false ↦ le ]

up_to : (first last : ℕ) (key : List ℕ) (rows : List Row) → AllByRecursion (λ row. (first ≤ row.seq) × (row.seq ≤ last)) rows → IsUpTo last (newest key rows)
up_to first last key [] within = tt
up_to first last key (row ∷ rows) within =
    let rest = up_to first last key rows within.1 in
    elim (key_eq row.key key) as (λ b. IsUpTo last (cond b (newer row (newest key rows)) (newest key rows))) [
      | true ↦ newer_up_to last row (newest key rows) within.0.1 rest
      | false ↦ rest
    ]

keeps : (last : ℕ) (row : Row) (found : Option Row) → last ≤ row.seq → IsUpTo last found → newer row found ≡ Some row
keeps last row None le rest = refl
keeps last row (Some other) le rest = newer_is_row row other (omega (arith, le, rest))

pub all_older : (last_seq : ℕ) (file : TableFile) (key : List ℕ) (found : Option Row) → IsAsSaid last_seq file → may_be_newer file.entry.last found ≡ false
    → found ≡ newest_of_both found (newest key (table_rows file))
all_older last_seq file key None said old = absurd cc
all_older last_seq file key (Some row) said old =
    let within : IsUpTo file.entry.last (newest key (table_rows file)) =
    subst (λ (last : ℕ). IsUpTo last (newest key (table_rows file))) (sym said.last_said) (up_to file.file.footer.first file.file.footer.last key (table_rows file) said.within) in
    sym (keeps file.entry.last row (newest key (table_rows file)) (ltb-false row.seq file.entry.last old) within)

pub none_more : (last_seq : ℕ) (file : TableFile) (key : List ℕ) (found : Option Row) → IsAsSaid last_seq file → has_range file.entry key ≡ false
    → found ≡ newest_of_both found (newest key (table_rows file))
none_more last_seq file key found said out = sym (ap (newest_of_both found) (out_of_range last_seq file key said out) ∙ and_none found)
