-- Rows and entries that a loop reads one after the other.
use Rattle.std.proofs.Common.{◌≡◌, ℕ, suc, ◌-◌, ◌+◌, ◌≤◌, ◌<◌, Bool, true, false, List, [], ◌∷◌, ◌++◌, length, Option, Some, None, Result, Ok, Err, refl, sym, ap, subst, ◌∙◌, append_assoc, arith}
use Rattle.std.specs.Prelude.{◌&&◌, ◌==◌, slice_get}
use Rattle.std.proofs.lemmas.List.{append-nil}
use Rattle.std.proofs.lemmas.Bool.{leb-true}
use Rattle.keel_base.specs.declared.row.Row.{Row}
use Rattle.keel_fields.specs.declared.error.FieldError.{FieldError}
use Rattle.keel_fields.specs.declared.error.FieldError.TheVariants as errors
use Rattle.keel_fields.specs.Reading.{Read, ◌>>=◌, Fails}
use Rattle.keel_fields.proofs.Fields.{check_ok}
use Rattle.keel_table.specs.declared.index.BlockEntry.{BlockEntry}
use Rattle.keel_table.specs.Spelling.{last_key}
use Rattle.keel_table.specs.Fields.{next_row_at, rows_at, entry_fits, fitting_entry, next_entry_at, entries_at, last_of}
use Rattle.keel_table.proofs.Adding.{last_key-more}

-- what was read before, and what is still read
abbrev pub behind : {A : Type 0} → List A → Result (List A) ℕ → Result (List A) ℕ
behind front read = read >>= λ xs. Ok (front ++ xs)

regroup : {A : Type 0} (front : List A) (n : A) (read : Result (List A) ℕ) → behind front (read >>= λ xs. Ok (n ∷ xs)) ≡ behind (front ++ n ∷ []) read
regroup {A} front n (Ok xs) = ap (λ (ns : List A). Ok ns) (sym (append_assoc front (n ∷ []) xs))
regroup front n (Err f) = refl

pub begins : {A : Type 0} (read : Result (List A) ℕ) → behind [] read ≡ read
begins (Ok xs) = refl
begins (Err f) = refl

-- ---- rows

pub rows_begin : (most : ℕ) (before last bytes : List ℕ) → behind [] (rows_at (most - 0) before last bytes) ≡ rows_at most before last bytes
rows_begin most before last bytes =
    let k : most - 0 ≡ most = omega arith in begins (rows_at (most - 0) before last bytes) ∙ ap (λ (n : ℕ). rows_at n before last bytes) k

pub rows_go_on : (front : List Row) (most i : ℕ) (before last bytes : List ℕ) (row : Row) (after : List ℕ) (total : Result (List Row) ℕ) → i < most
    → next_row_at (last_key before front) last bytes ≡ Ok (row, after) → (length after == 0) ≡ false
    → behind front (rows_at (most - i) (last_key before front) last bytes) ≡ total → behind (front ++ row ∷ []) (rows_at (most - (i + 1)) (last_key before (front ++ row ∷ [])) last after) ≡ total
unfolding rows_at
rows_go_on front most i before last bytes row after total lt h some so_far =
    let k : most - i ≡ suc (most - (i + 1)) = omega arith in
    let go : behind front (rows_at (most - i) (last_key before front) last bytes) ≡ behind (front ++ row ∷ []) (rows_at (most - (i + 1)) row.key last after) =
    rw (k, h, some) (regroup front row (rows_at (most - (i + 1)) row.key last after)) in
    ap (λ (key : List ℕ). behind (front ++ row ∷ []) (rows_at (most - (i + 1)) key last after)) (last_key-more before front row) ∙ sym go ∙ so_far

pub rows_done : (front : List Row) (most i : ℕ) (before last bytes : List ℕ) (row : Row) (after : List ℕ) (total : Result (List Row) ℕ) → i < most
    → next_row_at (last_key before front) last bytes ≡ Ok (row, after) → (length after == 0) ≡ true
    → behind front (rows_at (most - i) (last_key before front) last bytes) ≡ total → total ≡ Ok (front ++ row ∷ [])
unfolding rows_at
rows_done front most i before last bytes row after total lt h none so_far =
    let k : most - i ≡ suc (most - (i + 1)) = omega arith in
    let go : behind front (rows_at (most - i) (last_key before front) last bytes) ≡ Ok (front ++ row ∷ []) = rw (k, h, none) refl in
    sym so_far ∙ go

pub rows_end : (e : FieldError) (front : List Row) (most i : ℕ) (before last bytes : List ℕ) (total : Result (List Row) ℕ) → i < most
    → Fails e (next_row_at (last_key before front) last bytes) → behind front (rows_at (most - i) (last_key before front) last bytes) ≡ total → Fails e total
unfolding rows_at
rows_end errors.OutOfMemory front most i before last bytes total lt h so_far = tt
rows_end (errors.Bad f) front most i before last bytes total lt h so_far =
    let k : most - i ≡ suc (most - (i + 1)) = omega arith in
    let go : behind front (rows_at (most - i) (last_key before front) last bytes) ≡ Err f = rw (k, h) refl in
    sym so_far ∙ go

pub rows_spent : (front : List Row) (most i : ℕ) (before last bytes : List ℕ) (total : Result (List Row) ℕ) → most ≤ i
    → behind front (rows_at (most - i) (last_key before front) last bytes) ≡ total → total ≡ Err (length bytes)
unfolding rows_at
rows_spent front most i before last bytes total le so_far =
    let k : most - i ≡ 0 = omega arith in
    let go : behind front (rows_at (most - i) (last_key before front) last bytes) ≡ Err (length bytes) = rw k refl in
    sym so_far ∙ go

-- ---- entries

pub last_of-more : (before : Option (List ℕ)) (entries : List BlockEntry) (e : BlockEntry) → last_of before (entries ++ e ∷ []) ≡ Some e.last
last_of-more before [] e = refl
last_of-more before (first ∷ entries) e = last_of-more (Some first.last) entries e

pub entries_begin : (index blocks : ℕ) (bytes : List ℕ) → behind [] (entries_at index (blocks - 0) 0 None bytes) ≡ entries_at index blocks 0 None bytes
entries_begin index blocks bytes =
    let k : blocks - 0 ≡ blocks = omega arith in begins (entries_at index (blocks - 0) 0 None bytes) ∙ ap (λ (n : ℕ). entries_at index n 0 None bytes) k

pub entries_go_on : (front : List BlockEntry) (index blocks i offset next : ℕ) (bytes : List ℕ) (e : BlockEntry) (after : List ℕ) (total : Result (List BlockEntry) ℕ) → i < blocks → next ≡ offset + (e.size + 4)
    → next_entry_at index offset (last_of None front) bytes ≡ Ok (e, after)
    → behind front (entries_at index (blocks - i) offset (last_of None front) bytes) ≡ total → behind (front ++ e ∷ []) (entries_at index (blocks - (i + 1)) next (last_of None (front ++ e ∷ [])) after) ≡ total
unfolding entries_at
entries_go_on front index blocks i offset next bytes e after total lt there h so_far =
    let k : blocks - i ≡ suc (blocks - (i + 1)) = omega arith in
    let go : behind front (entries_at index (blocks - i) offset (last_of None front) bytes) ≡ behind (front ++ e ∷ []) (entries_at index (blocks - (i + 1)) (offset + (e.size + 4)) (Some e.last) after) =
    rw (k, h) (regroup front e (entries_at index (blocks - (i + 1)) (offset + (e.size + 4)) (Some e.last) after)) in
    ap (λ (key : Option (List ℕ)). behind (front ++ e ∷ []) (entries_at index (blocks - (i + 1)) next key after)) (last_of-more None front e)
    ∙ ap (λ (n : ℕ). behind (front ++ e ∷ []) (entries_at index (blocks - (i + 1)) n (Some e.last) after)) there ∙ sym go ∙ so_far

pub entries_end : (error : FieldError) (front : List BlockEntry) (index blocks i offset : ℕ) (bytes : List ℕ) (total : Result (List BlockEntry) ℕ) → i < blocks
    → Fails error (next_entry_at index offset (last_of None front) bytes) → behind front (entries_at index (blocks - i) offset (last_of None front) bytes) ≡ total → Fails error total
unfolding entries_at
entries_end errors.OutOfMemory front index blocks i offset bytes total lt h so_far = tt
entries_end (errors.Bad f) front index blocks i offset bytes total lt h so_far =
    let k : blocks - i ≡ suc (blocks - (i + 1)) = omega arith in
    let go : behind front (entries_at index (blocks - i) offset (last_of None front) bytes) ≡ Err f = rw (k, h) refl in
    sym so_far ∙ go

pub entries_done : (front : List BlockEntry) (index blocks i offset : ℕ) (bytes : List ℕ) (total : Result (List BlockEntry) ℕ) → blocks ≤ i → ((length bytes == 0) && (offset == index)) ≡ true
    → behind front (entries_at index (blocks - i) offset (last_of None front) bytes) ≡ total → total ≡ Ok front
unfolding entries_at
entries_done front index blocks i offset bytes total le ends so_far =
    let k : blocks - i ≡ 0 = omega arith in
    let go : behind front (entries_at index (blocks - i) offset (last_of None front) bytes) ≡ Ok (front ++ []) = rw (k, ends) refl in
    sym so_far ∙ go ∙ ap (λ (es : List BlockEntry). Ok es) (append-nil front)

pub entries_left : (front : List BlockEntry) (index blocks i offset : ℕ) (bytes : List ℕ) (total : Result (List BlockEntry) ℕ) → blocks ≤ i → ((length bytes == 0) && (offset == index)) ≡ false
    → behind front (entries_at index (blocks - i) offset (last_of None front) bytes) ≡ total → total ≡ Err (length bytes)
unfolding entries_at
entries_left front index blocks i offset bytes total le ends so_far =
    let k : blocks - i ≡ 0 = omega arith in
    let go : behind front (entries_at index (blocks - i) offset (last_of None front) bytes) ≡ Err (length bytes) = rw (k, ends) refl in
    sym so_far ∙ go

-- an entry that was taken
pub taken_entry : (left index offset : ℕ) (before : Option (List ℕ)) (read : Read BlockEntry) (x : BlockEntry × List ℕ) → fitting_entry left index offset before read ≡ Ok x
    → (read ≡ Ok x) × (entry_fits index offset before x.0 ≡ true)
taken_entry left index offset before (Err at) x e = absurd cc
taken_entry left index offset before (Ok y) x e =
    let g = check_ok (entry_fits index offset before y.0) left y x e in
    (ap (λ (z : BlockEntry × List ℕ). Ok z) g.1, subst (λ (z : BlockEntry × List ℕ). entry_fits index offset before z.0 ≡ true) g.1 g.0)

pub both_hold : (b c : Bool) → (b && c) ≡ true → (b ≡ true) × (c ≡ true)
both_hold true true h = (refl, refl)
both_hold true false h = absurd cc
both_hold false c h = absurd cc

pub entry_within : (index offset : ℕ) (before : Option (List ℕ)) (bytes : List ℕ) (x : BlockEntry × List ℕ) → next_entry_at index offset before bytes ≡ Ok x → offset + (x.0.size + 4) ≤ index
unfolding next_entry_at
entry_within index offset before bytes x e =
    let t = taken_entry (length bytes) index offset before _ x e in
    let rest = (both_hold _ _ t.1).1 in
    leb-true (offset + (x.0.size + 4)) index (both_hold _ _ rest).0

-- ---- what stands last

abbrev found : {A : Type 0} → A → Option A
found x = Some x

some_is : {A : Type 0} (x y : A) → found x ≡ found y → x ≡ y
some_is x y e = cc

none_is : {A : Type 0} (x : A) → found x ≡ (let none : Option A = None in none) → ⊥
none_is x e = cc

last_entry_behind : (n : ℕ) (first : BlockEntry) (entries : List BlockEntry) (e : BlockEntry) → n ≡ length entries → found e ≡ slice_get (first ∷ entries) n → last_of (Some first.last) entries ≡ Some e.last
last_entry_behind n first [] e is h = ap (λ (x : BlockEntry). Some x.last) (sym (some_is e first (h ∙ ap (slice_get (first ∷ [])) is)))
last_entry_behind n first (next ∷ entries) e is h = last_entry_behind (length entries) next entries e refl (h ∙ ap (slice_get (first ∷ next ∷ entries)) is)

pub last_entry : (entries : List BlockEntry) (e : BlockEntry) → found e ≡ slice_get entries (length entries - 1) → last_of None entries ≡ Some e.last
last_entry [] e h = absurd (none_is e h)
last_entry (first ∷ entries) e h = last_entry_behind (length entries) first entries e refl (h ∙ ap (slice_get (first ∷ entries)) (omega arith))
