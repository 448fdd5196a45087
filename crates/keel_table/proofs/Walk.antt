-- A walk over the rows of a block, of which some are taken along.
use Rattle.std.proofs.Common.{◌≡◌, ℕ, ◌+◌, ◌-◌, ◌<◌, ◌≤◌, Bool, true, false, List, [], ◌∷◌, ◌++◌, length, Option, Some, None, Result, Ok, Err, refl, sym, ap, subst, ◌∙◌}
use Rattle.std.specs.Prelude.{◌==◌, filter, find}
use Rattle.std.proofs.lemmas.List.Elements.{filter-append}
use Rattle.keel_base.specs.declared.row.Row.{Row}
use Rattle.keel_fields.specs.declared.error.FieldError.{FieldError}
use Rattle.keel_fields.specs.declared.error.FieldError.TheVariants as errors
use Rattle.keel_fields.specs.Reading.{Fails}
use Rattle.keel_disk.specs.Told.{Told}
use Rattle.keel_table.specs.declared.fault.TableFault.{TableFault}
use Rattle.keel_table.specs.declared.index.BlockEntry.{BlockEntry}
use Rattle.keel_table.specs.Spelling.{last_key}
use Rattle.keel_table.specs.Fields.{next_row_at, rows_at}
use Rattle.keel_table.specs.Opening.{Damage, bad_check, bad_shape, and_then, row_of, checked_at, rows_in, block_found}
use Rattle.keel_table.specs.declared.fault.TableFault.TheVariants as fault
use Rattle.keel_table.specs.Answers.{Finds, Answers}
use Rattle.keel_table.specs.Walking.{is_asked, asked_rows, asked_found, row_among}
use Rattle.keel_table.proofs.Adding.{last_key-more}
use Rattle.keel_table.proofs.Loops.{behind, rows_begin, rows_go_on, rows_done, rows_end, rows_spent}

-- the walk has come past these rows: key and bytes are what is behind them, and of them those that are asked for were taken along
pub record Walked (asked : Option (List ℕ)) (most i : ℕ) (before last bytes key rest : List ℕ) (rows : List Row) : Type 0 where
  pub front : List Row
  pub read : behind front (rows_at (most - i) (last_key before front) last rest) ≡ rows_at most before last bytes
  pub key_is : key ≡ last_key before front
  pub taken : rows ≡ filter (is_asked asked) front

pub walk_begins : (asked : Option (List ℕ)) (most : ℕ) (before last bytes : List ℕ) → Walked asked most 0 before last bytes before bytes []
walk_begins asked most before last bytes = record { front = []; read = rows_begin most before last bytes; key_is = refl; taken = refl }

next_is : (asked : Option (List ℕ)) (most i : ℕ) (before last bytes key rest : List ℕ) (rows : List Row) (read : Result (Row × List ℕ) ℕ) (w : Walked asked most i before last bytes key rest rows)
    → next_row_at key last rest ≡ read → next_row_at (last_key before w.front) last rest ≡ read
next_is asked most i before last bytes key rest rows read w h = ap (λ (k : List ℕ). next_row_at k last rest) (sym w.key_is) ∙ h

taken_more : (asked : Option (List ℕ)) (front rows more : List Row) (row : Row) → rows ≡ filter (is_asked asked) front → more ≡ rows ++ filter (is_asked asked) (row ∷ []) → more ≡ filter (is_asked asked) (front ++ row ∷ [])
taken_more asked front rows more row e f =
    f ∙ ap (λ (rs : List Row). rs ++ filter (is_asked asked) (row ∷ [])) e ∙ sym (filter-append (is_asked asked) front (row ∷ []))

pub walk_goes_on : (asked : Option (List ℕ)) (most i : ℕ) (before last bytes key rest after : List ℕ) (rows more : List Row) (row : Row) → i < most → next_row_at key last rest ≡ Ok (row, after) → (length after == 0) ≡ false
    → more ≡ rows ++ filter (is_asked asked) (row ∷ []) → Walked asked most i before last bytes key rest rows → Walked asked most (i + 1) before last bytes row.key after more
walk_goes_on asked most i before last bytes key rest after rows more row lt h some f w =
    let here = next_is asked most i before last bytes key rest rows (Ok (row, after)) w h in
    record {
      front = w.front ++ row ∷ [];
      read = rows_go_on w.front most i before last rest row after (rows_at most before last bytes) lt here some w.read;
      key_is = sym (last_key-more before w.front row);
      taken = taken_more asked w.front rows more row w.taken f;
    }

pub walk_done : (asked : Option (List ℕ)) (most i : ℕ) (before last bytes key rest after : List ℕ) (rows more : List Row) (row : Row) → i < most → next_row_at key last rest ≡ Ok (row, after) → (length after == 0) ≡ true
    → more ≡ rows ++ filter (is_asked asked) (row ∷ []) → Walked asked most i before last bytes key rest rows → asked_rows asked (rows_at most before last bytes) ≡ Ok more
walk_done asked most i before last bytes key rest after rows more row lt h none f w =
    let here = next_is asked most i before last bytes key rest rows (Ok (row, after)) w h in
    ap (asked_rows asked) (rows_done w.front most i before last rest row after (rows_at most before last bytes) lt here none w.read)
    ∙ ap (λ (rs : List Row). Ok rs) (sym (taken_more asked w.front rows more row w.taken f))

asked_fails : (e : FieldError) (asked : Option (List ℕ)) (read : Result (List Row) ℕ) → Fails e read → Fails e (asked_rows asked read)
asked_fails errors.OutOfMemory asked read h = tt
asked_fails (errors.Bad left) asked read h = ap (asked_rows asked) h

next_fails : (e : FieldError) (asked : Option (List ℕ)) (most i : ℕ) (before last bytes key rest : List ℕ) (rows : List Row) (w : Walked asked most i before last bytes key rest rows)
    → Fails e (next_row_at key last rest) → Fails e (next_row_at (last_key before w.front) last rest)
next_fails e asked most i before last bytes key rest rows w h = subst (λ (k : List ℕ). Fails e (next_row_at k last rest)) w.key_is h

pub walk_fails : (e : FieldError) (asked : Option (List ℕ)) (most i : ℕ) (before last bytes key rest : List ℕ) (rows : List Row) → i < most → Fails e (next_row_at key last rest)
    → Walked asked most i before last bytes key rest rows → Fails e (asked_rows asked (rows_at most before last bytes))
walk_fails e asked most i before last bytes key rest rows lt h w =
    asked_fails e asked (rows_at most before last bytes)
    (rows_end e w.front most i before last rest (rows_at most before last bytes) lt (next_fails e asked most i before last bytes key rest rows w h) w.read)

pub walk_spent : (asked : Option (List ℕ)) (most i : ℕ) (before last bytes key rest : List ℕ) (rows : List Row) → most ≤ i → Walked asked most i before last bytes key rest rows
    → asked_rows asked (rows_at most before last bytes) ≡ Err (length rest)
walk_spent asked most i before last bytes key rest rows le w =
    ap (asked_rows asked) (rows_spent w.front most i before last rest (rows_at most before last bytes) le w.read)

-- ---- what was taken along

filter_all : (rows : List Row) → filter (is_asked None) rows ≡ rows
filter_all [] = refl
filter_all (row ∷ rows) = ap (λ (rs : List Row). row ∷ rs) (filter_all rows)

abbrev rows_found : List Row → Result (List Row) Damage
rows_found rows = Ok rows

-- where no key is asked for, all rows are
pub all_asked : (found : Result (List Row) Damage) → asked_found None found ≡ found
all_asked (Ok rows) = ap rows_found (filter_all rows)
all_asked (Err damage) = refl

find_taken : (p : Row → Bool) (row : Row) (rows : List Row) (b : Bool) → p row ≡ b → find p (filter p rows) ≡ find p rows → find p (filter p (row ∷ rows)) ≡ find p (row ∷ rows)
find_taken p row rows true e h = rw e (rw e refl)
find_taken p row rows false e h = rw e h

find_filtered : (p : Row → Bool) (rows : List Row) → find p (filter p rows) ≡ find p rows
find_filtered p [] = refl
find_filtered p (row ∷ rows) = find_taken p row rows (p row) refl (find_filtered p rows)

found_is : (rows more : List Row) → rows_found rows ≡ rows_found more → rows ≡ more
found_is rows more e = cc

abbrev pub row_found : Option Row → Result (Option Row) Damage
row_found row = Ok row

-- the row of the key that was asked for
pub one_asked : (key : List ℕ) (found : Result (List Row) Damage) (rows : List Row) → asked_found (Some key) found ≡ Ok rows → row_among key found ≡ Ok (row_of key rows)
one_asked key (Ok all) rows e =
    ap row_found (sym (find_filtered (is_asked (Some key)) all) ∙ ap (row_of key) (found_is (filter (is_asked (Some key)) all) rows e))
one_asked key (Err damage) rows e = absurd cc

abbrev damaged : Damage → Result (List Row) Damage
damaged d = Err d

damage_is : (d e : Damage) → damaged d ≡ damaged e → d ≡ e
damage_is d e p = cc

abbrev no_row : Damage → Result (Option Row) Damage
no_row d = Err d

none_asked : (key : List ℕ) (found : Result (List Row) Damage) (d : Damage) → asked_found (Some key) found ≡ Err d → row_among key found ≡ Err d
none_asked key (Ok all) d e = absurd cc
none_asked key (Err damage) d e = ap no_row (damage_is damage d e)

pub none_found : (key : List ℕ) (found : Result (List Row) Damage) (f : TableFault) → Finds {A = List Row} (λ (rows : List Row). rows) (Err f) (asked_found (Some key) found)
    → Finds {A = Option Row} (λ (row : Option Row). row) (Err f) (row_among key found)
none_found key found (fault.Device f) h = absurd h
none_found key found fault.Absent h = absurd h
none_found key found (fault.BadCheck stored computed) h = none_asked key found (bad_check stored computed) h
none_found key found (fault.BadShape at) h = none_asked key found (bad_shape at) h
none_found key found fault.OutOfMemory h = tt

-- ---- the row of a block in a file

among_then : {A : Type 0} (key : List ℕ) (first : Result A Damage) (next : A → Result (List Row) Damage) → row_among key (and_then first next) ≡ and_then first (λ x. row_among key (next x))
among_then key (Ok x) next = refl
among_then key (Err d) next = refl

abbrev Reader : Type 0
Reader = List ℕ → Result (Option Row) Damage

abbrev read_then : List ℕ → List ℕ → BlockEntry → Reader
read_then key before e = λ bytes. and_then (checked_at e.offset e.size bytes) (λ body. row_among key (rows_in before e body))

abbrev found_then : List ℕ → List ℕ → BlockEntry → Reader
found_then key before e = λ bytes. row_among key (block_found before e bytes)

same_reader : (key before : List ℕ) (e : BlockEntry) → read_then key before e ≡ found_then key before e
unfolding block_found
same_reader key before e = λ i bytes. sym (among_then key (checked_at e.offset e.size bytes) (rows_in before e)) i

pub row_answers : (key before : List ℕ) (e : BlockEntry) (number : ℕ) (told : Option Told) (result : Result (Option Row) TableFault)
    → Answers (λ (row : Option Row). row) (λ bytes. and_then (checked_at e.offset e.size bytes) (λ body. row_among key (rows_in before e body))) number told result
    → Answers (λ (row : Option Row). row) (λ bytes. row_among key (block_found before e bytes)) number told result
row_answers key before e number told result h = subst (λ (r : Reader). Answers (λ (row : Option Row). row) r number told result) (same_reader key before e) h
