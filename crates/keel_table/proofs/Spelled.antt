-- What reads well as a block, an index or a footer is what spells it.
use Rattle.std.proofs.Common.{◌≡◌, ℕ, zero, suc, ◌+◌, ◌-◌, ◌<◌, ◌≤◌, Bool, true, false, cond, eqb, ltb, List, [], ◌∷◌, ◌++◌, length, take, drop, Option, Some, None, Result, Ok, Err, refl, sym, ap, subst, ◌∙◌, arith, inl, inr, eq-eqb}
use Rattle.std.specs.Prelude.{◌&&◌, IfOk}
use Rattle.std.specs.List.{flat_map, AllByRecursion}
use Rattle.std.specs.Int.{w32, from_le_bytes}
use Rattle.std.proofs.lemmas.Bool.{cases_lt, ltb-false, eqb-true, and_parts, and_from}
use Rattle.std.proofs.lemmas.List.{take_all, take-append-drop, length-append, length-take, length-drop, get_or_past, nil_from_length}
use Rattle.std.proofs.lemmas.List.Elements.{All-take, All-drop}
use Rattle.std.specs.declared.cmp.Ordering.{Ordering}
use Rattle.std.specs.declared.cmp.Ordering.TheVariants.{Less, Equal, Greater}
use Rattle.std.specs.Ordering.{is_eq}
use Rattle.keel_base.specs.declared.row.Row.{Row}
use Rattle.keel_base.specs.Keys.{key_cmp, key_lt, key_eq}
use Rattle.keel_disk.specs.Image.{AreBytes}
use Rattle.keel_frag.specs.Checksum.{crc32c, mask}
use Rattle.keel_fields.specs.Reading.{Read, ◌>>=◌}
use Rattle.keel_fields.proofs.Fields.{IsBytes, bind_ok, check_ok, ok_is, Takes, wide32}
use Rattle.keel_table.specs.declared.index.BlockEntry.{BlockEntry}
use Rattle.keel_table.specs.declared.index.Footer.{Footer}
use Rattle.keel_base.specs.Rows.{IsRow}
use Rattle.keel_table.specs.Spelling.{number, count, row_bytes, rows_bytes, Ascend, last_key, checked, entry_bytes, IsEntry, magic, footer_body}
use Rattle.keel_table.specs.Fields.{row_at, may_stand, has_offset, placed_row, next_row_at, rows_at, all_rows_at, entry_at, entry_fits, fitting_entry, next_entry_at, entries_at, footer_at, in_order}
use Rattle.keel_table.specs.Opening.{Damage, bad_check, bad_shape, and_then, needs, ending_at, compared, tested, part_at, checked_at, footer_of_size, footer_found, entries_in, entries_found, rows_in, block_found}
use Rattle.keel_table.specs.declared.fault.TableFault.{TableFault}
use Rattle.keel_table.specs.Answers.{Finds}
use Rattle.keel_table.specs.Blocks.{FitEntry}
use Rattle.keel_table.specs.Laws.{IsBlockAt, IsIndexAt, IsFooterAt, BlocksAreSpelled, IndexesAreSpelled, FootersAreSpelled}
use Rattle.keel_base.proofs.KeyOrder.{eq_same}
use Rattle.keel_table.proofs.Lengths.{length-row}
use Rattle.keel_table.proofs.Loops.{taken_entry}
use Rattle.keel_table.proofs.Reread.{tested_again, row_field, rows_again, rows_long, entry_field, footer_parts, seven, footer_again, length-footer}

-- ---- bytes

are_bytes : (bytes : List ℕ) → AreBytes bytes → IsBytes bytes
are_bytes bytes h i =
    elim (cases_lt i (length bytes)) [
      | inl lt ↦ h i 0 lt
      | inr le ↦ rw (get_or_past bytes i 0 le) (omega arith)
    ]

-- ---- steps that did not fail

abbrev found : {A : Type 0} → A → Result A Damage
found x = Ok x

found_is : {A : Type 0} (x y : A) → found x ≡ found y → x ≡ y
found_is x y e = cc

pub then_ok : {A B : Type 0} (r : Result A Damage) (next : A → Result B Damage) (y : B) → and_then r next ≡ Ok y → (x : A) × (r ≡ Ok x) × (next x ≡ Ok y)
then_ok (Ok x) next y e = (x, refl, e)
then_ok (Err damage) next y e = absurd cc

pub needs_ok : {A : Type 0} (test : Bool) (at : ℕ) (next : Result A Damage) (x : A) → needs test at next ≡ Ok x → (test ≡ true) × (next ≡ Ok x)
needs_ok true at next x e = (refl, e)
needs_ok false at next x e = absurd cc

unless_ok : {A : Type 0} (test : Bool) (damage : Damage) (next : Result A Damage) (x : A) → cond test (Err damage) next ≡ Ok x → (test ≡ false) × (next ≡ Ok x)
unless_ok true damage next x e = absurd cc
unless_ok false damage next x e = (refl, e)

same_ok : {A : Type 0} (test : Bool) (damage : Damage) (x y : A) → cond test (Ok x) (Err damage) ≡ Ok y → (test ≡ true) × (x ≡ y)
same_ok true damage x y e = (refl, cc)
same_ok false damage x y e = absurd cc

chosen : {A : Type 0} (test : Bool) (x y : A) → test ≡ true → cond test x y ≡ x
chosen true x y e = refl
chosen false x y e = cc

ending_ok : {A : Type 0} (end : ℕ) (r : Result A ℕ) (x : A) → ending_at end r ≡ Ok x → r ≡ Ok x
ending_ok {A} end (Ok y) x e = ap (λ (z : A). Ok z) (found_is y x e)
ending_ok end (Err left) x e = absurd cc

-- ---- checks

compared_ok : (body : List ℕ) (stored : ℕ) (x : List ℕ) → compared body stored ≡ Ok x → (stored ≡ mask (crc32c body)) × (body ≡ x)
unfolding compared
compared_ok body stored x e =
    let same = same_ok (eqb stored (mask (crc32c body))) (bad_check stored (mask (crc32c body))) body x e in
    (eqb-true stored (mask (crc32c body)) same.0, same.1)

count_back : (four : List ℕ) → length four ≡ 4 → IsBytes four → count (from_le_bytes w32 four) ≡ four
unfolding count
count_back four long fits = wide32.back four long fits

-- a part whose check is right is the bytes that were asked for, and their check
record IsPart (size : ℕ) (part body : List ℕ) : Type 0 where
  spelled : part ≡ checked body
  sized : length body ≡ size
  bytes : AreBytes body

tested_takes : (offset size : ℕ) (part body : List ℕ) → length part ≤ size + 4 → AreBytes part → tested offset size part ≡ Ok body → IsPart size part body
unfolding tested checked
tested_takes offset size part body most are e =
    let front : List ℕ = take size part in
    let behind : List ℕ = drop size part in
    let long = unless_ok (ltb (length part) (size + 4)) (bad_shape offset) (compared front (from_le_bytes w32 (take 4 behind))) body e in
    let least : size + 4 ≤ length part = ltb-false (length part) (size + 4) long.0 in
    let same = compared_ok front (from_le_bytes w32 (take 4 behind)) body long.1 in
    let four : length behind ≡ 4 = omega (arith, length-drop size part) in
    let whole : take 4 behind ≡ behind = take_all 4 behind (omega (arith, four)) in
    let stored : from_le_bytes w32 behind ≡ mask (crc32c front) = ap (from_le_bytes w32) (sym whole) ∙ same.0 in
    let check : count (mask (crc32c front)) ≡ behind = ap count (sym stored) ∙ count_back behind four (are_bytes behind (All-drop (λ byte. byte < 256) size part are)) in
    let parts : part ≡ front ++ count (mask (crc32c front)) = sym (take-append-drop size part) ∙ ap (λ (b : List ℕ). front ++ b) (sym check) in
    let sized : length front ≡ size = omega (arith, length-take size part) in
    subst (IsPart size part) same.1 (record { spelled = parts; sized = sized; bytes = All-take (λ byte. byte < 256) size part are })

part_takes : (offset size : ℕ) (bytes body : List ℕ) → AreBytes bytes → checked_at offset size bytes ≡ Ok body → IsPart size (part_at offset (size + 4) bytes) body
part_takes offset size bytes body are e =
    let behind : AreBytes (drop offset bytes) = All-drop (λ byte. byte < 256) offset bytes are in
    tested_takes offset size (part_at offset (size + 4) bytes) body (omega (arith, length-take (size + 4) (drop offset bytes))) (All-take (λ byte. byte < 256) (size + 4) (drop offset bytes) behind) e

-- bytes that stand with their check where they are asked for are found
part_again : (offset size : ℕ) (bytes body : List ℕ) → part_at offset (size + 4) bytes ≡ checked body → length body ≡ size → checked_at offset size bytes ≡ Ok body
part_again offset size bytes body spelled sized =
    ap (tested offset size) spelled ∙ ap (λ (n : ℕ). tested offset n (checked body)) (sym sized) ∙ tested_again offset body

-- ---- rows

-- rows that the bytes are, behind a key and up to the last
record AreRows (before last bytes : List ℕ) (rows : List Row) : Type 0 where
  spelled : bytes ≡ rows_bytes rows
  some : 0 < length rows
  each : AllByRecursion IsRow rows
  rise : Ascend before rows
  ends : last_key before rows ≡ last

placed_ok : (left : ℕ) (before last : List ℕ) (read : Read Row) (x : Row × List ℕ) → placed_row left before last read ≡ Ok x → (read ≡ Ok x) × (has_offset before last x.0.key (length x.1) ≡ true)
placed_ok left before last (Err at) x e = absurd cc
placed_ok left before last (Ok y) x e =
    let g = check_ok (has_offset before last y.0.key (length y.1)) left y x e in
    (ap (λ (z : Row × List ℕ). Ok z) g.1, subst (λ (z : Row × List ℕ). has_offset before last z.0.key (length z.1) ≡ true) g.1 g.0)

next_takes : (before last bytes : List ℕ) (x : Row × List ℕ) → IsBytes bytes → next_row_at before last bytes ≡ Ok x
    → Takes bytes (row_bytes x.0) x.1 × IsRow x.0 × (key_lt before x.0.key ≡ true) × (may_stand (key_cmp x.0.key last) (length x.1) ≡ true)
unfolding next_row_at
next_takes before last bytes x fits e =
    let p = placed_ok (length bytes) before last (row_at bytes) x e in
    let t = row_field.takes bytes x fits p.0 in
    let offsets = and_parts (key_lt before x.0.key) (may_stand (key_cmp x.0.key last) (length x.1)) p.1 in
    (t.0, t.1, offsets.0, offsets.1)

stands_last : (o : Ordering) (left : ℕ) → left ≡ 0 → may_stand o left ≡ true → is_eq o ≡ true
stands_last Less left none h = absurd (let none_left : may_stand Less 0 ≡ true = subst (λ (n : ℕ). may_stand Less n ≡ true) none h in cc)
stands_last Equal left none h = refl
stands_last Greater left none h = absurd cc

last_takes : (before last bytes : List ℕ) (x : Row × List ℕ) (rows : List Row) → IsBytes bytes → next_row_at before last bytes ≡ Ok x → length x.1 ≡ 0 → x.0 ∷ [] ≡ rows → AreRows before last bytes rows
last_takes before last bytes x rows fits e none is =
    let t = next_takes before last bytes x fits e in
    let nothing : x.1 ≡ [] = nil_from_length x.1 none in
    let key : x.0.key ≡ last = eq_same x.0.key last (stands_last (key_cmp x.0.key last) (length x.1) none t.3) in
    subst (AreRows before last bytes) is
    (record { spelled = t.0.parts ∙ ap (λ (rest : List ℕ). row_bytes x.0 ++ rest) nothing; some = omega arith; each = (t.1, tt); rise = (t.2, tt); ends = key })

more_take : (before last bytes : List ℕ) (x : Row × List ℕ) (others rows : List Row) → IsBytes bytes → next_row_at before last bytes ≡ Ok x → AreRows x.0.key last x.1 others → x.0 ∷ others ≡ rows
    → AreRows before last bytes rows
more_take before last bytes x others rows fits e behind is =
    let t = next_takes before last bytes x fits e in
    subst (AreRows before last bytes) is
    (record { spelled = t.0.parts ∙ ap (λ (rest : List ℕ). row_bytes x.0 ++ rest) behind.spelled; some = omega arith; each = (t.1, behind.each); rise = (t.2, behind.rise); ends = behind.ends })

-- what is read behind a row, and whether anything is
abbrev read_behind : Bool → Row → Result (List Row) ℕ → Result (List Row) ℕ
read_behind none row others = cond none (Ok (row ∷ [])) (others >>= λ rows. Ok (row ∷ rows))

behind_takes : (none : Bool) (before last bytes : List ℕ) (x : Row × List ℕ) (others : Result (List Row) ℕ) (rows : List Row) → IsBytes bytes → next_row_at before last bytes ≡ Ok x → eqb (length x.1) 0 ≡ none
    → ((found : List Row) → others ≡ Ok found → AreRows x.0.key last x.1 found) → read_behind none x.0 others ≡ Ok rows → AreRows before last bytes rows
behind_takes true before last bytes x others rows fits e none behind read =
    last_takes before last bytes x rows fits e (eqb-true (length x.1) 0 none) (ok_is (x.0 ∷ []) rows read)
behind_takes false before last bytes x others rows fits e none behind read =
    let rest = bind_ok others (λ rows. Ok (x.0 ∷ rows)) rows read in
    more_take before last bytes x rest.0 rows fits e (behind rest.0 rest.1) (ok_is (x.0 ∷ rest.0) rows rest.2)

rows_take : (most : ℕ) (before last bytes : List ℕ) (rows : List Row) → IsBytes bytes → rows_at most before last bytes ≡ Ok rows → AreRows before last bytes rows
unfolding rows_at
rows_take zero before last bytes rows fits e = absurd cc
rows_take (suc most) before last bytes rows fits e =
    let x = bind_ok (next_row_at before last bytes) (λ x. read_behind (eqb (length x.1) 0) x.0 (rows_at most x.0.key last x.1)) rows e in
    let t = next_takes before last bytes x.0 fits x.1 in
    behind_takes (eqb (length x.0.1) 0) before last bytes x.0 (rows_at most x.0.0.key last x.0.1) rows fits x.1 refl
    (λ found h. rows_take most x.0.0.key last x.0.1 found t.0.rest_fits h) x.2

all_rows_again : (before last : List ℕ) (rows : List Row) → 0 < length rows → AllByRecursion IsRow rows → Ascend before rows → last_key before rows ≡ last → all_rows_at before last (rows_bytes rows) ≡ Ok rows
all_rows_again before last [] some each rise ends = absurd (omega (arith, some))
all_rows_again before last (row ∷ rows) some each rise ends =
    rows_again (length (rows_bytes (row ∷ rows))) before last row rows (omega (arith, rows_long rows, length-append (row_bytes row) (rows_bytes rows), length-row row)) each rise (sym ends)

-- what is read from bytes fits the entry that it was read for, whichever bytes they are
pub rows_fit : (before : List ℕ) (e : BlockEntry) (body : List ℕ) (rows : List Row) → IsBytes body → all_rows_at before e.last body ≡ Ok rows → FitEntry before e rows
rows_fit before e body rows fits read =
    let t = rows_take (length body) before e.last body rows fits read in
    record { some = t.some; each = t.each; rise = t.rise; last = t.ends }

pub found_fits : (before : List ℕ) (e : BlockEntry) (body : List ℕ) (result : Result (List Row) TableFault) → IsBytes body → Finds (λ (rows : List Row). rows) result (rows_in before e body) → IfOk result (FitEntry before e)
found_fits before e body (Ok rows) fits h = rows_fit before e body rows fits (ending_ok (e.offset + e.size) (all_rows_at before e.last body) rows h)
found_fits before e body (Err fault) fits h = tt

-- ---- blocks

block_takes : (before : List ℕ) (e : BlockEntry) (bytes : List ℕ) (rows : List Row) → AreBytes bytes → block_found before e bytes ≡ Ok rows → IsBlockAt before e bytes rows
unfolding block_found
block_takes before e bytes rows are h =
    let body = then_ok (checked_at e.offset e.size bytes) (rows_in before e) rows h in
    let part = part_takes e.offset e.size bytes body.0 are body.1 in
    let read : all_rows_at before e.last body.0 ≡ Ok rows = ending_ok (e.offset + e.size) (all_rows_at before e.last body.0) rows body.2 in
    let t = rows_take (length body.0) before e.last body.0 rows (are_bytes body.0 part.bytes) read in
    record { spelled = part.spelled ∙ ap checked t.spelled; sized = ap length (sym t.spelled) ∙ part.sized; some = t.some; each = t.each; rise = t.rise; last = t.ends }

block_again : (before : List ℕ) (e : BlockEntry) (bytes : List ℕ) (rows : List Row) → IsBlockAt before e bytes rows → block_found before e bytes ≡ Ok rows
unfolding block_found
block_again before e bytes rows is =
    let read : checked_at e.offset e.size bytes ≡ Ok (rows_bytes rows) = part_again e.offset e.size bytes (rows_bytes rows) is.spelled is.sized in
    let listed : all_rows_at before e.last (rows_bytes rows) ≡ Ok rows = all_rows_again before e.last rows is.some is.each is.rise is.last in
    rw read (rw listed refl)

pub blocks_spelled : BlocksAreSpelled
blocks_spelled before e bytes rows are = (block_takes before e bytes rows are, block_again before e bytes rows)

-- ---- the index

-- entries that the bytes are, of blocks that follow each other
record AreEntries (index offset : ℕ) (before : Option (List ℕ)) (blocks : ℕ) (bytes : List ℕ) (entries : List BlockEntry) : Type 0 where
  spelled : bytes ≡ flat_map entry_bytes entries
  counted : length entries ≡ blocks
  each : AllByRecursion IsEntry entries
  follow : in_order index offset before entries ≡ true

next_entry_takes : (index offset : ℕ) (before : Option (List ℕ)) (bytes : List ℕ) (x : BlockEntry × List ℕ) → IsBytes bytes → next_entry_at index offset before bytes ≡ Ok x
    → Takes bytes (entry_bytes x.0) x.1 × IsEntry x.0 × (entry_fits index offset before x.0 ≡ true)
unfolding next_entry_at
next_entry_takes index offset before bytes x fits e =
    let taken = taken_entry (length bytes) index offset before (entry_at bytes) x e in
    let t = entry_field.takes bytes x fits taken.0 in
    (t.0, t.1, taken.1)

entries_take : (index blocks offset : ℕ) (before : Option (List ℕ)) (bytes : List ℕ) (entries : List BlockEntry) → IsBytes bytes → entries_at index blocks offset before bytes ≡ Ok entries
    → AreEntries index offset before blocks bytes entries
unfolding entries_at
entries_take index zero offset before bytes entries fits e =
    let g = check_ok (eqb (length bytes) 0 && eqb offset index) (length bytes) [] entries e in
    let ends = and_parts (eqb (length bytes) 0) (eqb offset index) g.0 in
    let nothing : bytes ≡ [] = nil_from_length bytes (eqb-true (length bytes) 0 ends.0) in
    subst (AreEntries index offset before 0 bytes) g.1 (record { spelled = nothing; counted = refl; each = tt; follow = ends.1 })
entries_take index (suc blocks) offset before bytes entries fits e =
    let x = bind_ok (next_entry_at index offset before bytes) (λ x. entries_at index blocks (offset + (x.0.size + 4)) (Some x.0.last) x.1 >>= λ others. Ok (x.0 ∷ others)) entries e in
    let rest = bind_ok (entries_at index blocks (offset + (x.0.0.size + 4)) (Some x.0.0.last) x.0.1) (λ others. Ok (x.0.0 ∷ others)) entries x.2 in
    let t = next_entry_takes index offset before bytes x.0 fits x.1 in
    let others = entries_take index blocks (offset + (x.0.0.size + 4)) (Some x.0.0.last) x.0.1 rest.0 t.0.rest_fits rest.1 in
    subst (AreEntries index offset before (suc blocks) bytes) (ok_is (x.0.0 ∷ rest.0) entries rest.2)
    (record {
      spelled = t.0.parts ∙ ap (λ (b : List ℕ). entry_bytes x.0.0 ++ b) others.spelled;
      counted = ap suc others.counted;
      each = (t.1, others.each);
      follow = and_from (entry_fits index offset before x.0.0) (in_order index (offset + (x.0.0.size + 4)) (Some x.0.0.last) rest.0) t.2 others.follow;
    })

fitting_again : (left index offset : ℕ) (before : Option (List ℕ)) (x : BlockEntry × List ℕ) → entry_fits index offset before x.0 ≡ true → fitting_entry left index offset before (Ok x) ≡ Ok x
fitting_again left index offset before x fits = chosen (entry_fits index offset before x.0) (Ok x) (Err left) fits

next_entry_again : (index offset : ℕ) (before : Option (List ℕ)) (e : BlockEntry) (rest : List ℕ) → IsEntry e → entry_fits index offset before e ≡ true
    → next_entry_at index offset before (entry_bytes e ++ rest) ≡ Ok (e, rest)
unfolding next_entry_at
next_entry_again index offset before e rest is fits =
    let bytes : List ℕ = entry_bytes e ++ rest in
    ap (fitting_entry (length bytes) index offset before) (entry_field.again e rest is) ∙ fitting_again (length bytes) index offset before (e, rest) fits

entries_again : (index offset : ℕ) (before : Option (List ℕ)) (entries : List BlockEntry) → AllByRecursion IsEntry entries → in_order index offset before entries ≡ true
    → entries_at index (length entries) offset before (flat_map entry_bytes entries) ≡ Ok entries
unfolding entries_at
entries_again index offset before [] each follow = rw follow refl
entries_again index offset before (e ∷ entries) each follow =
    let behind : List ℕ = flat_map entry_bytes entries in
    let fits = and_parts (entry_fits index offset before e) (in_order index (offset + (e.size + 4)) (Some e.last) entries) follow in
    let here : next_entry_at index offset before (entry_bytes e ++ behind) ≡ Ok (e, behind) = next_entry_again index offset before e behind each.0 fits.0 in
    let rest = entries_again index (offset + (e.size + 4)) (Some e.last) entries each.1 fits.1 in
    rw here (rw rest refl)

index_takes : (f : Footer) (bytes : List ℕ) (entries : List BlockEntry) → AreBytes bytes → entries_found f bytes ≡ Ok entries → IsIndexAt f bytes entries
unfolding entries_found
index_takes f bytes entries are h =
    let body = then_ok (checked_at f.index f.size bytes) (entries_in f) entries h in
    let part = part_takes f.index f.size bytes body.0 are body.1 in
    let read : entries_at f.index f.blocks 0 None body.0 ≡ Ok entries = ending_ok (f.index + f.size) (entries_at f.index f.blocks 0 None body.0) entries body.2 in
    let t = entries_take f.index f.blocks 0 None body.0 entries (are_bytes body.0 part.bytes) read in
    record { spelled = part.spelled ∙ ap checked t.spelled; sized = ap length (sym t.spelled) ∙ part.sized; counted = t.counted; each = t.each; follow = t.follow }

index_again : (f : Footer) (bytes : List ℕ) (entries : List BlockEntry) → IsIndexAt f bytes entries → entries_found f bytes ≡ Ok entries
unfolding entries_found
index_again f bytes entries is =
    let read : checked_at f.index f.size bytes ≡ Ok (flat_map entry_bytes entries) = part_again f.index f.size bytes (flat_map entry_bytes entries) is.spelled is.sized in
    let listed : entries_at f.index f.blocks 0 None (flat_map entry_bytes entries) ≡ Ok entries =
    ap (λ (n : ℕ). entries_at f.index n 0 None (flat_map entry_bytes entries)) (sym is.counted) ∙ entries_again f.index 0 None entries is.each is.follow in
    rw read (rw listed refl)

pub indexes_spelled : IndexesAreSpelled
indexes_spelled f bytes entries are = (index_takes f bytes entries are, index_again f bytes entries)

-- ---- the footer

-- a footer's numbers that tell the whole of a file of that size, with what stands behind them
footer_taken : (size : ℕ) (read : Read Footer) (f : Footer) → footer_of_size size read ≡ Ok f → (read ≡ Ok (f, magic)) × (f.index + (f.size + 52) ≡ size)
unfolding footer_of_size
footer_taken size (Err left) f e = absurd cc
footer_taken size (Ok x) f e =
    let told = needs_ok (key_eq x.1 magic) (size - 48 + 40) (needs (eqb (x.0.index + (x.0.size + 52)) size) (size - 48) (Ok x.0)) f e in
    let whole = needs_ok (eqb (x.0.index + (x.0.size + 52)) size) (size - 48) (Ok x.0) f told.1 in
    let same : x.0 ≡ f = found_is x.0 f whole.1 in
    let behind : x.1 ≡ magic = eq_same x.1 magic told.0 in
    (λ i. Ok (same i, behind i), subst (λ (g : Footer). g.index + (g.size + 52) ≡ size) same (eqb-true (x.0.index + (x.0.size + 52)) size whole.0))

footer_takes : (size : ℕ) (bytes : List ℕ) (f : Footer) → AreBytes bytes → footer_found size bytes ≡ Ok f → IsFooterAt size bytes f
unfolding footer_found
footer_takes size bytes f are h =
    let body = then_ok (checked_at (size - 48) 44 bytes) (λ body. footer_of_size size (footer_at body)) f h in
    let part = part_takes (size - 48) 44 bytes body.0 are body.1 in
    let told = footer_taken size (footer_at body.0) f body.2 in
    let t = footer_parts.takes body.0 (f, magic) (are_bytes body.0 part.bytes) told.0 in
    let text : body.0 ≡ footer_body f = t.0.parts ∙ sym (seven (number f.index) (count f.size) (count f.blocks) (number f.rows) (number f.first) (number f.last) magic) in
    let fits = t.1 in
    record {
      fits = record { index = fits.0.0.0.0.0; size = fits.0.0.0.0.1; blocks = fits.0.0.0.1; rows = fits.0.0.1; first = fits.0.1; last = fits.1 };
      spelled = part.spelled ∙ ap checked text;
      whole = told.1;
    }

footer_read_again : (size : ℕ) (f : Footer) → f.index + (f.size + 52) ≡ size → footer_of_size size (Ok (f, magic)) ≡ Ok f
unfolding footer_of_size
footer_read_again size f whole = chosen (eqb (f.index + (f.size + 52)) size) (Ok f) (Err (bad_shape (size - 48))) (eq-eqb (f.index + (f.size + 52)) size whole)

footer_spelled_again : (size : ℕ) (bytes : List ℕ) (f : Footer) → IsFooterAt size bytes f → footer_found size bytes ≡ Ok f
unfolding footer_found
footer_spelled_again size bytes f is =
    let read : checked_at (size - 48) 44 bytes ≡ Ok (footer_body f) = part_again (size - 48) 44 bytes (footer_body f) is.spelled (length-footer f) in
    rw read (ap (footer_of_size size) (footer_again f is.fits) ∙ footer_read_again size f is.whole)

pub footers_spelled : FootersAreSpelled
footers_spelled size bytes f are = (footer_takes size bytes f are, footer_spelled_again size bytes f)
