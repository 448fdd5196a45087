-- A row more, and the end of a table.
use Rattle.std.proofs.Common.{◌≡◌, ℕ, ◌+◌, ◌<◌, ◌≤◌, true, List, [], ◌∷◌, ◌++◌, length, refl, sym, ap, subst, ◌∙◌, append_assoc, arith}
use Rattle.std.specs.List.{flat_map, AllByRecursion}
use Rattle.std.proofs.lemmas.List.{length-append, append-nil, nil_from_length}
use Rattle.std.proofs.lemmas.Grind.{flat_map-append}
use Rattle.keel_base.specs.declared.row.Row.{Row}
use Rattle.keel_base.specs.Keys.{key_lt}
use Rattle.keel_table.specs.declared.index.BlockEntry.{BlockEntry}
use Rattle.keel_table.specs.declared.index.Footer.{Footer}
use Rattle.keel_table.specs.declared.builder.Builder.{Builder}
use Rattle.keel_base.specs.Rows.{IsRow}
use Rattle.keel_table.specs.Spelling.{Ascend, last_key, row_bytes, rows_bytes, IsBlock, IsClosed, AreBlocks, rows_of, checked, block_bytes, blocks_bytes, entry_bytes, entry_of, entries_from, index_bytes, footer_bytes, footer_of, FooterFits, IsTableOf}
use Rattle.keel_table.specs.Building.{IsBuilding, IsTableIn, closed_by, footer_behind}
use Rattle.keel_table.proofs.Lengths.{length-row, length-checked}

-- ---- lists with an element more

all-more : {A : Type 0} (P : A → Type 0) (xs : List A) (x : A) → AllByRecursion P xs → P x → AllByRecursion P (xs ++ x ∷ [])
all-more P [] x h p = (p, tt)
all-more P (y ∷ ys) x h p = (h.0, all-more P ys x h.1 p)

ascend-more : (before : List ℕ) (rows : List Row) (row : Row) → Ascend before rows → key_lt (last_key before rows) row.key ≡ true → Ascend before (rows ++ row ∷ [])
ascend-more before [] row h lt = (lt, tt)
ascend-more before (first ∷ rows) row h lt = (h.0, ascend-more first.key rows row h.1 lt)

pub last_key-more : (before : List ℕ) (rows : List Row) (row : Row) → last_key before (rows ++ row ∷ []) ≡ row.key
last_key-more before [] row = refl
last_key-more before (first ∷ rows) row = last_key-more first.key rows row

pub flat-one : {A B : Type 0} (f : A → List B) (xs : List A) (x : A) → flat_map f (xs ++ x ∷ []) ≡ flat_map f xs ++ f x
flat-one {A} {B} f xs x = flat_map-append f xs (x ∷ []) ∙ ap (λ (ys : List B). flat_map f xs ++ ys) (append-nil (f x))

length-more : {A : Type 0} (xs : List A) (x : A) → length (xs ++ x ∷ []) ≡ length xs + 1
length-more xs x = omega (arith, length-append xs (x ∷ []))

entry_at_zero : (block : List Row) (offset : ℕ) → entry_of (offset + 0) block ≡ entry_of offset block
entry_at_zero block offset =
    let e : offset + 0 ≡ offset = omega arith in ap (λ (n : ℕ). entry_of n block) e

entries-more : (offset : ℕ) (blocks : List (List Row)) (block : List Row)
    → entries_from offset (blocks ++ block ∷ []) ≡ entries_from offset blocks ++ entry_of (offset + length (blocks_bytes blocks)) block ∷ []
entries-more offset [] block = ap (λ (e : BlockEntry). e ∷ []) (sym (entry_at_zero block offset))
entries-more offset (first ∷ blocks) block =
    let size : ℕ = length (rows_bytes first) + 4 in
    let there : offset + size + length (blocks_bytes blocks) ≡ offset + length (block_bytes first ++ blocks_bytes blocks) =
    omega (arith, length-append (block_bytes first) (blocks_bytes blocks), length-checked (rows_bytes first)) in
    ap (λ (es : List BlockEntry). entry_of offset first ∷ es) (entries-more (offset + size) blocks block ∙ ap (λ (n : ℕ). entries_from (offset + size) blocks ++ entry_of n block ∷ []) there)

index-more : (blocks : List (List Row)) (block : List Row) → index_bytes (blocks ++ block ∷ []) ≡ index_bytes blocks ++ entry_bytes (entry_of (length (blocks_bytes blocks)) block)
index-more blocks block =
    let there : entry_of (0 + length (blocks_bytes blocks)) block ≡ entry_of (length (blocks_bytes blocks)) block = (let e : 0 + length (blocks_bytes blocks) ≡ length (blocks_bytes blocks) = omega arith in ap (λ (n : ℕ). entry_of n block) e) in
    ap (λ (es : List BlockEntry). flat_map entry_bytes es) (entries-more 0 blocks block) ∙ flat-one entry_bytes (entries_from 0 blocks) (entry_of (0 + length (blocks_bytes blocks)) block) ∙ ap (λ (e : BlockEntry). index_bytes blocks ++ entry_bytes e) there

-- ---- a row that leaves the block open

pub keeps : (first last : ℕ) (rows : List Row) (given : List ℕ) (b c : Builder) (row : Row) (spelled key : List ℕ) (number : ℕ) → IsBuilding first last rows given b → IsRow row → key_lt b.last_key row.key ≡ true
    → spelled ≡ row_bytes row → key ≡ row.key → number ≡ b.rows + 1 → length b.open_rows + length spelled < 4096 → c ≡ record b { open_rows = b.open_rows ++ spelled; last_key = key; rows = number }
    → IsBuilding first last (rows ++ row ∷ []) (given ++ []) c
keeps first last rows given b c row spelled key number h is over spells keyed numbered short e =
    let bytes : b.open_rows ++ spelled ≡ rows_bytes (h.rest ++ row ∷ []) = ap (λ (s : List ℕ). b.open_rows ++ s) spells ∙ ap (λ (s : List ℕ). s ++ row_bytes row) h.open_is ∙ sym (flat-one row_bytes h.rest row) in
    let P : Builder → Type 0 = IsBuilding first last (rows ++ row ∷ []) (given ++ []) in
    subst P (sym e) (record {
      each = all-more IsRow rows row h.each is;
      rise = ascend-more [] rows row h.rise (subst (λ (k : List ℕ). key_lt k row.key ≡ true) h.key_is over);
      closed = h.closed;
      rest = h.rest ++ row ∷ [];
      joined = ap (λ (rs : List Row). rs ++ row ∷ []) h.joined ∙ append_assoc (rows_of h.closed) h.rest (row ∷ []);
      cut = h.cut;
      short = omega (arith, ap length bytes, length-append b.open_rows spelled, short);
      given_is = append-nil given ∙ h.given_is;
      first_is = h.first_is;
      last_is = h.last_is;
      open_is = bytes;
      key_is = keyed ∙ sym (last_key-more [] rows row);
      index_is = h.index_is;
      offset_is = h.offset_is ∙ ap length (sym (append-nil given));
      blocks_is = h.blocks_is;
      rows_is = omega (arith, numbered, h.rows_is, length-more rows row);
    })

-- ---- a row that closes the block

closed_block : (rest : List Row) (row : Row) → length (rows_bytes rest) < 4096 → 4096 ≤ length (rows_bytes (rest ++ row ∷ [])) → IsClosed (rest ++ row ∷ [])
closed_block rest row short full = record { is_block = record { front = rest; end = row; parts = refl; short = short }; full = full }

same_entry : (offset : ℕ) (block : List Row) (bytes key : List ℕ) → bytes ≡ rows_bytes block → key ≡ last_key [] block → (let e : BlockEntry = record { offset = offset; size = length bytes; last = key } in e) ≡ entry_of offset block
same_entry offset block bytes key p q = cc

pub closes : (first last : ℕ) (rows : List Row) (given : List ℕ) (b c : Builder) (row : Row) (spelled piece key : List ℕ) (number : ℕ) → IsBuilding first last rows given b → IsRow row → key_lt b.last_key row.key ≡ true
    → spelled ≡ row_bytes row → key ≡ row.key → number ≡ b.rows + 1 → 4096 ≤ length b.open_rows + length spelled → piece ≡ checked (b.open_rows ++ spelled) → c ≡ closed_by (b.open_rows ++ spelled) key number b
    → IsBuilding first last (rows ++ row ∷ []) (given ++ piece) c
closes first last rows given b c row spelled piece key number h is over spells keyed numbered full pieced e =
    let block : List Row = h.rest ++ row ∷ [] in
    let blocks : List (List Row) = h.closed ++ block ∷ [] in
    let bytes : b.open_rows ++ spelled ≡ rows_bytes block = ap (λ (s : List ℕ). b.open_rows ++ s) spells ∙ ap (λ (s : List ℕ). s ++ row_bytes row) h.open_is ∙ sym (flat-one row_bytes h.rest row) in
    let large : 4096 ≤ length (rows_bytes block) = omega (arith, ap length bytes, length-append b.open_rows spelled, full) in
    let all : given ++ piece ≡ blocks_bytes blocks = ap (λ (p : List ℕ). given ++ p) (pieced ∙ ap checked bytes) ∙ ap (λ (g : List ℕ). g ++ block_bytes block) h.given_is ∙ sym (flat-one block_bytes h.closed block) in
    let entry : (let made : BlockEntry = record { offset = b.offset; size = length (b.open_rows ++ spelled); last = key } in made) ≡ entry_of (length (blocks_bytes h.closed)) block =
    same_entry b.offset block (b.open_rows ++ spelled) key bytes (keyed ∙ sym (last_key-more [] h.rest row)) ∙ ap (λ (n : ℕ). entry_of n block) (h.offset_is ∙ ap length h.given_is) in
    let P : Builder → Type 0 = IsBuilding first last (rows ++ row ∷ []) (given ++ piece) in
    subst P (sym e) (record {
      each = all-more IsRow rows row h.each is;
      rise = ascend-more [] rows row h.rise (subst (λ (k : List ℕ). key_lt k row.key ≡ true) h.key_is over);
      closed = blocks;
      rest = [];
      joined = ap (λ (rs : List Row). rs ++ row ∷ []) h.joined ∙ append_assoc (rows_of h.closed) h.rest (row ∷ []) ∙ sym (flat-one (λ (bl : List Row). bl) h.closed block) ∙ sym (append-nil (rows_of blocks));
      cut = all-more IsClosed h.closed block h.cut (closed_block h.rest row h.short large);
      short = omega arith;
      given_is = all;
      first_is = h.first_is;
      last_is = h.last_is;
      open_is = refl;
      key_is = keyed ∙ sym (last_key-more [] rows row);
      index_is = ap (λ (i : List ℕ). i ++ entry_bytes (record { offset = b.offset; size = length (b.open_rows ++ spelled); last = key })) h.index_is ∙ ap (λ (en : BlockEntry). index_bytes h.closed ++ entry_bytes en) entry ∙ sym (index-more h.closed block);
      offset_is = omega (arith, h.offset_is, length-append given piece, ap length pieced, length-checked (b.open_rows ++ spelled));
      blocks_is = omega (arith, h.blocks_is, length-more h.closed block);
      rows_is = omega (arith, numbered, h.rows_is, length-more rows row);
    })

-- what a closed block adds to the bytes and to the blocks
pub closed_bytes : (bytes key piece : List ℕ) (number : ℕ) (b c : Builder) → piece ≡ checked bytes → c ≡ closed_by bytes key number b → c.offset ≡ b.offset + length piece
closed_bytes bytes key piece number b c pieced e =
    let offset : c.offset ≡ b.offset + (length bytes + 4) = ap (λ (x : Builder). x.offset) e in
    omega (arith, offset, ap length pieced, length-checked bytes)

pub closed_blocks : (bytes key : List ℕ) (number : ℕ) (b c : Builder) → c ≡ closed_by bytes key number b → c.blocks ≡ b.blocks + 1
closed_blocks bytes key number b c e = ap (λ (x : Builder). x.blocks) e

-- ---- the end

not_first : (x : ℕ) (xs : List ℕ) → x ∷ xs ≡ [] → ⊥
not_first x xs e = absurd cc

none_left : (rows : List Row) → rows_bytes rows ≡ [] → rows ≡ []
none_left [] e = refl
none_left (row ∷ rows) e =
    absurd (let l : length (row_bytes row ++ rows_bytes rows) ≡ 0 = ap length e in omega (arith, l, length-append (row_bytes row) (rows_bytes rows), length-row row))

-- the last of some rows
pub record HasEnd (rows : List Row) : Type 0 where
  pub front : List Row
  pub end : Row
  pub parts : rows ≡ front ++ end ∷ []

has_end : (row : Row) (rows : List Row) → HasEnd (row ∷ rows)
has_end row [] = record { front = []; end = row; parts = refl }
has_end row (next ∷ rows) =
    let h : HasEnd (next ∷ rows) = has_end next rows in
    record { front = row ∷ h.front; end = h.end; parts = ap (λ (rs : List Row). row ∷ rs) h.parts }

last_block : (rows : List Row) (size : ℕ) → length (rows_bytes rows) ≡ size → 0 < size → size < 4096 → IsBlock rows
last_block [] size e some short = absurd (omega (arith, e, some))
last_block (row ∷ rows) size e some short =
    let h : HasEnd (row ∷ rows) = has_end row rows in
    record {
      front = h.front;
      end = h.end;
      parts = h.parts;
      short = omega (arith, e, short, ap length (ap rows_bytes h.parts ∙ flat-one row_bytes h.front h.end), length-append (rows_bytes h.front) (row_bytes h.end));
    }

all_closed : (blocks : List (List Row)) → AllByRecursion IsClosed blocks → AreBlocks blocks
all_closed [] h = tt
all_closed (block ∷ []) h = h.0.is_block
all_closed (block ∷ next ∷ blocks) h = (h.0, all_closed (next ∷ blocks) h.1)

closed_but_last : (blocks : List (List Row)) (block : List Row) → AllByRecursion IsClosed blocks → IsBlock block → AreBlocks (blocks ++ block ∷ [])
closed_but_last [] block h is = is
closed_but_last (first ∷ []) block h is = (h.0, is)
closed_but_last (first ∷ next ∷ blocks) block h is = (h.0, closed_but_last (next ∷ blocks) block h.1 is)

footer_same : (f g : Footer) → f.index ≡ g.index → f.size ≡ g.size → f.blocks ≡ g.blocks → f.rows ≡ g.rows → f.first ≡ g.first → f.last ≡ g.last → f ≡ g
footer_same f g a b c d e h = λ i. record { index = a i; size = b i; blocks = c i; rows = d i; first = e i; last = h i }

-- no rows are left
pub ends_closed : (first last : ℕ) (rows : List Row) (given : List ℕ) (b : Builder) (end : List ℕ) → IsBuilding first last rows given b → length b.open_rows ≡ 0
    → end ≡ checked b.index ++ footer_bytes (footer_behind b.index b.offset b.blocks b) → FooterFits (footer_behind b.index b.offset b.blocks b) → IsTableIn (b.blocks + 0) first last rows (given ++ ([] ++ end))
ends_closed first last rows given b end h none ends fits =
    let nothing : h.rest ≡ [] = none_left h.rest (nil_from_length (rows_bytes h.rest) (ap length (sym h.open_is) ∙ none)) in
    let joined : rows ≡ rows_of h.closed = h.joined ∙ ap (λ (rs : List Row). rows_of h.closed ++ rs) nothing ∙ append-nil (rows_of h.closed) in
    let footer : footer_behind b.index b.offset b.blocks b ≡ footer_of first last h.closed =
    footer_same (footer_behind b.index b.offset b.blocks b) (footer_of first last h.closed) (h.offset_is ∙ ap length h.given_is) (ap length h.index_is) h.blocks_is (h.rows_is ∙ ap length joined) h.first_is h.last_is in
    let table : IsTableOf first last rows (given ++ ([] ++ end)) = record {
      each = h.each;
      rise = h.rise;
      blocks = h.closed;
      joined = joined;
      cut = all_closed h.closed h.cut;
      fits = subst FooterFits footer fits;
      spelled = ap (λ (e : List ℕ). given ++ e) (ends ∙ ap (λ (i : List ℕ). checked i ++ footer_bytes (footer_behind b.index b.offset b.blocks b)) h.index_is ∙ ap (λ (f : Footer). checked (index_bytes h.closed) ++ footer_bytes f) footer)
          ∙ ap (λ (g : List ℕ). g ++ (checked (index_bytes h.closed) ++ footer_bytes (footer_of first last h.closed))) h.given_is;
    } in (table, omega (arith, h.blocks_is))

-- a last block is left
pub ends_open : (first last : ℕ) (rows : List Row) (given : List ℕ) (b : Builder) (block entry index end : List ℕ) (offset blocks : ℕ) → IsBuilding first last rows given b → 0 < length b.open_rows
    → block ≡ checked b.open_rows → entry ≡ entry_bytes (record { offset = b.offset; size = length b.open_rows; last = b.last_key }) → index ≡ b.index ++ entry
    → offset ≡ b.offset + (length b.open_rows + 4) → blocks ≡ b.blocks + 1 → end ≡ checked index ++ footer_bytes (footer_behind index offset blocks b) → FooterFits (footer_behind index offset blocks b)
    → IsTableIn (b.blocks + 1) first last rows (given ++ (block ++ end))
ends_open first last rows given b block entry index end offset blocks h some blocked entered indexed placed counted ends fits =
    let last_one : IsBlock h.rest = last_block h.rest (length b.open_rows) (ap length (sym h.open_is)) some (omega (arith, h.short, ap length h.open_is)) in
    let all : List (List Row) = h.closed ++ h.rest ∷ [] in
    let joined : rows ≡ rows_of all = h.joined ∙ sym (flat-one (λ (bl : List Row). bl) h.closed h.rest) in
    let key : b.last_key ≡ last_key [] h.rest = h.key_is ∙ ap (last_key []) (h.joined ∙ ap (λ (rs : List Row). rows_of h.closed ++ rs) last_one.parts ∙ sym (append_assoc (rows_of h.closed) last_one.front (last_one.end ∷ []))) ∙ last_key-more [] (rows_of h.closed ++ last_one.front) last_one.end ∙ sym (last_key-more [] last_one.front last_one.end) ∙ ap (last_key []) (sym last_one.parts) in
    let entry_is : (let made : BlockEntry = record { offset = b.offset; size = length b.open_rows; last = b.last_key } in made) ≡ entry_of (length (blocks_bytes h.closed)) h.rest =
    same_entry b.offset h.rest b.open_rows b.last_key h.open_is key ∙ ap (λ (n : ℕ). entry_of n h.rest) (h.offset_is ∙ ap length h.given_is) in
    let index_is : index ≡ index_bytes all = indexed ∙ ap (λ (e : List ℕ). b.index ++ e) (entered ∙ ap entry_bytes entry_is) ∙ ap (λ (i : List ℕ). i ++ entry_bytes (entry_of (length (blocks_bytes h.closed)) h.rest)) h.index_is ∙ sym (index-more h.closed h.rest) in
    let block_is : block ≡ block_bytes h.rest = blocked ∙ ap checked h.open_is in
    let given_is : given ++ block ≡ blocks_bytes all = ap (λ (p : List ℕ). given ++ p) block_is ∙ ap (λ (g : List ℕ). g ++ block_bytes h.rest) h.given_is ∙ sym (flat-one block_bytes h.closed h.rest) in
    let offset_is : offset ≡ length (blocks_bytes all) = omega (arith, placed, h.offset_is, ap length given_is, length-append given block, ap length blocked, length-checked b.open_rows) in
    let footer : footer_behind index offset blocks b ≡ footer_of first last all =
    footer_same (footer_behind index offset blocks b) (footer_of first last all) offset_is (ap length index_is) (omega (arith, counted, h.blocks_is, length-more h.closed h.rest)) (h.rows_is ∙ ap length joined) h.first_is h.last_is in
    let many : length all ≡ b.blocks + 1 = omega (arith, h.blocks_is, length-more h.closed h.rest) in
    let table : IsTableOf first last rows (given ++ (block ++ end)) = record {
      each = h.each;
      rise = h.rise;
      blocks = all;
      joined = joined;
      cut = closed_but_last h.closed h.rest h.cut last_one;
      fits = subst FooterFits footer fits;
      spelled = sym (append_assoc given block end) ∙ ap (λ (g : List ℕ). g ++ end) given_is
          ∙ ap (λ (e : List ℕ). blocks_bytes all ++ e) (ends ∙ ap (λ (i : List ℕ). checked i ++ footer_bytes (footer_behind index offset blocks b)) index_is ∙ ap (λ (f : Footer). checked (index_bytes all) ++ footer_bytes f) footer);
    } in (table, many)
