-- The pieces of a table in memory.
use Rattle.std.proofs.Common.{◌≡◌, ℕ, zero, suc, ◌+◌, ◌<◌, ◌≤◌, List, [], ◌∷◌, ◌++◌, length, map, take, drop, get_or, refl, ap, sym, ◌∙◌, arith, append_assoc, length-append}
use Rattle.keel_base.specs.declared.row.Row.{Row}
use Rattle.keel_table.specs.declared.index.BlockEntry.{BlockEntry}
use Rattle.keel_table.specs.Spelling.{rows_bytes, block_bytes, blocks_bytes, checked, entries_from, footer_bytes, footer_of, index_bytes}
use Rattle.keel_draft.specs.Drafts.{Draft, bytes_in, pieces_in}
use Rattle.keel_table.proofs.Lengths.{length-checked}

length-map : {A B : Type 0} (f : A → B) (xs : List A) → length (map f xs) ≡ length xs
length-map f [] = refl
length-map f (x ∷ xs) = ap suc (length-map f xs)

drop_front : {A : Type 0} (n : ℕ) (xs ys : List A) → length xs ≡ n → drop n (xs ++ ys) ≡ ys
drop_front zero [] ys h = refl
drop_front zero (x ∷ xs) ys h = absurd (omega arith)
drop_front (suc n) [] ys h = absurd (omega arith)
drop_front (suc n) (x ∷ xs) ys h = drop_front n xs ys (omega arith)

take_front : {A : Type 0} (n : ℕ) (xs ys : List A) → length xs ≡ n → take n (xs ++ ys) ≡ xs
take_front zero [] ys h = refl
take_front zero (x ∷ xs) ys h = absurd (omega arith)
take_front (suc n) [] ys h = absurd (omega arith)
take_front {A = A} (suc n) (x ∷ xs) ys h = ap (λ (l : List A). x ∷ l) (take_front n xs ys (omega arith))

-- what an entry tells is the block of its number
pub entry_piece : (offset n : ℕ) (blocks : List (List Row)) (front tail : List ℕ) (d : BlockEntry) → length front ≡ offset → n < length blocks
    → take ((get_or (entries_from offset blocks) n d).size + 4) (drop (get_or (entries_from offset blocks) n d).offset (front ++ (blocks_bytes blocks ++ tail)))
    ≡ get_or (map block_bytes blocks) n []
entry_piece offset n [] front tail d at h = absurd (omega arith)
entry_piece offset zero (block ∷ blocks) front tail d at h =
    ap (λ (bytes : List ℕ). take (length (rows_bytes block) + 4) bytes) (drop_front offset front ((block_bytes block ++ blocks_bytes blocks) ++ tail) at ∙ append_assoc (block_bytes block) (blocks_bytes blocks) tail)
    ∙ take_front (length (rows_bytes block) + 4) (block_bytes block) (blocks_bytes blocks ++ tail) (length-checked (rows_bytes block))
entry_piece offset (suc n) (block ∷ blocks) front tail d at h =
    ap (λ (bytes : List ℕ). take ((get_or (entries_from (offset + (length (rows_bytes block) + 4)) blocks) n d).size + 4) (drop (get_or (entries_from (offset + (length (rows_bytes block) + 4)) blocks) n d).offset bytes))
    (ap (λ (l : List ℕ). front ++ l) (append_assoc (block_bytes block) (blocks_bytes blocks) tail) ∙ sym (append_assoc front (block_bytes block) (blocks_bytes blocks ++ tail)))
    ∙ entry_piece (offset + (length (rows_bytes block) + 4)) n blocks (front ++ block_bytes block) tail d
    (omega (arith, length-append front (block_bytes block), length-checked (rows_bytes block))) (omega arith)

pub length-entries : (offset : ℕ) (blocks : List (List Row)) → length (entries_from offset blocks) ≡ length blocks
length-entries offset [] = refl
length-entries offset (block ∷ blocks) = ap suc (length-entries (offset + (length (rows_bytes block) + 4)) blocks)

pub behind_blocks : (n : ℕ) (blocks : List (List Row)) (tail : List ℕ) → n ≡ length (blocks_bytes blocks) → drop n (blocks_bytes blocks ++ tail) ≡ tail
behind_blocks n blocks tail h = drop_front n (blocks_bytes blocks) tail (sym h)

pub piece_before : {A : Type 0} (xs ys : List A) (n : ℕ) (d : A) → n < length xs → get_or (xs ++ ys) n d ≡ get_or xs n d
piece_before [] ys n d h = absurd (omega arith)
piece_before (x ∷ xs) ys zero d h = refl
piece_before (x ∷ xs) ys (suc n) d h = piece_before xs ys n d (omega arith)

pub piece_last : {A : Type 0} (xs : List A) (y : A) (n : ℕ) (d : A) → n ≡ length xs → get_or (xs ++ y ∷ []) n d ≡ y
piece_last [] y zero d h = refl
piece_last [] y (suc n) d h = absurd (omega arith)
piece_last (x ∷ xs) y zero d h = absurd (omega arith)
piece_last (x ∷ xs) y (suc n) d h = piece_last xs y n d (omega arith)

pub count_pieces : (d : Draft) (entries : List BlockEntry) → entries ≡ entries_from 0 d.blocks → length entries + 1 ≡ length (pieces_in d)
count_pieces d entries is =
    omega (arith, ap length is, length-entries 0 d.blocks, length-map block_bytes d.blocks, length-append (map block_bytes d.blocks) ((checked (index_bytes d.blocks) ++ footer_bytes (footer_of d.first d.last d.blocks)) ∷ []))

-- the piece of an entry
pub piece_of_entry : (d : Draft) (bytes : List ℕ) (entries : List BlockEntry) (n : ℕ) (e : BlockEntry) → bytes ≡ bytes_in d → entries ≡ entries_from 0 d.blocks → n < length entries → e ≡ get_or entries n e
    → take (e.size + 4) (drop e.offset bytes) ≡ get_or (pieces_in d) n []
piece_of_entry d bytes entries n e bytes_are entries_are h is =
    let within : n < length d.blocks = omega (arith, h, ap length entries_are, length-entries 0 d.blocks) in
    let tail : List ℕ = checked (index_bytes d.blocks) ++ footer_bytes (footer_of d.first d.last d.blocks) in
    ap (λ (b : List ℕ). take (e.size + 4) (drop e.offset b)) bytes_are
    ∙ ap (λ (x : BlockEntry). take (x.size + 4) (drop x.offset (bytes_in d))) (is ∙ ap (λ (es : List BlockEntry). get_or es n e) entries_are)
    ∙ entry_piece 0 n d.blocks [] tail e refl within
    ∙ sym (piece_before (map block_bytes d.blocks) (tail ∷ []) n [] (omega (arith, within, length-map block_bytes d.blocks)))

-- the last piece
pub piece_of_end : (d : Draft) (bytes : List ℕ) (entries : List BlockEntry) (n index : ℕ) → bytes ≡ bytes_in d → entries ≡ entries_from 0 d.blocks → index ≡ length (blocks_bytes d.blocks)
    → length entries ≤ n → n < length (pieces_in d) → drop index bytes ≡ get_or (pieces_in d) n []
piece_of_end d bytes entries n index bytes_are entries_are index_is least h =
    let tail : List ℕ = checked (index_bytes d.blocks) ++ footer_bytes (footer_of d.first d.last d.blocks) in
    let last : n ≡ length (map block_bytes d.blocks) = omega (arith, least, h, count_pieces d entries entries_are, ap length entries_are, length-entries 0 d.blocks, length-map block_bytes d.blocks) in
    ap (drop index) bytes_are ∙ behind_blocks index d.blocks tail index_is ∙ sym (piece_last (map block_bytes d.blocks) tail n [] last)
