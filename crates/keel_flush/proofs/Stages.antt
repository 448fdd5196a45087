-- The calls of a plan, one behind the other.
use Rattle.std.proofs.Common.{◌≡◌, ℕ, zero, suc, ◌+◌, ◌<◌, ◌≤◌, false, List, [], ◌∷◌, ◌++◌, length, map, drop, get_or, refl, ap, arith, length-append, Some}
use Rattle.std.proofs.lemmas.List.{drop_more}
use Rattle.keel_draft.specs.Drafts.{Draft, pieces_in}
use Rattle.keel_table.specs.Spelling.{block_bytes, checked, footer_bytes, footer_of, index_bytes}
use Rattle.keel_flush.specs.Plans.{Act, AddPiece, SyncTable, edit_acts, is_last}
use Rattle.keel_flush.specs.Courses.{StageBehind, acts_within}
use Rattle.keel_flush.specs.declared.stage.Stage.TheVariants as stage

drop_all : {A : Type 0} (n : ℕ) (xs : List A) → length xs ≤ n → drop n xs ≡ []
drop_all zero [] h = refl
drop_all zero (x ∷ xs) h = absurd (omega arith)
drop_all (suc n) [] h = refl
drop_all (suc n) (x ∷ xs) h = drop_all n xs (omega arith)

within_begins : (piece : ℕ) (draft : Draft) → piece < length (pieces_in draft)
    → acts_within piece draft ≡ AddPiece (get_or (pieces_in draft) piece []) ∷ acts_within (piece + 1) draft
within_begins piece draft h = ap (λ (left : List (List ℕ)). map AddPiece left ++ SyncTable ∷ edit_acts) (drop_more (pieces_in draft) piece [] h)

some_pieces : (draft : Draft) → 0 < length (pieces_in draft)
some_pieces draft =
    omega (arith, length-append (map block_bytes draft.blocks) ((checked (index_bytes draft.blocks) ++ footer_bytes (footer_of draft.first draft.last draft.blocks)) ∷ []))

-- behind making the table its first piece is added
pub behind_making : (draft : Draft) → StageBehind (acts_within 0 draft) draft (Some (stage.AddPiece 0))
behind_making draft = (within_begins 0 draft (some_pieces draft), some_pieces draft)

-- behind a piece the next one is, where there is one
pub behind_piece : (piece : ℕ) (draft : Draft) → piece + 1 < length (pieces_in draft)
    → StageBehind (acts_within (piece + 1) draft) draft (Some (stage.AddPiece (piece + 1)))
behind_piece piece draft less = (within_begins (piece + 1) draft less, less)

pub behind_pieces : (piece : ℕ) (draft : Draft) → length (pieces_in draft) ≤ piece + 1
    → StageBehind (acts_within (piece + 1) draft) draft (Some stage.SyncTable)
behind_pieces piece draft all = (
  ap (λ (left : List (List ℕ)). map AddPiece left ++ SyncTable ∷ edit_acts) (drop_all (piece + 1) (pieces_in draft) all),
  tt,
)

-- a call before others isn't the last one
others_left : (act another : Act) (before later : List Act) → false ≡ is_last (act ∷ (before ++ another ∷ later))
others_left act another [] later = refl
others_left act another (x ∷ before) later = refl

pub piece_left : (act : Act) (piece : ℕ) (draft : Draft) → false ≡ is_last (act ∷ acts_within piece draft)
piece_left act piece draft = others_left act SyncTable (map AddPiece (drop piece (pieces_in draft))) edit_acts
