-- The calls of a plan, one behind the other.
use Rattle.std.proofs.Common.{◌≡◌, ℕ, zero, suc, ◌+◌, ◌<◌, ◌≤◌, List, [], ◌∷◌, ◌++◌, length, map, drop, get_or, refl, ap, sym, ◌∙◌, arith, append_assoc, length-append, length-drop, Some}
use Rattle.std.proofs.lemmas.List.{drop_more}
use Rattle.std.specs.List.{flat_map}
use Rattle.keel_manifest.specs.declared.roll.RollCall.TheVariants.{MakeManifest, AppendEdit, SyncManifest, MakeTemporary, AppendName, SyncTemporary, Rename, SyncDirectory}
use Rattle.keel_draft.specs.Drafts.{Draft, pieces_in}
use Rattle.keel_resume.specs.Plans.{Act, MakeTable, AddPiece, SyncTable, MakeLog, SyncLogName, roll_acts, table_acts}
use Rattle.keel_resume.specs.Courses.{IsStage, StageBehind, acts_before, acts_within, later_at, pieces_of}
use Rattle.keel_resume.specs.declared.stage.Stage.{Stage}
use Rattle.keel_resume.specs.declared.stage.Stage.TheVariants as stage
use Rattle.keel_table.specs.Spelling.{block_bytes, checked, footer_bytes, footer_of, index_bytes}

drop_all : {A : Type 0} (n : ℕ) (xs : List A) → length xs ≤ n → drop n xs ≡ []
drop_all zero [] h = refl
drop_all zero (x ∷ xs) h = absurd (omega arith)
drop_all (suc n) [] h = refl
drop_all (suc n) (x ∷ xs) h = drop_all n xs (omega arith)

pub within_begins : (piece : ℕ) (drafts : List Draft) → piece < length (pieces_of drafts)
    → acts_within piece drafts ≡ AddPiece (get_or (pieces_of drafts) piece []) ∷ acts_within (piece + 1) drafts
within_begins piece [] h = absurd (omega arith)
within_begins piece (draft ∷ drafts) h =
    ap (λ (left : List (List ℕ)). map AddPiece left ++ SyncTable ∷ acts_before drafts) (drop_more (pieces_in draft) piece [] h)

pub within_ends : (piece : ℕ) (draft : Draft) (drafts : List Draft) → length (pieces_in draft) ≤ piece
    → acts_within piece (draft ∷ drafts) ≡ SyncTable ∷ acts_before drafts
within_ends piece draft drafts h =
    ap (λ (left : List (List ℕ)). map AddPiece left ++ SyncTable ∷ acts_before drafts) (drop_all piece (pieces_in draft) h)

pub before_begins : (drafts : List Draft) → 0 < length drafts → acts_before drafts ≡ MakeTable ∷ acts_within 0 drafts
before_begins [] h = absurd (omega arith)
before_begins (draft ∷ drafts) h = ap (λ (left : List Act). MakeTable ∷ left) (simp append_assoc)

-- the pieces of a draft that is there
pub pieces_there : (table : ℕ) (drafts : List Draft) (d : Draft) → table < length drafts → d ≡ get_or drafts table d → pieces_of (drop table drafts) ≡ pieces_in d
pieces_there table drafts d h is = ap pieces_of (drop_more drafts table d h) ∙ ap pieces_in (sym is)

some_pieces : (d : Draft) → 0 < length (pieces_in d)
some_pieces d = omega (arith, length-append (map block_bytes d.blocks) ((checked (index_bytes d.blocks) ++ footer_bytes (footer_of d.first d.last d.blocks)) ∷ []))

pieces_some : (drafts : List Draft) → 0 < length drafts → 0 < length (pieces_of drafts)
pieces_some [] h = absurd (omega arith)
pieces_some (draft ∷ drafts) h = some_pieces draft

there : (table : ℕ) (drafts : List Draft) → table < length drafts → 0 < length (drop table drafts)
there table drafts h = omega (arith, length-drop table drafts)

-- behind making a table its first piece is added
pub behind_making : (table : ℕ) (drafts : List Draft) → table < length drafts → StageBehind (acts_within 0 (drop table drafts)) drafts (Some (stage.AddPiece table 0))
behind_making table drafts h =
    let some : 0 < length (pieces_of (drop table drafts)) = pieces_some (drop table drafts) (there table drafts h) in
    (within_begins 0 (drop table drafts) some, (h, some))

-- behind a piece the next one is, where there is one
pub behind_piece : (table piece : ℕ) (drafts : List Draft) (d : Draft) → table < length drafts → d ≡ get_or drafts table d → piece + 1 < length (pieces_in d)
    → StageBehind (acts_within (piece + 1) (drop table drafts)) drafts (Some (stage.AddPiece table (piece + 1)))
behind_piece table piece drafts d h is less =
    let some : piece + 1 < length (pieces_of (drop table drafts)) = omega (arith, less, ap length (pieces_there table drafts d h is)) in
    (within_begins (piece + 1) (drop table drafts) some, (h, some))

pub behind_pieces : (table piece : ℕ) (drafts : List Draft) (d : Draft) → table < length drafts → d ≡ get_or drafts table d → length (pieces_in d) ≤ piece + 1
    → StageBehind (acts_within (piece + 1) (drop table drafts)) drafts (Some (stage.SyncTable table))
behind_pieces table piece drafts d h is all = (
  ap (acts_within (piece + 1)) (drop_more drafts table d h)
      ∙ within_ends (piece + 1) (get_or drafts table d) (drop (table + 1) drafts) (omega (arith, all, ap (λ (x : Draft). length (pieces_in x)) is)),
  h,
)

pub behind_sync : (table : ℕ) (drafts : List Draft) → table + 1 < length drafts → StageBehind (acts_before (drop (table + 1) drafts)) drafts (Some (stage.MakeTable (table + 1)))
behind_sync table drafts h = (before_begins (drop (table + 1) drafts) (there (table + 1) drafts h), h)

not_none : {A : Type 0} (xs : List A) (y : A) (ys : List A) → xs ++ y ∷ ys ≡ [] → ⊥
not_none [] y ys e = cc
not_none (x ∷ xs) y ys e = cc

within_some : (piece : ℕ) (drafts : List Draft) → 0 < length drafts → acts_within piece drafts ≡ [] → ⊥
within_some piece [] h e = omega arith
within_some piece (draft ∷ drafts) h e = not_none (map AddPiece (drop piece (pieces_in draft))) SyncTable (acts_before drafts) e

before_some : (drafts : List Draft) → acts_before drafts ≡ [] → ⊥
before_some drafts e = not_none (flat_map table_acts drafts) MakeLog (SyncLogName ∷ roll_acts) e

-- no call is left behind the roll's last one alone
pub last_stage : (s : Stage) (drafts : List Draft) → IsStage s drafts → later_at s drafts ≡ [] → s ≡ stage.Roll SyncDirectory
last_stage (stage.MakeTable table) drafts h e = absurd (within_some 0 (drop table drafts) (there table drafts h) e)
last_stage (stage.AddPiece table piece) drafts h e = absurd (within_some (piece + 1) (drop table drafts) (there table drafts h.0) e)
last_stage (stage.SyncTable table) drafts h e = absurd (before_some (drop (table + 1) drafts) e)
last_stage stage.MakeLog drafts h e = absurd cc
last_stage stage.SyncLogName drafts h e = absurd cc
last_stage (stage.Roll MakeManifest) drafts h e = absurd cc
last_stage (stage.Roll AppendEdit) drafts h e = absurd cc
last_stage (stage.Roll SyncManifest) drafts h e = absurd cc
last_stage (stage.Roll MakeTemporary) drafts h e = absurd cc
last_stage (stage.Roll AppendName) drafts h e = absurd cc
last_stage (stage.Roll SyncTemporary) drafts h e = absurd cc
last_stage (stage.Roll Rename) drafts h e = absurd cc
last_stage (stage.Roll SyncDirectory) drafts h e = refl
