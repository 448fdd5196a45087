-- How a plan ends: the edit is appended, then the manifest is synced, and no other call comes last.
use Rattle.std.proofs.Common.{◌≡◌, ℕ, zero, suc, true, false, List, [], ◌∷◌, ◌++◌, map, drop, refl, subst}
use Rattle.keel_draft.specs.Drafts.{pieces_in}
use Rattle.keel_manifest.specs.State.{IsAppendedTo, IsFirmAt, ManifestState}
use Rattle.keel_flush.specs.Plans.{Act, MakeTable, AddPiece, SyncTable, SyncName, AppendEdit, SyncManifest, Job, appends_next, edit_acts, is_last, left_of}
use Rattle.keel_flush.specs.Jobs.{Takes}

-- what a call is followed by
abbrev pub IsFollowed : Act → List Act → Type 0
IsFollowed AppendEdit later = later ≡ SyncManifest ∷ []
IsFollowed SyncManifest later = later ≡ []
IsFollowed act [] = ⊥
IsFollowed act (another ∷ later) = Unit {0}

abbrev pub AreFollowed : List Act → Type 0
AreFollowed [] = Unit {0}
AreFollowed (act ∷ later) = IsFollowed act later

none_left : (n : ℕ) → AreFollowed (drop n [])
none_left zero = tt
none_left (suc n) = tt

in_pieces : (n : ℕ) (pieces : List (List ℕ)) → AreFollowed (drop n (map AddPiece pieces ++ SyncTable ∷ edit_acts))
in_pieces zero [] = tt
in_pieces (suc zero) [] = tt
in_pieces (suc (suc zero)) [] = refl
in_pieces (suc (suc (suc zero))) [] = refl
in_pieces (suc (suc (suc (suc n)))) [] = none_left n
in_pieces zero (piece ∷ []) = tt
in_pieces zero (piece ∷ (next ∷ pieces)) = tt
in_pieces (suc n) (piece ∷ pieces) = in_pieces n pieces

in_plan : (n : ℕ) (pieces : List (List ℕ)) → AreFollowed (drop n (MakeTable ∷ (map AddPiece pieces ++ SyncTable ∷ edit_acts)))
in_plan zero [] = tt
in_plan zero (piece ∷ pieces) = tt
in_plan (suc n) pieces = in_pieces n pieces

pub are_followed : (job : Job) → AreFollowed (left_of job)
are_followed job = in_plan job.progress.made (pieces_in job.draft)

-- behind the edit the manifest is synced
pub edit_is_synced : (job : Job) (later : List Act) → left_of job ≡ AppendEdit ∷ later → later ≡ SyncManifest ∷ []
edit_is_synced job later e = subst AreFollowed e (are_followed job)

-- behind the manifest's sync no call is left
pub sync_is_last : (job : Job) (later : List Act) → left_of job ≡ SyncManifest ∷ later → later ≡ []
sync_is_last job later e = subst AreFollowed e (are_followed job)

one_followed : (act : Act) → IsFollowed act [] → act ≡ SyncManifest
one_followed MakeTable h = absurd h
one_followed (AddPiece bytes) h = absurd h
one_followed SyncTable h = absurd h
one_followed SyncName h = absurd h
one_followed AppendEdit h = absurd cc
one_followed SyncManifest h = refl

-- no other call is the last one
pub last_is_sync : (job : Job) (act : Act) → left_of job ≡ act ∷ [] → act ≡ SyncManifest
last_is_sync job act e = one_followed act (subst AreFollowed e (are_followed job))

edit_takes : (left : List Act) (m : ManifestState) → appends_next left ≡ true → IsFirmAt m → Takes left m
edit_takes [] m e firm = tt
edit_takes (MakeTable ∷ later) m e firm = tt
edit_takes (AddPiece bytes ∷ later) m e firm = tt
edit_takes (SyncTable ∷ later) m e firm = tt
edit_takes (SyncName ∷ later) m e firm = tt
edit_takes (AppendEdit ∷ later) m e firm = firm
edit_takes (SyncManifest ∷ later) m e firm = absurd cc

last_takes : (left : List Act) (m : ManifestState) → AreFollowed left → is_last left ≡ true → IsAppendedTo m → Takes left m
last_takes [] m f e appended = tt
last_takes (MakeTable ∷ later) m f e appended = tt
last_takes (AddPiece bytes ∷ later) m f e appended = tt
last_takes (SyncTable ∷ later) m f e appended = tt
last_takes (SyncName ∷ later) m f e appended = tt
last_takes (AppendEdit ∷ later) m f e appended = absurd (let two : is_last (AppendEdit ∷ (SyncManifest ∷ [])) ≡ true = subst (λ (l : List Act). is_last (AppendEdit ∷ l) ≡ true) f e in cc)
last_takes (SyncManifest ∷ later) m f e appended = appended

others_take : (left : List Act) (m : ManifestState) → AreFollowed left → appends_next left ≡ false → is_last left ≡ false → Takes left m
others_take [] m f e e' = tt
others_take (MakeTable ∷ later) m f e e' = tt
others_take (AddPiece bytes ∷ later) m f e e' = tt
others_take (SyncTable ∷ later) m f e e' = tt
others_take (SyncName ∷ later) m f e e' = tt
others_take (AppendEdit ∷ later) m f e e' = absurd cc
others_take (SyncManifest ∷ later) m f e e' = absurd (let one : is_last (SyncManifest ∷ []) ≡ false = subst (λ (l : List Act). is_last (SyncManifest ∷ l) ≡ false) f e' in cc)

-- what the manifest in use takes, by what `ahead` and `ends` tell
pub takes_edit : (job : Job) (m : ManifestState) → appends_next (left_of job) ≡ true → IsFirmAt m → Takes (left_of job) m
takes_edit job m e firm = edit_takes (left_of job) m e firm

pub takes_last : (job : Job) (m : ManifestState) → is_last (left_of job) ≡ true → IsAppendedTo m → Takes (left_of job) m
takes_last job m e appended = last_takes (left_of job) m (are_followed job) e appended

pub takes_others : (job : Job) (m : ManifestState) → appends_next (left_of job) ≡ false → is_last (left_of job) ≡ false → Takes (left_of job) m
takes_others job m e e' = others_take (left_of job) m (are_followed job) e e'
