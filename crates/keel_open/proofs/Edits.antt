-- Edits that are applied one by one.
use Rattle.std.proofs.Common.{◌≡◌, ℕ, ◌+◌, ◌<◌, List, ◌∷◌, length, drop, get_or, Option, Some, None, Result, Ok, Err, sym, ap, ◌∙◌, add-one}
use Rattle.std.proofs.Math.Seq.{drop-cons}
use Rattle.keel_frag.specs.declared.record.LogRecord.{LogRecord}
use Rattle.keel_edit.specs.Reading.{edit_of}
use Rattle.keel_version.specs.Tables.{Contents, nothing}
use Rattle.keel_directory.specs.Refusals.{Refusal}
use Rattle.keel_directory.specs.Manifests.{behind_edit, next_version, behind_edits}
use Rattle.keel_open.specs.declared.refusal.OpenRefusal.{OpenRefusal}
use Rattle.keel_open.specs.Refusals.{Names}
use Rattle.keel_open.proofs.Naming.{names_map}

pub behind_at : {A : Type 0} (xs : List A) (i : ℕ) (d : A) → i < length xs → drop i xs ≡ get_or xs i d ∷ drop (i + 1) xs
behind_at xs i d lt = rw add-one (drop-cons xs i d lt)

-- a version with which the edits behind a place give what all give
abbrev pub IsBehind : List LogRecord → ℕ → Contents → Type 0
IsBehind all i version = behind_edits nothing all ≡ behind_edits version (drop i all)

-- what one record makes of a version
abbrev pub one_edit : Contents → LogRecord → Result Contents Refusal
one_edit version r = next_version r.offset (behind_edit version (edit_of r.payload)) (λ next. Ok next)

goes_on : (place : ℕ) (found : Option Contents) (next : Contents) (rest : Contents → Result Contents Refusal)
    → Ok next ≡ next_version place found (λ version. Ok version) → next_version place found rest ≡ rest next
goes_on place None next rest e = absurd cc
goes_on place (Some version) next rest e = let same : next ≡ version = cc in ap rest (sym same)

ends : (place : ℕ) (found : Option Contents) (refusal : Refusal) (rest : Contents → Result Contents Refusal)
    → Err refusal ≡ next_version place found (λ version. Ok version) → next_version place found rest ≡ Err refusal
ends place None refusal rest e = sym e
ends place (Some version) refusal rest e = absurd cc

pub edit_behind : (all : List LogRecord) (i : ℕ) (d : LogRecord) (version next : Contents) → i < length all
    → Ok next ≡ one_edit version (get_or all i d) → IsBehind all i version → IsBehind all (i + 1) next
edit_behind all i d version next lt e h =
    let r : LogRecord = get_or all i d in
    h ∙ ap (behind_edits version) (behind_at all i d lt) ∙ goes_on r.offset (behind_edit version (edit_of r.payload)) next (λ next. behind_edits next (drop (i + 1) all)) e

refused_at : (all : List LogRecord) (i : ℕ) (d : LogRecord) (version : Contents) (refusal : Refusal) → i < length all
    → IsBehind all i version → Err refusal ≡ one_edit version (get_or all i d) → Err refusal ≡ behind_edits nothing all
refused_at all i d version refusal lt h e =
    let r : LogRecord = get_or all i d in
    sym (h ∙ ap (behind_edits version) (behind_at all i d lt) ∙ ends r.offset (behind_edit version (edit_of r.payload)) refusal (λ next. behind_edits next (drop (i + 1) all)) e)

pub edit_refused : (all : List LogRecord) (i : ℕ) (d : LogRecord) (version : Contents) (e : OpenRefusal) → i < length all
    → IsBehind all i version → Names e (λ refusal. Err refusal ≡ one_edit version (get_or all i d)) → Names e (λ refusal. Err refusal ≡ behind_edits nothing all)
edit_refused all i d version e lt h named =
    names_map e (λ refusal. Err refusal ≡ one_edit version (get_or all i d)) (λ refusal. Err refusal ≡ behind_edits nothing all)
    (λ refusal. refused_at all i d version refusal lt h) named
