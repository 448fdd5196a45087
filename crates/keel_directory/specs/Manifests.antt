-- CURRENT, and the version that a manifest gives.
use Rattle.std.specs.Prelude.{◌≡◌, ℕ, List, [], ◌∷◌, take, Option, Some, None, Result, Ok, Err}
use Rattle.keel_frag.specs.declared.record.LogRecord.{LogRecord}
use Rattle.keel_frag.specs.Reading.{AreRecords}
use Rattle.keel_name.specs.Current.{NamesManifest}
use Rattle.keel_edit.specs.declared.edit.Edit.{Edit}
use Rattle.keel_edit.specs.Reading.{edit_of}
use Rattle.keel_version.specs.Tables.{Contents, nothing}
use Rattle.keel_version.specs.Applying.{applied}
use Rattle.keel_directory.specs.Refusals.{Refusal, bad_current, damaged_manifest}

-- ---- CURRENT

-- the manifest that CURRENT's bytes name, or the refusal with the first 64 of them
abbrev pub CurrentIs : List ℕ → Result ℕ Refusal → Type 0
CurrentIs bytes (Ok number) = NamesManifest bytes number
CurrentIs bytes (Err refusal) = ((number : ℕ) → NamesManifest bytes number → ⊥) × (refusal ≡ bad_current (take 64 bytes))

-- ---- edits

-- what an edit makes of a version, where it applies
abbrev pub version_found : Result Contents ℕ → Option Contents
version_found (Ok version) = Some version
version_found (Err entry) = None

-- what a record makes of a version, where it is an edit that applies
abbrev pub behind_edit : Contents → Result Edit ℕ → Option Contents
behind_edit version (Ok edit) = version_found (applied edit version)
behind_edit version (Err left) = None

-- what comes next, where there is a version; else the manifest is damaged at that place
abbrev pub next_version : ℕ → Option Contents → (Contents → Result Contents Refusal) → Result Contents Refusal
next_version place None next = Err (damaged_manifest place)
next_version place (Some version) next = next version

-- the version behind records that are edits which apply in turn, or the place of the first that isn't
abbrev pub behind_edits : Contents → List LogRecord → Result Contents Refusal
behind_edits version [] = Ok version
behind_edits version (r ∷ rs) = next_version r.offset (behind_edit version (edit_of r.payload)) (λ next. behind_edits next rs)

-- a manifest holds an edit at least
abbrev pub version_of : List LogRecord → Result Contents Refusal
version_of [] = Err (damaged_manifest 0)
version_of (r ∷ rs) = behind_edits nothing (r ∷ rs)

-- the version of a manifest; one that isn't there is damaged at 0
abbrev pub ManifestIs : Option (List ℕ) → Result Contents Refusal → Type 0
ManifestIs None answer = answer ≡ Err (damaged_manifest 0)
ManifestIs (Some bytes) answer = (all : List LogRecord) × (end : ℕ) × AreRecords bytes all end × (answer ≡ version_of all)
