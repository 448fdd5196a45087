-- What a manifest keeps, and what its calls leave.
use Rattle.std.specs.Prelude.{ℕ, ◌+◌, List, [], ◌∷◌, ◌++◌, length, Option, Some, None, Result, Ok, Err}
use Rattle.keel_base.specs.declared.file_name.FileName.{FileName}
use Rattle.keel_base.specs.declared.file_name.FileName.TheVariants as name
use Rattle.keel_disk.specs.declared.error.DiskError.{DiskError}
use Rattle.keel_disk.specs.declared.error.DiskError.TheVariants as error
use Rattle.keel_frag.specs.Writing.{record_bytes}
use Rattle.keel_manifest.specs.declared.doubts.Doubt.{Doubt}
use Rattle.keel_manifest.specs.declared.manifest.InUse.{InUse}
use Rattle.keel_manifest.specs.declared.manifest.Progress.{Progress}
use Rattle.keel_manifest.specs.declared.manifest.Progress.TheVariants.{Found, Firm, Appended, Failed}

pub record ManifestState : Type 0 where
  -- the manifest that CURRENT names, and how far it has come
  pub in_use : Option InUse
  -- what a crash may leave of manifests
  pub doubts : List Doubt

abbrev pub named_at_opening : Option ℕ → ℕ → ManifestState
named_at_opening None edits = record { in_use = None; doubts = [] }
named_at_opening (Some number) edits = record {
  in_use = Some (record { number = number; edits = edits; progress = Found });
  doubts = record { manifest = number; edits = edits } ∷ [];
}

-- its edits are firm
abbrev pub IsFirm : Progress → Type 0
IsFirm (Firm length) = Unit {0}
IsFirm _ = ⊥

-- its last edit isn't
abbrev pub IsAppended : Progress → Type 0
IsAppended (Appended length) = Unit {0}
IsAppended _ = ⊥

abbrev pub HasProgress : (Progress → Type 0) → Option InUse → Type 0
HasProgress P None = ⊥
HasProgress P (Some used) = P used.progress

-- an edit may be appended
abbrev pub IsFirmAt : ManifestState → Type 0
IsFirmAt m = HasProgress IsFirm m.in_use

-- an edit was appended, and is to be synced
abbrev pub IsAppendedTo : ManifestState → Type 0
IsAppendedTo m = HasProgress IsAppended m.in_use

abbrev pub number_of : Option InUse → ℕ
number_of None = 0
number_of (Some used) = used.number

abbrev pub edits_of : Option InUse → ℕ
edits_of None = 0
edits_of (Some used) = used.edits

abbrev pub length_at : Progress → ℕ
length_at (Firm length) = length
length_at (Appended length) = length
length_at _ = 0

abbrev pub length_of : Option InUse → ℕ
length_of None = 0
length_of (Some used) = length_at used.progress

abbrev pub name_of : ManifestState → FileName
name_of m = name.Manifest (number_of m.in_use)

-- the record of an edit at the end of the manifest in use
abbrev pub edit_bytes : ManifestState → List ℕ → List ℕ
edit_bytes m edit = record_bytes (length_of m.in_use) edit

-- so many edits were handed to the manifest in use
abbrev pub with_progress : ℕ → Progress → ManifestState → ManifestState
with_progress edits progress m = record m {
  in_use = Some (record { number = number_of m.in_use; edits = edits; progress = progress });
}

-- what a crash may leave has one case more
abbrev pub doubted : Doubt → ManifestState → ManifestState
doubted doubt m = record m { doubts = m.doubts ++ doubt ∷ [] }

-- that alone is what a crash may leave
abbrev pub settled : Doubt → ManifestState → ManifestState
settled doubt m = record m { doubts = doubt ∷ [] }

abbrev pub doubt_of : ℕ → ManifestState → Doubt
doubt_of edits m = record { manifest = number_of m.in_use; edits = edits }

-- An edit more was handed to it, and a crash may leave that, too.
abbrev pub appended : List ℕ → ManifestState → ManifestState
appended edit m =
    with_progress (edits_of m.in_use + 1) (Appended (length_of m.in_use + length (edit_bytes m edit)))
    (doubted (doubt_of (edits_of m.in_use + 1) m) m)

abbrev pub append_failed : ManifestState → ManifestState
append_failed m = with_progress (edits_of m.in_use + 1) Failed (doubted (doubt_of (edits_of m.in_use + 1) m) m)

-- all its edits are firm, and nothing else can be left
abbrev pub synced : ManifestState → ManifestState
synced m = with_progress (edits_of m.in_use) (Firm (length_of m.in_use)) (settled (doubt_of (edits_of m.in_use) m) m)

abbrev pub sync_failed : ManifestState → ManifestState
sync_failed m = with_progress (edits_of m.in_use) Failed m

-- by the answer of a call: what is behind an Ok, behind a fault, or the same where memory was wanting
abbrev pub by_answer : Result (Unit {0}) DiskError → ManifestState → ManifestState → ManifestState → ManifestState
by_answer (Ok done) next failed same = next
by_answer (Err (error.Fault fault)) next failed same = failed
by_answer (Err error.OutOfMemory) next failed same = same
