-- Images that aren't forged: no fragment of a log or manifest is good by chance.
use Rattle.std.specs.Prelude.{◌⊎◌, ℕ, Bool, true, false, List, [], ◌∷◌, Result}
use Rattle.keel_base.specs.declared.file_name.FileName.{FileName}
use Rattle.keel_base.specs.declared.file_name.FileName.TheVariants.{Log, Table, Trash, Manifest, Current, Temp}
use Rattle.keel_frag.specs.Images.{IsPlain}
use Rattle.keel_disk.specs.declared.error.DiskError.{DiskError}
use Rattle.keel_disk.specs.declared.state.File.{File}
use Rattle.keel_disk.specs.declared.change.Change.{Change}
use Rattle.keel_disk.specs.Directory.{Named}
use Rattle.keel_disk.specs.State.{State, file_at, settled_through, directory_read}
use Rattle.keel_disk.specs.Step.{DiskStep}
use Rattle.keel_disk.specs.Image.{AreImages}

-- logs and manifests have the log format
abbrev pub has_fragments : FileName → Bool
has_fragments (Log n) = true
has_fragments (Table n) = false
has_fragments (Trash n) = false
has_fragments (Manifest n) = true
has_fragments Current = false
has_fragments (Temp n) = false

-- a file in the log format is plain, and of another nothing is asked
abbrev pub PlainWhere : Bool → List ℕ → List ℕ → Type 0
PlainWhere false meant found = Unit {0}
PlainWhere true meant found = IsPlain meant found

-- the image of each name's file is plain
abbrev pub ArePlain : List File → Named ℕ → Named (List ℕ) → Type 0
ArePlain files [] [] = Unit {0}
ArePlain files (entry ∷ rest) (found ∷ image) = PlainWhere (has_fragments entry.0) (file_at entry.1 files).meant found.1 × ArePlain files rest image
ArePlain files _ _ = ⊥

-- what a crash can leave, no fragment of it good by chance against the same operations done
abbrev pub PlainImage : State → Named (List ℕ) → Type 0
PlainImage state image =
    (count : ℕ) × (let settled = settled_through count state in AreImages settled.files settled.firm image × ArePlain settled.files settled.firm image)

-- a plain image of the device before a call, or behind some answer
abbrev pub PlainMid : State → Change → Named (List ℕ) → Type 0
PlainMid state change image =
    PlainImage state image ⊎ ((answer : Result (Unit {0}) DiskError) × (after : State) × DiskStep state change answer after × PlainImage after image)

-- the bytes of each file as reads give them
abbrev pub bytes_read : List File → Named ℕ → Named (List ℕ)
bytes_read files [] = []
bytes_read files (entry ∷ rest) = (entry.0, (file_at entry.1 files).read) ∷ bytes_read files rest

-- the directory that reads give
abbrev pub image_read : State → Named (List ℕ)
image_read state = bytes_read state.files (directory_read state)
