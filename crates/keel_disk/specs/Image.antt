-- What a crash can leave.
use Rattle.std.specs.Prelude.{◌≡◌, ◌⊎◌, ℕ, ◌+◌, ◌<◌, ◌≤◌, false, List, [], ◌∷◌, All, length, take, Result}
use Rattle.keel_disk.specs.declared.error.DiskError.{DiskError}
use Rattle.keel_disk.specs.declared.state.File.{File}
use Rattle.keel_disk.specs.declared.change.Change.{Change}
use Rattle.keel_disk.specs.Directory.{Named}
use Rattle.keel_disk.specs.State.{State, file_at, settled_through}
use Rattle.keel_disk.specs.Step.{DiskStep}

-- these numbers are bytes
abbrev pub AreBytes : List ℕ → Type 0
AreBytes bytes = All (λ byte. byte < 256) bytes

-- What a crash can leave of a file: the firm bytes, and behind them any bytes, no more than were meant.
pub record IsFileImage (file : File) (bytes : List ℕ) : Type 0 where
  pub no_shorter : file.firm ≤ length bytes
  pub no_longer : length bytes ≤ length file.meant
  pub agrees : take file.firm bytes ≡ take file.firm file.meant
  pub in_range : AreBytes bytes

-- each name of the directory has an image of its file
abbrev pub AreImages : List File → Named ℕ → Named (List ℕ) → Type 0
AreImages files [] [] = Unit {0}
AreImages files (entry ∷ rest) (found ∷ image) = (found.0 ≡ entry.0) × IsFileImage (file_at entry.1 files) found.1 × AreImages files rest image
AreImages files _ _ = ⊥

-- What a crash can leave: some first operations are done, the others are lost.
abbrev pub Image : State → Named (List ℕ) → Type 0
Image state image = (count : ℕ) × (let settled = settled_through count state in AreImages settled.files settled.firm image)

-- what a crash inside a call can leave: an image of the device before it, or behind some answer
abbrev pub Mid : State → Change → Named (List ℕ) → Type 0
Mid state change image =
    Image state image ⊎ ((answer : Result (Unit {0}) DiskError) × (after : State) × DiskStep state change answer after × Image after image)

-- a file that a crash left: its bytes are firm, and a read gives them
abbrev pub firm_file : List ℕ → File
firm_file bytes = record { meant = bytes; firm = length bytes; spoilt = false; read = bytes }

-- the files of an image
abbrev pub image_files : Named (List ℕ) → List File
image_files [] = []
image_files (entry ∷ rest) = firm_file entry.1 ∷ image_files rest

-- its names, numbered from a number on
abbrev pub image_names : ℕ → Named (List ℕ) → Named ℕ
image_names first [] = []
image_names first (entry ∷ rest) = (entry.0, first) ∷ image_names (first + 1) rest

-- the device that a crash leaves
abbrev pub restarted : Named (List ℕ) → State
restarted image = record { files = image_files image; firm = image_names 0 image; waiting = [] }

-- all of the file is firm, and a read gives it
pub record IsFirm (file : File) : Type 0 where
  pub whole : file.firm ≡ length file.meant
  pub read : file.read ≡ file.meant
  pub not_spoilt : file.spoilt ≡ false

-- the file of each name is firm
abbrev pub AllFirm : List File → Named ℕ → Type 0
AllFirm files [] = Unit {0}
AllFirm files (entry ∷ rest) = IsFirm (file_at entry.1 files) × AllFirm files rest

-- nothing waits, and every file that has a name is firm
pub record IsSettled (state : State) : Type 0 where
  pub none_waits : state.waiting ≡ []
  pub firm : AllFirm state.files state.firm
