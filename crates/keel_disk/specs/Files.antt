-- A file that is read whole, in parts.
use Rattle.std.specs.Prelude.{◌≡◌, List, [], ◌++◌, ℕ, Option, Some, None, unwrap_or}
use Rattle.keel_base.specs.declared.file_name.FileName.{FileName}
use Rattle.keel_disk.specs.Told.{Told, bytes_of}

-- the bytes of a file; one that isn't there counts as empty
abbrev pub content : FileName → Told → List ℕ
content name told = unwrap_or (bytes_of name told) []

-- these are its bytes, where the device tells them
abbrev pub IsContent : FileName → Option Told → List ℕ → Type 0
IsContent name None bytes = Unit {0}
IsContent name (Some told) bytes = content name told ≡ bytes

-- behind the first bytes come these, and none only where none are left
pub record IsNextPart (all front part : List ℕ) : Type 0 where
  pub rest : List ℕ
  pub splits : all ≡ front ++ (part ++ rest)
  pub some : part ≡ [] → rest ≡ []

-- behind these first bytes of a file, where the device tells it, come those
abbrev pub Continues : FileName → Option Told → List ℕ → List ℕ → Type 0
Continues name None front part = Unit {0}
Continues name (Some told) front part = IsNextPart (content name told) front part

-- the bytes begin the file's, where the device tells them
abbrev pub Begins : FileName → Option Told → List ℕ → Type 0
Begins name None front = Unit {0}
Begins name (Some told) front = (rest : List ℕ) × (content name told ≡ front ++ rest)
