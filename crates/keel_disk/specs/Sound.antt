-- Devices on which names and files go one to one. Every call and every crash keeps that.
use Rattle.std.specs.Prelude.{◌≡◌, ℕ, ◌==◌, ◌||◌, ◌<◌, ◌≤◌, Bool, false, [], ◌∷◌, All, length, None}
use Rattle.keel_base.specs.declared.file_name.FileName.{FileName}
use Rattle.keel_base.specs.Name.{IsName}
use Rattle.keel_disk.specs.declared.state.File.{File}
use Rattle.keel_disk.specs.declared.change.Change.{Change}
use Rattle.keel_disk.specs.declared.change.Change.TheVariants.{Create, Append, Sync, Rename, Remove, Cut, SyncDir}
use Rattle.keel_disk.specs.Directory.{Named, find}
use Rattle.keel_disk.specs.State.{State, settled_through}
use Rattle.keel_disk.specs.Image.{AreBytes, IsSettled}

-- whether a name has the file of this number
abbrev pub has_number : ℕ → Named ℕ → Bool
has_number number [] = false
has_number number (entry ∷ rest) = entry.1 == number || has_number number rest

-- it is a name of the store, stands there once, and has a file of its own, with a number below the bound
pub record IsOwn (bound : ℕ) (entry : FileName × ℕ) (rest : Named ℕ) : Type 0 where
  pub is_name : IsName entry.0
  pub exists : entry.1 < bound
  pub own_file : has_number entry.1 rest ≡ false
  pub once : find entry.0 rest ≡ None

-- each name is so
abbrev pub AreOwn : ℕ → Named ℕ → Type 0
AreOwn bound [] = Unit {0}
AreOwn bound (entry ∷ rest) = IsOwn bound entry rest × AreOwn bound rest

-- whatever first operations are done, names and files go one to one
abbrev pub IsOneToOne : State → Type 0
IsOneToOne state = (count : ℕ) → AreOwn (length state.files) (settled_through count state).firm

-- no more is firm than was meant, and all that was meant or is read are bytes
pub record IsFile (file : File) : Type 0 where
  pub firm_is_meant : file.firm ≤ length file.meant
  pub meant_are : AreBytes file.meant
  pub read_are : AreBytes file.read

-- a device as calls and crashes leave it
pub record IsSound (state : State) : Type 0 where
  pub one_to_one : IsOneToOne state
  pub files : All IsFile state.files

-- a device as a crash leaves it, or as it was made
pub record IsAtRest (state : State) : Type 0 where
  pub settled : IsSettled state
  pub sound : IsSound state

-- what a call may ask: new names are names of the store, and bytes are below 256
abbrev pub IsLawful : Change → Type 0
IsLawful (Create name) = IsName name
IsLawful (Append name bytes) = AreBytes bytes
IsLawful (Sync name) = Unit {0}
IsLawful (Rename from to) = IsName to
IsLawful (Remove name) = Unit {0}
IsLawful (Cut name length) = Unit {0}
IsLawful SyncDir = Unit {0}
