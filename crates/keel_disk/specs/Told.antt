-- What a device tells of itself, and what its calls do to that.
use Rattle.std.specs.Prelude.{◌≡◌, ◌⊎◌, ℕ, Bool, true, List, length, take, drop, Option, Some, None, Result, Ok, Err, option_map}
use Rattle.keel_base.specs.declared.file_name.FileName.{FileName}
use Rattle.keel_base.specs.declared.listing.Entry.{Entry}
use Rattle.keel_base.specs.Name.{IsName}
use Rattle.keel_base.specs.Counts.{raised}
use Rattle.keel_disk.specs.declared.error.DiskError.{DiskError}
use Rattle.keel_disk.specs.declared.error.DiskError.TheVariants as error
use Rattle.keel_disk.specs.declared.error.ReadError.{ReadError}
use Rattle.keel_disk.specs.declared.error.ReadError.TheVariants as read
use Rattle.keel_disk.specs.declared.change.Change.{Change}
use Rattle.keel_disk.specs.Directory.{Named}
use Rattle.keel_disk.specs.State.{State, file_at, file_of, settled_through}
use Rattle.keel_disk.specs.Step.{DiskStep}
use Rattle.keel_disk.specs.Image.{AreImages, restarted}
use Rattle.keel_disk.specs.Plain.{ArePlain}
use Rattle.keel_disk.specs.Listings.{size_listed}

pub record Told : Type 0 where
  pub state : State
  -- what `free` answers, in bytes
  pub room : ℕ
  -- the last changing call that was handed in
  pub last : Option Change
  -- how many crashes left a forged image, up to 2^64 - 1
  pub forged : ℕ

-- what a changing call leaves of a device that tells its state
abbrev pub Changed : {T : Type 0} → Change → Told → Result T DiskError → Told → Type 0
Changed change before (Err error.OutOfMemory) after = after ≡ before
Changed change before answer after =
    DiskStep before.state change answer after.state × (after.last ≡ Some change) × (after.forged ≡ before.forged)

-- a changing call; no call makes a device begin or end to tell its state
abbrev pub Changes : {T : Type 0} → Change → Option Told → Result T DiskError → Option Told → Type 0
Changes change None answer None = Unit {0}
Changes change (Some before) answer (Some after) = Changed change before answer after
Changes change _ answer _ = ⊥

-- the bytes that a read of a file sees
abbrev pub bytes_of : FileName → Told → Option (List ℕ)
bytes_of name told = option_map (λ number. (file_at number told.state.files).read) (file_of name told.state)

-- an Ok gives the bytes from the offset on, at most so many
abbrev pub TellsRead : FileName → ℕ → ℕ → Option Told → Result (List ℕ) ReadError → Type 0
TellsRead name offset size (Some told) (Ok bytes) = option_map (λ all. take size (drop offset all)) (bytes_of name told) ≡ Some bytes
TellsRead name offset size _ _ = Unit {0}

-- an Ok gives the size
abbrev pub TellsSize : FileName → Option Told → Result ℕ ReadError → Type 0
TellsSize name (Some told) (Ok size) = option_map length (bytes_of name told) ≡ Some size
TellsSize name _ _ = Unit {0}

-- a name that is called absent isn't there
abbrev pub TellsAbsent : {T : Type 0} → FileName → Option Told → Result T ReadError → Type 0
TellsAbsent name (Some told) (Err read.Absent) = file_of name told.state ≡ None
TellsAbsent name _ _ = Unit {0}

-- each file of the store with its size, and no other
abbrev pub TellsListing : Option Told → List Entry → Type 0
TellsListing (Some told) listing = (name : FileName) → IsName name → size_listed name listing ≡ option_map length (bytes_of name told)
TellsListing None listing = Unit {0}

-- the room is told
abbrev pub TellsRoom : Option Told → ℕ → Type 0
TellsRoom (Some told) room = room ≡ told.room
TellsRoom None room = Unit {0}

-- a rule can change the room alone
abbrev pub Arranges : {E : Type 0} → Option Told → Result Bool E → Option Told → Type 0
Arranges (Some before) (Ok true) (Some after) = after ≡ record before { room = after.room }
Arranges before _ after = after ≡ before

-- the count of forged images rises by one exactly where an image isn't plain
abbrev pub CountsForged : Type 0 → ℕ → ℕ → Type 0
CountsForged plain before after = (plain × (after ≡ before)) ⊎ (¬ plain × (after ≡ raised before))

-- a crash leaves an image, and counts it where it is forged against the same operations done
pub record CrashedTo (before after : Told) : Type 0 where
  pub count : ℕ
  pub image : Named (List ℕ)
  pub is_image : let settled = settled_through count before.state in AreImages settled.files settled.firm image
  pub leaves : after.state ≡ restarted image
  pub last_same : after.last ≡ before.last
  pub forged : let settled = settled_through count before.state in CountsForged (ArePlain settled.files settled.firm image) before.forged after.forged

abbrev pub Crashes : {E : Type 0} → Option Told → Result Bool E → Option Told → Type 0
Crashes (Some before) (Ok true) (Some after) = CrashedTo before after
Crashes before _ after = after ≡ before
