-- What a listing says of a directory.
use Rattle.std.specs.Prelude.{◌≡◌, ℕ, Bool, true, false, not, ◌==◌, List, Option, Some, option_map}
use Rattle.std.specs.Prelude.{find as first_where}
use Rattle.keel_base.specs.declared.file_name.FileName.{FileName}
use Rattle.keel_base.specs.declared.file_name.FileName.TheVariants.{Log, Table, Trash, Manifest, Current, Temp}
use Rattle.keel_base.specs.declared.listing.Entry.{Entry}
use Rattle.keel_disk.specs.State.{State, directory_read}
use Rattle.keel_disk.specs.Plain.{image_read}
use Rattle.keel_disk.specs.Told.{Told, TellsListing}
use Rattle.keel_disk.specs.Listings.{IsListing}
use Rattle.keel_listing.specs.Names.{AreNames}
use Rattle.keel_directory.specs.Laws.{AreNamedOnce}
use Rattle.keel_directory.specs.Reading.{first_used}

-- a table, a trash file, or a log with a byte: such a file is of no new store
abbrev pub is_used_of : FileName → ℕ → Bool
is_used_of (Log n) size = not (size == 0)
is_used_of (Table n) size = true
is_used_of (Trash n) size = true
is_used_of (Manifest n) size = false
is_used_of Current size = false
is_used_of (Temp n) size = false

abbrev pub is_used : Entry → Bool
is_used entry = is_used_of entry.name entry.size

-- the first file of a listing that is of no new store
abbrev pub first_listed : List Entry → Option FileName
first_listed listing = option_map (λ entry. entry.name) (first_where is_used listing)

-- files have names of the store, and none stands there twice
pub record IsDirectory (state : State) : Type 0 where
  pub names : AreNames (directory_read state)
  pub once : AreNamedOnce (image_read state)

-- That file of a directory's listing is the directory's first one in use.
abbrev pub FirstOfListing : Type 0
FirstOfListing = (told : Told) (listing : List Entry) → IsDirectory told.state → TellsListing (Some told) listing → IsListing listing → first_used (image_read told.state) ≡ first_listed listing
