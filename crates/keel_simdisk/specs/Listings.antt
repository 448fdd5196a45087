-- What a listing says of a directory.
use Rattle.std.specs.Prelude.{◌≡◌, ℕ, List, length, option_map}
use Rattle.keel_base.specs.declared.file_name.FileName.{FileName}
use Rattle.keel_base.specs.declared.listing.Entry.{Entry}
use Rattle.keel_disk.specs.declared.state.File.{File}
use Rattle.keel_disk.specs.Directory.{Named, find}
use Rattle.keel_disk.specs.State.{file_at}
use Rattle.keel_disk.specs.Listings.{size_listed}

-- each name of a directory with the size of its file, and no other
abbrev pub GivesSizes : List File → Named ℕ → List Entry → Type 0
GivesSizes files names listing = (name : FileName) → size_listed name listing ≡ option_map (λ number. length (file_at number files).read) (find name names)

-- a name of a directory with the size of its file
abbrev pub entry_in : List File → FileName × ℕ → Entry
entry_in files named = record { name = named.0; size = length (file_at named.1 files).read }
