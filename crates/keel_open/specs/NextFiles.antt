-- The number of the next file.
use Rattle.std.specs.Prelude.{ℕ, ◌<◌, ◌≤◌, List}
use Rattle.std.specs.List.{AllByRecursion}
use Rattle.keel_base.specs.declared.file_name.FileName.{FileName}
use Rattle.keel_base.specs.declared.file_name.FileName.TheVariants.{Log, Table, Trash, Manifest, Current, Temp}
use Rattle.keel_base.specs.declared.listing.Entry.{Entry}

-- the number in a name; CURRENT has none
abbrev pub number_in : FileName → ℕ
number_in (Log n) = n
number_in (Table n) = n
number_in (Trash n) = n
number_in (Manifest n) = n
number_in Current = 0
number_in (Temp n) = n

-- the number is over those of all files
abbrev pub IsOverAll : ℕ → List Entry → Type 0
IsOverAll number listing = AllByRecursion (λ entry. number_in entry.name < number) listing

-- the least number that is no less than the manifest's next one, and over those of all files; files are numbered from 1 on
pub record IsNextFile (listing : List Entry) (floor next : ℕ) : Type 0 where
  pub no_less : floor ≤ next
  pub positive : 1 ≤ next
  pub over : IsOverAll next listing
  pub least : (number : ℕ) → floor ≤ number → 1 ≤ number → IsOverAll number listing → next ≤ number
