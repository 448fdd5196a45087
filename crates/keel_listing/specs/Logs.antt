-- Which log of a listing comes next.
use Rattle.std.specs.Prelude.{◌≡◌, ℕ, ◌<◌, ◌≤◌, List, Option, Some, None}
use Rattle.keel_base.specs.declared.file_name.FileName.TheVariants.{Log}
use Rattle.keel_base.specs.declared.listing.Entry.{Entry}
use Rattle.keel_disk.specs.Listings.{size_listed}
use Rattle.keel_listing.specs.declared.logs.ListedLog.{ListedLog}

-- no log of a number from the least on is listed
abbrev pub NoLogFrom : List Entry → ℕ → Type 0
NoLogFrom listing least = (number : ℕ) → least ≤ number → size_listed (Log number) listing ≡ None

-- the log with this number and size is listed, and none between the least number and it
pub record IsNextLog (listing : List Entry) (least : ℕ) (log : ListedLog) : Type 0 where
  pub above : least ≤ log.number
  pub listed : size_listed (Log log.number) listing ≡ Some log.size
  pub between : (number : ℕ) → least ≤ number → number < log.number → size_listed (Log number) listing ≡ None

-- the log with the least number from one on, where there is one
abbrev pub IsNextIn : List Entry → ℕ → Option ListedLog → Type 0
IsNextIn listing least None = NoLogFrom listing least
IsNextIn listing least (Some log) = IsNextLog listing least log
