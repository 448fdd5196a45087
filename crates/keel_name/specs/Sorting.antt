-- Files of a directory, as they are sorted.
use Rattle.std.specs.Prelude.{◌≡◌, ℕ, ◌≤◌, true, false, List, [], ◌∷◌, length, take, map, All, AllPairs, IsTrue, IfSome, Option, Some, None, slice_get}
use Rattle.keel_base.specs.declared.file_name.FileName.{FileName}
use Rattle.keel_base.specs.declared.listing.Entry.{Entry}
use Rattle.keel_base.specs.Keys.{key_lt}
use Rattle.keel_base.specs.Listings.{size_listed}
use Rattle.keel_base.specs.Name.{IsName, listed_before}
use Rattle.keel_name.specs.declared.spelled.Spelled.{Spelled}

-- names of the store
abbrev pub AreNames : List Entry → Type 0
AreNames files = All (λ entry. IsName entry.name) files

-- each name has the same size in both, or is in neither
abbrev pub HaveSameSizes : List Entry → List Entry → Type 0
HaveSameSizes files others = (name : FileName) → size_listed name files ≡ size_listed name others

abbrev pub entries : List Spelled → List Entry
entries files = map (λ spelled. spelled.entry) files

-- names of the store, in the order of listings
pub record IsSorted (files : List Spelled) : Type 0 where
  pub are_names : All (λ spelled. IsName spelled.entry.name) files
  pub ascends : AllPairs (λ earlier later. IsTrue (listed_before earlier.entry.name later.entry.name)) files

-- all that stand in front of this place are before a spelling, and the one there isn't
pub record IsPlace (spelling : List ℕ) (files : List Spelled) (place : ℕ) : Type 0 where
  pub within : place ≤ length files
  pub front : All (λ other. key_lt other.spelling spelling ≡ true) (take place files)
  pub here : IfSome (slice_get files place) (λ other. key_lt other.spelling spelling ≡ false)

-- the first of two sizes that there is
abbrev pub first_size : Option ℕ → Option ℕ → Option ℕ
first_size None other = other
first_size (Some size) other = Some size

-- a file more stands in order, unless one of its name was there
pub record TakesIn (entry : Entry) (old new : List Spelled) : Type 0 where
  pub order : IsSorted new
  pub sizes : (name : FileName) → size_listed name (entries new) ≡ first_size (size_listed name (entries old)) (size_listed name (entry ∷ []))
