-- Listings of a directory.
use Rattle.std.specs.Prelude.{ℕ, List, [], ◌∷◌, All, AllPairs, IsTrue, Option, Some, None, if◌then◌else◌}
use Rattle.keel_base.specs.declared.file_name.FileName.{FileName}
use Rattle.keel_base.specs.declared.listing.Entry.{Entry}
use Rattle.keel_base.specs.Name.{name_eq, IsName, listed_before}

-- the size of a name in a listing
abbrev pub size_listed : FileName → List Entry → Option ℕ
size_listed name [] = None
size_listed name (entry ∷ rest) = if name_eq entry.name name then Some entry.size else size_listed name rest

-- names of the store that ascend as they are printed, so that none stands there twice
pub record IsListing (listing : List Entry) : Type 0 where
  pub are_names : All (λ entry. IsName entry.name) listing
  pub ascends : AllPairs (λ earlier later. IsTrue (listed_before earlier.name later.name)) listing
