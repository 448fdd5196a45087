-- Places of tracked files.
use Rattle.std.specs.Prelude.{◌≡◌, ℕ, false, List, take, All, IsSomeAnd, IsTrue, slice_get}
use Rattle.keel_base.specs.declared.file_name.FileName.{FileName}
use Rattle.keel_base.specs.declared.listing.Entry.{Entry}
use Rattle.keel_base.specs.Name.{name_eq}

-- the file at this place has the name
abbrev pub IsAt : FileName → List Entry → ℕ → Type 0
IsAt name files place = IsSomeAnd (slice_get files place) (λ file. IsTrue (name_eq file.name name))

-- no file has the name
abbrev pub HaveOther : FileName → List Entry → Type 0
HaveOther name files = All (λ file. name_eq file.name name ≡ false) files

-- the first file of this name stands at the place
pub record IsPlaceOf (name : FileName) (files : List Entry) (place : ℕ) : Type 0 where
  pub at : IsAt name files place
  pub others : HaveOther name (take place files)
