-- Files that stay open.
use Rattle.std.specs.Prelude.{◌≡◌, ℕ, Bool, false, not, ◌||◌, List, [], ◌∷◌, filter, if◌then◌else◌, slice_get, IsSomeAnd, IsTrue}
use Rattle.keel_base.specs.declared.file_name.FileName.{FileName}
use Rattle.keel_base.specs.Name.{name_eq}
use Rattle.keel_dirdisk.specs.declared.held.Held.{Held}

-- the open file at this place has this name
abbrev pub IsOpen : {F : Type 0} → FileName → List (Held F) → ℕ → Type 0
IsOpen name files place = IsSomeAnd (slice_get files place) (λ held. IsTrue (name_eq held.name name))

-- and its bytes are durable
abbrev pub IsSynced : {F : Type 0} → FileName → List (Held F) → ℕ → Type 0
IsSynced name files place = IsSomeAnd (slice_get files place) (λ held. IsTrue (name_eq held.name name) × (held.unsynced ≡ false))

-- something of the file isn't durable
abbrev pub is_unsettled : {F : Type 0} → Held F → Bool
is_unsettled held = held.unsynced || held.cut

-- the files but for those of this name
abbrev pub without : {F : Type 0} → FileName → List (Held F) → List (Held F)
without name files = filter (λ held. not (name_eq held.name name)) files

-- the first file of one name has the other
abbrev pub with_name : {F : Type 0} → FileName → FileName → List (Held F) → List (Held F)
with_name from to [] = []
with_name from to (held ∷ files) = if name_eq held.name from then record held { name = to } ∷ files else held ∷ with_name from to files

-- a file has another name, in place of one that had it
abbrev pub renamed : {F : Type 0} → FileName → FileName → List (Held F) → List (Held F)
renamed from to files = if name_eq from to then files else with_name from to (without to files)
