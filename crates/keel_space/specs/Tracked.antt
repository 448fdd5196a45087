-- Files that are tracked: names with their sizes in bytes.
use Rattle.std.specs.Prelude.{◌≡◌, ℕ, Bool, true, false, List, [], ◌∷◌, Option, Some, None, sum_by, if◌then◌else◌}
use Rattle.keel_base.specs.declared.file_name.FileName.{FileName}
use Rattle.keel_base.specs.declared.file_name.FileName.TheVariants.{Trash}
use Rattle.keel_base.specs.declared.listing.Entry.{Entry}
use Rattle.keel_base.specs.Name.{name_eq}

-- the size of a tracked name
abbrev pub size_of : FileName → List Entry → Option ℕ
size_of name [] = None
size_of name (file ∷ files) = if name_eq file.name name then Some file.size else size_of name files

-- each name stands once
abbrev pub AreDistinct : List Entry → Type 0
AreDistinct [] = Unit {0}
AreDistinct (file ∷ files) = (size_of file.name files ≡ None) × AreDistinct files

-- the file of this name has that size
abbrev pub resized : FileName → ℕ → List Entry → List Entry
resized name size [] = []
resized name size (file ∷ files) =
    if name_eq file.name name then record { name = file.name; size = size } ∷ files else file ∷ resized name size files

-- the file of one name has another
abbrev pub renamed : FileName → FileName → List Entry → List Entry
renamed from to [] = []
renamed from to (file ∷ files) =
    if name_eq file.name from then record { name = to; size = file.size } ∷ files else file ∷ renamed from to files

-- the files but for the one of this name
abbrev pub without : FileName → List Entry → List Entry
without name [] = []
without name (file ∷ files) = if name_eq file.name name then files else file ∷ without name files

-- the name of a file that waits to be deleted
abbrev pub is_trash : FileName → Bool
is_trash (Trash number) = true
is_trash name = false

-- what a file adds to trash
abbrev pub trash_size : Entry → ℕ
trash_size file = if is_trash file.name then file.size else 0

-- the bytes of all files
abbrev pub total_of : List Entry → ℕ
total_of files = sum_by (λ (file : Entry). file.size) files

-- the bytes of the files with trash names
abbrev pub trash_of : List Entry → ℕ
trash_of files = sum_by trash_size files
