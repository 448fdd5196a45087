-- A directory maps names to files, which go by number.
use Rattle.std.specs.Prelude.{ℕ, List, [], ◌∷◌, Option, Some, None, if◌then◌else◌}
use Rattle.keel_base.specs.declared.file_name.FileName.{FileName}
use Rattle.keel_base.specs.Name.{name_eq}
use Rattle.keel_disk.specs.declared.state.Operation.{Operation}
use Rattle.keel_disk.specs.declared.state.Operation.TheVariants.{Link, Move, Unlink, Shorten}

-- a value for each of some names: of a directory a file's number, of an image its bytes
abbrev pub Named : Type 0 → Type 0
Named V = List (FileName × V)

-- the value of a name
abbrev pub find : {V : Type 0} → FileName → Named V → Option V
find name [] = None
find name (entry ∷ rest) = if name_eq entry.0 name then Some entry.1 else find name rest

-- all names but this one
abbrev pub unlinked : {V : Type 0} → FileName → Named V → Named V
unlinked name [] = []
unlinked name (entry ∷ rest) = if name_eq entry.0 name then unlinked name rest else entry ∷ unlinked name rest

-- the name has this value, and the others keep theirs
abbrev pub linked : {V : Type 0} → FileName → V → Named V → Named V
linked name value directory = (name, value) ∷ unlinked name directory

-- the same, where there is a value
abbrev pub linked_found : FileName → Option ℕ → Named ℕ → Named ℕ
linked_found name None directory = directory
linked_found name (Some file) directory = linked name file directory

-- the directory behind an operation
abbrev pub operated : Operation → Named ℕ → Named ℕ
operated (Link name file) directory = linked name file directory
operated (Move from to) directory = linked_found to (find from directory) (unlinked from directory)
operated (Unlink name) directory = unlinked name directory
operated (Shorten file length) directory = directory

-- the directory behind operations in order
abbrev pub operated_all : List Operation → Named ℕ → Named ℕ
operated_all [] directory = directory
operated_all (operation ∷ rest) directory = operated_all rest (operated operation directory)
