-- Names of the files in the queues.
use Rattle.keel_base.specs.declared.file_name.FileName.{FileName}
use Rattle.keel_base.specs.declared.file_name.FileName.TheVariants.{Table, Trash}
use Rattle.keel_base.specs.Name.{IsFileNumber}

-- the name that a table has as trash
abbrev pub trash_name : FileName → FileName
trash_name (Table number) = Trash number
trash_name name = name

-- a table of the store
abbrev pub IsTable : FileName → Type 0
IsTable (Table number) = IsFileNumber number
IsTable name = ⊥

-- a trash file
abbrev pub IsTrash : FileName → Type 0
IsTrash (Trash number) = Unit {0}
IsTrash name = ⊥
