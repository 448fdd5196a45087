-- The state of a device: files by number, a firm directory, and the operations that wait, in order.
use Rattle.std.specs.Prelude.{ℕ, ◌||◌, ◌==◌, min, Bool, false, List, [], ◌∷◌, length, take, drop, slice_index_or, slice_set, Option}
use Rattle.keel_base.specs.declared.file_name.FileName.{FileName}
use Rattle.keel_disk.specs.declared.state.File.{File}
use Rattle.keel_disk.specs.declared.state.Operation.{Operation}
use Rattle.keel_disk.specs.declared.state.Operation.TheVariants.{Shorten}
use Rattle.keel_disk.specs.Directory.{Named, find, operated_all}

-- a device
pub record State : Type 0 where
  pub files : List File
  pub firm : Named ℕ
  pub waiting : List Operation

-- an empty file
abbrev pub new_file : File
new_file = record { meant = []; firm = 0; spoilt = false; read = [] }

-- the file of that number
abbrev pub file_at : ℕ → List File → File
file_at number files = slice_index_or files number new_file

-- a file behind a firm cut
abbrev pub shortened : ℕ → File → File
shortened length file = record file { meant = take length file.meant; firm = min length file.firm }

-- the files behind an operation
abbrev pub files_operated : Operation → List File → List File
files_operated (Shorten file length) files = slice_set files file (shortened length (file_at file files))
files_operated _ files = files

-- the files behind operations in order
abbrev pub files_operated_all : List Operation → List File → List File
files_operated_all [] files = files
files_operated_all (operation ∷ rest) files = files_operated_all rest (files_operated operation files)

-- the first operations are firm, and the others wait
abbrev pub settled_through : ℕ → State → State
settled_through count state = record {
  files = files_operated_all (take count state.waiting) state.files;
  firm = operated_all (take count state.waiting) state.firm;
  waiting = drop count state.waiting;
}

-- the directory that reads see
abbrev pub directory_read : State → Named ℕ
directory_read state = operated_all state.waiting state.firm

-- the number of a file that reads see
abbrev pub file_of : FileName → State → Option ℕ
file_of name state = find name (directory_read state)

-- whether a cut of the file waits
abbrev pub has_waiting_cut : ℕ → List Operation → Bool
has_waiting_cut number [] = false
has_waiting_cut number (Shorten file length ∷ rest) = file == number || has_waiting_cut number rest
has_waiting_cut number (_ ∷ rest) = has_waiting_cut number rest
