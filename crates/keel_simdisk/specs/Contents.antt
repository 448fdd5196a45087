-- What the files of a device hold.
use Rattle.std.specs.Prelude.{ℕ, List, length, sum_by, Option, option_map}
use Rattle.keel_base.specs.declared.file_name.FileName.{FileName}
use Rattle.keel_disk.specs.State.{State, file_at, file_of, directory_read}

-- the bytes of a file as reads give them
abbrev pub contents_of : FileName → State → Option (List ℕ)
contents_of name state = option_map (λ number. (file_at number state.files).read) (file_of name state)

-- the bytes of all named files together
abbrev pub used : State → ℕ
used state = sum_by (λ entry. length (file_at entry.1 state.files).read) (directory_read state)
