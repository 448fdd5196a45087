-- What a look-up answers.
use Rattle.std.specs.Prelude.{◌≡◌, ⊤, Option, Some, None}
use Rattle.keel_base.specs.declared.row.Row.{Row}
use Rattle.keel_mem.specs.declared.found.Found.{Found}

-- the sequence, kind and value of the row
pub record ShowsRow (row : Row) (found : Found) : Type 0 where
  pub seq : found.seq ≡ row.seq
  pub kind : found.kind ≡ row.kind
  pub value : found.value.now ≡ row.value

-- none where there is no row, else the row
abbrev pub Finds : Option Row → Option Found → Type 0
Finds None None = ⊤
Finds None (Some found) = ⊥
Finds (Some row) None = ⊥
Finds (Some row) (Some found) = ShowsRow row found
