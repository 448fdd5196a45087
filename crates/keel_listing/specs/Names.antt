-- The names of a directory.
use Rattle.std.specs.Prelude.{[], ◌∷◌}
use Rattle.keel_base.specs.Name.{IsName}
use Rattle.keel_disk.specs.Directory.{Named}

-- each file has a name of the store, as on every device that calls and crashes leave
abbrev pub AreNames : {V : Type 0} → Named V → Type 0
AreNames [] = Unit {0}
AreNames (entry ∷ rest) = IsName entry.0 × AreNames rest
