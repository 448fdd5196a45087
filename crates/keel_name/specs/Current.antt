-- What CURRENT holds.
use Rattle.std.specs.Prelude.{◌≡◌, ℕ, List, [], ◌∷◌, ◌++◌}
use Rattle.keel_base.specs.declared.file_name.FileName.TheVariants.{Manifest}
use Rattle.keel_base.specs.Name.{IsFileNumber, printed}

-- the name of a manifest and a newline
abbrev pub current_of : ℕ → List ℕ
current_of number = printed (Manifest number) ++ 10 ∷ []

-- the bytes name the manifest of this number
abbrev pub NamesManifest : List ℕ → ℕ → Type 0
NamesManifest bytes number = (bytes ≡ current_of number) × IsFileNumber number
