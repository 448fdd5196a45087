-- Laws of names.
use Rattle.std.specs.Prelude.{◌≡◌, ◌≢◌, ℕ, List, true, false, ◌⊎◌}
use Rattle.keel_base.specs.declared.file_name.FileName.{FileName}
use Rattle.keel_base.specs.Name.{IsName, printed, listed_before}
use Rattle.keel_name.specs.Current.{NamesManifest}

-- a spelling tells the name
abbrev pub OneSpelling : Type 0
OneSpelling = (a b : FileName) → IsName a → IsName b → printed a ≡ printed b → a ≡ b

-- the same bytes name no two manifests
abbrev pub OneManifest : Type 0
OneManifest = (bytes : List ℕ) (a b : ℕ) → NamesManifest bytes a → NamesManifest bytes b → a ≡ b

-- names stand in one order
pub record IsListingOrder : Type 0 where
  pub apart : (a : FileName) → listed_before a a ≡ false
  pub onward : (a b c : FileName) → listed_before a b ≡ true → listed_before b c ≡ true → listed_before a c ≡ true
  pub one_of_two : (a b : FileName) → IsName a → IsName b → a ≢ b → (listed_before a b ≡ true) ⊎ (listed_before b a ≡ true)
