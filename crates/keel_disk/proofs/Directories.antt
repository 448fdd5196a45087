-- Looking names up, also behind operations.
use Rattle.std.proofs.Common.{◌≡◌, ℕ, List, [], ◌∷◌, ◌++◌, Some, refl}
use Rattle.keel_base.specs.declared.file_name.FileName.{FileName}
use Rattle.keel_base.proofs.Names.{name_eq-same}
use Rattle.keel_disk.specs.declared.state.Operation.{Operation}
use Rattle.keel_disk.specs.Directory.{Named, find, linked, operated, operated_all}

pub find-linked : {V : Type 0} (name : FileName) (value : V) (directory : Named V) → find name (linked name value directory) ≡ Some value
find-linked name value directory = rw (name_eq-same name)

pub operated_all-append : (first next : List Operation) (directory : Named ℕ) → operated_all (first ++ next) directory ≡ operated_all next (operated_all first directory)
operated_all-append [] next directory = refl
operated_all-append (operation ∷ first) next directory = operated_all-append first next (operated operation directory)
