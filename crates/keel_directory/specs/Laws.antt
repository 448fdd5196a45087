-- What holds of readings.
use Rattle.std.specs.Prelude.{◌≡◌, ◌⊎◌, ℕ, ◌<◌, ◌≤◌, Bool, true, false, ◌==◌, nat_lt, List, [], ◌∷◌, Option, Some, None, MatchOption, if◌then◌else◌}
use Rattle.std.specs.List.{AllByRecursion}
use Rattle.keel_base.specs.declared.file_name.FileName.{FileName}
use Rattle.keel_base.specs.declared.file_name.FileName.TheVariants.{Log, Manifest, Current}
use Rattle.keel_base.specs.Name.{listed_before}
use Rattle.keel_base.specs.Points.{Point}
use Rattle.keel_disk.specs.Directory.{Named, find}
use Rattle.keel_disk.specs.State.{State}
use Rattle.keel_disk.specs.Image.{IsSettled}
use Rattle.keel_disk.specs.Plain.{image_read}
use Rattle.keel_edit.specs.declared.edit.Added.{Added}
use Rattle.keel_directory.specs.declared.logs.LogFile.{LogFile}
use Rattle.keel_directory.specs.TableFiles.{bytes_of, least}
use Rattle.keel_directory.specs.Replays.{logs_from}
use Rattle.keel_directory.specs.Reading.{Reading, StoreRead, new, held, IsReading, HasPoint, is_used, first_used}
use Rattle.keel_directory.specs.Sound.{IsSoundReading}
use Rattle.keel_directory.specs.Standing.{StandsRead}

-- A directory has one reading.
abbrev pub OneReading : Type 0
OneReading = (image : Named (List ℕ)) (a b : Reading) → IsReading image a → IsReading image b → a ≡ b

-- two directories have the same bytes in every file that this reading needs
pub record SameNeeded (f : StoreRead) (a b : Named (List ℕ)) : Type 0 where
  pub current : find Current a ≡ find Current b
  pub manifest : find (Manifest f.manifest) a ≡ find (Manifest f.manifest) b
  pub tables : AllByRecursion (λ t. bytes_of a t ≡ bytes_of b t) f.version.tables
  pub logs : logs_from f.version.min_log a ≡ logs_from f.version.min_log b

-- A reading needs CURRENT, its manifest, the tables of its version and the logs from the least on that have a byte,
-- and no other file.
abbrev pub UnneededFiles : Type 0
UnneededFiles = (a b : Named (List ℕ)) (f : StoreRead) (point : Point) → IsReading a (held f point) → SameNeeded f a b → IsReading b (held f point)

-- Without CURRENT, tables, trash and logs with a byte a directory is that of a new store.
abbrev pub NewStores : Type 0
NewStores = (image : Named (List ℕ)) → find Current image ≡ None → first_used image ≡ None → IsReading image new

-- A settled device whose directory has a sound reading stands for what begins with its point.
abbrev pub SettledStands : Type 0
SettledStands =
    (device : State) (reading : Reading) (point : Point)
    → IsSettled device → IsReading (image_read device) reading → IsSoundReading reading → HasPoint reading point
    → StandsRead device point [] [] 0

-- ---- what is picked out of a directory

-- no name stands twice, as in every directory
abbrev pub AreNamedOnce : Named (List ℕ) → Type 0
AreNamedOnce [] = Unit {0}
AreNamedOnce (file ∷ image) = (find file.0 image ≡ None) × AreNamedOnce image

-- the bytes of the log of that number
abbrev pub log_of : ℕ → List LogFile → Option (List ℕ)
log_of n [] = None
log_of n (log ∷ logs) = if log.number == n then Some log.bytes else log_of n logs

-- a file's bytes, where there is one that has any
abbrev pub some_bytes : Option (List ℕ) → Option (List ℕ)
some_bytes None = None
some_bytes (Some []) = None
some_bytes (Some (b ∷ bytes)) = Some (b ∷ bytes)

-- the numbers of logs rise
abbrev pub Rise : List LogFile → Type 0
Rise [] = Unit {0}
Rise (log ∷ logs) = AllByRecursion (λ other. log.number < other.number) logs × Rise logs

-- The logs that a reading takes rise by number, and are the files of logs from the least number on that have a byte.
abbrev pub LogsAreThose : Type 0
LogsAreThose =
    (least : ℕ) (image : Named (List ℕ)) → AreNamedOnce image
    → Rise (logs_from least image) × ((n : ℕ) → log_of n (logs_from least image) ≡ (if nat_lt n least then None else some_bytes (find (Log n) image)))

-- one of the tables is this one
abbrev pub IsOneOf : List Added → Added → Type 0
IsOneOf [] x = ⊥
IsOneOf (t ∷ tables) x = (x ≡ t) ⊎ IsOneOf tables x

-- The table that a refusal names is one for which the test holds, and of these none has a lesser number.
abbrev pub LeastIsLeast : Type 0
LeastIsLeast =
    (finds : Added → Bool) (tables : List Added)
    → MatchOption (least finds tables) (AllByRecursion (λ t. finds t ≡ false) tables)
    (λ x. IsOneOf tables x × (finds x ≡ true) × AllByRecursion (λ t. finds t ≡ true → x.number ≤ t.number) tables)

-- a file in use has this name
abbrev pub NamesUsed : Named (List ℕ) → FileName → Type 0
NamesUsed [] name = ⊥
NamesUsed (file ∷ image) name = ((file.0 ≡ name) × (is_used file ≡ true)) ⊎ NamesUsed image name

-- The file that is named where CURRENT is missing is in use, and none in use is listed before it.
abbrev pub FirstIsFirst : Type 0
FirstIsFirst =
    (image : Named (List ℕ))
    → MatchOption (first_used image) (AllByRecursion (λ file. is_used file ≡ false) image)
    (λ name. NamesUsed image name × AllByRecursion (λ file. is_used file ≡ true → listed_before file.0 name ≡ false) image)
