-- A reading of which each file is as the store itself makes it.
use Rattle.std.specs.Prelude.{◌≡◌, ℕ, ◌<◌, ◌≤◌, true, List, [], ◌∷◌, length, IsOk}
use Rattle.std.specs.List.{AllByRecursion}
use Rattle.keel_base.specs.declared.row.Row.{Row}
use Rattle.keel_base.specs.Keys.{key_eq}
use Rattle.keel_table.specs.declared.index.BlockEntry.{BlockEntry}
use Rattle.keel_table.specs.Spelling.{last_key}
use Rattle.keel_table.specs.Opening.{block_found}
use Rattle.keel_directory.specs.TableFiles.{TableFile, table_rows}
use Rattle.keel_directory.specs.Reading.{Reading, StoreRead, new, held, refused, all_rows}

-- every block has its check and shape
abbrev pub AreWhole : List ℕ → List ℕ → List BlockEntry → Type 0
AreWhole bytes before [] = Unit {0}
AreWhole bytes before (e ∷ es) = IsOk (block_found before e bytes) × AreWhole bytes e.last es

abbrev pub first_key : List Row → List ℕ
first_key [] = []
first_key (row ∷ rows) = row.key

-- rows, count, keys and sequences are as the version and the footer say, and no sequence is over the last one
pub record IsAsSaid (last_seq : ℕ) (t : TableFile) : Type 0 where
  pub whole : AreWhole t.bytes [] t.file.entries
  pub count : t.file.footer.rows ≡ length (table_rows t)
  pub count_said : t.entry.rows ≡ t.file.footer.rows
  pub least : t.entry.least ≡ first_key (table_rows t)
  pub greatest : t.entry.greatest ≡ last_key [] (table_rows t)
  pub first_said : t.entry.first ≡ t.file.footer.first
  pub last_said : t.entry.last ≡ t.file.footer.last
  pub within : AllByRecursion (λ row. (t.file.footer.first ≤ row.seq) × (row.seq ≤ t.file.footer.last)) (table_rows t)
  pub known : t.file.footer.last ≤ last_seq

-- rows of one key with one number say the same
abbrev pub Agree : Row → Row → Type 0
Agree a b = key_eq a.key b.key ≡ true → a.seq ≡ b.seq → (a.kind ≡ b.kind) × (a.value ≡ b.value)

abbrev pub AllAgree : List Row → Type 0
AllAgree rows = AllByRecursion (λ a. AllByRecursion (Agree a) rows) rows

-- of two rows of a key the first is newer
abbrev pub IsNewer : Row → Row → Type 0
IsNewer a b = key_eq a.key b.key ≡ true → b.seq < a.seq

-- of a key's rows those on the level of the smaller number are newer
abbrev pub AreLayered : TableFile → TableFile → Type 0
AreLayered upper lower = upper.entry.level < lower.entry.level → AllByRecursion (λ a. AllByRecursion (IsNewer a) (table_rows lower)) (table_rows upper)

pub record IsSoundly (found : StoreRead) : Type 0 where
  pub said : AllByRecursion (IsAsSaid found.version.last_seq) found.tables
  pub agree : AllAgree (all_rows found)
  pub layered : AllByRecursion (λ upper. AllByRecursion (AreLayered upper) found.tables) found.tables

abbrev pub IsSoundReading : Reading → Type 0
IsSoundReading new = Unit {0}
IsSoundReading (held found point) = IsSoundly found
IsSoundReading (refused refusal) = ⊥
