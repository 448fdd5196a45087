-- Which tables are compacted next.
use Rattle.std.specs.Prelude.{◌≡◌, ℕ, ◌+◌, ◌*◌, ◌<◌, ◌≤◌, Bool, true, false, not, ◌&&◌, ◌==◌, List, ◌++◌, length, Option, Some, None, Result, Ok, Err, filter, sum_by, slice_get, unwrap_or, take, nat_lt, nat_le, if◌then◌else◌}
use Rattle.std.specs.List.{list_any}
use Rattle.keel_base.specs.declared.memory.OutOfMemory.{OutOfMemory}
use Rattle.keel_base.specs.declared.options.Options.{Options}
use Rattle.keel_base.specs.Keys.{key_le}
use Rattle.keel_edit.specs.declared.edit.Added.{Added}
use Rattle.keel_version.specs.declared.picking.Busy.{Busy}
use Rattle.keel_version.specs.declared.picking.Picked.{Picked}

-- the tables of a level
abbrev pub on_level : ℕ → List Added → List Added
on_level level tables = filter (λ table. table.level == level) tables

-- the bytes of tables
abbrev pub bytes_of : List Added → ℕ
bytes_of tables = sum_by (λ table. table.size) tables

-- level 0 has as many tables as its trigger says, or more; level 1 has more bytes than its base, level 2 than ten times it
abbrev pub is_over : Options → List Added → ℕ → Bool
is_over options tables level =
    if level == 0 then nat_le options.level0_trigger (length (on_level 0 tables))
    else nat_lt (if level == 1 then options.level_base else 10 * options.level_base) (bytes_of (on_level level tables))

-- whether a running compaction has the level
abbrev pub is_busy : Busy → ℕ → Bool
is_busy busy level = unwrap_or (slice_get busy.levels level) false

-- the level is over its trigger, and neither it nor the next one is busy
abbrev pub is_ready : Options → Busy → List Added → ℕ → Bool
is_ready options busy tables level = is_over options tables level && (not (is_busy busy level) && not (is_busy busy (level + 1)))

-- all tables of level 0, or of another level the one with the least number, which stands first
abbrev pub seeds : ℕ → List Added → List Added
seeds level tables = if level == 0 then on_level 0 tables else take 1 (on_level level tables)

-- its range meets the range of these taken together: one of them begins no later than it ends, and one ends no
-- sooner than it begins
abbrev pub is_near : List Added → Added → Bool
is_near tables a = list_any (λ t. key_le t.least a.greatest) tables && list_any (λ t. key_le a.least t.greatest) tables

-- the seeds, and the tables of the next level that are near them
abbrev pub inputs : ℕ → List Added → List Added
inputs level tables = seeds level tables ++ filter (λ t. (t.level == level + 1) && is_near (seeds level tables) t) tables

-- the least level of 0, 1 and 2 that is ready, with its inputs and their bytes
pub record IsPick (options : Options) (busy : Busy) (tables : List Added) (picked : Picked) : Type 0 where
  pub level : picked.level ≤ 2
  pub ready : is_ready options busy tables picked.level ≡ true
  pub least : (level : ℕ) → level < picked.level → is_ready options busy tables level ≡ false
  pub tables_are : picked.inputs ≡ inputs picked.level tables
  pub bytes_are : picked.bytes ≡ bytes_of picked.inputs

-- none exactly where no level is ready
abbrev pub Picks : Options → Busy → List Added → Result (Option Picked) OutOfMemory → Type 0
Picks options busy tables (Ok None) = (level : ℕ) → level ≤ 2 → is_ready options busy tables level ≡ false
Picks options busy tables (Ok (Some picked)) = IsPick options busy tables picked
Picks options busy tables (Err e) = Unit {0}

-- the least level that is ready, where one of 0, 1 and 2 is
abbrev pub FindsLeast : Options → Busy → List Added → Option ℕ → Type 0
FindsLeast options busy tables None = (level : ℕ) → level ≤ 2 → is_ready options busy tables level ≡ false
FindsLeast options busy tables (Some found) =
    (found ≤ 2) × (is_ready options busy tables found ≡ true) × ((level : ℕ) → level < found → is_ready options busy tables level ≡ false)
