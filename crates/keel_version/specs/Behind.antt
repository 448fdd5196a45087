-- What an applied edit leaves: the tables that it doesn't name, and those that come.
use Rattle.std.specs.Prelude.{◌≡◌, ℕ, true, false, ◌⊎◌, List, [], ◌∷◌, Ok, All, Contains, nat_lt}
use Rattle.std.specs.List.{list_any, list_all}
use Rattle.keel_edit.specs.declared.edit.Added.{Added}
use Rattle.keel_edit.specs.declared.edit.Edit.{Edit}
use Rattle.keel_base.specs.Name.{IsFileNumber}
use Rattle.keel_edit.specs.Spelling.{IsAdded, IsEdit}
use Rattle.keel_version.specs.Tables.{Contents, nothing, AreLevels, IsWithin}
use Rattle.keel_version.specs.Applying.{HasLevels, is_named, applied}
use Rattle.keel_version.specs.Picking.{on_level}

-- a table that stands and isn't among those that go
pub record Stays (edit : Edit) (before : List Added) (table : Added) : Type 0 where
  pub stood : Contains before table
  pub unnamed : list_any (λ r. is_named r table) edit.removed ≡ false

-- those that stay and those that come, and no others
pub record Leaves (edit : Edit) (before after : List Added) : Type 0 where
  pub comes : (table : Added) → Contains edit.added table → Contains after table
  pub stays : (table : Added) → Stays edit before table → Contains after table
  pub only : (table : Added) → Contains after table → Contains edit.added table ⊎ Stays edit before table

-- an edit that is applied leaves these tables
abbrev pub AppliedLeaves : Type 0
AppliedLeaves =
    (edit : Edit) (before after : Contents)
    → HasLevels edit → AreLevels before.tables → applied edit before ≡ Ok after → Leaves edit before.tables after.tables

-- an edit in which all tables of a version come makes that version of nothing
abbrev pub WholeEdit : Type 0
WholeEdit =
    (edit : Edit) (tables : List Added)
    → AreLevels tables → edit.removed ≡ [] → edit.added ≡ tables
    → applied edit nothing ≡ Ok (record { tables = tables; min_log = edit.min_log; next_file = edit.next_file; last_seq = edit.last_seq })

-- what stands behind an edit may come in an edit
pub record MayCome (after : Contents) : Type 0 where
  pub within : IsWithin after
  pub next_file : IsFileNumber after.next_file

-- an edit that a manifest may hold leaves what one may hold
abbrev pub AppliedMayCome : Type 0
AppliedMayCome =
    (edit : Edit) (before after : Contents)
    → IsEdit edit → All IsAdded before.tables → applied edit before ≡ Ok after → MayCome after

-- the edit in which all of a version comes
abbrev pub whole : Contents → Edit
whole v = record { min_log = v.min_log; next_file = v.next_file; last_seq = v.last_seq; removed = []; added = v.tables }

-- a manifest may hold it, so that it is read back
abbrev pub WholeIsEdit : Type 0
WholeIsEdit = (contents : Contents) → AreLevels contents.tables → MayCome contents → IsEdit (whole contents)

-- the first table of a level has the least number
abbrev pub FirstIsLeast : Type 0
FirstIsLeast =
    (level : ℕ) (tables : List Added) (first : Added) (others : List Added)
    → AreLevels tables → on_level level tables ≡ first ∷ others → list_all (λ table. nat_lt first.number table.number) others ≡ true
