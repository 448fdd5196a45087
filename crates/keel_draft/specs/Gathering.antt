-- What is gathered of a memtable's rows for their table.
use Rattle.std.specs.Prelude.{◌≡◌, ℕ, List}
use Rattle.keel_base.specs.declared.row.Row.{Row}
use Rattle.keel_directory.specs.Sound.{first_key}
use Rattle.keel_mem.specs.Totals.{least_seq, greatest_seq}
use Rattle.keel_table.specs.Building.{IsBuilding}
use Rattle.keel_draft.specs.declared.gathering.Gathering.{Gathering}
use Rattle.keel_draft.specs.Drafts.{AreNewestOf}

-- these rows were added: their closed blocks are among the bytes, the builder has the others
pub record HasGathered (first last : ℕ) (rows : List Row) (g : Gathering) : Type 0 where
  pub building : IsBuilding first last rows g.bytes g.builder
  pub least : g.least ≡ first_key rows

-- of each key of a memtable the newest row was added, and nothing else
pub record GathersNewest (mem_rows : List Row) (g : Gathering) : Type 0 where
  pub rows : List Row
  pub gathered : HasGathered (least_seq mem_rows) (greatest_seq mem_rows) rows g
  pub newest : AreNewestOf mem_rows rows
