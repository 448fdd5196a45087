-- What holds of a memtable's parts.
use Rattle.keel_base.specs.declared.limits.TheConstants.{LAST_NUMBER}
use Rattle.std.specs.Prelude.{◌≡◌, ℕ, ◌+◌, ◌*◌, ◌≤◌, All, length, sum_by}
use Rattle.keel_base.specs.Rows.{IsRow}
use Rattle.keel_region.specs.Order.{AreInOrder}
use Rattle.keel_region.specs.Shown.{RegionShown, IndexShown}
use Rattle.keel_region.specs.Spans.{AreHeld}
use Rattle.keel_mem.specs.Shown.{rows_in, rows_by_arrival}
use Rattle.keel_mem.specs.Totals.{most_weight, row_bytes, least_seq, greatest_seq}

-- The entries stand in order over the region's bytes, which are those of the rows, and the numbers kept are right. Each row
-- is within its limits, and what has room weighs no more than a memtable may.
pub record HoldsRows (region : RegionShown) (index : IndexShown) (free_bytes free_entries first last : ℕ) : Type 0 where
  pub held : AreHeld region.bytes index.entries
  pub order : AreInOrder region.bytes index.entries
  pub room : free_bytes ≤ region.spare
  pub places : free_entries ≤ index.spare
  pub first_is : first ≡ least_seq (rows_by_arrival region.bytes index.entries)
  pub last_is : last ≡ greatest_seq (rows_by_arrival region.bytes index.entries)
  pub last_within : last ≤ LAST_NUMBER
  pub limits : All IsRow (rows_by_arrival region.bytes index.entries)
  pub total : length region.bytes ≡ sum_by row_bytes (rows_in region.bytes index.entries)
  pub weight : 16 * (length index.entries + free_entries) + (length region.bytes + free_bytes) ≤ most_weight
