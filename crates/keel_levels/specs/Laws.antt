-- What rows say of the map when others come to them, or stand in their place.
use Rattle.std.specs.Prelude.{◌≡◌, ℕ, ◌+◌, ◌<◌, ◌≤◌, true, List, [], ◌++◌, All}
use Rattle.keel_base.specs.declared.op.Op.{Op}
use Rattle.keel_base.specs.declared.row.Row.{Row}
use Rattle.keel_base.specs.Points.{Point, Values, after_batch}
use Rattle.keel_base.specs.Rows.{newest, op_rows, IsMapOf}
use Rattle.keel_table.specs.Opening.{row_of}
use Rattle.keel_table.specs.Spelling.{Ascend}
use Rattle.keel_merge.specs.Merging.{IsMergeOf}
use Rattle.keel_levels.specs.Newest.{newest_of_both}
use Rattle.keel_levels.specs.Ranges.{AreRowsOf, between}

-- the newest row of two lists is the newer of their newest, and that of the first where they have one number
abbrev pub NewestSplits : Type 0
NewestSplits = (key : List ℕ) (a b : List Row) → newest key (a ++ b) ≡ newest_of_both (newest key a) (newest key b)

-- no row has a number over that of the point
abbrev pub AreUpTo : Point → List Row → Type 0
AreUpTo point rows = All (λ row. row.seq < point.seq + 1) rows

-- rows and a point that they say, of which no row is newer
pub record Says (rows : List Row) (point : Point) : Type 0 where
  pub map : IsMapOf rows point.values
  pub numbers : AreUpTo point rows

-- The rows with those of a batch say what the batch makes of the point.
abbrev pub BatchesFold : Type 0
BatchesFold = (rows : List Row) (point : Point) (ops : List Op) → Says rows point → Says (rows ++ op_rows (point.seq + 1) ops) (after_batch point ops)

-- the rows rise by key, and are for each key the newest of all
pub record AreNewest (all rows : List Row) : Type 0 where
  pub rise : Ascend [] rows
  pub says : (key : List ℕ) → row_of key rows ≡ newest key all

-- In the place of rows those that are their newest change no key's newest, and so nothing of the map.
pub record NewestStandFor : Type 0 where
  pub same : (all rows front back : List Row) (key : List ℕ) → AreNewest all rows → newest key ((front ++ rows) ++ back) ≡ newest key ((front ++ all) ++ back)
  pub map : (all rows front back : List Row) (values : Values) → AreNewest all rows → IsMapOf ((front ++ all) ++ back) values → IsMapOf ((front ++ rows) ++ back) values

-- Of rows with lesser and rows with greater numbers either may stand first.
pub record OrderIsFree : Type 0 where
  pub same : (n : ℕ) (low high front back : List Row) (key : List ℕ) → All (λ row. row.seq < n) low → All (λ row. n ≤ row.seq) high
      → newest key ((front ++ (low ++ high)) ++ back) ≡ newest key ((front ++ (high ++ low)) ++ back)
  pub map : (n : ℕ) (low high front back : List Row) (values : Values) → All (λ row. row.seq < n) low → All (λ row. n ≤ row.seq) high
      → IsMapOf ((front ++ (low ++ high)) ++ back) values → IsMapOf ((front ++ (high ++ low)) ++ back) values

-- For any rows there is a point with any number that they say.
abbrev pub PointsExist : Type 0
PointsExist = (rows : List Row) (seq : ℕ) → (point : Point) × IsMapOf rows point.values × (point.seq ≡ seq)

-- Where all rows say what a map has, the merge of those in a range is the rows of the keys in it that have a value.
abbrev pub RangesAreOfMaps : Type 0
RangesAreOfMaps = (from to : List ℕ) (all rows : List Row) (values : Values) → IsMergeOf (between from to all) true rows → IsMapOf all values → AreRowsOf values from to rows
