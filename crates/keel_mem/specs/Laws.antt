-- What the rows of a memtable are of the map.
use Rattle.std.specs.Prelude.{◌≡◌, ℕ, ◌<◌, List, ◌++◌, All, find}
use Rattle.std.specs.List.Sorted.{IsPermutation}
use Rattle.keel_base.specs.declared.op.Op.{Op}
use Rattle.keel_base.specs.declared.row.Row.{Row}
use Rattle.keel_base.specs.Points.{Values, after_ops}
use Rattle.keel_base.specs.Rows.{op_rows, newest, IsMapOf}
use Rattle.keel_mem.specs.RowOrder.{AreInOrder, row_has}

-- rows that say what a map has say with those of later ops what the ops make of the map
abbrev pub MemtableFolds : Type 0
MemtableFolds = (rows : List Row) (values : Values) (seq : ℕ) (ops : List Op) → IsMapOf rows values → All (λ row. row.seq < seq) rows
    → IsMapOf (rows ++ op_rows seq ops) (after_ops ops values)

-- among rows in order the first of a key is the newest of them all, in whatever order they arrived
abbrev pub ScanFindsNewest : Type 0
ScanFindsNewest = (key : List ℕ) (rows sorted : List Row) → IsPermutation rows sorted → AreInOrder sorted → newest key rows ≡ find (row_has key) sorted
