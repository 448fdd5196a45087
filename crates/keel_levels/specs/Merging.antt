-- A step of a merge of lists that are all in memory.
use Rattle.std.specs.Prelude.{Bool, true, false, List}
use Rattle.keel_base.specs.declared.row.Row.{Row}
use Rattle.keel_merge.specs.Feeding.{MergeState}
use Rattle.keel_merge.specs.Laws.{IsAlong}
use Rattle.keel_merge.specs.Merging.{IsMergeOf, rows_of}

-- it goes on along the merge of all lists, or has ended with it
abbrev pub GoesOn : List (List Row) → List Row → MergeState → List (List Row) → Bool → Type 0
GoesOn all rows merge left true = IsMergeOf (rows_of all) true rows
GoesOn all rows merge left false = IsAlong all true rows merge left
