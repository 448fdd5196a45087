-- Laws of merges.
use Rattle.std.specs.Prelude.{◌≡◌, Bool, true, List, [], ◌∷◌, ◌++◌, Some, All, Contains}
use Rattle.keel_base.specs.declared.row.Row.{Row}
use Rattle.keel_base.specs.Points.{Values}
use Rattle.keel_base.specs.Rows.{newest, IsMapOf}
use Rattle.keel_merge.specs.declared.next.Next.{Next}
use Rattle.keel_merge.specs.declared.next.Next.TheVariants.{Merged, Refill, End}
use Rattle.keel_merge.specs.Merging.{rows_of, IsMergeOf, stays}
use Rattle.keel_merge.specs.Feeding.{MergeState, MayCome, to_come, Feeds}
use Rattle.keel_merge.specs.Taking.{Steps}

-- rows have one merge
abbrev pub OneMerge : Type 0
OneMerge = (rows one other : List Row) (last_level : Bool) → IsMergeOf rows last_level one → IsMergeOf rows last_level other → one ≡ other

-- the row is the newest of its key, and stays
pub record IsKept (rows : List Row) (last_level : Bool) (row : Row) : Type 0 where
  pub newest_of_key : newest row.key rows ≡ Some row
  pub is_kept : stays last_level row ≡ true

-- a merge has the rows that are the newest of their keys and stay, each of them and no other
pub record HasTheNewest : Type 0 where
  pub no_other : (rows merged : List Row) (last_level : Bool) → IsMergeOf rows last_level merged → All (IsKept rows last_level) merged
  pub each : (rows merged : List Row) (last_level : Bool) (row : Row) → IsMergeOf rows last_level merged → IsKept rows last_level row → Contains merged row

-- a merge leaves the map that its rows leave
abbrev pub SameMap : Type 0
SameMap = (rows merged : List Row) (last_level : Bool) (values : Values) → IsMergeOf rows last_level merged → IsMapOf rows values → IsMapOf merged values

-- what was handed out and what will be are the merge of the lists, of which these rows will still come
pub record IsAlong (lists : List (List Row)) (last_level : Bool) (handed : List Row) (merge : MergeState) (coming : List (List Row)) : Type 0 where
  pub may_come : MayCome merge coming
  pub merges : IsMergeOf (rows_of lists) last_level (handed ++ to_come merge coming)

-- what a call hands out
abbrev pub rows_in : Next → List Row
rows_in (Merged row) = row ∷ []
rows_in (Refill list) = []
rows_in End = []

-- each call and each refill goes on along the merge of the lists; at the end all of it was handed out
pub record HandsOutAll : Type 0 where
  pub call : (lists : List (List Row)) (last_level : Bool) (handed : List Row) (old new : MergeState) (coming : List (List Row)) (next : Next)
      → IsAlong lists last_level handed old coming → MayCome new coming → Steps next coming old new → IsAlong lists last_level (handed ++ rows_in next) new coming
  pub refill : (lists : List (List Row)) (last_level : Bool) (handed : List Row) (old new : MergeState) (coming left : List (List Row))
      → IsAlong lists last_level handed old coming → Feeds old new coming left → IsAlong lists last_level handed new left
  pub end : (lists : List (List Row)) (last_level : Bool) (handed : List Row) (old new : MergeState) (coming : List (List Row))
      → IsAlong lists last_level handed old coming → Steps End coming old new → IsMergeOf (rows_of lists) last_level handed
