-- A merge that is fed list by list. What it will hand out depends on the rows that will still come to its lists.
use Rattle.std.specs.Prelude.{◌≡◌, ℕ, ◌<◌, Bool, true, false, List, [], ◌∷◌, ◌++◌, length, Option, Some, None, slice_index_or, replicate}
use Rattle.keel_base.specs.declared.row.Row.{Row}
use Rattle.keel_base.specs.Keys.{key_le}
use Rattle.keel_merge.specs.Order.{IsBeforeAll, AreAscending}
use Rattle.keel_merge.specs.Merging.{rows_of}
use Rattle.keel_merge.specs.Placing.{merged}

-- the rows of a list that wait, and whether more may come behind them
pub record Waiting : Type 0 where
  pub rows : List Row
  pub more : Bool

-- what a merge keeps: its lists, and the newest row so far of the least key
pub record MergeState : Type 0 where
  pub lists : List Waiting
  pub held : Option Row
  pub last_level : Bool

-- no row waits, and more may come
abbrev pub wanting : Waiting
wanting = record { rows = []; more = true }

-- nothing was fed to so many lists
abbrev pub unfed : ℕ → Bool → MergeState
unfed count last_level = record { lists = replicate count wanting; held = None; last_level = last_level }

-- each list with the rows that will still come to it
abbrev pub whole : List Waiting → List (List Row) → List (List Row)
whole [] coming = []
whole (list ∷ lists) [] = list.rows ∷ whole lists []
whole (list ∷ lists) (rows ∷ coming) = (list.rows ++ rows) ∷ whole lists coming

-- they ascend behind those that wait, and there are none where no more may come
pub record IsBehind (list : Waiting) (rows : List Row) : Type 0 where
  pub ascending : AreAscending (list.rows ++ rows)
  pub ended : list.more ≡ false → rows ≡ []

abbrev pub AreBehind : List Waiting → List (List Row) → Type 0
AreBehind [] [] = Unit {0}
AreBehind [] (rows ∷ coming) = ⊥
AreBehind (list ∷ lists) [] = ⊥
AreBehind (list ∷ lists) (rows ∷ coming) = IsBehind list rows × AreBehind lists coming

-- no row has a lesser key than the one that is held
abbrev pub IsUpTo : Option Row → List Row → Type 0
IsUpTo None rows = Unit {0}
IsUpTo (Some row) rows = IsBeforeAll key_le row.key rows

-- these rows may still come to the lists
pub record MayCome (merge : MergeState) (coming : List (List Row)) : Type 0 where
  pub behind : AreBehind merge.lists coming
  pub least : IsUpTo merge.held (rows_of (whole merge.lists coming))

abbrev pub with_held : Option Row → List Row → List Row
with_held None rows = rows
with_held (Some row) rows = row ∷ rows

-- what will be handed out where those rows come
abbrev pub to_come : MergeState → List (List Row) → List Row
to_come merge coming = merged merge.last_level (with_held merge.held (rows_of (whole merge.lists coming)))

-- the list has to be refilled: none of its rows waits, and more may come
pub record IsWanting (lists : List Waiting) (list : ℕ) : Type 0 where
  pub within : list < length lists
  pub wants : slice_index_or lists list wanting ≡ wanting

-- the list was refilled with the next of the rows that come to it, of which these are left
pub record IsNextOf (coming : List (List Row)) (list : ℕ) (rows : List Row) (more : Bool) (behind : List Row) : Type 0 where
  pub splits : slice_index_or coming list [] ≡ rows ++ behind
  pub ended : more ≡ false → behind ≡ []

-- a refill changes nothing of what will be handed out
pub record Feeds (old new : MergeState) (coming left : List (List Row)) : Type 0 where
  pub may_come : MayCome new left
  pub same : to_come new left ≡ to_come old coming
