-- How a merge takes its rows: one at a time, always one of the least key of all.
use Rattle.std.specs.Prelude.{◌≡◌, ℕ, zero, suc, ◌+◌, ◌<◌, Bool, true, false, List, [], ◌∷◌, length, slice_index_or, slice_set, if◌then◌else◌, Option, Some, None, Result, Ok, Err}
use Rattle.std.specs.Option.{option_map}
use Rattle.std.specs.Borrow.{Bor}
use Rattle.keel_base.specs.declared.row.Row.{Row}
use Rattle.keel_base.specs.Keys.{key_eq, key_lt, key_le}
use Rattle.keel_merge.specs.declared.next.Next.{Next}
use Rattle.keel_merge.specs.declared.next.Next.TheVariants.{Merged, Refill, End}
use Rattle.keel_merge.specs.declared.look.Wanting.{Wanting as WantingList}
use Rattle.keel_merge.specs.Merging.{rows_of, staying}
use Rattle.keel_merge.specs.Placing.{newer_of}
use Rattle.keel_merge.specs.Feeding.{Waiting, MergeState, to_come, IsWanting}

abbrev pub first_row : List Row → Option Row
first_row [] = None
first_row (row ∷ rows) = Some row

abbrev pub seen : Option (ℕ × Bor Row) → Option (ℕ × Row)
seen found = option_map (λ f. (f.0, f.1.now)) found

-- the place and the row, or those that were found before where their key isn't greater
abbrev pub lesser : ℕ → Option Row → Option (ℕ × Row) → Option (ℕ × Row)
lesser at None found = found
lesser at (Some row) None = Some (at, row)
lesser at (Some row) (Some found) = if key_lt row.key found.1.key then Some (at, row) else Some found

-- there is a first row, or no more may come
abbrev pub IsReady : Option Row → Bool → Type 0
IsReady None more = more ≡ false
IsReady (Some row) more = Unit {0}

-- the less of what was found and the first row of a list, or the list has to be refilled
abbrev pub Weighs : ℕ → Waiting → Option (ℕ × Row) → Result (Option (ℕ × Bor Row)) WantingList → Type 0
Weighs at list found (Ok best) = IsReady (first_row list.rows) list.more × (seen best ≡ lesser at (first_row list.rows) found)
Weighs at list found (Err w) = (first_row list.rows ≡ None) × (list.more ≡ true) × (w.list ≡ at)

-- the first row stands so behind the key, or no row waits and none comes
abbrev pub IsOver : (List ℕ → List ℕ → Bool) → List ℕ → Option Row → Bool → Type 0
IsOver before key None more = more ≡ false
IsOver before key (Some row) more = before key row.key ≡ true

abbrev pub AreOver : (List ℕ → List ℕ → Bool) → List ℕ → List Waiting → Type 0
AreOver before key [] = Unit {0}
AreOver before key (list ∷ lists) = IsOver before key (first_row list.rows) list.more × AreOver before key lists

-- the row stands first at that place, and is the first of the first rows that have the least key
abbrev pub StandsLeast : List Waiting → ℕ → Row → Type 0
StandsLeast [] at row = ⊥
StandsLeast (list ∷ lists) zero row = (first_row list.rows ≡ Some row) × AreOver key_le row.key lists
StandsLeast (list ∷ lists) (suc at) row = IsOver key_lt row.key (first_row list.rows) list.more × StandsLeast lists at row

-- no row waits, and none comes
abbrev pub HaveEnded : List Waiting → Type 0
HaveEnded [] = Unit {0}
HaveEnded (list ∷ lists) = ((first_row list.rows ≡ None) × (list.more ≡ false)) × HaveEnded lists

abbrev pub AreSeen : List Waiting → Option (ℕ × Row) → Type 0
AreSeen lists None = HaveEnded lists
AreSeen lists (Some found) = StandsLeast lists found.0 found.1

-- where the least first row stands, whether none is left, or which list has to be refilled
abbrev pub Looks : List Waiting → Result (Option ℕ) WantingList → Type 0
Looks lists (Ok None) = HaveEnded lists
Looks lists (Ok (Some at)) = (row : Row) × StandsLeast lists at row
Looks lists (Err w) = IsWanting lists w.list

-- the least first row was taken off its list
pub record IsTaken (old new : List Waiting) (row : Row) : Type 0 where
  pub at : ℕ
  pub before : Waiting
  pub after : Waiting
  pub within : at < length old
  pub stood : before ≡ slice_index_or old at before
  pub least : Row
  pub stands : StandsLeast old at least
  pub rows : before.rows ≡ row ∷ after.rows
  pub more : after.more ≡ before.more
  pub new_is : new ≡ slice_set old at after

abbrev pub Takes : MergeState → MergeState → Result (Option Row) WantingList → Type 0
Takes old new (Ok None) = (new ≡ old) × HaveEnded old.lists
Takes old new (Ok (Some row)) = (new ≡ record old { lists = new.lists }) × IsTaken old.lists new.lists row
Takes old new (Err w) = (new ≡ old) × IsWanting old.lists w.list

-- how many rows wait
abbrev pub count_of : List Waiting → ℕ
count_of [] = 0
count_of (list ∷ lists) = length list.rows + count_of lists

-- the row that is held behind another one
abbrev pub held_after : Option Row → Row → Option Row
held_after None row = Some row
held_after (Some held) row = if key_eq held.key row.key then Some (newer_of held row) else Some row

-- what is handed out then
abbrev pub given : Bool → Option Row → Row → Option Row
given last_level None row = None
given last_level (Some held) row = if key_eq held.key row.key then None else staying last_level (Some held)

-- what is answered where no list has a row
abbrev pub last_of : Option Row → Next
last_of None = End
last_of (Some row) = Merged row

-- the next row was handed out; or a list has to be refilled; or all has been fed and handed out
abbrev pub Steps : Next → List (List Row) → MergeState → MergeState → Type 0
Steps (Merged row) coming old new = to_come old coming ≡ row ∷ to_come new coming
Steps (Refill list) coming old new = to_come old coming ≡ to_come new coming
Steps End coming old new = (to_come old coming ≡ []) × (to_come new coming ≡ []) × (rows_of coming ≡ [])

abbrev pub IsAsked : Next → MergeState → Type 0
IsAsked (Merged row) new = Unit {0}
IsAsked (Refill list) new = IsWanting new.lists list
IsAsked End new = Unit {0}
