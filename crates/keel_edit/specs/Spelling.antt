-- Which edits there are, and the one spelling of each.
use Rattle.keel_base.specs.declared.limits.TheConstants.{LAST_NUMBER}
use Rattle.std.specs.Prelude.{◌≡◌, ℕ, ◌^◌, ◌<◌, ◌≤◌, true, List, ◌∷◌, ◌++◌, length}
use Rattle.std.specs.List.{flat_map, AllByRecursion}
use Rattle.std.specs.Int.{w32, w64, to_le_bytes}
use Rattle.keel_base.specs.Keys.{key_le}
use Rattle.keel_base.specs.Name.{IsFileNumber}
use Rattle.keel_base.specs.Weight.{IsKey}
use Rattle.keel_edit.specs.declared.edit.Added.{Added}
use Rattle.keel_edit.specs.declared.edit.Removed.{Removed}
use Rattle.keel_edit.specs.declared.edit.Edit.{Edit}

-- a number in eight bytes
unfoldable pub number : ℕ → List ℕ
number n = to_le_bytes w64 n

-- a count or a length in four bytes
unfoldable pub count : ℕ → List ℕ
count n = to_le_bytes w32 n

-- a length, and that many bytes
abbrev pub sized : List ℕ → List ℕ
sized bytes = count (length bytes) ++ bytes

-- a table that goes: its level and number
abbrev pub removed_bytes : Removed → List ℕ
removed_bytes r = r.level ∷ number r.number

-- the numbers of a table that comes
abbrev pub numbers_bytes : Added → List ℕ
numbers_bytes a =
    a.level ∷ (number a.number ++ (number a.size ++ (number a.rows ++ (number a.first ++ number a.last))))

-- a table that comes: its numbers, and its least and greatest key
abbrev pub added_bytes : Added → List ℕ
added_bytes a = numbers_bytes a ++ (sized a.least ++ sized a.greatest)

-- the format, three numbers, the tables that go, the tables that come
unfoldable pub spelling : Edit → List ℕ
spelling e =
    1 ∷ (number e.min_log ++ (number e.next_file ++ (number e.last_seq
    ++ ((count (length e.removed) ++ flat_map removed_bytes e.removed)
    ++ (count (length e.added) ++ flat_map added_bytes e.added)))))

-- sizes, counts and sequence numbers go to 2^56, as file numbers do
abbrev pub IsNumber : ℕ → Type 0
IsNumber n = n ≤ LAST_NUMBER

-- there are four levels
abbrev pub IsLevel : ℕ → Type 0
IsLevel n = n ≤ 3

-- what may go: a file on a level
abbrev pub IsRemoved : Removed → Type 0
IsRemoved r = IsLevel r.level × IsFileNumber r.number

-- what may come: a file on a level, with keys of which the least isn't over the greatest
pub record IsAdded (a : Added) : Type 0 where
  pub level : IsLevel a.level
  pub number : IsFileNumber a.number
  pub size : IsNumber a.size
  pub rows : IsNumber a.rows
  pub first : IsNumber a.first
  pub last : IsNumber a.last
  pub least : IsKey a.least
  pub greatest : IsKey a.greatest
  pub in_order : key_le a.least a.greatest ≡ true

-- what a manifest may hold; only the next file's number must be one already
pub record IsEdit (e : Edit) : Type 0 where
  pub min_log : IsNumber e.min_log
  pub next_file : IsFileNumber e.next_file
  pub last_seq : IsNumber e.last_seq
  pub few_removed : length e.removed < 2 ^ 32
  pub removed : AllByRecursion IsRemoved e.removed
  pub few_added : length e.added < 2 ^ 32
  pub added : AllByRecursion IsAdded e.added
