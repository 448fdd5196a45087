-- What an edit makes of the tables. Its entries are the tables that go and then those that come; each has to fit
-- the tables as the entries before it left them.
use Rattle.std.specs.Prelude.{◌≡◌, ℕ, ◌+◌, ◌≤◌, Bool, ◌&&◌, ◌==◌, List, [], ◌∷◌, length, Option, Some, None, Result, Ok, Err, position, count_by, insert, remove, nat_le, true, false, if◌then◌else◌}
use Rattle.std.specs.List.{list_any, AllByRecursion}
use Rattle.keel_edit.specs.declared.edit.Added.{Added}
use Rattle.keel_edit.specs.declared.edit.Removed.{Removed}
use Rattle.keel_edit.specs.declared.edit.Edit.{Edit}
use Rattle.keel_edit.specs.Spelling.{IsEdit}
use Rattle.keel_version.specs.declared.error.ApplyError.{ApplyError}
use Rattle.keel_version.specs.declared.error.ApplyError.TheVariants as errors
use Rattle.keel_version.specs.Tables.{Contents, is_before, clash}

-- the levels of an edit are 0 to 3
pub record HasLevels (edit : Edit) : Type 0 where
  pub removed : AllByRecursion (λ (r : Removed). r.level ≤ 3) edit.removed
  pub added : AllByRecursion (λ (a : Added). a.level ≤ 3) edit.added

-- an edit that a manifest may hold is one of these
abbrev pub EditsHaveLevels : Type 0
EditsHaveLevels = (edit : Edit) → IsEdit edit → HasLevels edit

-- that number on that level
abbrev pub is_named : Removed → Added → Bool
is_named r table = (table.level == r.level) && (table.number == r.number)

-- the tables but the one at that place, where there is one
abbrev pub without : List Added → Option ℕ → Option (List Added)
without tables None = None
without tables (Some place) = Some (remove tables place)

-- a table that goes has to be on its level
abbrev pub take_off : Removed → List Added → Option (List Added)
take_off r tables = without tables (position (is_named r) tables)

-- a table that comes can stand with all; its place is behind those that come before it
abbrev pub put_on : Added → List Added → Option (List Added)
put_on a tables = if list_any (clash a) tables then None else Some (insert tables (count_by (λ t. is_before t a) tables) a)

-- the next entry, where this one fits
abbrev pub or_entry : Option (List Added) → ℕ → (List Added → Result (List Added) ℕ) → Result (List Added) ℕ
or_entry None entry next = Err entry
or_entry (Some tables) entry next = next tables

-- what entries make of the tables in turn; or the number of the first that doesn't fit, counted from a number on
unfoldable pub each_fits : {E : Type 0} → (E → List Added → Option (List Added)) → ℕ → List E → List Added → Result (List Added) ℕ
each_fits change entry [] tables = Ok tables
each_fits change entry (e ∷ es) tables = or_entry (change e tables) entry (λ after. each_fits change (entry + 1) es after)

-- the tables that come, behind those that go
abbrev pub then_added : Edit → Result (List Added) ℕ → Result (List Added) ℕ
then_added e (Err entry) = Err entry
then_added e (Ok tables) = each_fits put_on (length e.removed) e.added tables

-- no number is less than before
abbrev pub no_less : Edit → Contents → Bool
no_less e v = nat_le v.min_log e.min_log && (nat_le v.next_file e.next_file && nat_le v.last_seq e.last_seq)

-- the edit's numbers; ones that don't fit count as behind all entries
abbrev pub renumbered : Edit → Contents → Result (List Added) ℕ → Result Contents ℕ
renumbered e v (Err entry) = Err entry
renumbered e v (Ok tables) = if no_less e v
    then Ok (record { tables = tables; min_log = e.min_log; next_file = e.next_file; last_seq = e.last_seq })
    else Err (length e.removed + length e.added)

-- the contents behind an edit, or the number of the first entry that doesn't fit
abbrev pub applied : Edit → Contents → Result Contents ℕ
applied e v = renumbered e v (then_added e (each_fits take_off 0 e.removed v.tables))

-- what was answered is this, unless memory ran out
abbrev pub Gives : {A B : Type 0} → (A → B) → Result A ApplyError → Result B ℕ → Type 0
Gives view (Ok found) total = total ≡ Ok (view found)
Gives view (Err (errors.BadEdit entry)) total = total ≡ Err entry
Gives view (Err errors.OutOfMemory) total = Unit {0}

-- a table was put on, or can't stand with the others and nothing changed; and so where memory ran out
abbrev pub Puts : Added → List Added → List Added → Result Bool ApplyError → Type 0
Puts a before after (Ok true) = put_on a before ≡ Some after
Puts a before after (Ok false) = put_on a before ≡ None
Puts a before after (Err (errors.BadEdit entry)) = ⊥
Puts a before after (Err errors.OutOfMemory) = Unit {0}
