-- The tables of a store on their levels.
use Rattle.std.specs.Prelude.{◌≡◌, ℕ, ◌^◌, ◌<◌, Bool, true, not, ◌&&◌, ◌||◌, ◌==◌, List, [], ◌∷◌, length, All, nat_lt, nat_le}
use Rattle.std.specs.List.{list_all}
use Rattle.keel_base.specs.Keys.{key_le}
use Rattle.keel_edit.specs.declared.edit.Added.{Added}
use Rattle.keel_edit.specs.Spelling.{IsNumber, IsAdded}

-- the tables by level, then by number, and the numbers of the last edit
pub record Contents : Type 0 where
  pub tables : List Added
  pub min_log : ℕ
  pub next_file : ℕ
  pub last_seq : ℕ

-- before the first edit
abbrev pub nothing : Contents
nothing = record { tables = []; min_log = 0; next_file = 0; last_seq = 0 }

-- by level, then by number
abbrev pub is_before : Added → Added → Bool
is_before a b = nat_lt a.level b.level || ((a.level == b.level) && nat_lt a.number b.number)

-- neither begins behind the last key of the other
abbrev pub meet : Added → Added → Bool
meet a b = key_le a.least b.greatest && key_le b.least a.greatest

-- two tables that can't stand together: of one number, or on one of the levels 1 to 3 with ranges that meet
abbrev pub clash : Added → Added → Bool
clash a b = (a.number == b.number) || ((a.level == b.level) && (nat_lt 0 a.level && meet a b))

-- the first comes before the second, and they can stand together
abbrev pub goes_before : Added → Added → Bool
goes_before a b = is_before a b && not (clash a b)

-- each table comes before all behind it, and can stand with them
abbrev pub are_apart : List Added → Bool
are_apart [] = true
are_apart (table ∷ tables) = list_all (goes_before table) tables && are_apart tables

-- there are four levels
abbrev pub have_levels : List Added → Bool
have_levels tables = list_all (λ table. nat_le table.level 3) tables

-- the tables are in order, no two have one number, ranges on the levels 1 to 3 don't meet, and they can be counted
pub record AreLevels (tables : List Added) : Type 0 where
  pub apart : are_apart tables ≡ true
  pub levels : have_levels tables ≡ true
  pub few : length tables < 2 ^ 32

-- each table is one that an edit may bring, and the numbers are at most 2^56
pub record IsWithin (contents : Contents) : Type 0 where
  pub tables : All IsAdded contents.tables
  pub min_log : IsNumber contents.min_log
  pub next_file : IsNumber contents.next_file
  pub last_seq : IsNumber contents.last_seq
