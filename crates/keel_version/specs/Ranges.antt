-- The range of tables taken together.
use Rattle.std.specs.Prelude.{◌≡◌, ℕ, true, ◌&&◌, List, Contains}
use Rattle.keel_base.specs.Keys.{key_le}
use Rattle.keel_edit.specs.declared.edit.Added.{Added}
use Rattle.keel_version.specs.Picking.{is_near}

-- it goes from the least of their keys to the greatest
pub record IsRange (tables : List Added) (least greatest : List ℕ) : Type 0 where
  pub first : Added
  pub begins : Contains tables first
  pub least_is : first.least ≡ least
  pub from : (table : Added) → Contains tables table → key_le least table.least ≡ true
  pub last : Added
  pub ends : Contains tables last
  pub greatest_is : last.greatest ≡ greatest
  pub upto : (table : Added) → Contains tables table → key_le table.greatest greatest ≡ true

-- a table is near others exactly where its range meets theirs
abbrev pub NearIsMeeting : Type 0
NearIsMeeting =
    (tables : List Added) (least greatest : List ℕ) (table : Added)
    → IsRange tables least greatest → is_near tables table ≡ (key_le least table.greatest && key_le table.least greatest)
