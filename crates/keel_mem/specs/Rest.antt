-- The entries that are still to come.
use Rattle.std.specs.Prelude.{◌≡◌, ℕ, ◌-◌, ◌≤◌, List, length, drop, slice_get, Option}
use Rattle.keel_region.specs.declared.span.IndexEntry.{IndexEntry}
use Rattle.keel_region.specs.Order.{AreInOrder}
use Rattle.keel_region.specs.Spans.{AreHeld}

-- so many at the end
abbrev pub rest_of : List IndexEntry → ℕ → List IndexEntry
rest_of entries left = drop (length entries - left) entries

-- the next entry is the first of them, and all stand in order over the bytes
pub record IsRest (bytes : List ℕ) (entries : List IndexEntry) (next : Option IndexEntry) (left : ℕ) : Type 0 where
  pub held : AreHeld bytes entries
  pub order : AreInOrder bytes entries
  pub within : left ≤ length entries
  pub next_is : next ≡ slice_get entries (length entries - left)
