-- What contracts see of a region and of an index.
use Rattle.std.specs.Prelude.{ℕ, List, Option}
use Rattle.keel_region.specs.declared.span.IndexEntry.{IndexEntry}
use Rattle.keel_region.specs.declared.pool.Node.{Node}
use Rattle.keel_region.specs.declared.pool.Slot.{Slot}

-- the bytes that are placed, and how many more have room
pub record RegionShown : Type 0 where
  pub bytes : List ℕ
  pub spare : ℕ

-- the entries in their order, how many more have room, the slot of the root, and what each slot holds
pub record IndexShown : Type 0 where
  pub entries : List IndexEntry
  pub spare : ℕ
  pub root : Option Slot
  pub slots : List (Option Node)
