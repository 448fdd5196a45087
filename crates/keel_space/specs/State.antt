-- What contracts see of the space of a store.
use Rattle.std.specs.Prelude.{◌≡◌, ℕ, ◌+◌, ◌^◌, ◌<◌, zero, suc, All, List, [], Option, None, unwrap_or}
use Rattle.keel_base.specs.declared.listing.Entry.{Entry}
use Rattle.keel_space.specs.Tracked.{AreDistinct, total_of, trash_of}

-- the tracked files in the order of their tracking, and what runs and is set
pub record SpaceState : Type 0 where
  pub tracked : List Entry
  -- the inputs of the compaction in slot 0, while it runs
  pub first : Option ℕ
  -- and of that in slot 1
  pub second : Option ℕ
  pub limit : ℕ
  pub buffer : ℕ
  -- for how many names more there is memory
  pub spare : ℕ

-- nothing is tracked or reserved
abbrev pub empty : ℕ → ℕ → SpaceState
empty limit buffer = record { tracked = []; first = None; second = None; limit = limit; buffer = buffer; spare = 0 }

-- what a slot has reserved; slots are 0 and 1
abbrev pub reservation : ℕ → SpaceState → Option ℕ
reservation zero space = space.first
reservation (suc _) space = space.second

-- a slot has this reservation, or none
abbrev pub with_reservation : ℕ → Option ℕ → SpaceState → SpaceState
with_reservation zero inputs space = record space { first = inputs }
with_reservation (suc _) inputs space = record space { second = inputs }

-- the bytes of the inputs of the running compactions
abbrev pub reserved_of : SpaceState → ℕ
reserved_of space = unwrap_or space.first 0 + unwrap_or space.second 0

-- sizes are of 64 bits
abbrev pub AreSizes : List Entry → Type 0
AreSizes tracked = All (λ file. file.size < 2 ^ 64) tracked

-- running totals equal the sums, and each name stands once
pub record AreSums (tracked : List Entry) (total trash : ℕ) : Type 0 where
  pub distinct : AreDistinct tracked
  pub sizes : AreSizes tracked
  pub total_is : total ≡ total_of tracked
  pub trash_is : trash ≡ trash_of tracked

-- reservations are below 2^127, so that their sum fits 128 bits
pub record IsLight (inputs : Option ℕ) : Type 0 where
  pub below : unwrap_or inputs 0 < 2 ^ 127
