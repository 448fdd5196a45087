-- A story and a device worked out.
use Rattle.std.specs.Prelude.{◌≡◌, ◌⊎◌, ℕ, List, [], ◌∷◌}
use Rattle.std.specs.FinMap.{insert, empty}
use Rattle.keel_base.specs.Points.{Point, origin}
use Rattle.keel_base.specs.declared.op.Op.{Op}
use Rattle.keel_base.specs.declared.op.Op.TheVariants.{Put}
use Rattle.keel_disk.specs.State.{State}
use Rattle.keel_machine.specs.States.{Story}
use Rattle.keel_recovery.specs.Machine.{IsFirst}
use Rattle.keel_recovery.specs.Standing.{InPrefixes}

-- the put of one byte to one byte
abbrev pub put_byte : ℕ → ℕ → List Op
put_byte key value = Put (key ∷ []) (value ∷ []) ∷ []

-- a synced put is published, and one without a sync is in limbo
abbrev pub two_puts : Story
two_puts = record { start = origin; log = put_byte 97 49 ∷ []; limbo = put_byte 98 50 ∷ []; floor = 1 }

abbrev pub behind_one : Point
behind_one = record { values = insert empty (97 ∷ []) (49 ∷ []); seq = 1 }

abbrev pub behind_both : Point
behind_both = record { values = insert (insert empty (97 ∷ []) (49 ∷ [])) (98 ∷ []) (50 ∷ []); seq = 2 }

-- a crash leaves the first of them or both
abbrev pub TwoPuts : Type 0
TwoPuts = (point : Point) → InPrefixes two_puts two_puts.floor point → (point ≡ behind_one) ⊎ (point ≡ behind_both)

-- a device without a file
abbrev pub empty_device : State
empty_device = record { files = []; firm = []; waiting = [] }

-- a store can begin on it
abbrev pub EmptyIsFirst : Type 0
EmptyIsFirst = IsFirst empty_device
