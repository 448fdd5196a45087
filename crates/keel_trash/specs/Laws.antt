-- Laws of the deletion of trash.
use Rattle.std.specs.Prelude.{◌≡◌, ℕ, ◌-◌, ◌^◌, ◌<◌, min, Option}
use Rattle.keel_trash.specs.Formulas.{next_tick}

-- a count that has come to its end gives the tick that the true one gives
abbrev pub EndIsUnseen : Type 0
EndIsUnseen = (rate taken : ℕ) (start : Option ℕ) → rate < 2 ^ 64 → next_tick rate start (min taken (2 ^ 128 - 1)) ≡ next_tick rate start taken
