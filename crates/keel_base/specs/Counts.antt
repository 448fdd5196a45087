-- Counts of faults and of calls. They stop at 2^64 - 1.
use Rattle.std.specs.Prelude.{ℕ, ◌+◌, ◌-◌, ◌^◌, ◌≤◌, min, Result, OnErr}

-- the greatest count; there it stands still
abbrev pub last_count : ℕ
last_count = 2 ^ 64 - 1

-- one more, or the greatest
abbrev pub raised : ℕ → ℕ
raised count = min (count + 1) last_count

-- the count rose, or stands at the greatest
abbrev pub Rose : ℕ → ℕ → Type 0
Rose before now = raised before ≤ now

-- the count never falls, and a refusal comes only where it rose
pub record HasCause {T E : Type 0} (before now : ℕ) (result : Result T E) : Type 0 where
  pub never_falls : before ≤ now
  pub refused : OnErr result (Rose before now)
