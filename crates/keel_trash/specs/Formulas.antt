-- When files are deleted at once, and when deletion waits, after RocksDB's DeleteScheduler.
use Rattle.std.specs.Prelude.{ℕ, ◌+◌, ◌-◌, ◌*◌, ◌^◌, ◌==◌, ◌||◌, nat_lt, min, Bool, if◌then◌else◌, Option, Some, None}
use Rattle.std.specs.Int.{div_ceil}

-- a table is removed at once: deletion isn't slowed, or trash is over its share of the total, in thousandths
abbrev pub is_immediate : ℕ → ℕ → ℕ → ℕ → Bool
is_immediate rate ratio total trash = rate == 0 || nat_lt (total * ratio) (trash * 1000)

-- The tick from which on the next trash entry may be cut or removed. `start` is the tick of the first one since the
-- trash queue was last empty, and `taken` the bytes that went since. Ticks end at 2^64 - 1; 0 is no wait.
abbrev pub next_tick : ℕ → Option ℕ → ℕ → ℕ
next_tick rate None taken = 0
next_tick rate (Some start) taken = if rate == 0 then 0 else min (start + div_ceil (taken * 1000) rate) (2 ^ 64 - 1)
