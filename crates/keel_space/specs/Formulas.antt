-- The tests of the space limit, after RocksDB's SstFileManager.
use Rattle.std.specs.Prelude.{ℕ, ◌+◌, ◌==◌, ◌||◌, ◌&&◌, not, nat_le, Bool}

-- there is a limit, and the tracked bytes are at least it
abbrev pub is_reached : ℕ → ℕ → Bool
is_reached limit tracked = not (limit == 0) && nat_le limit tracked

-- there is no limit, or what is reserved, the inputs, the buffer and the tracked bytes are within it
abbrev pub has_room : ℕ → ℕ → ℕ → ℕ → ℕ → Bool
has_room limit buffer reserved tracked inputs = limit == 0 || nat_le (reserved + inputs + buffer + tracked) limit
