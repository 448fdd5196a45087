-- The budget of bytes, and what calls do to it.
use Rattle.std.specs.Prelude.{◌≡◌, ◌⊎◌, ℕ, ◌+◌, ◌-◌, ◌<◌, ◌≤◌, Some, None, Result, Ok, Err, IfSome, option_map}
use Rattle.keel_base.specs.declared.failure.Fault.TheVariants.{Plain, NoSpace}
use Rattle.keel_disk.specs.declared.error.DiskError.{DiskError}
use Rattle.keel_disk.specs.declared.error.DiskError.TheVariants as error
use Rattle.keel_dirdisk.specs.declared.budget.Budget.{Budget}

-- the same limit, with nothing counted
abbrev pub uncounted : Budget → Budget
uncounted budget = record { limit = budget.limit; counted = None }

-- the same limit, with so many bytes counted
abbrev pub counting : ℕ → Budget → Budget
counting bytes budget = record { limit = budget.limit; counted = Some bytes }

-- the same limit, with so many bytes fewer where they are counted
abbrev pub freeing : ℕ → Budget → Budget
freeing freed budget = record { limit = budget.limit; counted = option_map (λ had. had - freed) budget.counted }

-- so many bytes were counted already, or nothing was
abbrev pub IsCount : Budget → ℕ → Type 0
IsCount before bytes = IfSome before.counted (λ counted. counted ≡ bytes)

-- the same limit, and a count that is still there is the same
pub record Keeps (before after : Budget) : Type 0 where
  pub limit_same : after.limit ≡ before.limit
  pub count_same : IfSome after.counted (IsCount before)

-- so many bytes more would pass the limit, and nothing is spent
pub record Passes (added : ℕ) (before after : Budget) : Type 0 where
  pub had : ℕ
  pub is_count : IsCount before had
  pub passed : before.limit < had + added
  pub unspent : after ≡ counting had before

-- What an append of so many bytes answers by what is counted, and what is counted behind it. Ok comes where the limit
-- isn't passed, and `NoSpace` where it would be, or else where the host failed.
abbrev pub Spends : {T : Type 0} → ℕ → Budget → Result T DiskError → Budget → Type 0
Spends added before (Ok value) after = (had : ℕ) × IsCount before had × (had + added ≤ before.limit) × (after ≡ counting (had + added) before)
Spends added before (Err (error.Fault NoSpace)) after = Passes added before after ⊎ Keeps before after
Spends added before (Err (error.Fault Plain)) after = Keeps before after
Spends added before (Err error.OutOfMemory) after = Keeps before after
Spends added before (Err (error.Fault _)) after = ⊥

-- the room that is told is what the limit leaves beside the bytes counted
abbrev pub Leaves : Budget → Result ℕ DiskError → Budget → Type 0
Leaves before (Ok room) after = (had : ℕ) × IsCount before had × (room ≡ before.limit - had) × (after ≡ counting had before)
Leaves before (Err why) after = after ≡ before

-- What another change of the files leaves of the count. Behind one that went well the bytes are fewer by those that it
-- took away; what a failure left isn't known.
abbrev pub Frees : {T : Type 0} → Budget → Result T DiskError → Budget → Type 0
Frees before (Ok value) after = (freed : ℕ) × (after ≡ freeing freed before)
Frees before (Err (error.Fault fault)) after = after ≡ uncounted before
Frees before (Err error.OutOfMemory) after = after ≡ before
