-- The room that batches need in a memtable.
use Rattle.std.specs.Prelude.{◌≡◌, ℕ, ◌+◌, ◌≤◌, ◌^◌, List, [], ◌∷◌, length}
use Rattle.std.specs.List.{AllByRecursion}
use Rattle.keel_base.specs.Weight.{IsWithinLimits}
use Rattle.keel_base.specs.declared.op.Batch.{Batch}
use Rattle.keel_base.specs.declared.op.Op.{Op}
use Rattle.keel_machine.specs.Admission.{ops_of}
use Rattle.keel_mem.specs.Needs.{bytes_of}
use Rattle.keel_mem.specs.Shown.{MemShown}
use Rattle.keel_draft.specs.Drafts.{batch_rows, count_ops}

-- the bytes of all keys and values
abbrev pub bytes_needed : List (List Op) → ℕ
bytes_needed [] = 0
bytes_needed (ops ∷ batches) = bytes_of ops + bytes_needed batches

-- there is room for these batches more, and the rows are as before
pub record HasRoomFor (batches : List Batch) (old new : MemShown) : Type 0 where
  pub rows : new.rows ≡ old.rows
  pub bytes : new.bytes ≡ old.bytes + bytes_needed (ops_of batches)
  pub entries : new.entries ≡ old.entries + count_ops (ops_of batches)

-- a log may hold a batch of these ops behind that number
pub record MayBePlaced (last : ℕ) (ops : List Op) : Type 0 where
  pub some : 1 ≤ length ops
  pub few : length ops ≤ 1000
  pub each : AllByRecursion IsWithinLimits ops
  pub within : last + length ops ≤ 2 ^ 56

-- the rows are those of batches that are numbered behind that number
pub record IsOfBatches (seq : ℕ) (batches : List (List Op)) (mem : MemShown) : Type 0 where
  pub rows : mem.rows ≡ batch_rows (seq + 1) batches
