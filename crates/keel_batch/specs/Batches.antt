-- Batches in order, numbered on behind an op.
use Rattle.std.specs.Prelude.{ℕ, ◌+◌, List, [], ◌∷◌, length}
use Rattle.keel_base.specs.declared.op.Op.{Op}
use Rattle.keel_batch.specs.Spelling.{spelling, IsBatch}

-- what records of them hold
abbrev pub payloads_behind : ℕ → List (List Op) → List (List ℕ)
payloads_behind last [] = []
payloads_behind last (ops ∷ batches) = spelling (last + 1) ops ∷ payloads_behind (last + length ops) batches

-- numbered so, each is within the limits of a batch
abbrev pub AreBatches : ℕ → List (List Op) → Type 0
AreBatches last [] = Unit {0}
AreBatches last (ops ∷ batches) = IsBatch (last + 1) ops × AreBatches (last + length ops) batches
