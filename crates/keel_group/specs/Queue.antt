-- The batches that wait, first come first.
use Rattle.std.specs.Prelude.{ℕ, List, [], ◌∷◌, length, map, sum_by, Option, Some, None}
use Rattle.keel_base.specs.declared.op.Batch.{Batch}

-- a batch that waits, under its ticket
pub record Ticketed : Type 0 where
  pub ticket : ℕ
  pub batch : Batch

abbrev pub ticketed : ℕ → Batch → Ticketed
ticketed ticket batch = record { ticket = ticket; batch = batch }

-- each batch under the ticket of its index
abbrev pub zipped : List ℕ → List Batch → List Ticketed
zipped [] batches = []
zipped (ticket ∷ tickets) [] = []
zipped (ticket ∷ tickets) (batch ∷ batches) = ticketed ticket batch ∷ zipped tickets batches

abbrev pub tickets_of : List Ticketed → List ℕ
tickets_of queue = map (λ t. t.ticket) queue

abbrev pub batches_of : List Ticketed → List Batch
batches_of queue = map (λ t. t.batch) queue

-- the ticket of the batch that came first
abbrev pub first_ticket : List Ticketed → Option ℕ
first_ticket [] = None
first_ticket (t ∷ queue) = Some t.ticket

-- how many ops the batches have together
abbrev pub ops_count : List Batch → ℕ
ops_count batches = sum_by (λ b. length b.ops) batches
