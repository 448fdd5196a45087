-- What joining the queue and forming a group leave.
use Rattle.std.specs.Prelude.{◌≡◌, ℕ, ◌<◌, ◌≤◌, Bool, List, [], ◌∷◌, ◌++◌, length, take, All, vec_capacity}
use Rattle.std.specs.List.{list_any}
use Rattle.keel_base.specs.declared.op.Batch.{Batch}
use Rattle.keel_base.specs.Weight.{AreAdmissible}
use Rattle.keel_group.specs.declared.formed.TheConstants.{MAX_WAITING}
use Rattle.keel_group.specs.declared.formed.Formed.{Formed}
use Rattle.keel_group.specs.declared.formed.Joined.{Joined}
use Rattle.keel_group.specs.declared.formed.Joined.TheVariants.{Queued, QueueFull, OutOfMemory}
use Rattle.keel_group.specs.Queue.{Ticketed, ticketed, tickets_of, batches_of}
use Rattle.keel_group.specs.Sizes.{group_size}

-- each batch has 1 to 1000 ops, each within its limits
abbrev pub EachIsAdmissible : List Batch → Type 0
EachIsAdmissible batches = All (λ b. AreAdmissible b.ops) batches

-- the batch stands behind those that waited, which were fewer than may wait
pub record IsQueued (ticket : ℕ) (batch : Batch) (old new : List Ticketed) : Type 0 where
  pub room : length old < MAX_WAITING
  pub added : new ≡ old ++ ticketed ticket batch ∷ []

-- as many wait as may, and go on waiting
pub record IsTurnedAway (waiting : ℕ) (old new : List Ticketed) : Type 0 where
  pub full : length old ≡ MAX_WAITING
  pub number : waiting ≡ MAX_WAITING
  pub kept : new ≡ old

-- fewer wait than may, and go on waiting
pub record IsLeftOut (old new : List Ticketed) : Type 0 where
  pub room : length old < MAX_WAITING
  pub kept : new ≡ old

-- what an answer to a batch that joins means
abbrev pub Joins : Joined → ℕ → Batch → List Ticketed → List Ticketed → Type 0
Joins Queued ticket batch old new = IsQueued ticket batch old new
Joins (QueueFull waiting) ticket batch old new = IsTurnedAway waiting old new
Joins OutOfMemory ticket batch old new = IsLeftOut old new

-- how many of those that wait form the next group
abbrev pub next_size : List Ticketed → ℕ
next_size queue = group_size (batches_of queue)

-- a batch wants to be acknowledged only once it is firm
abbrev pub wants_sync : List Batch → Bool
wants_sync batches = list_any (λ b. b.sync) batches

abbrev pub next_batches : List Ticketed → List Batch
next_batches queue = take (next_size queue) (batches_of queue)

-- nothing is formed yet, and there is room for so many batches
pub record HasRoomFor (count : ℕ) (formed : Formed) : Type 0 where
  pub no_batches : formed.batches.items ≡ []
  pub no_tickets : formed.tickets.items ≡ []
  pub batches_fit : count ≤ vec_capacity formed.batches
  pub tickets_fit : count ≤ vec_capacity formed.tickets

-- this is the next group of those that wait, in their order
pub record IsFormedOf (queue : List Ticketed) (formed : Formed) : Type 0 where
  pub batches : formed.batches.items ≡ next_batches queue
  pub tickets : formed.tickets.items ≡ take (next_size queue) (tickets_of queue)
  pub sync : formed.sync ≡ wants_sync (next_batches queue)
  pub each : EachIsAdmissible formed.batches.items
  pub count : length formed.batches.items ≡ next_size queue
  pub as_many : length formed.tickets.items ≡ next_size queue
  pub few : next_size queue ≤ MAX_WAITING
