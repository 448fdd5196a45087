-- How a write of one op is carried out by calls of the machine.
use Rattle.std.specs.Prelude.{◌≡◌, ◌⊎◌, ℕ, Bool, Option, None, Some, List, [], ◌∷◌}
use Rattle.keel_base.specs.declared.op.Batch.{Batch}
use Rattle.keel_base.specs.declared.op.Op.TheVariants as op
use Rattle.keel_machine.specs.declared.answers.Admit.{Admit}
use Rattle.keel_machine.specs.declared.answers.Admit.TheVariants as admit
use Rattle.keel_machine.specs.declared.answers.Part.TheVariants as part
use Rattle.keel_machine.specs.declared.answers.Outcome.{Outcome}
use Rattle.keel_machine.specs.declared.answers.Outcome.TheVariants as outcome
use Rattle.keel_machine.specs.declared.steps.WriteStep.{WriteStep}
use Rattle.keel_machine.specs.declared.steps.WriteStep.TheVariants as step
use Rattle.keel_machine.specs.States.{State}
use Rattle.keel_machine.specs.Turns.{Turn, Admitting, TakingOutcome}
use Rattle.keel_script.specs.declared.reply.Reply.{Reply}
use Rattle.keel_script.specs.declared.reply.Reply.TheVariants as reply
use Rattle.keel_cli.specs.declared.putting.Admitted.{Admitted}
use Rattle.keel_cli.specs.declared.putting.Admitted.TheVariants as admitted
use Rattle.keel_cli.specs.Jobs.{Driven, driven, PlainTurn, WriteTurn}

-- the batch of one put
abbrev pub put_batch : List ℕ → List ℕ → Bool → Batch
put_batch key value sync = record { ops = op.Put key value ∷ []; sync = sync }

-- the batch of one delete
abbrev pub del_batch : List ℕ → Bool → Batch
del_batch key sync = record { ops = op.Del key ∷ []; sync = sync }

-- The reply that prints a refusal. A queued batch has none yet, want of memory has none, and no count or weight of one op
-- is refused.
abbrev pub refusal_replies : Admit → Option (List Reply)
refusal_replies (admit.Queued ticket) = None
refusal_replies (admit.BadSize part.Key size) = Some (reply.BadSizeKey size ∷ [])
refusal_replies (admit.BadSize part.Value size) = Some (reply.BadSizeValue size ∷ [])
refusal_replies (admit.BadSize part.Batch size) = None
refusal_replies admit.Closing = Some (reply.NotOpen ∷ [])
refusal_replies admit.Booting = Some (reply.Booting ∷ [])
refusal_replies (admit.Stopped failure) = Some (reply.Stopped failure ∷ [])
refusal_replies (admit.Spent counter) = Some (reply.Spent counter ∷ [])
refusal_replies (admit.Full active immutables) = Some (reply.Full active immutables ∷ [])
refusal_replies (admit.QueueFull waiting) = Some (reply.QueueFull waiting ∷ [])
refusal_replies admit.OutOfMemory = None

-- the ticket of a queued batch, or the reply that prints its refusal
abbrev pub Tells : Admit → Admitted → Type 0
Tells answer (admitted.Queued ticket) = answer ≡ admit.Queued ticket
Tells answer (admitted.Refused reply) = refusal_replies answer ≡ Some (reply ∷ [])

-- the reply that prints an outcome; a store that is closed answers no put
abbrev pub outcome_replies : Outcome → Option (List Reply)
outcome_replies outcome.Waiting = None
outcome_replies (outcome.Done seq) = Some (reply.PutOk seq ∷ [])
outcome_replies (outcome.Failed failure) = Some (reply.Failed failure ∷ [])
outcome_replies (outcome.Turned failure) = Some (reply.Stopped failure ∷ [])
outcome_replies outcome.Closed = None
outcome_replies outcome.Unknown = None

-- Write steps were made from one state to another, and before each the ticket waited. The last of them comes first.
abbrev pub Waits : Driven → ℕ → List WriteStep → Driven → Type 0
Waits old ticket [] new = new ≡ old
Waits old ticket (made ∷ earlier) new =
    (mid : Driven) × (same : State) × Waits old ticket earlier mid × Turn mid.state (TakingOutcome ticket outcome.Waiting) same × WriteTurn (driven same mid.jobs) made new

-- the batch is queued under this ticket, and these write steps are made while it waits
pub record Queues (old : Driven) (batch : Batch) (ticket : ℕ) (steps : List WriteStep) (new : Driven) : Type 0 where
  pub mid : State
  pub queued : Turn old.state (Admitting batch (admit.Queued ticket)) mid
  pub waits : Waits (driven mid old.jobs) ticket steps new

-- the batch isn't queued
pub record PutRefused (old : Driven) (batch : Batch) (replies : List Reply) (new : Driven) : Type 0 where
  pub answer : Admit
  pub turn : PlainTurn old (Admitting batch answer) new
  pub prints : refusal_replies answer ≡ Some replies

-- write steps are made until the batch has an outcome, which is taken
pub record PutSettled (old : Driven) (batch : Batch) (replies : List Reply) (new : Driven) : Type 0 where
  pub ticket : ℕ
  pub steps : List WriteStep
  pub last : Driven
  pub queues : Queues old batch ticket steps last
  pub outcome : Outcome
  pub taken : PlainTurn last (TakingOutcome ticket outcome) new
  pub prints : outcome_replies outcome ≡ Some replies

-- the writer has no way to go on: a counter is at its end, or the store is full
abbrev pub IsStuck : WriteStep → Type 0
IsStuck (step.Spent counter) = Unit {0}
IsStuck (step.Full active immutables) = Unit {0}
IsStuck _ = ⊥

-- the last write step has no way to go on, and the batch still waits
pub record PutWaits (old : Driven) (batch : Batch) (replies : List Reply) (new : Driven) : Type 0 where
  pub ticket : ℕ
  pub steps : List WriteStep
  pub step : WriteStep
  pub stuck : IsStuck step
  pub queues : Queues old batch ticket (step ∷ steps) new
  pub prints : replies ≡ reply.Waiting ticket ∷ []

-- a put of this batch is answered by these replies
abbrev pub PutRun : Driven → Batch → List Reply → Driven → Type 0
PutRun old batch replies new = PutRefused old batch replies new ⊎ (PutSettled old batch replies new ⊎ PutWaits old batch replies new)

-- memory ended at the admission, or at the last one of the write steps
abbrev pub PutCut : Driven → Batch → Driven → Type 0
PutCut old batch new =
    PlainTurn old (Admitting batch admit.OutOfMemory) new
    ⊎ ((ticket : ℕ) × (steps : List WriteStep) × Queues old batch ticket (step.OutOfMemory ∷ steps) new)

-- the batch waits, under this ticket, and no write step is made
pub record IsQueued (old : Driven) (batch : Batch) (replies : List Reply) (new : Driven) : Type 0 where
  pub ticket : ℕ
  pub turn : PlainTurn old (Admitting batch (admit.Queued ticket)) new
  pub prints : replies ≡ reply.Queued ticket ∷ []

-- a batch that is to be queued alone is answered by these replies
abbrev pub QueueRun : Driven → Batch → List Reply → Driven → Type 0
QueueRun old batch replies new = PutRefused old batch replies new ⊎ IsQueued old batch replies new

-- memory ended at its admission
abbrev pub QueueCut : Driven → Batch → Driven → Type 0
QueueCut old batch new = PlainTurn old (Admitting batch admit.OutOfMemory) new
