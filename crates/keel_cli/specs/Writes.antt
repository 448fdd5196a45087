-- How one write step is carried out and answered.
use Rattle.std.specs.Prelude.{◌≡◌, Option, None, Some, List, [], ◌∷◌}
use Rattle.keel_machine.specs.declared.steps.WriteStep.{WriteStep}
use Rattle.keel_machine.specs.declared.steps.WriteStep.TheVariants as step
use Rattle.keel_script.specs.declared.reply.Reply.{Reply}
use Rattle.keel_script.specs.declared.reply.Reply.TheVariants as reply
use Rattle.keel_cli.specs.Jobs.{Driven, WriteTurn}

-- the reply that prints a step; want of memory has none
abbrev pub step_replies : WriteStep → Option (List Reply)
step_replies step.Idle = Some (reply.Idle ∷ [])
step_replies (step.Moved job call) = Some (reply.Moved job call ∷ [])
step_replies (step.Done job seq batches) = Some (reply.WriteDone job seq batches ∷ [])
step_replies (step.Failed failure) = Some (reply.Failed failure ∷ [])
step_replies (step.Turned batches failure) = Some (reply.Turned batches failure ∷ [])
step_replies (step.Full active immutables) = Some (reply.Full active immutables ∷ [])
step_replies (step.Spent counter) = Some (reply.Spent counter ∷ [])
step_replies (step.Cancelled job current) = Some (reply.Cancelled job current ∷ [])
step_replies step.OutOfMemory = None

-- a step with these replies
pub record WriteRun (old : Driven) (replies : List Reply) (new : Driven) : Type 0 where
  pub step : WriteStep
  pub turn : WriteTurn old step new
  pub prints : step_replies step ≡ Some replies

-- memory ended at the step
abbrev pub WriteCut : Driven → Driven → Type 0
WriteCut old new = WriteTurn old step.OutOfMemory new
