-- How one flush step is carried out and answered.
use Rattle.std.specs.Prelude.{◌≡◌, Option, None, Some, List, [], ◌∷◌}
use Rattle.keel_machine.specs.declared.steps.JobStep.{JobStep}
use Rattle.keel_machine.specs.declared.steps.JobStep.TheVariants as step
use Rattle.keel_draft.specs.Drafts.{Draft}
use Rattle.keel_script.specs.declared.reply.Reply.{Reply}
use Rattle.keel_script.specs.declared.reply.Reply.TheVariants as reply
use Rattle.keel_cli.specs.Jobs.{Driven, FlushTurn}

-- the reply that prints a step; want of memory has none
abbrev pub flush_replies : JobStep → Option (List Reply)
flush_replies step.Idle = Some (reply.Idle ∷ [])
flush_replies (step.Moved job call) = Some (reply.Moved job call ∷ [])
flush_replies (step.Done job) = Some (reply.JobDone job ∷ [])
flush_replies (step.Failed failure) = Some (reply.Failed failure ∷ [])
flush_replies (step.Spent counter) = Some (reply.Spent counter ∷ [])
flush_replies (step.Cancelled job current) = Some (reply.Cancelled job current ∷ [])
flush_replies step.OutOfMemory = None

-- a step with these replies, of a flush that makes this table
pub record FlushRun (old : Driven) (replies : List Reply) (new : Driven) : Type 0 where
  pub step : JobStep
  pub draft : Draft
  pub turn : FlushTurn old draft step new
  pub prints : flush_replies step ≡ Some replies

-- memory ended at the step
abbrev pub FlushCut : Driven → Driven → Type 0
FlushCut old new = (draft : Draft) × FlushTurn old draft step.OutOfMemory new
