-- How one resume step is carried out and answered.
use Rattle.std.specs.Prelude.{◌≡◌, Option, None, Some, List, [], ◌∷◌}
use Rattle.keel_machine.specs.declared.steps.ResumeStep.{ResumeStep}
use Rattle.keel_machine.specs.declared.steps.ResumeStep.TheVariants as step
use Rattle.keel_draft.specs.Drafts.{Draft}
use Rattle.keel_script.specs.declared.reply.Reply.{Reply}
use Rattle.keel_script.specs.declared.reply.Reply.TheVariants as reply
use Rattle.keel_cli.specs.Jobs.{Driven, ResumeTurn}

-- the reply that prints a step; want of memory has none
abbrev pub boot_replies : ResumeStep → Option (List Reply)
boot_replies step.Idle = Some (reply.Idle ∷ [])
boot_replies (step.Moved job call) = Some (reply.Moved job call ∷ [])
boot_replies (step.Cleared job steps) = Some (reply.JobCleared job steps ∷ [])
boot_replies (step.Failed failure) = Some (reply.Failed failure ∷ [])
boot_replies (step.Spent counter) = Some (reply.Spent counter ∷ [])
boot_replies (step.Cancelled job current) = Some (reply.Cancelled job current ∷ [])
boot_replies step.OutOfMemory = None

-- a step with these replies, of a boot that has these tables before it
pub record BootRun (old : Driven) (replies : List Reply) (new : Driven) : Type 0 where
  pub step : ResumeStep
  pub drafts : List Draft
  pub turn : ResumeTurn old drafts step new
  pub prints : boot_replies step ≡ Some replies

-- memory ended at the step
abbrev pub BootCut : Driven → Driven → Type 0
BootCut old new = (drafts : List Draft) × ResumeTurn old drafts step.OutOfMemory new
