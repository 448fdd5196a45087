-- A flush leaves the story as it is, and what the writer has.
use Rattle.std.proofs.Common.{◌≡◌, ◌∙◌, Option, None, Some, List, [], ◌∷◌, refl, subst, sym, ap, true}
use Rattle.keel_base.specs.declared.failure.Failure.{Failure}
use Rattle.keel_draft.specs.Drafts.{Draft}
use Rattle.keel_flush.specs.Plans.{Act, Job, left_of}
use Rattle.keel_machine.specs.declared.steps.JobStep.{JobStep}
use Rattle.keel_machine.specs.declared.steps.JobStep.TheVariants as step
use Rattle.keel_machine.specs.Flushing.{call_done, call_failed, first_done, first_failed, flush_after, flush_done, flush_failed, flush_ready, started_or}
use Rattle.keel_machine.specs.States.{Mode, State, Writing, is_open}
use Rattle.keel_cli.specs.Stores.{AreTold}

pub record IsBeside (s next : State) : Type 0 where
  pub footing : next.footing ≡ s.footing
  pub mode : next.mode ≡ s.mode
  pub story : next.story ≡ s.story
  pub writing : next.writing ≡ s.writing
  pub group : next.jobs.write ≡ s.jobs.write

same : (s : State) → IsBeside s s
same s = record { footing = refl; mode = refl; story = refl; writing = refl; group = refl }

behind : (s middle next : State) → IsBeside s middle → IsBeside middle next → IsBeside s next
behind s middle next first then_ = record {
  footing = then_.footing ∙ first.footing;
  mode = then_.mode ∙ first.mode;
  story = then_.story ∙ first.story;
  writing = then_.writing ∙ first.writing;
  group = then_.group ∙ first.group;
}

ready : (running : Option Job) (draft : Draft) (s : State) → IsBeside s (started_or running draft s)
ready None draft s = record { footing = refl; mode = refl; story = refl; writing = refl; group = refl }
ready (Some job) draft s = same s

done_first : (job : Job) (left : List Act) (s : State) → IsBeside s (first_done job left s)
done_first job [] s = same s
done_first job (act ∷ []) s = record { footing = refl; mode = refl; story = refl; writing = refl; group = refl }
done_first job (act ∷ next ∷ later) s = record { footing = refl; mode = refl; story = refl; writing = refl; group = refl }

done_by : (running : Option Job) (s : State) → IsBeside s (flush_done running s)
done_by None s = same s
done_by (Some job) s = done_first job (left_of job) s

failed_first : (job : Job) (left : List Act) (failure : Failure) (s : State) → IsBeside s (first_failed job left failure s)
failed_first job [] failure s = same s
failed_first job (act ∷ later) failure s = record { footing = refl; mode = refl; story = refl; writing = refl; group = refl }

failed_by : (running : Option Job) (failure : Failure) (s : State) → IsBeside s (flush_failed running failure s)
failed_by None failure s = same s
failed_by (Some job) failure s = failed_first job (left_of job) failure s

called : (draft : Draft) (s : State) → IsBeside s (call_done draft s)
called draft s =
    let at = flush_ready draft s in
    behind s at (call_done draft s) (ready s.jobs.flush.running draft s) (done_by at.jobs.flush.running at)

pub beside : (s : State) (draft : Draft) (made : JobStep) → IsBeside s (flush_after s draft made)
beside s draft (step.Moved job call) = called draft s
beside s draft (step.Done job) = called draft s
beside s draft (step.Failed failure) =
    let at = flush_ready draft s in
    behind s at (call_failed draft failure s) (ready s.jobs.flush.running draft s) (failed_by at.jobs.flush.running failure at)
beside s draft step.Idle = same s
beside s draft (step.Spent counter) = same s
beside s draft (step.Cancelled job current) = same s
beside s draft step.OutOfMemory = same s

-- a store that is open stays so
pub open_flushed : (s : State) (draft : Draft) (made : JobStep) → is_open s.mode.phase ≡ true → is_open (flush_after s draft made).mode.phase ≡ true
open_flushed s draft made opened = ap (λ (m : Mode). is_open m.phase) (beside s draft made).mode ∙ opened

pub told_flushed : (s : State) (draft : Draft) (made : JobStep) → AreTold s.writing.outcomes → AreTold (flush_after s draft made).writing.outcomes
told_flushed s draft made told = subst (λ (w : Writing). AreTold w.outcomes) (sym (beside s draft made).writing) told
