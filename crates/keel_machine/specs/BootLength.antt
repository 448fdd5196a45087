-- How many steps a boot makes.
use Rattle.std.specs.Prelude.{◌≡◌, ℕ, ◌+◌, ◌<◌, zero, suc, List, [], ◌∷◌, length, Option, None}
use Rattle.keel_base.specs.declared.failure.Call.{Call}
use Rattle.keel_machine.specs.declared.steps.ResumeStep.TheVariants.{Moved, Cleared}
use Rattle.keel_machine.specs.States.{State}
use Rattle.keel_machine.specs.Turns.{Turn, Resuming}
use Rattle.keel_draft.specs.Drafts.{Draft}

-- the calls of a boot that makes these tables: three of each and one for each of its blocks, then ten for a log and a roll
abbrev pub calls_of : List Draft → ℕ
calls_of [] = 10
calls_of (draft ∷ drafts) = 3 + length draft.blocks + calls_of drafts

-- From a state in which no boot runs so many resume steps moved. The last of them comes first.
abbrev pub Moves : State → ℕ → State → Type 0
Moves s zero last = (last ≡ s) × (s.jobs.resume.running ≡ None)
Moves s (suc moves) last =
    (mid : State) × (drafts : List Draft) × (held : Option ℕ) × (job : ℕ) × (call : Call) × Moves s moves mid × Turn mid (Resuming drafts held (Moved job call)) last

-- A boot moves less often than it has calls, and the step that makes the last of them clears it.
pub record BootEnds : Type 0 where
  pub moves :
      (s mid last : State) (before : ℕ) (drafts : List Draft) (held : Option ℕ) (job : ℕ) (call : Call)
      → Moves s before mid → Turn mid (Resuming drafts held (Moved job call)) last → before + 1 < calls_of drafts
  pub clears :
      (s mid last : State) (before : ℕ) (drafts : List Draft) (held : Option ℕ) (job steps : ℕ)
      → Moves s before mid → Turn mid (Resuming drafts held (Cleared job steps)) last → (before + 1 ≡ calls_of drafts) × (steps ≡ calls_of drafts)
