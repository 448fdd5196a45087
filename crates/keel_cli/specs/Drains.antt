-- How a drain is carried out: rounds of a step of the boot, then one of the writer, then one of the flush.
use Rattle.std.specs.Prelude.{◌≡◌, ◌⊎◌, ℕ, ◌+◌, zero, suc, ◌<◌, ◌≤◌, List, [], ◌∷◌, Option, Some, None}
use Rattle.keel_machine.specs.declared.steps.ResumeStep.{ResumeStep}
use Rattle.keel_machine.specs.declared.steps.ResumeStep.TheVariants as boot_step
use Rattle.keel_machine.specs.declared.steps.WriteStep.{WriteStep}
use Rattle.keel_machine.specs.declared.steps.WriteStep.TheVariants as step
use Rattle.keel_machine.specs.declared.steps.JobStep.{JobStep}
use Rattle.keel_machine.specs.declared.steps.JobStep.TheVariants as job_step
use Rattle.keel_draft.specs.Drafts.{Draft}
use Rattle.keel_script.specs.declared.reply.Reply.{Reply}
use Rattle.keel_script.specs.declared.reply.Reply.TheVariants.{Quiet, More}
use Rattle.keel_cli.specs.Jobs.{Driven, WriteTurn, FlushTurn, ResumeTurn}

-- How many moves a step was: none where its actor rests, with nothing to do or no way to do it. Want of memory is neither.
abbrev pub moves_of_boot : ResumeStep → Option ℕ
moves_of_boot boot_step.Idle = Some 0
moves_of_boot (boot_step.Spent counter) = Some 0
moves_of_boot boot_step.OutOfMemory = None
moves_of_boot step = Some 1

abbrev pub moves_of_write : WriteStep → Option ℕ
moves_of_write step.Idle = Some 0
moves_of_write (step.Full active immutables) = Some 0
moves_of_write (step.Spent counter) = Some 0
moves_of_write step.OutOfMemory = None
moves_of_write step = Some 1

abbrev pub moves_of_flush : JobStep → Option ℕ
moves_of_flush job_step.Idle = Some 0
moves_of_flush (job_step.Spent counter) = Some 0
moves_of_flush job_step.OutOfMemory = None
moves_of_flush step = Some 1

-- a step of the boot of so many moves
pub record BootMoves (old : Driven) (moves : ℕ) (new : Driven) : Type 0 where
  pub step : ResumeStep
  pub drafts : List Draft
  pub turn : ResumeTurn old drafts step new
  pub moves_are : moves_of_boot step ≡ Some moves

-- the same of the writer
pub record WriteMoves (old : Driven) (moves : ℕ) (new : Driven) : Type 0 where
  pub step : WriteStep
  pub turn : WriteTurn old step new
  pub moves_are : moves_of_write step ≡ Some moves

-- and of the flush
pub record FlushMoves (old : Driven) (moves : ℕ) (new : Driven) : Type 0 where
  pub step : JobStep
  pub draft : Draft
  pub turn : FlushTurn old draft step new
  pub moves_are : moves_of_flush step ≡ Some moves

-- A round behind so many moves begins: the boot makes a step, and where that leaves moves the writer makes one.
pub record Wrote (limit made : ℕ) (old : Driven) (moves : ℕ) (new : Driven) : Type 0 where
  pub mid : Driven
  pub of_boot : ℕ
  pub of_write : ℕ
  pub boot : BootMoves old of_boot mid
  pub left : made + of_boot < limit
  pub write : WriteMoves mid of_write new
  pub moves_are : moves ≡ of_boot + of_write

-- where that leaves moves too, the flush makes a step
pub record Round (limit made : ℕ) (old : Driven) (moves : ℕ) (new : Driven) : Type 0 where
  pub behind : Driven
  pub before : ℕ
  pub of_flush : ℕ
  pub wrote : Wrote limit made old before behind
  pub still_left : made + before < limit
  pub flush : FlushMoves behind of_flush new
  pub moves_are : moves ≡ before + of_flush

-- So many rounds made so many moves, one at least in each. The last of them comes first.
abbrev pub Rounds : ℕ → Driven → ℕ → ℕ → Driven → Type 0
Rounds limit old zero made new = (made ≡ 0) × (new ≡ old)
Rounds limit old (suc rounds) made new =
    (mid : Driven) × (before : ℕ) × (moves : ℕ) × Rounds limit old rounds before mid × Round limit before mid moves new × (1 ≤ moves) × (made ≡ before + moves)

-- rounds that leave moves
pub record Begun (limit : ℕ) (old : Driven) (made : ℕ) (last : Driven) : Type 0 where
  pub rounds : ℕ
  pub went : Rounds limit old rounds made last
  pub fewer : made < limit

-- behind fewer moves than were asked for, all rest in a whole round
pub record DrainsQuiet (limit : ℕ) (old : Driven) (replies : List Reply) (new : Driven) : Type 0 where
  pub made : ℕ
  pub last : Driven
  pub begun : Begun limit old made last
  pub round : Round limit made last 0 new
  pub prints : replies ≡ Quiet ∷ []

-- a step of the boot made the last move that was asked for
pub record DrainsByBoot (limit : ℕ) (old : Driven) (replies : List Reply) (new : Driven) : Type 0 where
  pub made : ℕ
  pub last : Driven
  pub begun : Begun limit old made last
  pub of_boot : ℕ
  pub boot : BootMoves last of_boot new
  pub all : made + of_boot ≡ limit
  pub prints : replies ≡ More ∷ []

-- or one of the writer did
pub record DrainsByWriter (limit : ℕ) (old : Driven) (replies : List Reply) (new : Driven) : Type 0 where
  pub made : ℕ
  pub last : Driven
  pub begun : Begun limit old made last
  pub moves : ℕ
  pub wrote : Wrote limit made last moves new
  pub all : made + moves ≡ limit
  pub prints : replies ≡ More ∷ []

-- rounds made all moves that were asked for
pub record DrainsMore (limit : ℕ) (old : Driven) (replies : List Reply) (new : Driven) : Type 0 where
  pub rounds : ℕ
  pub went : Rounds limit old rounds limit new
  pub prints : replies ≡ More ∷ []

abbrev pub DrainRun : ℕ → Driven → List Reply → Driven → Type 0
DrainRun limit old replies new =
    DrainsQuiet limit old replies new
    ⊎ (DrainsByBoot limit old replies new ⊎ (DrainsByWriter limit old replies new ⊎ DrainsMore limit old replies new))

-- memory ended at a step of the boot
pub record BootWants (limit : ℕ) (old new : Driven) : Type 0 where
  pub made : ℕ
  pub last : Driven
  pub begun : Begun limit old made last
  pub drafts : List Draft
  pub turn : ResumeTurn last drafts boot_step.OutOfMemory new

-- or at one of the writer
pub record WriteWants (limit : ℕ) (old new : Driven) : Type 0 where
  pub made : ℕ
  pub last : Driven
  pub begun : Begun limit old made last
  pub of_boot : ℕ
  pub mid : Driven
  pub boot : BootMoves last of_boot mid
  pub left : made + of_boot < limit
  pub turn : WriteTurn mid step.OutOfMemory new

-- or at one of the flush
pub record FlushWants (limit : ℕ) (old new : Driven) : Type 0 where
  pub made : ℕ
  pub last : Driven
  pub begun : Begun limit old made last
  pub moves : ℕ
  pub behind : Driven
  pub wrote : Wrote limit made last moves behind
  pub still_left : made + moves < limit
  pub draft : Draft
  pub turn : FlushTurn behind draft job_step.OutOfMemory new

abbrev pub DrainCut : ℕ → Driven → Driven → Type 0
DrainCut limit old new = BootWants limit old new ⊎ (WriteWants limit old new ⊎ FlushWants limit old new)
