-- What each call of a boot leaves of what is kept.
use Rattle.std.specs.Prelude.{◌≡◌, ℕ, List, [], ◌∷◌, length, Option, Some, None}
use Rattle.keel_base.specs.declared.failure.Fault.{Fault}
use Rattle.keel_disk.specs.Sound.{IsOneToOne}
use Rattle.keel_disk.specs.State.{State as Disk}
use Rattle.keel_disk.specs.Steady.{CutsExist}
use Rattle.keel_disk.specs.Step.{DiskStep}
use Rattle.keel_machine.specs.Outside.{as_answer}
use Rattle.keel_machine.specs.Resuming.{Makes, call_done, call_failed, resume_ready}
use Rattle.keel_machine.specs.States.{State, Resumption, new_log, point_of}
use Rattle.keel_recovery.specs.BootCalls.{BootKept}
use Rattle.keel_recovery.specs.Booting.{NoCuts}
use Rattle.keel_recovery.specs.Calls.{AllReach, CanGrow}
use Rattle.keel_recovery.specs.Chains.{Chained}
use Rattle.keel_recovery.specs.Flushes.{HasFlush}
use Rattle.keel_recovery.specs.Keeping.{Keeps}
use Rattle.keel_recovery.specs.Readings.{AreListed}
use Rattle.keel_recovery.specs.Roots.{Way}
use Rattle.keel_draft.specs.Drafts.{Draft}
use Rattle.keel_resume.specs.Plans.{Act, change_of, failure_of}

-- the log of a store whose boot has cleared, which has no batch yet
abbrev pub cleared_log : ℕ → State → Chained
cleared_log number s = record { number = number; before = length s.story.log; last = (point_of s.story).seq; batches = [] }

-- a store whose boot has cleared: one way, whose tables have all that is published, and an empty log
pub record IsCleared (s : State) (state : Disk) : Type 0 where
  pub way : Way
  pub log : ℕ
  pub log_is : s.segments.active.log ≡ Some (new_log log)
  pub keeps : Keeps (way ∷ []) (length s.story.log) (cleared_log log s ∷ []) s.levels s.story s.numbers.next_file state
  pub grows : CanGrow [] (cleared_log log s) 0 state
  pub uncut : NoCuts state
  pub listed : AreListed state
  pub reach : AllReach (way ∷ []) log
  pub flushes : HasFlush way s.levels s.numbers.in_tables (cleared_log log s ∷ []) None None s.numbers.next_file s.numbers.manifest state

-- by the calls left behind one that was answered Ok: the boot goes on, or it has cleared
abbrev pub GoesOn : List Act → State → Disk → Type 0
GoesOn [] s state = IsCleared s state
GoesOn (act ∷ later) s state = BootKept s state

abbrev pub LeavesOf : List Draft → Act → List Act → Option Fault → State → Disk → Type 0
LeavesOf drafts act later None s after = GoesOn later (call_done drafts s) after
LeavesOf drafts act later (Some fault) s after = BootKept (call_failed drafts (failure_of act fault) s) after

-- Each call of a boot or a resume that is kept as it makes the call leaves it kept, or cleared, answered Ok or failed.
abbrev pub BootCallKeeps : Type 0
BootCallKeeps =
    (s : State) (drafts : List Draft) (held : Option ℕ) (running : Resumption) (act : Act) (later : List Act) (failed : Option Fault) (state after : Disk)
    → IsOneToOne state → CutsExist state → BootKept (resume_ready drafts s) state → Makes s drafts held running act later
    → DiskStep state (change_of running.job s.numbers.next_file act) (as_answer failed) after → LeavesOf drafts act later failed s after
