-- What steps leave of the mode, the footing and the next file's number.
use Rattle.std.proofs.Common.{◌≡◌, ℕ, ◌≤◌, List, [], ◌∷◌, Option, Some, None, refl, ◌∙◌, arith}
use Rattle.keel_base.specs.declared.failure.Failure.{Failure}
use Rattle.keel_group.specs.Queue.{Ticketed}
use Rattle.keel_machine.specs.States.{State, Group, Act, CloseLog, MakeLog, SyncDirectory, AddRecords, SyncLog, left_of}
use Rattle.keel_machine.specs.Writing.{started, started_or}
use Rattle.keel_machine.specs.WritingAfter.{switched, first_done, group_done, first_failed, group_failed}

-- the store is as open, on the same footing, its next file's number doesn't fall, its resume is as it was, and no other was asked for
pub record IsUnmoved (s next : State) : Type 0 where
  pub mode : next.mode ≡ s.mode
  pub footing : next.footing ≡ s.footing
  pub files : s.numbers.next_file ≤ next.numbers.next_file
  pub resume : next.jobs.resume.running ≡ s.jobs.resume.running
  pub started : next.jobs.started ≡ s.jobs.started

pub unmoved : (s : State) → IsUnmoved s s
unmoved s = record { mode = refl; footing = refl; files = omega arith; resume = refl; started = refl }

pub unmoved_on : (s middle next : State) → IsUnmoved s middle → IsUnmoved middle next → IsUnmoved s next
unmoved_on s middle next h k = record { mode = k.mode ∙ h.mode; footing = k.footing ∙ h.footing; files = omega (arith, h.files, k.files); resume = k.resume ∙ h.resume; started = k.started ∙ h.started }

unmoved_started : (waiting : List Ticketed) (s : State) → IsUnmoved s (started waiting s)
unmoved_started [] s = unmoved s
unmoved_started (first ∷ rest) s = record { mode = refl; footing = refl; files = omega arith; resume = refl; started = refl }

pub unmoved_ready : (running : Option Group) (s : State) → IsUnmoved s (started_or running s)
unmoved_ready None s = unmoved_started s.writing.waiting s
unmoved_ready (Some group) s = unmoved s

unmoved_switched : (drawn : Option ℕ) (s : State) → IsUnmoved s (switched drawn s)
unmoved_switched None s = unmoved s
unmoved_switched (Some number) s = record { mode = refl; footing = refl; files = omega arith; resume = refl; started = refl }

unmoved_first_done : (group : Group) (left : List Act) (s : State) → IsUnmoved s (first_done group left s)
unmoved_first_done group [] s = unmoved s
unmoved_first_done group (CloseLog ∷ []) s = record { mode = refl; footing = refl; files = omega arith; resume = refl; started = refl }
unmoved_first_done group (CloseLog ∷ next ∷ later) s = record { mode = refl; footing = refl; files = omega arith; resume = refl; started = refl }
unmoved_first_done group (MakeLog ∷ []) s = record { mode = refl; footing = refl; files = omega arith; resume = refl; started = refl }
unmoved_first_done group (MakeLog ∷ next ∷ later) s = record { mode = refl; footing = refl; files = omega arith; resume = refl; started = refl }
unmoved_first_done group (SyncDirectory ∷ []) s = let h = unmoved_switched group.progress.log s in record { mode = h.mode; footing = h.footing; files = h.files; resume = h.resume; started = h.started }
unmoved_first_done group (SyncDirectory ∷ next ∷ later) s = let h = unmoved_switched group.progress.log s in record { mode = h.mode; footing = h.footing; files = h.files; resume = h.resume; started = h.started }
unmoved_first_done group (AddRecords ∷ []) s = record { mode = refl; footing = refl; files = omega arith; resume = refl; started = refl }
unmoved_first_done group (AddRecords ∷ next ∷ later) s = record { mode = refl; footing = refl; files = omega arith; resume = refl; started = refl }
unmoved_first_done group (SyncLog ∷ []) s = record { mode = refl; footing = refl; files = omega arith; resume = refl; started = refl }
unmoved_first_done group (SyncLog ∷ next ∷ later) s = record { mode = refl; footing = refl; files = omega arith; resume = refl; started = refl }

pub unmoved_done : (running : Option Group) (s : State) → IsUnmoved s (group_done running s)
unmoved_done None s = unmoved s
unmoved_done (Some group) s = unmoved_first_done group (left_of group) s

unmoved_first_failed : (group : Group) (left : List Act) (failure : Failure) (s : State) → IsUnmoved s (first_failed group left failure s)
unmoved_first_failed group [] failure s = unmoved s
unmoved_first_failed group (CloseLog ∷ later) failure s = record { mode = refl; footing = refl; files = omega arith; resume = refl; started = refl }
unmoved_first_failed group (MakeLog ∷ later) failure s = record { mode = refl; footing = refl; files = omega arith; resume = refl; started = refl }
unmoved_first_failed group (SyncDirectory ∷ later) failure s = record { mode = refl; footing = refl; files = omega arith; resume = refl; started = refl }
unmoved_first_failed group (AddRecords ∷ later) failure s = record { mode = refl; footing = refl; files = omega arith; resume = refl; started = refl }
unmoved_first_failed group (SyncLog ∷ later) failure s = record { mode = refl; footing = refl; files = omega arith; resume = refl; started = refl }

pub unmoved_failed : (running : Option Group) (failure : Failure) (s : State) → IsUnmoved s (group_failed running failure s)
unmoved_failed None failure s = unmoved s
unmoved_failed (Some group) failure s = unmoved_first_failed group (left_of group) failure s
