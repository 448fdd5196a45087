-- Closing a store: what is cancelled, and what is left.
use Rattle.std.specs.Prelude.{◌≡◌, ℕ, ◌+◌, ◌&&◌, not, nat_le, Bool, false, List, [], ◌++◌, length, map, None, is_some, if◌then◌else◌}
use Rattle.keel_base.specs.declared.limits.TheConstants.{LAST_NUMBER}
use Rattle.keel_machine.specs.declared.answers.Outcome.TheVariants as outcome
use Rattle.keel_machine.specs.Admission.{tickets_of_group}
use Rattle.keel_machine.specs.Starting.{is_resuming}
use Rattle.keel_machine.specs.States.{State, Closing, Jobs, Slot}
use Rattle.keel_machine.specs.WritingAfter.{settled}

-- the tickets without an outcome: those of the group in flight, and those that wait
abbrev pub open_tickets : State → List ℕ
open_tickets s = tickets_of_group s.jobs.write.running ++ map (λ member. member.ticket) s.writing.waiting

-- closing takes no memory, so there is one answer
abbrev pub CloseAnswers : State → ℕ → Type 0
CloseAnswers s tickets = tickets ≡ length (open_tickets s)

-- what a slot's number is where its job, if it has one, is cancelled: the next one, as long as there is one
abbrev pub number_behind : Bool → ℕ → ℕ
number_behind runs number = if runs && not (nat_le LAST_NUMBER number) then number + 1 else number

abbrev pub closed_slot : {J : Type 0} → Bool → Slot J → Slot J
closed_slot runs slot = record { number = number_behind runs slot.number; running = None }

-- no job is under way
abbrev pub closed_jobs : State → Jobs
closed_jobs s = record {
  write = closed_slot (is_some s.jobs.write.running) s.jobs.write;
  flush = closed_slot (is_some s.jobs.flush.running) s.jobs.flush;
  resume = closed_slot (is_resuming s) s.jobs.resume;
  started = false;
}

-- each ticket has an outcome, nobody waits, and no job is under way; what was handed to a log stays in limbo
abbrev pub close_after : State → State
close_after s = record (settled (open_tickets s) outcome.Closed s) {
  mode = record s.mode { phase = Closing };
  writing = record (settled (open_tickets s) outcome.Closed s).writing { waiting = [] };
  jobs = closed_jobs s;
}
