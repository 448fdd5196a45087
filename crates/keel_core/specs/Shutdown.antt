-- What closing a store leaves of a core.
use Rattle.std.specs.Prelude.{ℕ, ◌+◌, [], ◌++◌, length, None, is_some}
use Rattle.keel_group.specs.Queue.{tickets_of}
use Rattle.keel_machine.specs.declared.answers.Outcome.TheVariants as outcome
use Rattle.keel_machine.specs.Closing.{number_behind}
use Rattle.keel_core.specs.Flights.{tickets_flying}
use Rattle.keel_core.specs.Queues.{given}
use Rattle.keel_core.specs.Starting.{is_resuming}
use Rattle.keel_core.specs.Views.{Closed, CoreView, has_booted}

-- how many tickets have no outcome yet
abbrev pub open_in : CoreView → ℕ
open_in view = length (tickets_flying view.group) + length view.waiting

-- the group in flight is over
abbrev pub group_closed : CoreView → CoreView
group_closed view = record view {
  group = None;
  outcomes = view.outcomes ++ given outcome.Closed (tickets_flying view.group);
  job = number_behind (is_some view.group) view.job;
}

-- nobody waits
abbrev pub queue_closed : CoreView → CoreView
queue_closed view = record view { waiting = []; outcomes = view.outcomes ++ given outcome.Closed (tickets_of view.waiting) }

-- no other job is under way
abbrev pub jobs_closed : CoreView → CoreView
jobs_closed view = record view {
  boot = Closed (has_booted view.boot);
  boot_job = number_behind (is_resuming view.boot) view.boot_job;
  flush = None;
  flush_job = number_behind (is_some view.flush) view.flush_job;
}

abbrev pub shut : CoreView → CoreView
shut view = jobs_closed (queue_closed (group_closed view))
