-- What a driver has between two commands.
use Rattle.std.specs.Prelude.{false, ◌≡◌, ℕ, None, [], Option}
use Rattle.keel_base.specs.declared.options.Options.{Options}
use Rattle.keel_base.specs.Points.{origin}
use Rattle.keel_base.specs.Options.{AreDefaults, standard}
use Rattle.keel_disk.specs.Told.{Told}
use Rattle.keel_disk.specs.Seen.{Seen}
use Rattle.keel_machine.specs.States.{State, Footing, Known, Unknown, Shut, Nothing, new_story, no_batches}
use Rattle.keel_manifest.specs.State.{named_at_opening}
use Rattle.keel_recovery.specs.Machine.{RestsIn}
use Rattle.keel_cli.specs.declared.holding.HeldJobs.{HeldJobs}
use Rattle.keel_cli.specs.Jobs.{Driven, driven, no_jobs}

-- its store as the machine has it, the job numbers that it holds, the options for the next opening, and the tick
pub record Session : Type 0 where
  pub store : State
  pub jobs : HeldJobs
  pub options : Options
  pub tick : ℕ

abbrev pub driven_in : Session → Driven
driven_in session = driven session.store session.jobs

abbrev pub with_store : Driven → Session → Session
with_store s session = record session { store = s.state; jobs = s.jobs }

-- no store was opened yet on a device that shows this
abbrev pub unopened : Footing → Seen → State
unopened footing device = record {
  device = device;
  footing = footing;
  options = standard;
  mode = record { phase = Shut; left = Nothing };
  story = new_story origin;
  segments = record { immutable = []; active = no_batches };
  levels = [];
  writing = record { waiting = []; outcomes = []; last_ticket = 0 };
  failing = record { failures = [] };
  jobs = record { write = record { number = 0; running = None }; flush = record { number = 0; running = None }; resume = record { number = 0; running = None }; started = false };
  numbers = record { next_file = 1; manifest = named_at_opening None 0; in_tables = 0 };
}

-- a run begins so: no store, no job number, each option with its default, and tick 0
pub record Begins (footing : Footing) (device : Seen) (session : Session) : Type 0 where
  pub store : session.store ≡ unopened footing device
  pub jobs : session.jobs ≡ no_jobs
  pub options : AreDefaults session.options
  pub tick : session.tick ≡ 0

-- A run may count on a device that tells its state and is at rest, and on any other it counts on nothing.
abbrev pub MayBegin : Footing → Option Told → Type 0
MayBegin Known told = RestsIn told
MayBegin Unknown told = Unit {0}
