-- Which sessions a driver stands for, and what carrying out a command leaves.
use Rattle.std.specs.Prelude.{◌≡◌, Result, Ok, Err}
use Rattle.keel_script.specs.declared.command.Command.{Command}
use Rattle.keel_cli.specs.declared.answer.Answer.{Answer}
use Rattle.keel_cli.specs.declared.driver.Driver.{Driver}
use Rattle.keel_cli.specs.declared.lines.LineStop.{LineStop}
use Rattle.keel_cli.specs.Cuts.{CutShort}
use Rattle.keel_cli.specs.Replies.{replies_of}
use Rattle.keel_cli.specs.Runs.{Carries}
use Rattle.keel_cli.specs.Sessions.{Session, driven_in}
use Rattle.keel_cli.specs.Stores.{Stands, Shows}

-- the driver has what the session has
pub record StandsAt {V : Type 0} (driver : Driver V) (session : Session) : Type 0 where
  pub store : Stands driver.store (driven_in session)
  pub options : session.options ≡ driver.settings
  pub tick : session.tick ≡ driver.tick

-- the driver stands for a session of which this holds
abbrev pub DriverLeads : {V : Type 0} → Driver V → (Session → Type 0) → Type 0
DriverLeads driver P = (session : Session) × StandsAt driver session × P session

-- its device is that of a session of which this holds
abbrev pub DriverLeaves : {V : Type 0} → Driver V → (Session → Type 0) → Type 0
DriverLeaves driver P = (session : Session) × Shows driver.store session.store.device × P session

-- a command was carried out in this session, or memory ended at it
abbrev pub Drives : {V E : Type 0} → Session → Command → Driver V → Result Answer E → Type 0
Drives session command driver (Ok answer) = DriverLeads driver (Carries session command (replies_of answer))
Drives session command driver (Err e) = DriverLeaves driver (CutShort session command)

-- the driver goes on from a session of which this holds, or a run that stops leaves its device
abbrev pub LineLeads : {V A : Type 0} → Result A LineStop → Driver V → (Session → Type 0) → Type 0
LineLeads (Ok done) driver P = DriverLeads driver P
LineLeads (Err stop) driver P = DriverLeaves driver P
