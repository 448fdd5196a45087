-- How a store is closed, and how that is answered.
use Rattle.std.specs.Prelude.{◌≡◌, ℕ, List, [], ◌∷◌}
use Rattle.keel_machine.specs.States.{State}
use Rattle.keel_machine.specs.Turns.{Turn, ShuttingDown, Finishing}
use Rattle.keel_script.specs.declared.reply.Reply.{Reply}
use Rattle.keel_script.specs.declared.reply.Reply.TheVariants as reply
use Rattle.keel_cli.specs.Jobs.{Driven, no_jobs}

-- it is closed with so many tickets that had no outcome, and hands its device back
pub record CloseRun (old : Driven) (replies : List Reply) (new : Driven) : Type 0 where
  pub tickets : ℕ
  pub mid : State
  pub closes : Turn old.state (ShuttingDown tickets) mid
  pub finishes : Turn mid Finishing new.state
  pub jobs : new.jobs ≡ no_jobs
  pub prints : replies ≡ reply.Closed tickets ∷ []
