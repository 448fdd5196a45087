-- How a resume is asked for, and how that is answered.
use Rattle.std.specs.Prelude.{◌≡◌, List, [], ◌∷◌}
use Rattle.keel_machine.specs.declared.answers.Start.{Start}
use Rattle.keel_machine.specs.declared.answers.Start.TheVariants.{Closing, Nothing, Busy, Beyond, Cleared, Spent, Started}
use Rattle.keel_script.specs.declared.reply.Reply.{Reply}
use Rattle.keel_script.specs.declared.reply.Reply.TheVariants as reply
use Rattle.keel_cli.specs.Jobs.{Driven, StartTurn}

-- the reply that prints what became of it
abbrev pub start_reply : Start → Reply
start_reply Closing = reply.NotOpen
start_reply Nothing = reply.Nothing
start_reply (Busy job) = reply.Busy job
start_reply (Beyond failure) = reply.Beyond failure
start_reply Cleared = reply.Cleared
start_reply (Spent counter) = reply.Spent counter
start_reply (Started job) = reply.Started job

-- a resume was asked for, with these replies
pub record StartRun (old : Driven) (replies : List Reply) (new : Driven) : Type 0 where
  pub answer : Start
  pub turn : StartTurn old answer new
  pub prints : replies ≡ start_reply answer ∷ []
