-- The commands that a run carried out, each with its own replies.
use Rattle.std.specs.Prelude.{ℕ, Option, None, Some, List, [], ◌∷◌}
use Rattle.keel_script.specs.declared.command.Command.{Command}
use Rattle.keel_script.specs.declared.reply.Reply.{Reply}
use Rattle.keel_cli.specs.declared.lines.StopPlace.{StopPlace}
use Rattle.keel_cli.specs.Claim.{Answered}
use Rattle.keel_cli.specs.LineEnds.{LinesEnd}
use Rattle.keel_cli.specs.Runs.{Run}
use Rattle.keel_cli.specs.Sessions.{Session}

abbrev pub answered_of : (commands : List Command) (old : Session) (replies : List Reply) (new : Session) → Run old commands replies new → List Answered
answered_of [] old replies new run = []
answered_of (command ∷ commands) old replies new run =
    (record { command = command; replies = run.1 }) ∷ answered_of commands run.0 run.2 new run.4

-- where the run stops at a line, those before it
abbrev pub answered_in : (stop : Option StopPlace) (old : Session) (held : Option (List ℕ)) (lines : List (List ℕ)) (new : Session) (holds : Option (List ℕ)) → LinesEnd stop old held lines new holds → List Answered
answered_in None old held lines new holds progress = answered_of progress.commands old progress.replies new progress.run
answered_in (Some at) old held lines new holds stops = answered_of stops.progress.commands old stops.progress.replies stops.mid stops.progress.run
