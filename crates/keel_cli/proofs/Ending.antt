-- How a command's answer and its text end a line.
use Rattle.std.proofs.Common.{◌≡◌, ◌≤◌, length, ℕ, Option, List, Result, Ok, Err, refl, subst, inr}
use Rattle.std.specs.Io.KnownBytes.{Appends}
use Rattle.keel_base.specs.Streams.{AppendsPart}
use Rattle.keel_script.specs.declared.command.Command.{Command}
use Rattle.keel_cli.specs.declared.answer.Answer.{Answer}
use Rattle.keel_cli.specs.declared.driver.Driver.{Driver}
use Rattle.keel_cli.specs.Driving.{StandsAt, DriverLeads, DriverLeaves, LineLeads}
use Rattle.keel_cli.specs.LineEnds.{CommandEnds, LineEnds, Writes, WritesPart}
use Rattle.keel_lines.specs.Lines.{longest_line}
use Rattle.keel_script.specs.Grammar as script
use Rattle.keel_cli.specs.declared.lines.LineStop.{LineStop}
use Rattle.keel_cli.proofs.GoingOn.{LineEnds-from_command}
use Rattle.keel_cli.specs.Replies.{replies_of, text}
use Rattle.keel_cli.specs.Runs.{Carries}
use Rattle.keel_cli.specs.Cuts.{CutShort}
use Rattle.keel_cli.specs.Sessions.{Session, driven_in}
use Rattle.keel_cli.proofs.Carrying.{shows_own}

module _ (V : Type 0) where
  pub leaves : (driver : Driver V) (P : Session → Type 0) → DriverLeads driver P → DriverLeaves driver P
  leaves driver P leads = (leads.0, shows_own driver.store (driven_in leads.0) leads.1.store, leads.2)

  -- the run stops in the session that it is in
  pub leaves_now : {P : Session → Type 0} (driver : Driver V) (now : Session) → StandsAt driver now → P now → DriverLeaves driver P
  leaves_now driver now stands is = (now, shows_own driver.store (driven_in now) stands.store, is)

  -- a line ends as its command does
  pub line_of_command : {Done : Type 0} (ended : Result Done LineStop) (now : Session) (driver : Driver V) (held holds : Option (List ℕ)) (line : List ℕ) (command : Command) → length line ≤ longest_line
      → script.Says line command → LineLeads ended driver (λ new. CommandEnds ended now held command new holds) → LineLeads ended driver (λ new. LineEnds ended now held line new holds)
  line_of_command {Done} (Ok done) now driver held holds line command short says leads = (leads.0, leads.1, LineEnds-from_command {Done = Done} (Ok done) now leads.0 held holds line command short says leads.2)
  line_of_command {Done} (Err stop) now driver held holds line command short says leads = (leads.0, leads.1, LineEnds-from_command {Done = Done} (Err stop) now leads.0 held holds line command short says leads.2)

  module _ (now : Session) (command : Command) (driver : Driver V) (held : Option (List ℕ)) where
    pub cut_at_call : DriverLeaves driver (CutShort now command) → DriverLeaves driver (λ new. CutShort now command new × (held ≡ held))
    cut_at_call left = (left.0, left.1, (left.2, refl))

    pub cut_at_text : (answer : Answer) → DriverLeads driver (Carries now command (replies_of answer))
        → DriverLeaves driver (λ new. CutShort now command new × (held ≡ held))
    cut_at_text answer leads =
        let left = leaves driver (Carries now command (replies_of answer)) leads in
        (left.0, left.1, (inr (replies_of answer, left.2), refl))

    pub written : (answer : Answer) (holds : Option (List ℕ)) (bytes : List ℕ) → DriverLeads driver (Carries now command (replies_of answer)) → bytes ≡ text (replies_of answer)
        → Appends held holds bytes → DriverLeads driver (λ new. Writes now held command new holds)
    written answer holds bytes leads is appends =
        (leads.0, leads.1, record { replies = replies_of answer; carries = leads.2; written = subst (Appends held holds) is appends })

    pub written_in_part : (answer : Answer) (holds : Option (List ℕ)) (bytes : List ℕ) → DriverLeads driver (Carries now command (replies_of answer)) → bytes ≡ text (replies_of answer)
        → AppendsPart held holds bytes → DriverLeaves driver (λ new. WritesPart now held command new holds)
    written_in_part answer holds bytes leads is appends =
        let left = leaves driver (Carries now command (replies_of answer)) leads in
        (left.0, left.1, record { replies = replies_of answer; carries = left.2; part = subst (AppendsPart held holds) is appends })
