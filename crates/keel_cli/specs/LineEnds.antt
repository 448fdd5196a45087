-- How carrying out commands and lines ends.
use Rattle.std.specs.Prelude.{◌≡◌, ℕ, ◌+◌, ◌⊎◌, Option, None, Some, List, [], ◌∷◌, ◌++◌, length, Result, Ok, Err}
use Rattle.std.specs.Io.KnownBytes.{Appends}
use Rattle.keel_base.specs.Streams.{AppendsPart}
use Rattle.keel_script.specs.declared.command.Command.{Command}
use Rattle.keel_script.specs.declared.reply.Reply.{Reply}
use Rattle.keel_cli.specs.declared.lines.StopPlace.{StopPlace}
use Rattle.keel_cli.specs.declared.lines.LineStop.{LineStop}
use Rattle.keel_cli.specs.declared.lines.LineStop.TheVariants.{Refused, Unwritten, NoMemory}
use Rattle.keel_cli.specs.Cuts.{CutShort}
use Rattle.keel_cli.specs.Grammar.{Says, AreCommands, IsNoCommand}
use Rattle.keel_cli.specs.Replies.{text}
use Rattle.keel_cli.specs.Runs.{Carries, Run}
use Rattle.keel_cli.specs.Sessions.{Session}

-- the replies to this command were written in part
pub record WritesPart (old : Session) (held : Option (List ℕ)) (command : Command) (new : Session) (holds : Option (List ℕ)) : Type 0 where
  pub replies : List Reply
  pub carries : Carries old command replies new
  pub part : AppendsPart held holds (text replies)

-- the replies to this command were written
pub record Writes (old : Session) (held : Option (List ℕ)) (command : Command) (new : Session) (holds : Option (List ℕ)) : Type 0 where
  pub replies : List Reply
  pub carries : Carries old command replies new
  pub written : Appends held holds (text replies)

-- how carrying out a command ends
abbrev pub CommandEnds : {A : Type 0} → Result A LineStop → Session → Option (List ℕ) → Command → Session → Option (List ℕ) → Type 0
CommandEnds (Ok done) old held command new holds = Writes old held command new holds
CommandEnds (Err Unwritten) old held command new holds = WritesPart old held command new holds
CommandEnds (Err NoMemory) old held command new holds = CutShort old command new × (holds ≡ held)
CommandEnds (Err Refused) old held command new holds = ⊥

-- why a run stops at this line, from old and held to new and holds
abbrev pub Stops : LineStop → Session → Option (List ℕ) → List ℕ → Session → Option (List ℕ) → Type 0
Stops Refused old held line new holds = IsNoCommand line × (new ≡ old) × (holds ≡ held)
Stops Unwritten old held line new holds = (command : Command) × Says line (command ∷ []) × WritesPart old held command new holds
Stops NoMemory old held line new holds = ((new ≡ old) ⊎ ((command : Command) × Says line (command ∷ []) × CutShort old command new)) × (holds ≡ held)

-- These lines were carried out: they are commands, the machine went on by them, and what is held grew by their replies.
pub record Progress (old : Session) (held : Option (List ℕ)) (lines : List (List ℕ)) (new : Session) (holds : Option (List ℕ)) : Type 0 where
  pub commands : List Command
  pub replies : List Reply
  pub read : AreCommands lines commands
  pub run : Run old commands replies new
  pub written : Appends held holds (text replies)

-- the line was carried out, or the run stops there
abbrev pub LineEnds : {A : Type 0} → Result A LineStop → Session → Option (List ℕ) → List ℕ → Session → Option (List ℕ) → Type 0
LineEnds (Ok done) old held line new holds = Progress old held (line ∷ []) new holds
LineEnds (Err stop) old held line new holds = Stops stop old held line new holds

-- a sink's fault is why the run stops
abbrev pub IsUnwritten : {A : Type 0} → Result A LineStop → Type 0
IsUnwritten ended = ended ≡ Err Unwritten

-- the lines before this one were carried out, and then the run stops there
pub record StopsAt (stop : LineStop) (old : Session) (held : Option (List ℕ)) (lines : List (List ℕ)) (number : ℕ) (new : Session) (holds : Option (List ℕ)) : Type 0 where
  pub before : List (List ℕ)
  pub line : List ℕ
  pub behind : List (List ℕ)
  pub lines_are : lines ≡ before ++ line ∷ behind
  pub number_is : number ≡ length before + 1
  pub mid : Session
  pub holds_mid : Option (List ℕ)
  pub progress : Progress old held before mid holds_mid
  pub stops : Stops stop mid holds_mid line new holds

-- all lines were carried out, or the run stops at one of them
abbrev pub LinesEnd : Option StopPlace → Session → Option (List ℕ) → List (List ℕ) → Session → Option (List ℕ) → Type 0
LinesEnd None old held lines new holds = Progress old held lines new holds
LinesEnd (Some at) old held lines new holds = StopsAt at.stop old held lines at.line new holds
