-- Runs go on.
use Rattle.std.proofs.Common.{◌≡◌, ℕ, Option, None, Some, List, [], ◌∷◌, ◌++◌, Result, Ok, Err, ap, refl, sym, ◌∙◌, append_assoc, append-nil, inr, length, ◌≤◌}
use Rattle.std.proofs.KnownBytes.{Appends-trans}
use Rattle.std.specs.Io.KnownBytes.{Appends}
use Rattle.keel_script.specs.declared.command.Command.{Command}
use Rattle.keel_script.specs.declared.reply.Reply.{Reply}
use Rattle.keel_script.specs.Grammar as script
use Rattle.keel_script.specs.Words.{IsBlank}
use Rattle.keel_cli.specs.declared.lines.LineStop.{LineStop}
use Rattle.keel_cli.specs.declared.lines.LineStop.TheVariants.{Refused, Unwritten, NoMemory}
use Rattle.keel_cli.specs.LineEnds.{CommandEnds, LineEnds, Progress}
use Rattle.keel_lines.specs.Lines.{longest_line}
use Rattle.keel_cli.specs.Grammar.{AreCommands}
use Rattle.keel_cli.specs.Replies.{text, full_line}
use Rattle.keel_cli.specs.Runs.{Run}
use Rattle.keel_cli.specs.Sessions.{Session}

pub text-append : (first second : List Reply) → text (first ++ second) ≡ text first ++ text second
text-append [] second = refl
text-append (reply ∷ replies) second =
    ap (λ l. full_line reply ++ l) (text-append replies second) ∙ sym (append_assoc (full_line reply) (text replies) (text second))

pub AreCommands-append : (lines more : List (List ℕ)) (commands others : List Command)
    → AreCommands lines commands → AreCommands more others → AreCommands (lines ++ more) (commands ++ others)
AreCommands-append [] more commands others read next = rw read next
AreCommands-append (line ∷ lines) more commands others read next = (
  read.0,
  read.1 ++ others,
  read.2,
  AreCommands-append lines more read.1 others read.3 next,
  ap (λ l. l ++ others) read.4 ∙ append_assoc read.0 read.1 others,
)

pub Run-append : (commands others : List Command) (old mid new : Session) (first second : List Reply)
    → Run old commands first mid → Run mid others second new → Run old (commands ++ others) (first ++ second) new
Run-append [] others old mid new first second run next = rw (run.1, ← run.0) next
Run-append (command ∷ commands) others old mid new first second run next = (
  run.0,
  run.1,
  run.2 ++ second,
  run.3,
  Run-append commands others run.0 mid new run.2 second run.4 next,
  ap (λ l. l ++ second) run.5 ∙ append_assoc run.1 run.2 second,
)

pub Progress-append : (old mid new : Session) (held between holds : Option (List ℕ)) (lines more : List (List ℕ))
    → Progress old held lines mid between → Progress mid between more new holds → Progress old held (lines ++ more) new holds
Progress-append old mid new held between holds lines more first second = record {
  commands = first.commands ++ second.commands;
  replies = first.replies ++ second.replies;
  read = AreCommands-append lines more first.commands second.commands first.read second.read;
  run = Run-append first.commands second.commands old mid new first.replies second.replies first.run second.run;
  written = rw (text-append first.replies second.replies) (Appends-trans held between holds _ _ first.written second.written);
}

-- a line that says a command is carried out as the command is
pub LineEnds-from_command : {Done : Type 0} (ended : Result Done LineStop) (old new : Session) (held holds : Option (List ℕ)) (line : List ℕ) (command : Command)
    → length line ≤ longest_line → script.Says line command → CommandEnds ended old held command new holds → LineEnds ended old held line new holds
LineEnds-from_command (Ok done) old new held holds line command short says ends = record {
  commands = command ∷ [];
  replies = ends.replies;
  read = (command ∷ [], [], record { short = short; says = says }, refl, refl);
  run = (new, ends.replies, [], ends.carries, (refl, refl), sym (append-nil ends.replies));
  written = ends.written;
}
LineEnds-from_command (Err Unwritten) old new held holds line command short says ends = (command, record { short = short; says = says }, ends)
LineEnds-from_command (Err NoMemory) old new held holds line command short says ends = (inr (command, record { short = short; says = says }, ends.0), ends.1)
LineEnds-from_command (Err Refused) old new held holds line command short says ends = absurd ends

pub Appends-none : (held : Option (List ℕ)) → Appends held held []
Appends-none None = tt
Appends-none (Some bytes) = sym (append-nil bytes)

-- a blank line is carried out
pub Progress-blank : (now : Session) (held : Option (List ℕ)) (line : List ℕ) → length line ≤ longest_line → IsBlank line → Progress now held (line ∷ []) now held
Progress-blank now held line short blank = record {
  commands = [];
  replies = [];
  read = ([], [], record { short = short; says = blank }, refl, refl);
  run = (refl, refl);
  written = Appends-none held;
}
