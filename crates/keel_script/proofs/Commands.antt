-- A line says a command exactly where that is read from it.
use Rattle.std.proofs.Common.{◌≡◌, ◌⊎◌, ℕ, List, Some, Result, Ok, Err, refl, sym, ap, ◌∙◌, inl, inr, IfOk}
use Rattle.std.specs.Prelude.{IsErrOf}
use Rattle.keel_script.specs.declared.command.Command.{Command}
use Rattle.keel_script.specs.declared.command.LineError.{LineError}
use Rattle.keel_script.specs.declared.command.LineError.TheVariants.{NotACommand, OutOfMemory}
use Rattle.keel_script.specs.Grammar.{Says}
use Rattle.keel_script.specs.Reading.{Gives, command_from}
use Rattle.keel_script.specs.Words.{words_of}
use Rattle.keel_script.proofs.Choices.{same_some}
use Rattle.keel_script.proofs.Complete.{said_command}
use Rattle.keel_script.proofs.Sound.{command_said}

pub says_read : (line : List ℕ) (c : Command) → Says line c → command_from (words_of line) ≡ Some c
says_read line c says = said_command (words_of line) c says.allowed says.spelled

pub read_says : (line : List ℕ) (c : Command) → command_from (words_of line) ≡ Some c → Says line c
read_says line c read = let said = command_said (words_of line) c read in record { allowed = said.0; spelled = said.1 }

pub says_one : (line : List ℕ) (a b : Command) → Says line a → Says line b → a ≡ b
says_one line a b first second = same_some a b (sym (says_read line a first) ∙ says_read line b second)

abbrev pub Reads : List ℕ → Result Command LineError → Type 0
Reads line result = Gives (λ (c : Command). c) result (command_from (words_of line))

pub found : (line : List ℕ) (result : Result Command LineError) → Reads line result → IfOk result (Says line)
found line (Ok c) reads = read_says line c reads
found line (Err e) reads = tt

pub only : (line : List ℕ) (result : Result Command LineError) → Reads line result → (c : Command) → Says line c → (result ≡ Ok c) ⊎ (result ≡ Err OutOfMemory)
only line (Ok d) reads c says = inl (ap Ok (says_one line d c (read_says line d reads) says))
only line (Err OutOfMemory) reads c says = inr refl
only line (Err NotACommand) reads c says = let read = says_read line c says in absurd cc

pub refused : (line : List ℕ) (result : Result Command LineError) → Reads line result → IsErrOf result NotACommand → (c : Command) → Says line c → ⊥
refused line (Ok d) reads is c says = absurd cc
refused line (Err OutOfMemory) reads is c says = absurd cc
refused line (Err NotACommand) reads is c says = let read = says_read line c says in absurd cc
