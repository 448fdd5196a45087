-- Laws of the language.
use Rattle.std.specs.Prelude.{◌≡◌, ℕ, ◌≤◌, List, All}
use Rattle.keel_script.specs.declared.command.Command.{Command}
use Rattle.keel_script.specs.Grammar.{IsInGrammar, Says, command_line}
use Rattle.keel_script.specs.Words.{IsBlank}

-- a line says one command at most
abbrev pub OneCommand : Type 0
OneCommand = (line : List ℕ) (a b : Command) → Says line a → Says line b → a ≡ b

-- each command of the language is said by the line that is printed for it
abbrev pub OwnLine : Type 0
OwnLine = (command : Command) → IsInGrammar command → Says (command_line command) command

-- what a line says is a command of the language
abbrev pub SaidInGrammar : Type 0
SaidInGrammar = (line : List ℕ) (command : Command) → Says line command → IsInGrammar command

-- a blank line says nothing
abbrev pub BlankSaysNothing : Type 0
BlankSaysNothing = (line : List ℕ) (command : Command) → IsBlank line → Says line command → ⊥

-- only bytes from 0x20 to 0x7E stand in a line that says a command
abbrev pub IsPrintable : ℕ → Type 0
IsPrintable byte = (32 ≤ byte) × (byte ≤ 126)

abbrev pub PrintableLines : Type 0
PrintableLines = (line : List ℕ) (command : Command) → Says line command → All IsPrintable line
