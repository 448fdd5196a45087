-- Which lines an input has, and which commands they say.
use Rattle.std.specs.Prelude.{◌≡◌, ℕ, ◌≤◌, List, [], ◌∷◌, ◌++◌, length}
use Rattle.keel_lines.specs.Lines.{longest_line}
use Rattle.keel_script.specs.declared.command.Command.{Command}
use Rattle.keel_script.specs.Grammar as script
use Rattle.keel_script.specs.Words.{IsBlank}

-- a line that is blank or a comment says nothing, and another one command
abbrev pub SaysOf : List ℕ → List Command → Type 0
SaysOf line [] = IsBlank line
SaysOf line (command ∷ []) = script.Says line command
SaysOf line (command ∷ other ∷ more) = ⊥

-- a line of the language says this
pub record Says (line : List ℕ) (commands : List Command) : Type 0 where
  pub short : length line ≤ longest_line
  pub says : SaysOf line commands

-- these lines say these commands
abbrev pub AreCommands : List (List ℕ) → List Command → Type 0
AreCommands [] commands = commands ≡ []
AreCommands (line ∷ lines) commands = (said : List Command) × (rest : List Command) × Says line said × AreCommands lines rest × (commands ≡ said ++ rest)

-- a line that says nothing and isn't blank
pub record IsNoCommand (line : List ℕ) : Type 0 where
  pub short : length line ≤ longest_line
  pub not_blank : IsBlank line → ⊥
  pub no_command : (command : Command) → script.Says line command → ⊥
