-- Which line says which command.
use Rattle.std.specs.Prelude.{◌≢◌, ℕ, ◌≤◌, Bool, true, false, List, [], ◌∷◌, codes}
use Rattle.std.specs.List.{AllByRecursion}
use Rattle.keel_base.specs.declared.failure.Fault.TheVariants.{SpaceLimit}
use Rattle.keel_base.specs.Options.{option_name}
use Rattle.keel_script.specs.declared.command.Command.{Command}
use Rattle.keel_script.specs.declared.command.Command.TheVariants.{SetOption, Open, Put, Del, QueuePut, QueueDel, Write, Flush, Compact, Delete, Resume, ResumeStep, Drain, Tick, Get, Scan, Error, Space, Files, Levels, Limit, Close, Fail, Capacity, Crash}
use Rattle.keel_script.specs.Names.{fault_name, call_name}
use Rattle.keel_script.specs.Parts.{Part, IsWritable, Spell, printed_line}
use Rattle.keel_script.specs.Parts.Part.{Word, Number, Text}
use Rattle.keel_script.specs.Words.{words_of}

-- the last word of a write that is to be firm before it is acknowledged
abbrev pub synced : Bool → List Part
synced false = []
synced true = Word (codes "sync") ∷ []

-- what a command is spelled with
abbrev pub parts_of : Command → List Part
parts_of (SetOption name value) = Word (codes "option") ∷ Word (option_name name) ∷ Number value ∷ []
parts_of Open = Word (codes "open") ∷ []
parts_of (Put key value sync) = Word (codes "put") ∷ Text key ∷ Text value ∷ synced sync
parts_of (Del key sync) = Word (codes "del") ∷ Text key ∷ synced sync
parts_of (QueuePut client key value sync) =
    Word (codes "queue") ∷ Number client ∷ Word (codes "put") ∷ Text key ∷ Text value ∷ synced sync
parts_of (QueueDel client key sync) = Word (codes "queue") ∷ Number client ∷ Word (codes "del") ∷ Text key ∷ synced sync
parts_of Write = Word (codes "write") ∷ []
parts_of Flush = Word (codes "flush") ∷ []
parts_of (Compact slot) = Word (codes "compact") ∷ Number slot ∷ []
parts_of Delete = Word (codes "delete") ∷ []
parts_of Resume = Word (codes "resume") ∷ []
parts_of ResumeStep = Word (codes "resume-step") ∷ []
parts_of (Drain moves) = Word (codes "drain") ∷ Number moves ∷ []
parts_of (Tick ticks) = Word (codes "tick") ∷ Number ticks ∷ []
parts_of (Get key) = Word (codes "get") ∷ Text key ∷ []
parts_of (Scan from to) = Word (codes "scan") ∷ Text from ∷ Text to ∷ []
parts_of Error = Word (codes "error") ∷ []
parts_of Space = Word (codes "space") ∷ []
parts_of Files = Word (codes "files") ∷ []
parts_of Levels = Word (codes "levels") ∷ []
parts_of (Limit limit) = Word (codes "limit") ∷ Number limit ∷ []
parts_of Close = Word (codes "close") ∷ []
parts_of (Fail call fault skip times keep) =
    Word (codes "fail") ∷ Word (call_name call) ∷ Word (fault_name fault) ∷ Number skip ∷ Number times ∷ Number keep ∷ []
parts_of (Capacity bytes) = Word (codes "capacity") ∷ Number bytes ∷ []
parts_of (Crash dirops keep garbage seed) =
    Word (codes "crash") ∷ Number dirops ∷ Number keep ∷ Number garbage ∷ Number seed ∷ []

-- what the language asks of a command beyond its form
abbrev pub IsAllowed : Command → Type 0
IsAllowed (QueuePut client key value sync) = client ≤ 63
IsAllowed (QueueDel client key sync) = client ≤ 63
IsAllowed (Compact slot) = slot ≤ 1
IsAllowed (Drain moves) = moves ≤ 1000000
IsAllowed (Fail call fault skip times keep) = fault ≢ SpaceLimit
IsAllowed _ = Unit {0}

-- a command of the language
pub record IsInGrammar (command : Command) : Type 0 where
  pub allowed : IsAllowed command
  pub writable : AllByRecursion IsWritable (parts_of command)

-- the line says the command
pub record Says (line : List ℕ) (command : Command) : Type 0 where
  pub allowed : IsAllowed command
  pub spelled : Spell (words_of line) (parts_of command)

-- the one line that is printed for a command
abbrev pub command_line : Command → List ℕ
command_line command = printed_line (parts_of command)
