-- Each command's own line says it, and lines that say commands are printable and not blank.
use Rattle.std.proofs.Common.{◌≡◌, ◌≢◌, ℕ, Bool, true, false, ◌&&◌, All, List, [], ◌∷◌, refl, sym, ap, ◌∙◌, inl, inr, arith, Some}
use Rattle.std.specs.List.{AllByRecursion}
use Rattle.std.proofs.lemmas.List.Elements.{recursion_from_All}
use Rattle.keel_base.specs.declared.failure.Call.{Call}
use Rattle.keel_base.specs.declared.failure.Call.TheVariants.{Create, Append, Sync, Rename, Remove, Cut, SyncDir, Read}
use Rattle.keel_base.specs.declared.failure.Fault.{Fault}
use Rattle.keel_base.specs.declared.failure.Fault.TheVariants.{Plain, NoSpace, SpaceLimit, Fenced, Retryable, DataLoss, Corrupt}
use Rattle.keel_base.specs.declared.option_name.OptionName.{OptionName}
use Rattle.keel_base.specs.declared.option_name.OptionName.TheVariants as o
use Rattle.keel_base.specs.Options.{option_name}
use Rattle.keel_script.specs.declared.command.Command.{Command}
use Rattle.keel_script.specs.declared.command.Command.TheVariants.{SetOption, Open, Put, Del, QueuePut, QueueDel, Write, Flush, Compact, Delete, Resume, ResumeStep, Drain, Tick, Get, Scan, Error, Space, Files, Levels, Limit, Close, Fail, Capacity, Crash}
use Rattle.keel_script.specs.Grammar.{synced, parts_of, IsInGrammar, Says, command_line}
use Rattle.keel_script.specs.Laws.{IsPrintable}
use Rattle.keel_script.specs.Names.{call_name, fault_name}
use Rattle.keel_script.specs.Reading.{command_from, first_by}
use Rattle.keel_script.specs.Words.{begins_word, onto_first, words_of, IsBlank, IsComment}
use Rattle.keel_script.proofs.Canonical.{line_spells, spelled_writable}
use Rattle.keel_script.proofs.Choices.{which}
use Rattle.keel_script.proofs.Commands.{says_read}
use Rattle.keel_script.proofs.Splitting.{behind_space, word_goes_on, word_ends}
use Rattle.keel_script.proofs.Visible.{is_visible_word, are_fixed, spelled_visible, words_printable}

-- the words that are written as they stand are visible

option_visible : (name : OptionName) → is_visible_word (option_name name) ≡ true
option_visible o.Paranoid = refl
option_visible o.Auto = refl
option_visible o.Attempts = refl
option_visible o.Interval = refl
option_visible o.WriteBuffer = refl
option_visible o.MaxImmutables = refl
option_visible o.Level0Trigger = refl
option_visible o.LevelBase = refl
option_visible o.TableSize = refl
option_visible o.Limit = refl
option_visible o.Buffer = refl
option_visible o.Rate = refl
option_visible o.Ratio = refl
option_visible o.Chunk = refl

call_visible : (call : Call) → is_visible_word (call_name call) ≡ true
call_visible Create = refl
call_visible Append = refl
call_visible Sync = refl
call_visible Rename = refl
call_visible Remove = refl
call_visible Cut = refl
call_visible SyncDir = refl
call_visible Read = refl

fault_visible : (fault : Fault) → is_visible_word (fault_name fault) ≡ true
fault_visible Plain = refl
fault_visible NoSpace = refl
fault_visible SpaceLimit = refl
fault_visible Fenced = refl
fault_visible Retryable = refl
fault_visible DataLoss = refl
fault_visible Corrupt = refl

synced_fixed : (sync : Bool) → are_fixed (synced sync) ≡ true
synced_fixed true = refl
synced_fixed false = refl

one_fixed : (bytes : List ℕ) (rest : Bool) → is_visible_word bytes ≡ true → rest ≡ true → (is_visible_word bytes && rest) ≡ true
one_fixed bytes rest first others = rw (first, others) refl

parts_fixed : (c : Command) → are_fixed (parts_of c) ≡ true
parts_fixed (SetOption name value) = one_fixed (option_name name) true (option_visible name) refl
parts_fixed Open = refl
parts_fixed (Put key value sync) = synced_fixed sync
parts_fixed (Del key sync) = synced_fixed sync
parts_fixed (QueuePut client key value sync) = synced_fixed sync
parts_fixed (QueueDel client key sync) = synced_fixed sync
parts_fixed Write = refl
parts_fixed Flush = refl
parts_fixed (Compact slot) = refl
parts_fixed Delete = refl
parts_fixed Resume = refl
parts_fixed ResumeStep = refl
parts_fixed (Drain moves) = refl
parts_fixed (Tick ticks) = refl
parts_fixed (Get key) = refl
parts_fixed (Scan from to) = refl
parts_fixed Error = refl
parts_fixed Space = refl
parts_fixed Files = refl
parts_fixed Levels = refl
parts_fixed (Limit limit) = refl
parts_fixed Close = refl
parts_fixed (Fail call fault skip times keep) =
    one_fixed (call_name call) (is_visible_word (fault_name fault) && true) (call_visible call) (one_fixed (fault_name fault) true (fault_visible fault) refl)
parts_fixed (Capacity bytes) = refl
parts_fixed (Crash dirops keep garbage seed) = refl

pub own_line : (c : Command) → IsInGrammar c → Says (command_line c) c
own_line c is = record { allowed = is.allowed; spelled = line_spells (parts_of c) (parts_fixed c) is.writable }

pub said_in_grammar : (line : List ℕ) (c : Command) → Says line c → IsInGrammar c
said_in_grammar line c says = record { allowed = says.allowed; writable = spelled_writable (words_of line) (parts_of c) says.spelled }

pub says_printable : (line : List ℕ) (c : Command) → Says line c → All IsPrintable line
says_printable line c says = words_printable line (spelled_visible (words_of line) (parts_of c) (parts_fixed c) says.spelled)

-- a blank line has no words, or a first one that begins with `#`

spaces_alone : (line : List ℕ) → AllByRecursion (λ byte. byte ≡ 32) line → words_of line ≡ []
spaces_alone [] all = refl
spaces_alone (byte ∷ line) all = behind_space byte line all.0 ∙ spaces_alone line all.1

no_words : (c : Command) → command_from [] ≡ Some c → ⊥
unfolding command_from first_by
no_words c read = cc

first_onto : (byte : ℕ) (words : List (List ℕ)) → (word : List ℕ) × (rest : List (List ℕ)) × (onto_first byte words ≡ (byte ∷ word) ∷ rest)
first_onto byte [] = ([], [], refl)
first_onto byte (word ∷ words) = (word, words, refl)

first_of : (byte : ℕ) (line : List ℕ) → byte ≢ 32 → (word : List ℕ) × (rest : List (List ℕ)) × (words_of (byte ∷ line) ≡ (byte ∷ word) ∷ rest)
first_of byte line other =
    elim (which (begins_word line)) [
      | inl goes ↦ let first = first_onto byte (words_of line) in (first.0, first.1, word_goes_on byte line other goes ∙ first.2)
      | inr ends ↦ ([], words_of line, word_ends byte line other ends)
    ]

no_verb : (word : List ℕ) (words : List (List ℕ)) (c : Command) → command_from ((35 ∷ word) ∷ words) ≡ Some c → ⊥
unfolding command_from first_by
no_verb word words c read = cc

comment_says_nothing : (line : List ℕ) (c : Command) → IsComment line → command_from (words_of line) ≡ Some c → ⊥
comment_says_nothing [] c comment read = comment
comment_says_nothing (byte ∷ line) c comment read =
    let first = first_of byte line (λ space. omega (arith, comment)) in
    let same : words_of (byte ∷ line) ≡ (35 ∷ first.0) ∷ first.1 = first.2 ∙ ap (λ (b : ℕ). (b ∷ first.0) ∷ first.1) comment in
    no_verb first.0 first.1 c (ap command_from (sym same) ∙ read)

pub blank_says_nothing : (line : List ℕ) (c : Command) → IsBlank line → Says line c → ⊥
blank_says_nothing line c (inl spaces) says =
    let none = spaces_alone line (recursion_from_All (λ byte. byte ≡ 32) line spaces) in
    no_words c (ap command_from (sym none) ∙ says_read line c says)
blank_says_nothing line c (inr comment) says = comment_says_nothing line c comment (says_read line c says)
