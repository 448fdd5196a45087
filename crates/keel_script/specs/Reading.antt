-- What the readers of words and lines compute: the command that some words say, where they say one.
-- No public contract cites these: it is proved of them that they give what `Says` says.
use Rattle.std.specs.Prelude.{◌≡◌, ℕ, ◌+◌, ◌*◌, ◌^◌, Bool, true, false, ◌&&◌, ◌==◌, nat_le, nat_lt, if◌then◌else◌, List, [], ◌∷◌, codes, length, find, Option, Some, None, Result, Ok, Err, option_and_then}
use Rattle.std.specs.Char.{digit_value}
use Rattle.std.specs.Fmt.{decimal}
use Rattle.std.specs.Str.{bytes_eq}
use Rattle.std.specs.Str.Parse.{digits_value}
use Rattle.keel_base.specs.declared.failure.Call.{Call}
use Rattle.keel_base.specs.declared.failure.Fault.{Fault}
use Rattle.keel_base.specs.declared.option_name.OptionName.{OptionName}
use Rattle.keel_base.specs.declared.option_name.TheConstants.OptionName.{ALL}
use Rattle.keel_base.specs.Options.{option_name}
use Rattle.keel_script.specs.declared.command.Command.{Command}
use Rattle.keel_script.specs.declared.command.Command.TheVariants as command
use Rattle.keel_script.specs.declared.command.LineError.{LineError}
use Rattle.keel_script.specs.declared.command.LineError.TheVariants as error
use Rattle.keel_script.specs.declared.names.TheConstants.{CALLS, DEVICE_FAULTS}
use Rattle.keel_script.specs.declared.verb.TheConstants.{VERBS}
use Rattle.keel_script.specs.declared.verb.Verb.{Verb}
use Rattle.keel_script.specs.declared.verb.Verb.TheVariants as verb
use Rattle.keel_script.specs.Names.{fault_name, call_name}
use Rattle.keel_script.specs.Texts.{is_plain}
use Rattle.keel_script.specs.Verbs.{verb_name}

-- a step, and the next one where it gave something
infixl 10 ◌>>=◌
abbrev pub ◌>>=◌ : {A B : Type 0} → Option A → (A → Option B) → Option B
o >>= f = option_and_then f o

-- what a reader gave, seen by view, is what is there
abbrev pub Shows : {X Y : Type 0} → (X → Y) → Option X → Option Y → Type 0
Shows view (Some x) there = there ≡ Some (view x)
Shows view None there = there ≡ None

-- the same, unless memory ran out
abbrev pub Fails : {Y : Type 0} → LineError → Option Y → Type 0
Fails error.NotACommand there = there ≡ None
Fails error.OutOfMemory there = Unit {0}

abbrev pub Gives : {X Y : Type 0} → (X → Y) → Result X LineError → Option Y → Type 0
Gives view (Ok x) there = there ≡ Some (view x)
Gives view (Err e) there = Fails e there

-- the number that is printed so
unfoldable pub decimal_from : List ℕ → Option ℕ
decimal_from word = let n = digits_value 10 word in if bytes_eq word (decimal n) && nat_lt n (2 ^ 64) then Some n else None

-- two hexadecimal digits, and what follows them
abbrev pub pair_at : List ℕ → Option (ℕ × List ℕ)
pair_at [] = None
pair_at (high ∷ []) = None
pair_at (high ∷ low ∷ rest) =
    if nat_lt (digit_value high) 16 && nat_lt (digit_value low) 16 then Some (16 * digit_value high + digit_value low, rest) else None

-- a byte that stands for itself, and what follows it
abbrev pub plain_at : ℕ → List ℕ → Option (ℕ × List ℕ)
plain_at first rest = if is_plain first then Some (first, rest) else None

-- the first byte of a text, and the spelling of the others
unfoldable pub byte_at : List ℕ → Option (ℕ × List ℕ)
byte_at [] = None
byte_at (first ∷ rest) = if first == 37 then pair_at rest else plain_at first rest

-- a byte in front of others
abbrev pub onto : Option (ℕ × List ℕ) → Option (List ℕ) → Option (List ℕ)
onto first others = do
  byte ← first
  bytes ← others
  Some (byte.0 ∷ bytes)

-- the bytes of a text
abbrev pub bytes_from : List ℕ → Option (List ℕ)
bytes_from [] = Some []
bytes_from (first ∷ []) = onto (byte_at (first ∷ [])) (Some [])
bytes_from (first ∷ second ∷ []) = onto (byte_at (first ∷ second ∷ [])) (bytes_from (second ∷ []))
bytes_from (first ∷ high ∷ low ∷ rest) =
    onto (byte_at (first ∷ high ∷ low ∷ rest)) (if first == 37 then bytes_from rest else bytes_from (high ∷ low ∷ rest))

-- the text that a word is
unfoldable pub text_from : List ℕ → Option (List ℕ)
text_from word = if bytes_eq word (codes "%") then Some [] else (if length word == 0 then None else bytes_from word)

-- what has such a name
abbrev pub verb_from : List ℕ → Option Verb
verb_from word = find (λ verb. bytes_eq (verb_name verb) word) VERBS

abbrev pub option_name_from : List ℕ → Option OptionName
option_name_from word = find (λ name. bytes_eq (option_name name) word) ALL

abbrev pub call_from : List ℕ → Option Call
call_from word = find (λ call. bytes_eq (call_name call) word) CALLS

abbrev pub fault_from : List ℕ → Option Fault
fault_from word = find (λ fault. bytes_eq (fault_name fault) word) DEVICE_FAULTS

-- the first of some words
abbrev pub word_at : List (List ℕ) → Option (List ℕ × List (List ℕ))
word_at [] = None
word_at (word ∷ words) = Some (word, words)

-- what the first word is by a reader of words, and the words behind it
unfoldable pub first_by : {A : Type 0} → (List ℕ → Option A) → List (List ℕ) → Option (A × List (List ℕ))
first_by from words = do
  first ← word_at words
  value ← from first.0
  Some (value, first.1)

-- a number that is not over this one
unfoldable pub number_to : ℕ → List (List ℕ) → Option (ℕ × List (List ℕ))
number_to most words = do
  number ← first_by decimal_from words
  if nat_le number.0 most then Some number else None

-- no word more
abbrev pub end_at : List (List ℕ) → Option (Unit {0})
end_at [] = Some tt
end_at (word ∷ words) = None

-- no word more, or `sync` and no word more
unfoldable pub sync_at : List (List ℕ) → Option Bool
sync_at [] = Some false
sync_at (word ∷ words) = if bytes_eq word (codes "sync") then (end_at words >>= λ _. Some true) else None

-- a command that is one word
unfoldable pub alone : Command → List (List ℕ) → Option Command
alone command words = end_at words >>= λ _. Some command

-- the command that is said by a verb and these words, for each verb that is not alone

unfoldable pub set_option_at : List (List ℕ) → Option Command
set_option_at words = do
  name ← first_by option_name_from words
  value ← first_by decimal_from name.1
  last ← end_at value.1
  Some (command.SetOption name.0 value.0)

unfoldable pub put_at : List (List ℕ) → Option Command
put_at words = do
  key ← first_by text_from words
  value ← first_by text_from key.1
  sync ← sync_at value.1
  Some (command.Put key.0 value.0 sync)

unfoldable pub del_at : List (List ℕ) → Option Command
del_at words = do
  key ← first_by text_from words
  sync ← sync_at key.1
  Some (command.Del key.0 sync)

unfoldable pub queue_put_at : ℕ → List (List ℕ) → Option Command
queue_put_at client words = do
  key ← first_by text_from words
  value ← first_by text_from key.1
  sync ← sync_at value.1
  Some (command.QueuePut client key.0 value.0 sync)

unfoldable pub queue_del_at : ℕ → List (List ℕ) → Option Command
queue_del_at client words = do
  key ← first_by text_from words
  sync ← sync_at key.1
  Some (command.QueueDel client key.0 sync)

unfoldable pub queue_at : List (List ℕ) → Option Command
queue_at words = do
  client ← number_to 63 words
  write ← word_at client.1
  if bytes_eq write.0 (codes "put") then queue_put_at client.0 write.1 else (if bytes_eq write.0 (codes "del") then queue_del_at client.0 write.1 else None)

unfoldable pub compact_at : List (List ℕ) → Option Command
compact_at words = do
  slot ← number_to 1 words
  last ← end_at slot.1
  Some (command.Compact slot.0)

unfoldable pub drain_at : List (List ℕ) → Option Command
drain_at words = do
  moves ← number_to 1000000 words
  last ← end_at moves.1
  Some (command.Drain moves.0)

unfoldable pub tick_at : List (List ℕ) → Option Command
tick_at words = do
  ticks ← first_by decimal_from words
  last ← end_at ticks.1
  Some (command.Tick ticks.0)

unfoldable pub get_at : List (List ℕ) → Option Command
get_at words = do
  key ← first_by text_from words
  last ← end_at key.1
  Some (command.Get key.0)

unfoldable pub scan_at : List (List ℕ) → Option Command
scan_at words = do
  from ← first_by text_from words
  to ← first_by text_from from.1
  last ← end_at to.1
  Some (command.Scan from.0 to.0)

unfoldable pub limit_at : List (List ℕ) → Option Command
limit_at words = do
  limit ← first_by decimal_from words
  last ← end_at limit.1
  Some (command.Limit limit.0)

unfoldable pub fail_at : List (List ℕ) → Option Command
fail_at words = do
  call ← first_by call_from words
  fault ← first_by fault_from call.1
  skip ← first_by decimal_from fault.1
  times ← first_by decimal_from skip.1
  keep ← first_by decimal_from times.1
  last ← end_at keep.1
  Some (command.Fail call.0 fault.0 skip.0 times.0 keep.0)

unfoldable pub capacity_at : List (List ℕ) → Option Command
capacity_at words = do
  bytes ← first_by decimal_from words
  last ← end_at bytes.1
  Some (command.Capacity bytes.0)

unfoldable pub crash_at : List (List ℕ) → Option Command
crash_at words = do
  dirops ← first_by decimal_from words
  keep ← first_by decimal_from dirops.1
  garbage ← first_by decimal_from keep.1
  seed ← first_by decimal_from garbage.1
  last ← end_at seed.1
  Some (command.Crash dirops.0 keep.0 garbage.0 seed.0)

-- the command that begins with this word
unfoldable pub behind : Verb → List (List ℕ) → Option Command
behind verb.SetOption words = set_option_at words
behind verb.Open words = alone command.Open words
behind verb.Put words = put_at words
behind verb.Del words = del_at words
behind verb.Queue words = queue_at words
behind verb.Write words = alone command.Write words
behind verb.Flush words = alone command.Flush words
behind verb.Compact words = compact_at words
behind verb.Delete words = alone command.Delete words
behind verb.Resume words = alone command.Resume words
behind verb.ResumeStep words = alone command.ResumeStep words
behind verb.Drain words = drain_at words
behind verb.Tick words = tick_at words
behind verb.Get words = get_at words
behind verb.Scan words = scan_at words
behind verb.Error words = alone command.Error words
behind verb.Space words = alone command.Space words
behind verb.Files words = alone command.Files words
behind verb.Levels words = alone command.Levels words
behind verb.Limit words = limit_at words
behind verb.Close words = alone command.Close words
behind verb.Fail words = fail_at words
behind verb.Capacity words = capacity_at words
behind verb.Crash words = crash_at words

-- the command that these words say
unfoldable pub command_from : List (List ℕ) → Option Command
command_from words = first_by verb_from words >>= λ first. behind first.0 first.1
