-- What a run promises of its reads, of its commands and replies alone: they show the last write that was acknowledged.
use Rattle.std.specs.Prelude.{◌≡◌, ◌⊎◌, ℕ, ◌==◌, nat_le, ◌&&◌, ◌||◌, Bool, true, if◌then◌else◌, Option, None, Some, List, [], ◌∷◌, length}
use Rattle.keel_base.specs.Keys.{key_eq, key_le, key_lt}
use Rattle.keel_script.specs.declared.command.Command.{Command}
use Rattle.keel_script.specs.declared.command.Command.TheVariants.{Open, Put, Del, QueuePut, QueueDel, Get, Scan}
use Rattle.keel_script.specs.declared.reply.Reply.{Reply}
use Rattle.keel_script.specs.declared.reply.Reply.TheVariants.{Opened, PutOk, Failed, Waiting, Queued, Value, Absent, Row, Rows}
use Rattle.keel_cli.specs.Claim.{Answered}

-- a write that was acknowledged: its number, and the value that it left, which is none behind a delete
pub record Acked : Type 0 where
  pub number : ℕ
  pub value : Option (List ℕ)

-- The last write of a key, where it was acknowledged. One that failed, or that waits, may be made or not: then there is none.
-- One with any other reply isn't made.
abbrev pub behind_write : Option (List ℕ) → Option Acked → List Reply → Option Acked
behind_write value last (PutOk seq ∷ []) = Some (record { number = seq; value = value })
behind_write value last (Failed failure ∷ []) = None
behind_write value last (Waiting ticket ∷ []) = None
behind_write value last replies = last

abbrev pub behind_queued : Option Acked → List Reply → Option Acked
behind_queued last (Queued ticket ∷ []) = None
behind_queued last replies = last

-- an opening that found so many ops has dropped a write with a greater number
abbrev pub found_to : ℕ → Option Acked → Option Acked
found_to seq None = None
found_to seq (Some write) = if nat_le write.number seq then Some write else None

abbrev pub behind_opening : Option Acked → List Reply → Option Acked
behind_opening last (Opened seq ∷ []) = found_to seq last
behind_opening last replies = last

-- the last write of a key behind a command, by the one before it
abbrev pub last_write : List ℕ → Option Acked → Command → List Reply → Option Acked
last_write key last Open replies = behind_opening last replies
last_write key last (Put written value sync) replies = if key_eq written key then behind_write (Some value) last replies else last
last_write key last (Del written sync) replies = if key_eq written key then behind_write None last replies else last
last_write key last (QueuePut client written value sync) replies = if key_eq written key then behind_queued last replies else last
last_write key last (QueueDel client written sync) replies = if key_eq written key then behind_queued last replies else last
last_write key last command replies = last

-- a read shows what that write left; a fault shows nothing
abbrev pub Shows : Option Acked → List Reply → Type 0
Shows (Some write) (Value value ∷ []) = write.value ≡ Some value
Shows (Some write) (Absent ∷ []) = write.value ≡ None
Shows last replies = Unit {0}

-- the key is one of a scan: an empty end is no upper bound
abbrev pub is_within : List ℕ → List ℕ → List ℕ → Bool
is_within from to key = key_le from key && ((length to == 0) || key_lt key to)

-- no row has the key with anything else
abbrev pub RowsShow : List ℕ → Acked → List Reply → Type 0
RowsShow key write [] = Unit {0}
RowsShow key write (Row shown value ∷ rest) = (shown ≡ key → write.value ≡ Some value) × RowsShow key write rest
RowsShow key write (other ∷ rest) = RowsShow key write rest

-- a row has the key with that value, unless a fault comes in place of rows
abbrev pub HasRow : List ℕ → List ℕ → List Reply → Type 0
HasRow key value [] = ⊥
HasRow key value (Row shown has ∷ rest) = ((shown ≡ key) × (has ≡ value)) ⊎ HasRow key value rest
HasRow key value (Rows count ∷ rest) = ⊥
HasRow key value (other ∷ rest) = Unit {0}

abbrev pub HasValue : List ℕ → Option (List ℕ) → List Reply → Type 0
HasValue key None replies = Unit {0}
HasValue key (Some value) replies = HasRow key value replies

abbrev pub ShowsRows : List ℕ → Option Acked → List Reply → Type 0
ShowsRows key None replies = Unit {0}
ShowsRows key (Some write) replies = RowsShow key write replies × HasValue key write.value replies

abbrev pub IsShown : List ℕ → Option Acked → Command → List Reply → Type 0
IsShown key last (Get asked) replies = asked ≡ key → Shows last replies
IsShown key last (Scan from to) replies = is_within from to key ≡ true → ShowsRows key last replies
IsShown key last command replies = Unit {0}

-- so it is of that key behind this last write
abbrev pub AreShown : List ℕ → Option Acked → List Answered → Type 0
AreShown key last [] = Unit {0}
AreShown key last (answered ∷ rest) = IsShown key last answered.command answered.replies × AreShown key (last_write key last answered.command answered.replies) rest

-- Where the last `put` or `del` of a key was answered `ok N`, and no `opened S` behind it has S below N, each `get` of the key
-- and each `scan` over it that isn't a fault shows just that write.
abbrev pub ReadsRight : List Answered → Type 0
ReadsRight answered = (key : List ℕ) → AreShown key None answered
