-- What a run promises of its commands and replies alone: no opening is behind a synced write that was acknowledged.
use Rattle.std.specs.Prelude.{ℕ, ◌≤◌, max, true, List, [], ◌∷◌}
use Rattle.keel_script.specs.declared.command.Command.{Command}
use Rattle.keel_script.specs.declared.command.Command.TheVariants.{Open, Put, Del}
use Rattle.keel_script.specs.declared.reply.Reply.{Reply}
use Rattle.keel_script.specs.declared.reply.Reply.TheVariants.{Opened, PutOk}

-- a command with its own replies
pub record Answered : Type 0 where
  pub command : Command
  pub replies : List Reply

-- the greatest number so far, where these are the replies to one synced write more
abbrev pub later : ℕ → List Reply → ℕ
later number (PutOk seq ∷ []) = max number seq
later number replies = number

-- the greatest number that a synced write was acknowledged with
abbrev pub acknowledged : ℕ → Command → List Reply → ℕ
acknowledged number (Put key value true) replies = later number replies
acknowledged number (Del key true) replies = later number replies
acknowledged number command replies = number

-- where these replies tell the number of the last op that an opening found, it is that number at least
abbrev pub Reaches : ℕ → List Reply → Type 0
Reaches number (Opened seq ∷ []) = number ≤ seq
Reaches number replies = Unit {0}

abbrev pub IsNotBehind : ℕ → Command → List Reply → Type 0
IsNotBehind number Open replies = Reaches number replies
IsNotBehind number command replies = Unit {0}

-- no opening is behind what was acknowledged before it, which is this number and what comes here
abbrev pub NoneLost : ℕ → List Answered → Type 0
NoneLost number [] = Unit {0}
NoneLost number (answered ∷ rest) =
    IsNotBehind number answered.command answered.replies × NoneLost (acknowledged number answered.command answered.replies) rest

-- Each opening that is answered `opened S`, behind a `put` or `del` with `sync` that was answered `ok N`, has N ≤ S.
abbrev pub NothingLost : List Answered → Type 0
NothingLost answered = NoneLost 0 answered
