-- Where memory ended at a command, and what a command that was carried out leaves.
use Rattle.std.specs.Prelude.{◌≡◌, ◌⊎◌, List, Result, Ok, Err}
use Rattle.keel_base.specs.declared.options.Options.{Options}
use Rattle.keel_script.specs.declared.command.Command.{Command}
use Rattle.keel_script.specs.declared.reply.Reply.{Reply}
use Rattle.keel_cli.specs.declared.answer.Answer.{Answer}
use Rattle.keel_cli.specs.Replies.{replies_of}
use Rattle.keel_cli.specs.Jobs.{Driven}
use Rattle.keel_cli.specs.Runs.{CarriesOnStore, Partly, Carries}
use Rattle.keel_cli.specs.Sessions.{Session, driven_in, with_store}
use Rattle.keel_cli.specs.Stores.{StoreView, Leads, Leaves}

-- Memory ended before the command, at a call of it, or behind it where its replies were to be printed.
abbrev pub StoreCutShort : Options → Driven → Command → Driven → Type 0
StoreCutShort options old command new = (new ≡ old) ⊎ (((replies : List Reply) × CarriesOnStore options old command replies new) ⊎ Partly options old command new)

-- the same of a session
pub record StoreCut (old : Session) (command : Command) (new : Session) : Type 0 where
  pub cut : StoreCutShort old.options (driven_in old) command (driven_in new)
  pub rest : new ≡ with_store (driven_in new) old

abbrev pub CutShort : Session → Command → Session → Type 0
CutShort old command new = StoreCut old command new ⊎ ((replies : List Reply) × Carries old command replies new)

-- A command was carried out on a store in this state, an opening with these options, or memory ended at it.
abbrev pub CarriedOut : {E : Type 0} → Options → Driven → Command → StoreView → Result Answer E → Type 0
CarriedOut options s command store (Ok answer) = Leads store (CarriesOnStore options s command (replies_of answer))
CarriedOut options s command store (Err e) = Leaves store (StoreCutShort options s command)
