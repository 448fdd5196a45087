-- How a rule is arranged on the device, and how that is answered.
use Rattle.std.specs.Prelude.{◌≡◌, Bool, true, false, Option, None, Some, List, [], ◌∷◌, Result, Ok, Err}
use Rattle.keel_base.specs.declared.memory.OutOfMemory.{OutOfMemory}
use Rattle.keel_disk.specs.declared.rule.Rule.{Rule}
use Rattle.keel_disk.specs.declared.rule.Rule.TheVariants.{Fail, Capacity}
use Rattle.keel_machine.specs.Turns.{Arranging}
use Rattle.keel_script.specs.declared.command.Command.{Command}
use Rattle.keel_script.specs.declared.command.Command.TheVariants as command
use Rattle.keel_script.specs.declared.reply.Reply.{Reply}
use Rattle.keel_script.specs.declared.reply.Reply.TheVariants as reply
use Rattle.keel_cli.specs.Jobs.{Driven, PlainTurn}

-- the rule that a command asks for, with its own numbers
abbrev pub rule_of : Command → Option Rule
rule_of (command.Fail call fault skip times keep) = Some (Fail call fault skip times keep)
rule_of (command.Capacity bytes) = Some (Capacity bytes)
rule_of _ = None

-- the reply that prints whether the rule was arranged; only a simulated device does so
abbrev pub rule_reply : Rule → Bool → Reply
rule_reply (Fail call fault skip times keep) true = reply.Armed
rule_reply (Capacity bytes) true = reply.Capacity bytes
rule_reply rule false = reply.NotSimulated

-- want of memory has none
abbrev pub arranged_replies : Rule → Result Bool OutOfMemory → Option (List Reply)
arranged_replies rule (Ok done) = Some (rule_reply rule done ∷ [])
arranged_replies rule (Err e) = None

-- this rule is arranged with these replies
pub record ArrangeRun (old : Driven) (rule : Rule) (replies : List Reply) (new : Driven) : Type 0 where
  pub answer : Result Bool OutOfMemory
  pub turn : PlainTurn old (Arranging rule answer) new
  pub prints : arranged_replies rule answer ≡ Some replies

-- memory ended at it
abbrev pub ArrangeCut : Driven → Rule → Driven → Type 0
ArrangeCut old rule new = (e : OutOfMemory) × PlainTurn old (Arranging rule (Err e)) new
