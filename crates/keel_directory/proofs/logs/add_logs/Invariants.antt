use Rattle.std.proofs.Common.{List, drop}
use Rattle.std.specs.List.{AllByRecursion}
use Rattle.keel_directory.specs.declared.logs.Replayed.{Replayed}
use Rattle.keel_directory.specs.Refusals.{Refusal}
use Rattle.keel_directory.specs.Replays.{IsNumbered}
use Rattle.keel_directory.proofs.Replaying.{Adds, Refuses}
use Rattle.keel_directory.proofs.logs.add_logs.Given as goal

-- what the logs that are left add, or their refusal, is that of all
abbrev pub invariant-loop-log : goal.invariant-loop-log
invariant-loop-log l = record {
  adds : (after : List Replayed) → Adds (drop l.log-index l.logs) l.batches.items after → Adds l.logs l.initial.batches.items after;
  refused : (refusal : Refusal) → Refuses (drop l.log-index l.logs) refusal → Refuses l.logs refusal;
  numbered : AllByRecursion IsNumbered l.initial.batches.items → AllByRecursion IsNumbered l.batches.items;
}
