use Rattle.std.proofs.Common.{◌≤◌, ◌-◌}
use Rattle.keel_cli.specs.Stores.{StandsForSome}
use Rattle.keel_cli.proofs.Moving.{Gone}
use Rattle.keel_cli.proofs.draining.drain.Given as goal

-- so many moves were made
abbrev pub invariant-rounds : goal.invariant-rounds
invariant-rounds g l = record {
  goes : Gone l.moves l.fn.core l.fn.jobs l.made l.core l.jobs;
  few : l.made ≤ l.moves;
  told : StandsForSome l.core;
}

abbrev pub decreases-rounds : goal.decreases-rounds
decreases-rounds g l = l.moves - l.made
