use Rattle.keel_cli.proofs.PutTurns.{Gone, steps_left}
use Rattle.keel_cli.proofs.Tickets.{KnownIn}
use Rattle.keel_cli.proofs.putting.put_batch.Given as goal

abbrev pub invariant-writing : goal.invariant-writing
invariant-writing g l = record {
  goes : Gone l.fn.core l.fn.jobs l.fn.batch l.ticket l.core l.jobs;
  known : KnownIn l.ticket l.core;
}

abbrev pub decreases-writing : goal.decreases-writing
decreases-writing g l = steps_left l.core l.jobs
