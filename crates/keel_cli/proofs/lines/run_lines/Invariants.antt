use Rattle.std.proofs.Common.{◌≡◌, ◌≤◌, ◌-◌, ℕ, List, length}
use Rattle.keel_lines.specs.Delivered.{Delivered}
use Rattle.keel_lines.specs.Lines.{longest_input}
use Rattle.keel_machine.specs.States.{Footing}
use Rattle.keel_cli.specs.Driving.{DriverLeads}
use Rattle.keel_cli.specs.Sessions.{MayBegin}
use Rattle.keel_cli.proofs.Running.{RunsSoFar}
use Rattle.keel_cli.proofs.lines.run_lines.Given as goal

-- these lines were given, and carried out
abbrev pub invariant-lines : goal.invariant-lines
invariant-lines g l = record {
  lines : List (List ℕ);
  given : Delivered (g.S.Source.remaining l.fn.source) l.reader lines;
  number_is : l.number ≡ length lines;
  few : l.number ≤ l.reader.passed;
  within : l.reader.passed ≤ longest_input;
  so_far : (footing : Footing) → MayBegin footing (g.V.Disk.seen l.fn.device).told
      → DriverLeads l.driver (RunsSoFar footing (g.V.Disk.seen l.fn.device) (g.K.Sink.held l.fn.out) lines (g.K.Sink.held l.out));
  later : g.K.Sink.faults l.fn.out ≤ g.K.Sink.faults l.out;
  read_later : g.S.Source.faults l.fn.source ≤ l.reader.faults;
}

abbrev pub decreases-lines : goal.decreases-lines
decreases-lines g l = longest_input - l.reader.passed
