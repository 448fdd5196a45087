use Rattle.std.proofs.Common.{◌≤◌, ◌-◌, length, take}
use Rattle.std.specs.Io.KnownBytes.{Appends}
use Rattle.keel_base.proofs.sink.give_all.Given as goal

abbrev pub invariant-giving : goal.invariant-giving
invariant-giving g l = record {
  within : l.given ≤ length l.bytes;
  so_far : Appends (g.K.Sink.held l.fn.sink) (g.K.Sink.held l.sink) (take l.given l.bytes);
  later : g.K.Sink.faults l.fn.sink ≤ g.K.Sink.faults l.sink;
}

abbrev pub decreases-giving : goal.decreases-giving
decreases-giving g l = length l.bytes - l.given
