use Rattle.std.proofs.Common.{◌-◌, ◌≤◌, length}
use Rattle.std.specs.Io.KnownBytes.{Consumes}
use Rattle.keel_dirdisk.proofs.folder.take_some.Given as goal

abbrev pub invariant-reading : goal.invariant-reading
invariant-reading g l = record {
  few : length l.bytes ≤ l.most;
  so_far : Consumes (g.F.Read.remaining l.fn.file) (g.F.Read.remaining l.file) l.bytes;
}

abbrev pub decreases-reading : goal.decreases-reading
decreases-reading g l = l.most - length l.bytes
