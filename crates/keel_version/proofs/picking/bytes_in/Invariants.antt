use Rattle.std.proofs.Common.{◌≡◌, ◌*◌, ◌^◌, ◌≤◌, take}
use Rattle.keel_version.specs.Picking.{bytes_of}
use Rattle.keel_version.proofs.picking.bytes_in.Given as goal

abbrev pub invariant-loop-table : goal.invariant-loop-table
invariant-loop-table l = record {
  sum : l.bytes ≡ bytes_of (take l.table-index l.tables);
  fits : l.bytes ≤ 2 ^ 64 * l.table-index;
}
