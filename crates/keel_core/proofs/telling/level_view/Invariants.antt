use Rattle.std.proofs.Common.{◌≡◌, ◌+◌, ◌*◌, ◌≤◌, length, drop}
use Rattle.keel_machine.specs.Telling.{on_level, sizes_of}
use Rattle.keel_core.proofs.telling.level_view.Given as goal

-- what is counted, with the tables that are left, is that of all
abbrev pub invariant-loop-table : goal.invariant-loop-table
invariant-loop-table l = record {
  files : l.files + length (on_level l.level (drop l.table-index l.tables)) ≡ length (on_level l.level l.tables);
  few : l.files ≤ l.table-index;
  bytes : l.bytes + sizes_of (on_level l.level (drop l.table-index l.tables)) ≡ sizes_of (on_level l.level l.tables);
  small : l.bytes ≤ 18446744073709551616 * l.table-index;
}
