use Rattle.std.proofs.Common.{◌≡◌, List, Some, None, length, sym, subst, ◌∙◌, arith}
use Rattle.keel_base.specs.declared.row.Row.{Row}
use Rattle.keel_disk.proofs.Faults.{quiet_itself, quiet_behind}
use Rattle.keel_table.specs.Tables.{entries_of}
use Rattle.keel_directory.specs.TableFiles.{table_rows}
use Rattle.keel_levels.specs.Ranges.{AddsBlock, between}
use Rattle.keel_levels.proofs.Spanning.{begins, goes_on, stops, finishes, IsLeft}
use Rattle.keel_levels.proofs.Turning.{ends}
use Rattle.keel_levels.proofs.range.rows_in_table.Goals as goal

pub reading-init : goal.reading-init
reading-init g c = record {
  quiet = quiet_itself _;
  left = λ told last_seq file seen readable is_table.
      subst (λ (rows : List Row). IsLeft c.args.from.now c.args.to.now file c.first_block-i.result rows) (sym c.new-rows.ensures.items)
      (begins c.args.from.now c.args.to.now told last_seq file c.args.table.now c.first_block-i.result readable is_table c.first_block-i.ensures.before);
}

pub returns-in-Ok-true-clause-says : goal.returns-in-Ok-true-clause-says
returns-in-Ok-true-clause-says g c = λ told last_seq file seen readable is_table.
    let now : (g.D.Disk.seen c.reading.disk).told ≡ Some told = c.reading.invariant.quiet.same ∙ seen in
    let adds = rw c.in-Ok-true.field-0-test at (c.in-Ok-true.ensures.adds told last_seq file now readable is_table) in
    c.from_vec.ensures ∙ stops c.args.from.now c.args.to.now told last_seq file c.reading.i c.reading.rows.items c.add_block.new.rows.items readable (c.reading.invariant.left told last_seq file seen readable is_table) adds

pub returns-in-Ok-true-clause-quiet : goal.returns-in-Ok-true-clause-quiet
returns-in-Ok-true-clause-quiet g c = quiet_behind _ _ _ None c.reading.invariant.quiet c.in-Ok-true.ensures.quiet

pub returns-in-Err-clause-says : goal.returns-in-Err-clause-says
returns-in-Err-clause-says g c = λ told last_seq file seen readable is_table.
    let now : (g.D.Disk.seen c.reading.disk).told ≡ Some told = c.reading.invariant.quiet.same ∙ seen in
    ends (AddsBlock c.args.from.now c.args.to.now c.reading.i c.reading.rows.items c.add_block.new.rows.items file) (λ (rows : List Row). rows ≡ between c.args.from.now c.args.to.now (table_rows file)) c.in-Err.fault
    (c.in-Err.ensures.adds told last_seq file now readable is_table)

pub returns-in-Err-clause-quiet : goal.returns-in-Err-clause-quiet
returns-in-Err-clause-quiet g c = quiet_behind _ _ _ _ c.reading.invariant.quiet c.in-Err.ensures.quiet

pub reading-preserved : goal.reading-preserved
reading-preserved g c = record {
  quiet = quiet_behind _ _ _ None c.reading.invariant.quiet c.in-Ok-false.ensures.quiet;
  left = λ told last_seq file seen readable is_table.
      let now : (g.D.Disk.seen c.reading.disk).told ≡ Some told = c.reading.invariant.quiet.same ∙ seen in
      goes_on c.args.from.now c.args.to.now file c.reading.i c.reading.rows.items c.add_block.new.rows.items c.in-Ok-false.field-0 (c.reading.invariant.left told last_seq file seen readable is_table)
      (c.in-Ok-false.ensures.adds told last_seq file now readable is_table);
}

pub returns-clause-says : goal.returns-clause-says
returns-clause-says g c = λ told last_seq file seen readable is_table.
    let end : c.reading.i ≡ length (entries_of c.args.table.now) = omega (arith, c.first_block-i.ensures.within, c.blocks-i-end.ensures) in
    c.from_vec-2.ensures ∙ finishes c.args.from.now c.args.to.now file c.args.table.now c.reading.i c.reading.rows.items is_table end (c.reading.invariant.left told last_seq file seen readable is_table)
