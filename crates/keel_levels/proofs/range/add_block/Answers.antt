use Rattle.std.proofs.Common.{Option, [], Ok, Err, subst}
use Rattle.keel_disk.specs.Told.{Told}
use Rattle.keel_table.specs.Answers.{BlockAnswers}
use Rattle.keel_table.specs.Opening.{nth_entry}
use Rattle.keel_table.specs.Tables.{entries_of, number_of}
use Rattle.keel_levels.specs.Ranges.{AddsBlock, IsBlockOf}
use Rattle.keel_levels.proofs.Spanning.{block_read}
use Rattle.keel_levels.proofs.Turning.{ends}
use Rattle.keel_levels.proofs.range.add_block.Goals as goal

pub returns-in-Ok-add_rows-clause-adds : goal.returns-in-Ok-add_rows-clause-adds
returns-in-Ok-add_rows-clause-adds g c = λ told last_seq file seen readable is_table.
    let table = c.args.table.now in
    let answer = subst (λ (d : Option Told). BlockAnswers (nth_entry [] (entries_of table) c.args.i) (number_of table) d (Ok c.in-Ok.block)) seen c.in-Ok.ensures.answer in
    record {
      block = c.in-Ok.block;
      is = block_read told last_seq file table c.args.i (Ok c.in-Ok.block) readable is_table answer;
      rows = c.in-Ok-add_rows.ensures.adds;
      stops = c.in-Ok-add_rows.ensures.ends;
    }

pub returns-in-Err-clause-adds : goal.returns-in-Err-clause-adds
returns-in-Err-clause-adds g c = λ told last_seq file seen readable is_table.
    let table = c.args.table.now in
    let answer = subst (λ (d : Option Told). BlockAnswers (nth_entry [] (entries_of table) c.args.i) (number_of table) d (Err c.in-Err.fault)) seen c.in-Err.ensures.answer in
    ends (IsBlockOf file c.args.i) (AddsBlock c.args.from.now c.args.to.now c.args.i c.args.rows.now.items c.args.rows.now.items file) c.in-Err.fault (block_read told last_seq file table c.args.i (Err c.in-Err.fault) readable is_table answer)
