use Rattle.keel_name.proofs.Ascending.{taken_more}
use Rattle.keel_name.proofs.sorting.sorted.Goals as goal

pub loop-entry-preserved : goal.loop-entry-preserved
loop-entry-preserved c = record {
  order = c.in_ok-insert.ensures.order;
  sizes = taken_more c.args.files.now c.loop-entry.entry-index _ c.loop-entry.sorted.items c.insert.new.sorted.items c.loop-entry-test.true c.loop-entry.invariant.sizes c.in_ok-insert.ensures;
}
