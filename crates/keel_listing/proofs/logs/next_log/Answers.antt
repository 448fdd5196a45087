use Rattle.std.proofs.Common.{refl, get_or}
use Rattle.keel_base.specs.declared.file_name.FileName.TheVariants.{Log}
use Rattle.keel_base.specs.declared.listing.Entry.{Entry}
use Rattle.keel_listing.proofs.Choosing.{one_chosen_more}
use Rattle.keel_listing.proofs.logs.next_log.Goals as goal

pub loop-entry-preserved : goal.loop-entry-preserved
loop-entry-preserved c =
    let listing = c.args.listing.now in
    let i = c.loop-entry.entry-index in
    let default : Entry = record { name = Log 0; size = 0 } in
    let entry : Entry = get_or listing i default in
    one_chosen_more listing i c.args.least entry default c.loop-entry.chosen c.nearer-chosen.result c.loop-entry-test.true refl c.nearer-chosen.ensures c.loop-entry.invariant
