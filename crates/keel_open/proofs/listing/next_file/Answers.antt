use Rattle.keel_base.specs.declared.file_name.FileName.TheVariants.{Log}
use Rattle.keel_base.specs.declared.listing.Entry.{Entry}
use Rattle.keel_open.proofs.Numbering.{next_more}
use Rattle.keel_open.proofs.listing.next_file.Goals as goal

pub files-preserved : goal.files-preserved
files-preserved c =
    let default : Entry = record { name = Log 0; size = 0 } in
    let raised = c.raised-next in
    next_more c.args.listing.now c.files.entry-index default c.args.floor c.files.next raised.result c.files-test.true c.files.invariant raised.ensures.kept raised.ensures.over raised.ensures.one
