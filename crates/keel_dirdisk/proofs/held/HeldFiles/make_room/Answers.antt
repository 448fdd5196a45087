use Rattle.std.proofs.Common.{ap, filter, ◌∙◌}
use Rattle.keel_dirdisk.specs.Opened.{is_unsettled}
use Rattle.keel_dirdisk.proofs.Opening.{filter-remove}
use Rattle.keel_dirdisk.proofs.held.HeldFiles.make_room.Goals as goal

pub loop-self-preserved : goal.loop-self-preserved
loop-self-preserved g c = ap (filter is_unsettled) c.remove.ensures.items ∙ filter-remove is_unsettled c.loop-self.self.files.items c.in-Some.place c.in-Some.ensures ∙ c.loop-self.invariant
