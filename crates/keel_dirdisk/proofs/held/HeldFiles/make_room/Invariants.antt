use Rattle.std.proofs.Common.{◌≡◌, filter, vec_len}
use Rattle.keel_dirdisk.specs.Opened.{is_unsettled}
use Rattle.keel_dirdisk.proofs.held.HeldFiles.make_room.Given as goal

abbrev pub invariant-loop-self : goal.invariant-loop-self
invariant-loop-self g l = filter is_unsettled l.self.files.items ≡ filter is_unsettled l.fn.self.files.items

abbrev pub decreases-loop-self : goal.decreases-loop-self
decreases-loop-self g l = vec_len l.self.files
