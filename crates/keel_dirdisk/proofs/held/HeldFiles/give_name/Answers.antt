use Rattle.std.proofs.Common.{sym}
use Rattle.keel_dirdisk.proofs.Opening.{with_name-at, with_name-none}
use Rattle.keel_dirdisk.proofs.held.HeldFiles.give_name.Goals as goal

pub returns-in-Some : goal.returns-in-Some
returns-in-Some g c =
    with_name-at c.args.from c.args.to c.args.self.now.files.items c.in-Some.place c.index_mut.result.now c.in-Some.ensures.found c.in-Some.ensures.first c.index_mut.ensures.value

pub returns-in_default : goal.returns-in_default
returns-in_default g c = sym (with_name-none c.args.from c.args.to c.args.self.now.files.items c.in_default.ensures.none)
