use Rattle.std.proofs.Common.{◌≡◌, true, Some, is_some, sym, ◌∙◌, ap}
use Rattle.keel_base.specs.Counts.{raised}
use Rattle.keel_disk.specs.Step.{done}
use Rattle.keel_simdisk.specs.declared.sim_disk.SimDisk.{SimDisk}
use Rattle.keel_simdisk.proofs.Answering.{passes, fails}
use Rattle.keel_simdisk.proofs.sim_disk.SimDisk.make.Goals as goal

pub returns-in_default-clause-exact : goal.returns-in_default-clause-exact
returns-in_default-clause-exact c =
    let takes : is_some (done c.args.change c.args.self.now.state) ≡ true = sym c.takes.ensures ∙ c.if-not-takes.false in
    passes c.args.change c.args.self.now c.note-in_default.new.self c.kind_of.result c.first-met.result c.count.new.self c.make.new.self
    takes c.kind_of.ensures c.first-met.ensures.met c.count.ensures c.in_default.ensures.which c.in_ok-make.ensures.ok c.note-in_default.ensures

pub returns-clause-exact : goal.returns-clause-exact
returns-clause-exact c =
    let takes : is_some (done c.args.change c.args.self.now.state) ≡ true = sym c.takes.ensures ∙ c.if-not-takes.false in
    fails c.args.change c.args.self.now c.note_fault-2.new.self c.kind_of.result c.first-met.result c.count-2.new.self c.fail.new.self c.in-Some.planned
    takes c.kind_of.ensures c.first-met.ensures.met c.count-2.ensures c.in-Some.ensures.which c.in_ok-fail.ensures.ok
    (c.note_fault-2.ensures.after ∙ ap (λ (d : SimDisk). record d { faults = raised d.faults; last_fault = Some c.in-Some.planned.fault }) c.note-2.ensures)
