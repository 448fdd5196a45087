use Rattle.keel_core.proofs.Entering.{done_goes_nearer, failed_goes_nearer, flies_on}
use Rattle.keel_core.proofs.Standing.{done_goes, failed_goes, wants_goes}
use Rattle.keel_core.proofs.store.Core.go_on.Goals as goal

pub returns-in-Ok : goal.returns-in-Ok
returns-in-Ok g c =
    let old = c.args.self.now in
    let now = c.make_call.new.self in
    let act = c.next_act-act.result in
    let flies = flies_on old act c.requires.can c.requires.some c.next_act-act.ensures.next c.next_act-act.ensures.limbo c.next_act-act.ensures.flying in
    record {
      turn = rw (c.done.ensures.view, c.done.ensures.step) (done_goes old now act flies c.in-Ok.ensures);
      nearer = rw (c.done.ensures.view, c.done.ensures.step) (done_goes_nearer act old now flies c.in-Ok.ensures);
    }

pub returns-in-Err-Fault : goal.returns-in-Err-Fault
returns-in-Err-Fault g c =
    let old = c.args.self.now in
    let now = c.make_call.new.self in
    let act = c.next_act-act.result in
    let flies = flies_on old act c.requires.can c.requires.some c.next_act-act.ensures.next c.next_act-act.ensures.limbo c.next_act-act.ensures.flying in
    let answered = rw c.in-Err-Fault.field-0-is at c.in-Err-Fault.ensures in
    record {
      turn = rw (c.give_up.ensures.view, c.give_up.ensures.step) (failed_goes old now act c.in-Err-Fault.fault flies answered);
      nearer = rw (c.give_up.ensures.view, c.give_up.ensures.step) (failed_goes_nearer act c.in-Err-Fault.fault old now flies answered);
    }

pub returns-in-Err-OutOfMemory : goal.returns-in-Err-OutOfMemory
returns-in-Err-OutOfMemory g c = record {
  turn = wants_goes c.args.self.now c.make_call.new.self (rw c.in-Err-OutOfMemory.field-0-is at c.in-Err-OutOfMemory.ensures);
  nearer = tt;
}
