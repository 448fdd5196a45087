use Rattle.std.proofs.Common.{ap, subst, sym, ◌∙◌}
use Rattle.keel_core.specs.Flights.{next_flying}
use Rattle.keel_core.specs.Steps.{formed}
use Rattle.keel_core.specs.Views.{CoreView, IsOnPlan}
use Rattle.keel_core.proofs.Forming.{formed_goes, made_formed, refused_formed}
use Rattle.keel_core.proofs.Standing.{done_goes, failed_goes, wants_goes}
use Rattle.keel_core.proofs.Entering.{done_call, done_nearer, each_next, first_flies, formed_nearer}
use Rattle.keel_core.proofs.store.Core.start.Goals as goal

pub returns-in-Ok-make_call-clause-turn : goal.returns-in-Ok-make_call-clause-turn
returns-in-Ok-make_call-clause-turn g c =
    let old = c.args.self.now in
    let now = c.make_call.new.self in
    let act = c.next_act-act.result in
    let can = c.requires.can in
    let flies = first_flies old act can.cleared c.requires.none c.next_act-act.ensures.next c.next_act-act.ensures.limbo (each_next old now (ap (λ (v : CoreView). v.waiting) c.in-Ok-make_call.ensures.view_is) c.form.ensures.each) in
    rw (c.done.ensures.view, c.done.ensures.step, c.form.ensures.view)
    (formed_goes old old.waiting old.group _ _ (can.some c.requires.none) c.requires.none (done_call act (formed now))
    (done_goes (formed old) (formed now) act flies (made_formed act old now c.requires.none c.in-Ok-make_call.ensures)))

pub returns-in-Ok-make_call-clause-nearer : goal.returns-in-Ok-make_call-clause-nearer
returns-in-Ok-make_call-clause-nearer g c =
    let old = c.args.self.now in
    let now = c.make_call.new.self in
    let act = c.next_act-act.result in
    let can = c.requires.can in
    let view = c.in-Ok-make_call.ensures.view_is in
    let flies = first_flies old act can.cleared c.requires.none c.next_act-act.ensures.next c.next_act-act.ensures.limbo (each_next old now (ap (λ (v : CoreView). v.waiting) c.in-Ok-make_call.ensures.view_is) c.form.ensures.each) in
    let made = made_formed act old now c.requires.none c.in-Ok-make_call.ensures in
    let group = ap (λ (v : CoreView). v.group) made.view_is in
    rw (c.done.ensures.view, c.done.ensures.step, c.form.ensures.view)
    (formed_nearer old now _ _ (ap (λ (v : CoreView). v.waiting) view) (done_call act (formed now)) (can.some c.requires.none)
    (done_nearer act (formed now) (subst IsOnPlan (sym group) flies.on_plan) (ap next_flying group ∙ flies.next)))

pub returns-in-Err-Fault-clause-turn : goal.returns-in-Err-Fault-clause-turn
returns-in-Err-Fault-clause-turn g c =
    let old = c.args.self.now in
    let now = c.make_call.new.self in
    let act = c.next_act-act.result in
    let can = c.requires.can in
    let answered = rw c.in-Err-Fault.field-0-is at c.in-Err-Fault.ensures in
    let flies = first_flies old act can.cleared c.requires.none c.next_act-act.ensures.next c.next_act-act.ensures.limbo (each_next old now (ap (λ (v : CoreView). v.waiting) answered.view_is) c.form-in-Err-Fault.ensures.each) in
    rw (c.give_up.ensures.view, c.give_up.ensures.step, c.form-in-Err-Fault.ensures.view)
    (formed_goes old old.waiting old.group _ _ (can.some c.requires.none) c.requires.none tt
    (failed_goes (formed old) (formed now) act c.in-Err-Fault.fault flies (refused_formed act c.in-Err-Fault.fault old now c.requires.none answered)))

pub returns-in-Err-OutOfMemory-clause-turn : goal.returns-in-Err-OutOfMemory-clause-turn
returns-in-Err-OutOfMemory-clause-turn g c = wants_goes c.args.self.now c.make_call.new.self (rw c.in-Err-OutOfMemory.field-0-is at c.in-Err-OutOfMemory.ensures)
