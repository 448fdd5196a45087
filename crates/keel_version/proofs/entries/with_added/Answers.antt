use Rattle.std.proofs.Common.{sym}
use Rattle.keel_version.specs.Applying.{each_fits, put_on}
use Rattle.keel_version.proofs.Turns.{fits, ends, is_done, was_put, was_not_put}
use Rattle.keel_version.proofs.entries.with_added.Goals as goal

pub returns-then-not-branch : goal.returns-then-not-branch
returns-then-not-branch c =
    let table = c.index-added-place.result in
    let total = each_fits put_on c.args.first c.args.added.now c.args.tables.items in
    let none = was_not_put table c.loop-place.tables.items c.put_on.new.tables.items c.in_ok-put_on.field-0 c.in_ok-put_on.ensures c.if-not-branch.true in
    let ended =
    ends put_on c.args.first c.loop-place.place c.args.added.now table table c.loop-place.tables.items total
    c.loop-place-test.true (sym c.index-added-place.is) none c.loop-place.invariant in
    rw c.from.ensures ended

pub loop-place-preserved : goal.loop-place-preserved
loop-place-preserved c =
    let table = c.index-added-place.result in
    let total = each_fits put_on c.args.first c.args.added.now c.args.tables.items in
    let put = was_put table c.loop-place.tables.items c.put_on.new.tables.items c.in_ok-put_on.field-0 c.in_ok-put_on.ensures c.if-not-branch.false in
    fits put_on c.args.first c.loop-place.place c.args.added.now table table c.loop-place.tables.items c.put_on.new.tables.items total
    c.loop-place-test.true (sym c.index-added-place.is) put c.loop-place.invariant

pub returns : goal.returns
returns c =
    is_done put_on c.args.first c.loop-place.place c.args.added.now c.loop-place.tables.items (each_fits put_on c.args.first c.args.added.now c.args.tables.items)
    c.loop-place-test.false c.loop-place.invariant
