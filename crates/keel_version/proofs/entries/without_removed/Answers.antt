use Rattle.std.proofs.Common.{◌≡◌, ℕ, Err, get_or, refl, subst, zero-add}
use Rattle.keel_version.specs.Applying.{each_fits, take_off}
use Rattle.keel_version.proofs.Turns.{fits, ends, is_done, taken_off, not_there}
use Rattle.keel_version.proofs.entries.without_removed.Goals as goal

pub returns-in-None : goal.returns-in-None
returns-in-None c =
    let entry = get_or c.args.removed.now c.loop-entry.entry (record { level = 0; number = 0 }) in
    let total = each_fits take_off 0 c.args.removed.now c.args.tables.items in
    let none = not_there entry c.loop-entry.tables.items c.as_slice.result.now c.as_slice.ensures.value c.in-None.ensures in
    let ended =
    ends take_off 0 c.loop-entry.entry c.args.removed.now (record { level = 0; number = 0 }) entry c.loop-entry.tables.items total
    c.loop-entry-test.true refl none c.loop-entry.invariant in
    subst (λ (n : ℕ). total ≡ Err n) (zero-add c.loop-entry.entry) ended

pub loop-entry-preserved : goal.loop-entry-preserved
loop-entry-preserved c =
    let entry = get_or c.args.removed.now c.loop-entry.entry (record { level = 0; number = 0 }) in
    let total = each_fits take_off 0 c.args.removed.now c.args.tables.items in
    let left = taken_off entry c.loop-entry.tables.items c.as_slice.result.now c.remove.new.self.items c.in-Some.place c.as_slice.ensures.value c.in-Some.ensures c.remove.ensures.items in
    fits take_off 0 c.loop-entry.entry c.args.removed.now (record { level = 0; number = 0 }) entry c.loop-entry.tables.items c.remove.new.self.items total
    c.loop-entry-test.true refl left c.loop-entry.invariant

pub returns : goal.returns
returns c =
    is_done take_off 0 c.loop-entry.entry c.args.removed.now c.loop-entry.tables.items (each_fits take_off 0 c.args.removed.now c.args.tables.items)
    c.loop-entry-test.false c.loop-entry.invariant
