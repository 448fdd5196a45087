use Rattle.std.proofs.Common.{◌≡◌, take, [], length, arith, ap}
use Rattle.std.proofs.lemmas.Grind.{common_steps}
use Rattle.keel_table.specs.Opening.{last_key_of}
use Rattle.keel_table.proofs.Searching.{none_answered, row_answered}
use Rattle.keel_table.proofs.table.Table.get.Goals as goal

pub returns-then-entries-i-clause-answer : goal.returns-then-entries-i-clause-answer
returns-then-entries-i-clause-answer g c =
    let es = c.as_slice-entries.ensures in
    none_answered c.args.self.now.entries c.count_below-i.result c.args.key.now c.args.self.now.number (g.D.Disk.seen c.args.disk.now).told (rw es at c.count_below-i.ensures.below) (omega (arith, c.if-entries-i.true, ap length es))

pub returns-clause-answer : goal.returns-clause-answer
returns-clause-answer g c =
    let es = c.as_slice-entries.ensures in
    let key : c.last_key_of-before.result.now ≡ last_key_of [] (take c.count_below-i.result c.as_slice-entries.result.now) = grind (arith, common_steps, c.last_key_of-before.ensures) in
    row_answered c.args.self.now.entries c.count_below-i.result c.last_key_of-before.result.now c.args.key.now c.index-entries-i.result _ c.args.self.now.number (g.D.Disk.seen c.args.disk.now).told c.read_row.result
    (rw es at c.count_below-i.ensures.below) (rw es at c.count_below-i.ensures.from) (omega (arith, c.if-entries-i.false, ap length es)) (rw es at c.index-entries-i.is) (rw es at key) c.read_row.ensures.answer
