use Rattle.std.proofs.Common.{◌≡◌, take, [], arith}
use Rattle.std.proofs.lemmas.Grind.{common_steps}
use Rattle.keel_table.specs.Opening.{last_key_of}
use Rattle.keel_table.proofs.Searching.{block_answered, block_fits}
use Rattle.keel_table.proofs.table.Table.block.Goals as goal

pub returns-clause-answer : goal.returns-clause-answer
returns-clause-answer g c =
    let key : c.last_key_of-before.result.now ≡ last_key_of [] (take c.args.i c.as_slice-entries.result.now) = grind (arith, common_steps, c.last_key_of-before.ensures) in
    block_answered c.args.self.now.entries c.args.i c.last_key_of-before.result.now c.index-entries-i.result _ c.args.self.now.number (g.D.Disk.seen c.args.disk.now).told c.read_block.result
    c.requires (rw c.as_slice-entries.ensures at c.index-entries-i.is) (rw c.as_slice-entries.ensures at key) c.read_block.ensures.answer

pub returns-clause-fit : goal.returns-clause-fit
returns-clause-fit g c =
    let key : c.last_key_of-before.result.now ≡ last_key_of [] (take c.args.i c.as_slice-entries.result.now) = grind (arith, common_steps, c.last_key_of-before.ensures) in
    block_fits c.args.self.now.entries c.args.i c.last_key_of-before.result.now c.index-entries-i.result _ c.read_block.result
    c.requires (rw c.as_slice-entries.ensures at c.index-entries-i.is) (rw c.as_slice-entries.ensures at key) c.read_block.ensures.fit
