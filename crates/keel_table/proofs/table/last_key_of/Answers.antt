use Rattle.std.proofs.Common.{◌∙◌, []}
use Rattle.keel_table.proofs.Searching.{last_one}
use Rattle.keel_table.proofs.table.last_key_of.Goals as goal

pub returns-in-Some : goal.returns-in-Some
returns-in-Some c = c.as_slice.ensures ∙ last_one [] c.args.entries.now c.in-Some.entry.now c.in-Some.ensures.value
