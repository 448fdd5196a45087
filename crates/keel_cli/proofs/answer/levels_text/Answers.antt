use Rattle.keel_cli.proofs.Listings.{levels_lines}
use Rattle.keel_cli.proofs.answer.levels_text.Goals as goal

pub returns : goal.returns
returns c =
    levels_lines c.args.view c.add_level.new.lines c.add_level-2.new.lines c.add_level-3.new.lines c.add_level-4.new.lines c.add_memory.new.lines
    (rw c.new-lines.ensures at c.in_ok-add_level.ensures) c.in_ok-add_level-2.ensures c.in_ok-add_level-3.ensures c.in_ok-add_level-4.ensures c.in_ok-add_memory.ensures
