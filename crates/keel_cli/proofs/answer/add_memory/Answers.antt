use Rattle.keel_cli.specs.Replies.{memory_line}
use Rattle.keel_cli.proofs.answer.add_memory.Goals as goal

pub returns : goal.returns
unfolding memory_line
returns c = c.add_line.ensures
