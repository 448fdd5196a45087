use Rattle.keel_cli.specs.Replies.{level_line}
use Rattle.keel_cli.proofs.answer.add_level.Goals as goal

pub returns : goal.returns
unfolding level_line
returns c = c.add_line.ensures
