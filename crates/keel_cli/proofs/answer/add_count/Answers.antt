use Rattle.keel_cli.specs.Replies.{count_line}
use Rattle.keel_cli.proofs.answer.add_count.Goals as goal

pub returns : goal.returns
unfolding count_line
returns c = c.add_line.ensures
