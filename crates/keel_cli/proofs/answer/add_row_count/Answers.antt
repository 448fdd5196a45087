use Rattle.keel_cli.specs.Replies.{rows_line}
use Rattle.keel_cli.proofs.answer.add_row_count.Goals as goal

pub returns : goal.returns
unfolding rows_line
returns c = c.add_line.ensures
