use Rattle.keel_cli.specs.Replies.{file_line}
use Rattle.keel_cli.proofs.answer.add_file.Goals as goal

pub returns : goal.returns
unfolding file_line
returns c = c.add_line.ensures
