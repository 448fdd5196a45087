use Rattle.std.proofs.Common.{◌≡◌, take}
use Rattle.std.specs.List.{flat_map}
use Rattle.keel_cli.specs.Replies.{file_line}
use Rattle.keel_cli.proofs.answer.list_text.Given as goal

abbrev pub invariant-loop-entry : goal.invariant-loop-entry
invariant-loop-entry l = l.lines ≡ flat_map file_line (take l.entry-index l.entries)
