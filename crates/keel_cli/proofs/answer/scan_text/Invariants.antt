use Rattle.std.proofs.Common.{◌≡◌, take}
use Rattle.std.specs.List.{flat_map}
use Rattle.keel_cli.specs.Replies.{row_line}
use Rattle.keel_cli.proofs.answer.scan_text.Given as goal

abbrev pub invariant-loop-row : goal.invariant-loop-row
invariant-loop-row l = l.lines ≡ flat_map row_line (take l.row-index l.rows)
