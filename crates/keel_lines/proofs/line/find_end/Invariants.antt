use Rattle.std.proofs.Common.{◌≤◌, ◌-◌, ◌++◌, length}
use Rattle.std.specs.Io.KnownBytes.{Keeps, prepend_known}
use Rattle.keel_lines.specs.Lines.{longest_line}
use Rattle.keel_lines.specs.Pieces.{rest_of, IsBegun}
use Rattle.keel_lines.proofs.line.find_end.Given as goal

abbrev pub invariant-parts : goal.invariant-parts
invariant-parts g l = record {
  kept : Keeps (prepend_known (l.fn.line ++ rest_of l.fn.piece) (g.S.Source.remaining l.fn.source))
      (prepend_known (l.line ++ rest_of l.piece) (g.S.Source.remaining l.source));
  begun : IsBegun l.room l.line;
  later : g.S.Source.faults l.fn.source ≤ g.S.Source.faults l.source;
}

abbrev pub decreases-parts : goal.decreases-parts
decreases-parts g l = longest_line - length l.line
