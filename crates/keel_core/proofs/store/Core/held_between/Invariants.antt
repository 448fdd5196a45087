use Rattle.std.proofs.Common.{List, ◌++◌, drop}
use Rattle.keel_base.specs.declared.row.Row.{Row}
use Rattle.keel_core.specs.Scans.{AreRanges, rows_held}
use Rattle.keel_core.specs.Segments.{segments_shown}
use Rattle.keel_core.proofs.store.Core.held_between.Given as goal

-- the lists so far, with any of the segments that are left, are those of all
abbrev pub invariant-segments : goal.invariant-segments
invariant-segments g l =
    (rest : List (List Row)) → AreRanges l.from l.to (rows_held (segments_shown (drop l.segment-index l.segment-items)) l.self-inside.mem.rows) rest
    → AreRanges l.from l.to (rows_held (segments_shown l.segment-items) l.self-inside.mem.rows) (l.lists ++ rest)
