-- Full segments as the core has them.
use Rattle.std.specs.Prelude.{List, map}
use Rattle.keel_core.specs.declared.segments.Segment.{Segment}
use Rattle.keel_core.specs.Views.{FullSegment}

abbrev pub segment_shown : Segment → FullSegment
segment_shown segment = record { rows = segment.mem.rows; logs = segment.logs.items }

abbrev pub segments_shown : List Segment → List FullSegment
segments_shown segments = map segment_shown segments
