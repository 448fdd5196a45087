use Rattle.std.proofs.Common.{List, Some, subst}
use Rattle.keel_mem.specs.Finding.{Finds}
use Rattle.keel_core.specs.declared.segments.Segment.{Segment}
use Rattle.keel_core.specs.Gets.{latest}
use Rattle.keel_core.specs.Segments.{segments_shown}
use Rattle.keel_core.proofs.Getting.{held_goes}
use Rattle.keel_core.proofs.store.Core.get.Goals as goal

pub returns-in-Some : goal.returns-in-Some
returns-in-Some g c =
    let finds = subst (λ (segments : List Segment). Finds (latest c.args.key.now (segments_shown segments) c.self.inside.mem.rows) (Some c.in-Some.found)) c.as_slice.ensures.value c.in-Some.ensures in
    record {
      turn = rw (← c.self.view_is) (held_goes _ c.args.key.now c.in-Some.found c.got_found.result finds c.got_found.ensures);
    }
