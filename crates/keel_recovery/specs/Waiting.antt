-- Batches that are on their way into the log.
use Rattle.std.specs.Prelude.{List, ◌++◌, map, Option}
use Rattle.keel_base.specs.declared.op.Op.{Op}
use Rattle.keel_batch.specs.Batches.{AreBatches}
use Rattle.keel_group.specs.Queue.{Ticketed}
use Rattle.keel_machine.specs.Admission.{ops_of, batches_of_group}
use Rattle.keel_machine.specs.States.{Group, Story, point_of}

abbrev pub ops_waiting : List Ticketed → List (List Op)
ops_waiting waiting = map (λ (member : Ticketed). member.batch.ops) waiting

-- the batches that are on their way: in limbo, in the group in flight, and waiting
abbrev pub on_their_way : Story → Option Group → List Ticketed → List (List Op)
on_their_way story running waiting = story.limbo ++ (ops_of (batches_of_group running) ++ ops_waiting waiting)

-- those are numbered on behind the published ones, each within its limits
abbrev pub AreOnTheirWay : Story → Option Group → List Ticketed → Type 0
AreOnTheirWay story running waiting = AreBatches (point_of story).seq (on_their_way story running waiting)
