-- What a trail shows: the story since the opening.
use Rattle.std.specs.Prelude.{◌≡◌, ℕ, ◌+◌, Bool, true, List, [], ◌++◌, length, take, drop, vec_len, if◌then◌else◌}
use Rattle.keel_base.specs.Points.{fold_batches}
use Rattle.keel_base.specs.declared.op.Batch.{Batch}
use Rattle.keel_base.specs.declared.op.Op.{Op}
use Rattle.keel_machine.specs.Admission.{ops_of}
use Rattle.keel_machine.specs.States.{Story}
use Rattle.keel_draft.specs.Drafts.{count_ops}
use Rattle.keel_core.specs.declared.trail.Trail.{Trail}

-- the number of the last op at the opening, the batches that were published since, those that were handed to a log and
-- aren't, and how many of the published ones must not be lost
pub record TrailShown : Type 0 where
  pub start : ℕ
  pub log : List (List Op)
  pub limbo : List (List Op)
  pub floor : ℕ

abbrev pub log_in : Trail → List Batch
log_in t = take t.published t.batches.items

abbrev pub limbo_in : Trail → List Batch
limbo_in t = drop t.published t.batches.items

abbrev pub shown : Trail → TrailShown
shown t = record { start = t.start; log = ops_of (log_in t); limbo = ops_of (limbo_in t); floor = t.floor }

-- the number of the last published op
abbrev pub seq_in : TrailShown → ℕ
seq_in trail = trail.start + count_ops trail.log

-- no batch yet
abbrev pub new_trail : ℕ → TrailShown
new_trail start = record { start = start; log = []; limbo = []; floor = 0 }

pub record IsEmptyTrail (start : ℕ) (t : Trail) : Type 0 where
  pub shows : shown t ≡ new_trail start
  pub no_limbo : limbo_in t ≡ []
  pub none : vec_len t.batches ≡ 0

-- ---- how it goes on

-- batches were handed to a log
abbrev pub handed : List (List Op) → TrailShown → TrailShown
handed batches trail = record trail { limbo = trail.limbo ++ batches }

-- what is in limbo is published; behind a sync none of it must be lost
abbrev pub published : Bool → TrailShown → TrailShown
published sync trail = record trail {
  log = trail.log ++ trail.limbo;
  limbo = [];
  floor = if sync then length (trail.log ++ trail.limbo) else trail.floor;
}

-- none of the published ones must be lost any more
abbrev pub cleared : TrailShown → TrailShown
cleared trail = record trail { limbo = []; floor = length trail.log }

-- ---- stories

-- The story has the batches of the trail behind others, which lead to the number at the opening. What is in limbo, and what
-- must not be lost, is as the trail has it once the boot has cleared: until then that of earlier openings is the story's alone.
pub record Continues (booted : Bool) (trail : TrailShown) (story : Story) : Type 0 where
  pub earlier : List (List Op)
  pub start_is : (fold_batches story.start earlier).seq ≡ trail.start
  pub log_is : story.log ≡ earlier ++ trail.log
  pub limbo_is : booted ≡ true → story.limbo ≡ trail.limbo
  pub floor_is : booted ≡ true → story.floor ≡ length earlier + trail.floor
