use Rattle.std.proofs.Common.{◌≡◌, ◌+◌, ◌<◌, ◌^◌, drop, length, false}
use Rattle.keel_levels.specs.Live.{tables_of}
use Rattle.keel_resume.specs.Plans.{job_of}
use Rattle.keel_core.specs.Segments.{segments_shown}
use Rattle.keel_core.specs.Views.{last_in}
use Rattle.keel_core.proofs.BootCovers.{CoversTo}
use Rattle.keel_core.proofs.store.Core.job_of_full.Given as goal

-- the job has the tables of the segments so far
abbrev pub invariant-loop-segment : goal.invariant-loop-segment
invariant-loop-segment g l = record {
  job : l.job.job ≡ job_of (tables_of l.fn.self.levels) (last_in l.fn.self) l.job.job.drafts;
  going : l.job.over ≡ false;
  few : length l.fn.self.levels + length l.job.job.drafts < 2 ^ 32;
  covers : CoversTo (segments_shown l.segment-items) (segments_shown (drop l.segment-index l.segment-items)) l.job.job.drafts;
}
