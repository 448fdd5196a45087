-- The tables that a job has before it, and how it takes over all segments.
use Rattle.std.specs.Prelude.{◌≡◌, ◌≢◌, false, ℕ, ◌+◌, ◌<◌, ◌≤◌, ◌^◌, List, [], ◌∷◌, ◌++◌, length, None, vec_capacity}
use Rattle.keel_base.specs.declared.row.Row.{Row}
use Rattle.keel_levels.specs.Live.{tables_of}
use Rattle.keel_draft.specs.Drafts.{Draft, IsTableFor}
use Rattle.keel_resume.specs.Jobs.{JobState}
use Rattle.keel_resume.specs.Plans.{job_of}
use Rattle.keel_machine.specs.States.{Resumption}
use Rattle.keel_machine.specs.WritingAfter.{numbers_of}
use Rattle.keel_core.specs.declared.booting.NewJob.{NewJob}
use Rattle.keel_core.specs.declared.closing.Closed.{Closed}
use Rattle.keel_core.specs.declared.closing.Closing.{Closing}
use Rattle.keel_core.specs.declared.closing.Closing.TheVariants.{Before, Empty, Full}
use Rattle.keel_core.specs.Steps.{IsNextSegment}
use Rattle.keel_core.specs.Views.{CoreView, FullSegment, last_in}

-- ---- the segments

-- what the active segment leaves as a full one, where it has a row
abbrev pub closed_full : List Row → List ℕ → List FullSegment
closed_full [] logs = []
closed_full (row ∷ rows) logs = record { rows = row ∷ rows; logs = logs } ∷ []

-- the job takes over all segments, and no log is written to any more
abbrev pub taken_over : CoreView → CoreView
taken_over view = record view { immutable = view.immutable ++ closed_full view.rows (numbers_of view.log); rows = []; log = None }

-- the memory of that is taken: what follows has no row, and the list has room for all full segments
pub record IsClosed (view : CoreView) (closed : Closed) : Type 0 where
  pub next : IsNextSegment view closed.next
  pub none : closed.segments.items ≡ []
  pub room : length view.immutable + 1 ≤ vec_capacity closed.segments
  pub few : length view.immutable + 1 < 2 ^ 32

-- where the active segment is to be taken over it has a row, and else none
abbrev pub Closes : Closing → CoreView → Type 0
Closes Before view = view.rows ≡ []
Closes Empty view = view.rows ≡ []
Closes (Full closed) view = (view.rows ≢ []) × IsClosed view closed

abbrev pub closed_by : Closing → CoreView → CoreView
closed_by Before view = view
closed_by _ view = taken_over view

-- ---- the tables

-- each is the table of a segment's rows, of which there is one at least
abbrev pub AreTablesFor : List FullSegment → List Draft → Type 0
AreTablesFor [] [] = Unit {0}
AreTablesFor (full ∷ fulls) (draft ∷ drafts) = (full.rows ≢ []) × IsTableFor full.rows draft × AreTablesFor fulls drafts
AreTablesFor _ _ = ⊥

-- a job that hasn't begun has a table for each segment
pub record AreNewTables (view : CoreView) (running : Resumption) : Type 0 where
  pub drafts : List Draft
  pub are : AreTablesFor view.immutable drafts
  pub few : length view.levels + length drafts < 2 ^ 32
  pub steps : running.steps ≡ 0
  pub job : running.job ≡ job_of (tables_of view.levels) (last_in view) drafts

-- the tables of those that are full
pub record AreTablesOfFull (view : CoreView) (state : JobState) : Type 0 where
  pub are : AreTablesFor view.immutable state.job.drafts
  pub few : length view.levels + length state.job.drafts < 2 ^ 32
  pub job : state.job ≡ job_of (tables_of view.levels) (last_in view) state.job.drafts
  pub going : state.over ≡ false

-- a job with a table for each segment, and how it takes over the active one
pub record IsNewJob (view : CoreView) (made : NewJob) : Type 0 where
  pub closes : Closes made.closing view
  pub taken : closed_by made.closing view ≡ taken_over view
  pub tables : AreNewTables (taken_over view) made.running
