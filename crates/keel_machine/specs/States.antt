-- The machine's states: plain data, one record for each part.
use Rattle.std.specs.Prelude.{◌≡◌, ℕ, ◌+◌, Bool, true, false, List, [], ◌++◌, length, map, take, drop, Option, None, if◌then◌else◌}
use Rattle.keel_base.specs.Points.{Point, fold_batches}
use Rattle.keel_base.specs.declared.failure.Failure.{Failure}
use Rattle.keel_base.specs.declared.op.Batch.{Batch}
use Rattle.keel_base.specs.declared.op.Op.{Op}
use Rattle.keel_base.specs.declared.options.Options.{Options}
use Rattle.keel_directory.specs.TableFiles.{TableFile}
use Rattle.keel_disk.specs.Seen.{Seen}
use Rattle.keel_edit.specs.declared.edit.Added.{Added}
use Rattle.keel_flush.specs.Plans.{Job as FlushJob}
use Rattle.keel_group.specs.Queue.{Ticketed}
use Rattle.keel_machine.specs.declared.answers.Outcome.{Outcome}
use Rattle.keel_manifest.specs.State.{ManifestState}
use Rattle.keel_resume.specs.Plans.{Job}

-- Whether the device is known to bear out the story: it tells its state, was at rest when the run began, and no crash
-- left a forged image since.
pub data Footing : Type 0 where
  Known : Footing
  Unknown : Footing

-- no store is open; one is whose boot hasn't cleared; one is whose boot has; or one was closed and has its device still
pub data Phase : Type 0 where
  Shut : Phase
  Booting : Phase
  Open : Phase
  Closing : Phase

-- how the story's device was left when a store was last open on it: there is no story yet, or none to build on; by a
-- crash; or handed back without one
pub data Leaving : Type 0 where
  Nothing : Leaving
  Crashed : Leaving
  Left : Leaving

pub record Mode : Type 0 where
  pub phase : Phase
  pub left : Leaving

abbrev pub is_open : Phase → Bool
is_open Shut = false
is_open Booting = true
is_open Open = true
is_open Closing = true

abbrev pub is_booting : Phase → Bool
is_booting Booting = true
is_booting _ = false

abbrev pub is_closing : Phase → Bool
is_closing Closing = true
is_closing _ = false

abbrev pub is_left : Leaving → Bool
is_left Nothing = false
is_left Crashed = true
is_left Left = true

-- no store is open, and there is no story
abbrev pub unopened : Mode
unopened = record { phase = Shut; left = Nothing }

-- Where it begins, the batches that were published since, those that were handed to a log and aren't published, and how
-- many of the published ones must not be lost. A batch is its ops.
pub record Story : Type 0 where
  pub start : Point
  pub log : List (List Op)
  pub limbo : List (List Op)
  pub floor : ℕ

-- batches were handed to a log
abbrev pub handed : List (List Op) → Story → Story
handed batches story = record story { limbo = story.limbo ++ batches }

-- what is in limbo is published; behind a sync none of it must be lost
abbrev pub published : Bool → Story → Story
published sync story = record story {
  log = story.log ++ story.limbo;
  limbo = [];
  floor = if sync then length (story.log ++ story.limbo) else story.floor;
}

-- A story is the later part of another: it begins where the other's earlier batches lead, and goes on as the other does.
pub record IsPartOf (part story : Story) : Type 0 where
  pub earlier : List (List Op)
  pub start_is : part.start ≡ fold_batches story.start earlier
  pub log_is : story.log ≡ earlier ++ part.log
  pub limbo_is : story.limbo ≡ part.limbo
  pub floor_is : story.floor ≡ length earlier + part.floor

-- the story that begins with a point
abbrev pub new_story : Point → Story
new_story start = record { start = start; log = []; limbo = []; floor = 0 }

-- the story where so many of the batches in limbo were found, and are published from then on
abbrev pub joined_story : ℕ → Story → Story
joined_story count story = record story { log = story.log ++ take count story.limbo; limbo = drop count story.limbo }

-- the story behind a crash that kept so many batches
abbrev pub cut_story : ℕ → Story → Story
cut_story count story = record { start = story.start; log = take count (story.log ++ story.limbo); limbo = []; floor = count }

-- the point that the published batches lead to
abbrev pub point_of : Story → Point
point_of story = fold_batches story.start story.log

pub record Writing : Type 0 where
  pub waiting : List Ticketed
  -- those that weren't taken
  pub outcomes : List (ℕ × Outcome)
  pub last_ticket : ℕ

-- the failures since the last clear, oldest first
pub record Failing : Type 0 where
  pub failures : List Failure

-- the log that batches are appended to: its number, how many bytes were appended, and whether a call on it failed
pub record SegmentLog : Type 0 where
  pub number : ℕ
  pub size : ℕ
  pub failed : Bool

-- published batches that are in no table and that no further ones join, and the numbers of the logs that have them
pub record Segment : Type 0 where
  pub batches : List (List Op)
  pub logs : List ℕ

-- the one that published batches join; from an opening or a resume on it has no log until that clears
pub record Active : Type 0 where
  pub batches : List (List Op)
  pub log : Option SegmentLog

-- the full segments, oldest first, and the one that batches go to
pub record Segments : Type 0 where
  pub immutable : List Segment
  pub active : Active

-- what a call of a group is for
pub data Act : Type 0 where
  -- the log of a full segment gets firm, another is made, and its name gets firm
  CloseLog : Act
  MakeLog : Act
  SyncDirectory : Act
  AddRecords : Act
  SyncLog : Act

-- how many calls of its plan a group has made, and the log that it handed to `create`, until that is a segment's
pub record Progress : Type 0 where
  pub made : ℕ
  pub log : Option ℕ

pub record Group : Type 0 where
  pub tickets : List ℕ
  -- its batches, until they are handed to the log
  pub batches : List Batch
  -- its calls, in order
  pub plan : List Act
  pub progress : Progress

-- the calls that the group has before it
abbrev pub left_of : Group → List Act
left_of group = drop group.progress.made group.plan

-- a slot's job number, and its running job
pub record Slot (J : Type 0) : Type 0 where
  pub number : ℕ
  pub running : Option J

-- a boot or a resume, and how many steps it has made
pub record Resumption : Type 0 where
  pub steps : ℕ
  pub job : Job

pub record Jobs : Type 0 where
  pub write : Slot Group
  pub flush : Slot FlushJob
  pub resume : Slot Resumption
  -- a resume was asked for, has the slot's number, and hasn't made a call yet
  pub started : Bool

-- the next file, the manifest in use with what a crash may leave of manifests, and the last op that is in a table
pub record Numbers : Type 0 where
  pub next_file : ℕ
  pub manifest : ManifestState
  pub in_tables : ℕ

pub record State : Type 0 where
  pub device : Seen
  pub footing : Footing
  pub options : Options
  pub mode : Mode
  pub story : Story
  pub segments : Segments
  -- the tables, by level, then by number; their files are known of a known device alone
  pub levels : List TableFile
  pub writing : Writing
  pub failing : Failing
  pub jobs : Jobs
  pub numbers : Numbers

-- the log that batches are appended to, once there is one
abbrev pub active_log : State → Option SegmentLog
active_log s = s.segments.active.log

-- a log without a byte
abbrev pub new_log : ℕ → SegmentLog
new_log number = record { number = number; size = 0; failed = false }

abbrev pub no_batches : Active
no_batches = record { batches = []; log = None }

-- the tables as the version has them
abbrev pub entries_in : List TableFile → List Added
entries_in levels = map (λ (table : TableFile). table.entry) levels

abbrev pub with_device : Seen → State → State
with_device device s = record s { device = device }
