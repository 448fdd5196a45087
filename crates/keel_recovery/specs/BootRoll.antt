-- What the edit of a boot's roll says.
use Rattle.std.specs.Prelude.{◌≡◌, ℕ, ◌+◌, ◌^◌, ◌<◌, ◌≤◌, List, [], ◌∷◌, All, length, Some, Ok}
use Rattle.std.specs.List.{AllByRecursion}
use Rattle.keel_base.specs.declared.op.Op.{Op}
use Rattle.keel_edit.specs.Spelling.{IsAdded, IsEdit}
use Rattle.keel_version.specs.Tables.{AreLevels, Contents, nothing}
use Rattle.keel_directory.specs.TableFiles.{TableFile, open_sized}
use Rattle.keel_machine.specs.Resuming.{made_in}
use Rattle.keel_machine.specs.States.{Story, entries_in, point_of}
use Rattle.keel_draft.specs.Drafts.{AreDraftsOf, with_new}
use Rattle.keel_resume.specs.Plans.{Job, edit_of}
use Rattle.keel_recovery.specs.BootCalls.{BootFacts, AreRising, AreOver}
use Rattle.keel_recovery.specs.Roots.{Say, version_behind}

-- the tables behind the boot
abbrev pub levels_behind : List TableFile → Job → List TableFile
levels_behind levels job = with_new (λ (table : TableFile). table.entry.level) levels (made_in job)

-- the contents that the edit gives
abbrev pub contents_behind : List TableFile → Job → ℕ → ℕ → Contents
contents_behind levels job log next_file = record {
  tables = entries_in (levels_behind levels job);
  min_log = log;
  next_file = next_file;
  last_seq = job.last_seq;
}

-- a job that has made all of its tables and its log, whose numbers rise
pub record HasAllMade (levels : List TableFile) (segments : List (List (List Op))) (in_tables : ℕ) (story : Story) (job : Job) (log next_file : ℕ) : Type 0 where
  pub facts : BootFacts levels segments in_tables story
  -- no segment is without a batch
  pub drafts : AreDraftsOf in_tables segments job.drafts
  pub few : length levels + length job.drafts < 2 ^ 32
  pub live_is : job.live ≡ entries_in levels
  pub last_is : job.last_seq ≡ (point_of story).seq
  pub log_is : job.progress.log ≡ Some log
  pub each : length job.progress.tables ≡ length job.drafts
  pub rising : AreRising job.progress.tables next_file
  pub over : AreOver job.live job.progress.tables
  pub log_drawn : log < next_file
  pub next : next_file ≤ 2 ^ 56
  pub some : 1 ≤ next_file

-- Its edit is one that a manifest may hold. It gives a version whose tables are those that were there and those that were made;
-- they open, are sound, and say what the story says.
pub record Gives (levels : List TableFile) (story : Story) (job : Job) (log next_file : ℕ) : Type 0 where
  pub is_edit : IsEdit (edit_of job next_file)
  pub version : version_behind nothing (edit_of job next_file ∷ []) ≡ Some (contents_behind levels job log next_file)
  pub opens : AllByRecursion (λ (table : TableFile). open_sized table.entry.size table.bytes ≡ Ok table.file) (made_in job)
  pub say : Say job.last_seq (levels_behind levels job) (point_of story)
  pub order : AreLevels (entries_in (levels_behind levels job))
  pub each : All IsAdded (entries_in (levels_behind levels job))

abbrev pub RollGives : Type 0
RollGives =
    (levels : List TableFile) (segments : List (List (List Op))) (in_tables : ℕ) (story : Story) (job : Job) (log next_file : ℕ)
    → HasAllMade levels segments in_tables story job log next_file → Gives levels story job log next_file
