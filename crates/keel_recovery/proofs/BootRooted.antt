-- The roll of a boot leads to its story: its edit gives tables that are firm and say what the story says.
use Rattle.std.proofs.Common.{◌≡◌, ℕ, ◌<◌, ◌==◌, not, Bool, true, false, List, [], ◌∷◌, ◌++◌, length, take, filter, Some, None, Ok, refl, sym, ap, subst, ◌∙◌, arith, if◌then◌else◌, append-nil}
use Rattle.std.specs.List.{AllByRecursion}
use Rattle.std.proofs.Math.Seq.{take-length}
use Rattle.keel_base.specs.declared.file_name.FileName.{FileName}
use Rattle.keel_base.specs.declared.file_name.FileName.TheVariants.{Table}
use Rattle.keel_base.specs.declared.op.Op.{Op}
use Rattle.keel_base.specs.Points.{Point, fold_batches}
use Rattle.keel_disk.specs.State.{State as Disk}
use Rattle.keel_disk.specs.Steady.{file_behind}
use Rattle.keel_edit.specs.declared.edit.Added.{Added}
use Rattle.keel_directory.specs.TableFiles.{TableFile, open_sized}
use Rattle.keel_machine.specs.Resuming.{cleared_story, made_in}
use Rattle.keel_machine.specs.States.{Story, entries_in, point_of}
use Rattle.keel_open.specs.NextFiles.{number_in}
use Rattle.keel_draft.specs.Drafts.{Draft, file_of as table_of, numbered}
use Rattle.keel_resume.specs.Plans.{Job, edit_of}
use Rattle.keel_recovery.specs.Booting.{IsBooting, IsOldTable}
use Rattle.keel_recovery.specs.BootCalls.{AreAllFixed, AreFixed, AreRising}
use Rattle.keel_recovery.specs.BootLaws.{IsAfterCrash}
use Rattle.keel_recovery.specs.BootRoll.{Gives, contents_behind, levels_behind}
use Rattle.keel_recovery.specs.Chains.{Chained, OthersEmpty}
use Rattle.keel_recovery.specs.Roots.{AreFirmTables, BeginsAt, IsFirmTable, IsRoot, Say, first_from, point_at}

some_none : {A P : Type 0} (x : A) → Some x ≡ None → P
some_none x e = cc

-- ---- what was there when the job began has steady names

-- an old table is there, whatever operations are done
pub old_steady : (bound : ℕ) (state : Disk) (table : TableFile) → IsOldTable bound state table → IsFirmTable state table.entry table
old_steady bound state table is = record { entry = refl; file = is.file; steady = is.steady; held = is.held; opens = is.opens }

pub all_old_steady : (bound : ℕ) (state : Disk) (tables : List TableFile) → AllByRecursion (IsOldTable bound state) tables → AllByRecursion (λ (table : TableFile). IsFirmTable state table.entry table) tables
all_old_steady bound state [] are = tt
all_old_steady bound state (table ∷ tables) are = (old_steady bound state table are.0, all_old_steady bound state tables are.1)

-- ---- the tables behind the boot

pub all_firm : (state : Disk) (tables : List TableFile) → AllByRecursion (λ (table : TableFile). IsFirmTable state table.entry table) tables → AreFirmTables state (entries_in tables) tables
all_firm state [] are = tt
all_firm state (table ∷ tables) are = (are.0, all_firm state tables are.1)

all_filtered : {A : Type 0} (P : A → Type 0) (test : A → Bool) (xs : List A) → AllByRecursion P xs → AllByRecursion P (filter test xs)
all_filtered P test [] all = tt
all_filtered P test (x ∷ xs) all =
    elim (test x) as (λ b. AllByRecursion P (if b then x ∷ filter test xs else filter test xs)) [
      | true ↦ (all.0, all_filtered P test xs all.1)
      | false ↦ all_filtered P test xs all.1
    ]

all_joined : {A : Type 0} (P : A → Type 0) (xs ys : List A) → AllByRecursion P xs → AllByRecursion P ys → AllByRecursion P (xs ++ ys)
all_joined P [] ys all more = more
all_joined P (x ∷ xs) ys all more = (all.0, all_joined P xs ys all.1 more)

-- what is so of the tables that were there and of those that were made is so of all
pub all_behind : (P : TableFile → Type 0) (levels : List TableFile) (job : Job) → AllByRecursion P levels → AllByRecursion P (made_in job) → AllByRecursion P (levels_behind levels job)
all_behind P levels job were made =
    all_joined P (filter (λ (table : TableFile). table.entry.level == 0) levels ++ made_in job) (filter (λ (table : TableFile). not (table.entry.level == 0)) levels)
    (all_joined P (filter (λ (table : TableFile). table.entry.level == 0) levels) (made_in job) (all_filtered P (λ (table : TableFile). table.entry.level == 0) levels were) made)
    (all_filtered P (λ (table : TableFile). not (table.entry.level == 0)) levels were)

-- a table that was made is firm
made_firm : (bound : ℕ) (state : Disk) (numbers : List ℕ) (drafts : List Draft) → AreFixed bound numbers drafts state
    → AllByRecursion (λ (table : TableFile). open_sized table.entry.size table.bytes ≡ Ok table.file) (numbered table_of numbers drafts) → AllByRecursion (λ (table : TableFile). IsFirmTable state table.entry table) (numbered table_of numbers drafts)
made_firm bound state [] [] are opens = tt
made_firm bound state [] (draft ∷ drafts) are opens = absurd are
made_firm bound state (number ∷ numbers) [] are opens = absurd are
made_firm bound state (number ∷ numbers) (draft ∷ drafts) are opens =
    (record { entry = refl; file = are.0.file; steady = are.0.steady; held = are.0.held; opens = opens.0 }, made_firm bound state numbers drafts are.1 opens.1)

made_drawn : (next : ℕ) (numbers : List ℕ) (drafts : List Draft) → AreRising numbers next → AllByRecursion (λ (table : TableFile). table.entry.number < next) (numbered table_of numbers drafts)
made_drawn next [] drafts rising = tt
made_drawn next (number ∷ numbers) [] rising = tt
made_drawn next (number ∷ numbers) (draft ∷ drafts) rising = (rising.1, made_drawn next numbers drafts rising.3)

pub entries_all : (P : Added → Type 0) (tables : List TableFile) → AllByRecursion (λ (table : TableFile). P table.entry) tables → AllByRecursion P (entries_in tables)
entries_all P [] are = tt
entries_all P (table ∷ tables) are = (are.0, entries_all P tables are.1)

old_drawn : (bound next : ℕ) (state : Disk) (levels : List TableFile) → ((count file : ℕ) (name : FileName) → file_behind count name state ≡ Some file → number_in name < next)
    → AllByRecursion (IsOldTable bound state) levels → AllByRecursion (λ (table : TableFile). table.entry.number < next) levels
old_drawn bound next state [] drawn are = tt
old_drawn bound next state (table ∷ levels) drawn are =
    (drawn 0 are.0.file (Table table.entry.number) (are.0.steady.named 0), old_drawn bound next state levels drawn are.1)

-- ---- the root

pub point_whole : (story : Story) → IsAfterCrash story → point_at (length story.log) story ≡ point_of story
point_whole story after =
    ap (λ (l : List (List Op)). fold_batches story.start (take (length story.log) (story.log ++ l))) after.none_in_limbo
    ∙ (ap (λ (l : List (List Op)). fold_batches story.start (take (length story.log) l)) (append-nil story.log) ∙ ap (fold_batches story.start) (take-length story.log))

module _ (bound : ℕ) (old : Disk) (levels : List TableFile) (story : Story) (next_file : ℕ) (job : Job) (state : Disk) (booting : IsBooting bound old levels story next_file state)
    (parts : AreAllFixed bound job next_file state) (rising : AreRising job.progress.tables next_file) (last_is : job.last_seq ≡ (point_of story).seq) (gives : Gives levels story job parts.log next_file) where
  abbrev all_in : Story
  all_in = cleared_story story

  all_whole : point_at (length story.log) all_in ≡ point_of story
  all_whole = point_whole all_in (record { none_in_limbo = refl; all_stay = refl })

  pub tables_firm : AreFirmTables state (entries_in (levels_behind levels job)) (levels_behind levels job)
  tables_firm = all_firm state (levels_behind levels job) (all_behind (λ (table : TableFile). IsFirmTable state table.entry table) levels job
      (all_old_steady bound state levels booting.tables)
      (made_firm bound state job.progress.tables job.drafts parts.fixed gives.opens))

  -- logs from the new one on have no byte
  pub others_empty : (logs : List Chained) → OthersEmpty parts.log logs state
  others_empty logs count n file over other is = booting.logs_empty count n file is (parts.logs count n file over is)

  pub roll_root : (logs : List Chained) → BeginsAt (length story.log) (first_from parts.log logs) all_in → IsRoot (edit_of job next_file ∷ []) logs all_in next_file state
  roll_root logs begins = record {
    version = contents_behind levels job parts.log next_file;
    is_version = gives.version;
    place = length story.log;
    published = omega arith;
    ends = last_is ∙ sym (ap (λ (p : Point). p.seq) all_whole);
    tables = levels_behind levels job;
    firm = tables_firm;
    say = subst (Say job.last_seq (levels_behind levels job)) (sym all_whole) gives.say;
    begins = begins;
    others = others_empty logs;
    log_drawn = parts.log_drawn;
    drawn = entries_all (λ (table : Added). table.number < next_file) (levels_behind levels job)
        (all_behind (λ (table : TableFile). table.entry.number < next_file) levels job (old_drawn bound next_file state levels booting.drawn booting.tables) (made_drawn next_file job.progress.tables job.drafts rising));
  }
