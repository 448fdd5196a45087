-- A device of an open store may be left as it is: a later opening finds a reading of it that lasts.
use Rattle.std.specs.List.{AllByRecursion}
use Rattle.std.proofs.Common.{◌≡◌, ℕ, ◌≤◌, List, [], ◌∷◌, ◌++◌, length, drop, Option, Some, None, inl, inr, refl, sym, ap, subst, ◌∙◌, arith}
use Rattle.keel_base.specs.declared.file_name.FileName.TheVariants.{Current, Table}
use Rattle.keel_base.specs.declared.op.Op.{Op}
use Rattle.keel_directory.specs.Reading.{Reading, IsReading, held}
use Rattle.keel_directory.specs.TableFiles.{TableFile, open_sized}
use Rattle.keel_directory.proofs.OneReading.{reading_one}
use Rattle.keel_disk.specs.Directory.{Named, find}
use Rattle.keel_disk.specs.Plain.{image_read}
use Rattle.keel_disk.specs.Sound.{IsOneToOne}
use Rattle.keel_disk.specs.State.{State as Disk, settled_through}
use Rattle.keel_disk.specs.Steady.{AllRead, CutsExist, IsSteady, file_behind}
use Rattle.keel_disk.proofs.Operating.{is_below}
use Rattle.keel_edit.specs.declared.edit.Added.{Added}
use Rattle.keel_machine.specs.Admission.{stopping}
use Rattle.keel_machine.specs.Opening.{tables_in}
use Rattle.keel_machine.specs.Resuming.{cleared_story}
use Rattle.keel_machine.specs.States.{State, SegmentLog, Story}
use Rattle.keel_recovery.specs.BootCalls.{BootKept}
use Rattle.keel_recovery.specs.Booting.{IsBooting, IsOldTable, IsRoll, ReadsSteady}
use Rattle.keel_recovery.specs.Leaving.{IsLeft}
use Rattle.keel_recovery.specs.Machine.{HasLog, HoldsBy, IsKept}
use Rattle.keel_recovery.specs.Readings.{AreLimited, ReadsWithin, batches_read}
use Rattle.keel_recovery.specs.Roots.{AreFirmTables, IsFirmTable}
use Rattle.keel_recovery.proofs.BootNames.{none_below}
use Rattle.keel_recovery.proofs.BootRolls.{booting_stands, holds, roots}
use Rattle.keel_recovery.proofs.BootStands.{by_reading}
use Rattle.keel_recovery.proofs.Kept.{kept_stands, stored_floor}
use Rattle.keel_recovery.proofs.Rooting.{root_read}
use Rattle.keel_recovery.proofs.Stands.{way_seen}

some_none : {A P : Type 0} (x : A) → Some x ≡ None → P
some_none x e = cc

no_front : (front back : List (List Op)) → front ++ back ≡ [] → front ≡ []
no_front [] back none = refl
no_front (x ∷ front) back none = cc

-- ---- a reading that lasts

-- the directory as it is read has this one reading: its tables are there whatever a crash does, and its batches are few
record Lasts (state : Disk) : Type 0 where
  reading : Reading
  is_read : IsReading (image_read state) reading
  tables : AllByRecursion (IsOldTable (length state.files) state) (tables_in reading)
  limits : AreLimited reading
  bare : (count : ℕ) → file_behind count Current state ≡ None → batches_read reading ≡ []

within_of : (state : Disk) → Lasts state → ReadsWithin state
within_of state h = record {
  limits = λ reading is. subst AreLimited (reading_one (image_read state) h.reading reading h.is_read is) h.limits;
  bare = λ count none reading is. subst (λ (r : Reading). batches_read r ≡ []) (reading_one (image_read state) h.reading reading h.is_read is) (h.bare count none);
}

steady_of : (state : Disk) → Lasts state → ReadsSteady (length state.files) state state
steady_of state h reading is =
    subst (λ (r : Reading). AllByRecursion (IsOldTable (length state.files) state) (tables_in r)) (reading_one (image_read state) h.reading reading h.is_read is) h.tables

-- ---- of a root

table_there : (state : Disk) → IsOneToOne state → (table : Added) (found : TableFile) → IsFirmTable state table found → IsOldTable (length state.files) state found
table_there state one table found is = record {
  file = is.file;
  steady = subst (λ (t : Added). IsSteady (Table t.number) is.file state) (sym is.entry) is.steady;
  old = is_below (length state.files) (Table table.number) is.file (settled_through 0 state).firm (one 0) (is.steady.named 0);
  held = is.held;
  opens = ap (λ (t : Added). open_sized t.size found.bytes) is.entry ∙ is.opens;
}

tables_there : (state : Disk) → IsOneToOne state → (tables : List Added) (found : List TableFile) → AreFirmTables state tables found → AllByRecursion (IsOldTable (length state.files) state) found
tables_there state one [] [] are = tt
tables_there state one [] (_ ∷ _) are = absurd are
tables_there state one (_ ∷ _) [] are = absurd are
tables_there state one (table ∷ tables) (file ∷ found) are = (table_there state one table file are.0, tables_there state one tables found are.1)

-- ---- of a store that writes

module _ (state : Disk) (s : State) (h : IsKept state s) where
  log_lasts : (log : SegmentLog)
      → HasLog log state s.levels s.story s.segments.immutable s.segments.active.batches s.writing.waiting (stopping s) s.jobs.write.running s.numbers.next_file s.numbers.in_tables s.jobs.flush.running s.numbers.manifest
      → Lasts state
  log_lasts log l =
      let story = s.story in
      let next = s.numbers.next_file in
      let logs = l.full ++ l.own ∷ [] in
      let going = l.keeps.go (length state.waiting) in
      let seen = way_seen going.0 l.place next logs story state h.one_to_one l.keeps.read going.2 going.3 (l.keeps.roots going.0 going.1) l.keeps.stored in
      let read = root_read (length story.log) going.0.manifest next seen.edits logs story state seen.root (image_read state) seen.shown in
      record {
        reading = held read.found read.point;
        is_read = read.is_read;
        tables = subst (AllByRecursion (IsOldTable (length state.files) state)) (sym read.tables_are) (tables_there state h.one_to_one seen.root.version.tables seen.root.tables seen.root.firm);
        limits = read.limits;
        bare = λ count none. let goes = l.keeps.go count in some_none goes.3.current (sym goes.3.named ∙ none);
      }

  kept_lasts : Lasts state
  kept_lasts = by s.segments.active.log h.stored
    where
      by : (o : Option SegmentLog)
          → HoldsBy o state s.levels s.story s.segments.immutable s.segments.active.batches s.writing.waiting (stopping s) s.jobs.write.running s.numbers.next_file s.numbers.in_tables s.jobs.flush.running s.numbers.manifest
          → Lasts state
      by None stored = absurd stored
      by (Some log) stored = log_lasts log stored

  log_read : (o : Option SegmentLog)
      → HoldsBy o state s.levels s.story s.segments.immutable s.segments.active.batches s.writing.waiting (stopping s) s.jobs.write.running s.numbers.next_file s.numbers.in_tables s.jobs.flush.running s.numbers.manifest
      → AllRead state
  log_read None stored = absurd stored
  log_read (Some log) stored = stored.keeps.read

  pub kept_left : IsLeft state s.story
  kept_left = record {
    one_to_one = h.one_to_one;
    cuts = h.cuts;
    uncut = h.uncut;
    read = log_read s.segments.active.log h.stored;
    floor_within = stored_floor state s h.stored;
    stands = kept_stands state s h;
    listed = h.listed;
    within = within_of state kept_lasts;
    steady = steady_of state kept_lasts;
  }

-- ---- of one of which a job makes its calls

-- older tables are older than more files
pub older_still : (bound more : ℕ) (state : Disk) (tables : List TableFile) → bound ≤ more → AllByRecursion (IsOldTable bound state) tables → AllByRecursion (IsOldTable more state) tables
older_still bound more state [] most are = tt
older_still bound more state (table ∷ tables) most are =
    (record { file = are.0.file; steady = are.0.steady; old = omega (arith, are.0.old, most); held = are.0.held; opens = are.0.opens }, older_still bound more state tables most are.1)

module _ (bound : ℕ) (old : Disk) (levels : List TableFile) (story : Story) (next_file : ℕ) (state : Disk) (one : IsOneToOne state) (within : story.floor ≤ length story.log) (booting : IsBooting bound old levels story next_file state) where
  -- a roll reads no batch
  roll_lasts : IsRoll (length state.waiting) (cleared_story story) next_file state → Lasts state
  roll_lasts roll =
      let all = cleared_story story in
      let stored = holds bound old levels story next_file state one within booting in
      let seen = way_seen roll.way (length story.log) next_file [] all state one booting.read roll.is_way roll.goes (roots bound old levels story next_file state one within booting (length state.waiting) roll) stored in
      let read = root_read (length story.log) roll.way.manifest next_file seen.edits [] all state seen.root (image_read state) seen.shown in
      let none : drop seen.root.place (story.log ++ []) ≡ [] = ap (λ n. drop n (story.log ++ [])) seen.root.begins ∙ stored.batches_are in
      record {
        reading = held read.found read.point;
        is_read = read.is_read;
        tables = subst (AllByRecursion (IsOldTable (length state.files) state)) (sym read.tables_are) (tables_there state one seen.root.version.tables seen.root.tables seen.root.firm);
        limits = read.limits;
        bare = λ count bare. no_front (batches_read (held read.found read.point)) read.more (sym read.batches_are ∙ none);
      }

  -- a directory without CURRENT is one that the device had when the job began
  bare_then : (reading : Reading) → IsReading (image_read old) reading → (count : ℕ) → file_behind count Current state ≡ None → batches_read reading ≡ []
  bare_then reading is count none = elim (booting.shows count) [
    | inl moved ↦ some_none moved.file (sym moved.current ∙ none)
    | inr before ↦ booting.read_within.bare before.before (subst (λ (d : Named ℕ). find Current d ≡ None) before.same (none_below bound Current (settled_through count state).firm none)) reading is
  ]

  boot_lasts : Lasts state
  boot_lasts =
      by_reading bound old levels story next_file state one booting
      (λ file moved newer. roll_lasts (booting.rolls (length state.waiting) file moved newer))
      (λ then_so.
      let now = booting.stands.now.1 in
      record {
        reading = now.reading;
        is_read = then_so now.reading now.sound now.is_read;
        tables = older_still bound (length state.files) state (tables_in now.reading) booting.within (booting.read_steady now.reading now.is_read);
        limits = booting.read_within.limits now.reading now.is_read;
        bare = bare_then now.reading now.is_read;
      })

  pub booting_left : CutsExist state → IsLeft state story
  booting_left cuts = record {
    one_to_one = one;
    cuts = cuts;
    uncut = booting.uncut;
    read = booting.read;
    floor_within = within;
    stands = booting_stands bound old levels story next_file state one within booting;
    listed = booting.listed;
    within = within_of state boot_lasts;
    steady = steady_of state boot_lasts;
  }

pub boot_left : (state : Disk) (s : State) → IsOneToOne state → CutsExist state → BootKept s state → IsLeft state s.story
boot_left state s one cuts kept = booting_left kept.bound kept.old s.levels s.story s.numbers.next_file state one kept.floor_within kept.booting cuts
