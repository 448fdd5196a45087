-- An opening is a turn of the machine, and the store stands for the state behind.
use Rattle.std.proofs.Common.{◌≡◌, ℕ, ◌+◌, ◌==◌, Bool, true, false, List, [], ◌∷◌, ◌++◌, length, map, Option, Some, None, Result, Ok, Err, unwrap_or, cond, refl, sym, ap, subst, ◌∙◌, arith, add-zero, append-nil}
use Rattle.std.specs.List.{flat_map}
use Rattle.std.specs.FinMap.{empty, get-empty}
use Rattle.keel_base.specs.declared.options.Options.{Options}
use Rattle.keel_base.specs.declared.row.Row.{Row}
use Rattle.keel_base.specs.Keys.{key_cmp}
use Rattle.keel_base.specs.Points.{Point, origin}
use Rattle.keel_base.specs.Rows.{IsMapOf}
use Rattle.keel_directory.specs.declared.logs.Replayed.{Replayed}
use Rattle.keel_directory.specs.Reading.{Reading, new, held, refused, IsReading, HasPoint, all_rows}
use Rattle.keel_directory.specs.Replays.{replayed_rows, run_on}
use Rattle.keel_directory.specs.Refusals.{log_gap}
use Rattle.keel_directory.specs.TableFiles.{TableFile, AllOpen, Opens, bytes_of, open_sized, table_rows}
use Rattle.keel_directory.proofs.OneReading.{reading_one}
use Rattle.keel_disk.specs.Directory.{Named}
use Rattle.keel_disk.specs.Plain.{image_read}
use Rattle.keel_disk.specs.Told.{Told, TellsListing}
use Rattle.keel_disk.specs.Seen.{IsQuiet, Seen}
use Rattle.keel_edit.specs.declared.edit.Added.{Added}
use Rattle.keel_levels.specs.declared.live.LiveTable.{LiveTable}
use Rattle.keel_levels.specs.Live.{AreOpened, entries_of, tables_of}
use Rattle.keel_levels.proofs.Saying.{points_exist}
use Rattle.keel_machine.specs.Opening.{Found, GoesOnWith, IsFoundBy, continues, ops_replayed, replayed_segments, story_opened, tables_in}
use Rattle.keel_machine.specs.Reads.{WhereKnown}
use Rattle.keel_machine.specs.States.{State, Footing, Known, Unknown, entries_in, joined_story, point_of}
use Rattle.keel_machine.specs.Turns as turns
use Rattle.keel_machine.specs.Turns.{Answers}
use Rattle.keel_version.specs.Tables.{AreLevels, IsWithin}
use Rattle.keel_open.specs.declared.store.StoreFound.{StoreFound}
use Rattle.keel_open.specs.declared.refusal.OpenRefusal.{OpenRefusal}
use Rattle.keel_open.specs.NextFiles.{IsNextFile}
use Rattle.keel_open.specs.Refusals.{fault_in}
use Rattle.keel_open.specs.Stores.{IsReadBy, IsNewRead, IsStoreRead, StoreTells}
use Rattle.keel_draft.specs.Drafts.{count_ops}
use Rattle.keel_table.specs.Opening.{Damage, Opened, opened_with}
use Rattle.keel_table.specs.Spelling.{footer_of}
use Rattle.keel_version.specs.Tables.{AreLevels, IsWithin}
use Rattle.keel_core.specs.declared.opening.Parts.{Parts}
use Rattle.keel_core.specs.Boots.{levels_in}
use Rattle.keel_core.specs.Opened.{ArePartsOf, IsCoreOf}
use Rattle.keel_core.specs.Openings.{Expects, Opens as IsOpening, WhereGoesOn, fresh, replayed_full}
use Rattle.keel_core.specs.Trails.{Continues, new_trail}
use Rattle.keel_core.specs.Views.{AreSegments, CoreView}
use Rattle.keel_core.proofs.HeldTables.{held_open}

-- ---- the tables that were found

pub opened_or : Result Opened Damage → Opened
opened_or (Ok file) = file
opened_or (Err damage) = opened_with (footer_of 0 0 []) []

abbrev pub bytes_found : Named (List ℕ) → Added → List ℕ
bytes_found image entry = unwrap_or (bytes_of image entry) []

-- the file of a table, as the directory has it
abbrev pub file_found : Named (List ℕ) → Added → TableFile
file_found image entry = record { entry = entry; bytes = bytes_found image entry; file = opened_or (open_sized entry.size (bytes_found image entry)) }

abbrev pub levels_found : Named (List ℕ) → List Added → List TableFile
levels_found image tables = map (file_found image) tables

entries_found : (image : Named (List ℕ)) (tables : List Added) → entries_in (levels_found image tables) ≡ tables
entries_found image [] = refl
entries_found image (table ∷ tables) = ap (λ (l : List Added). table ∷ l) (entries_found image tables)

file_is : (image : Named (List ℕ)) (table : Added) (t : TableFile) → Opens image table t → file_found image table ≡ t
unfolding opened_or
file_is image table t h =
    let bytes : bytes_found image table ≡ t.bytes = ap (λ (o : Option (List ℕ)). unwrap_or o []) h.there in
    let file : opened_or (open_sized table.size (bytes_found image table)) ≡ t.file = ap (λ (b : List ℕ). opened_or (open_sized table.size b)) bytes ∙ ap opened_or h.opens in
    λ i. record { entry = sym h.entry i; bytes = bytes i; file = file i }

levels_are : (image : Named (List ℕ)) (tables : List Added) (files : List TableFile) → AllOpen image tables files → levels_found image tables ≡ files
levels_are image [] [] h = refl
levels_are image (table ∷ tables) (t ∷ ts) h = λ i. file_is image table t h.0 i ∷ levels_are image tables ts h.1 i
levels_are image [] (t ∷ ts) h = absurd h
levels_are image (table ∷ tables) [] h = absurd h

-- ---- the point that was found

pub point_for : List Row → ℕ → Point
point_for [] seq = record { values = empty; seq = seq }
point_for (row ∷ rows) seq = (points_exist (row ∷ rows) seq).0

point_says : (rows : List Row) (seq : ℕ) → IsMapOf rows (point_for rows seq).values
unfolding point_for
point_says [] seq = λ key. get-empty key_cmp key
point_says (row ∷ rows) seq = (points_exist (row ∷ rows) seq).1

point_seq : (rows : List Row) (seq : ℕ) → (point_for rows seq).seq ≡ seq
unfolding point_for
point_seq [] seq = refl
point_seq (row ∷ rows) seq = (points_exist (row ∷ rows) seq).2

no_rows : (rows : List Row) (seq : ℕ) → rows ≡ [] → seq ≡ 0 → point_for rows seq ≡ origin
unfolding point_for
no_rows rows seq none zero = λ i. point_for (none i) (zero i)

-- ---- what was found

abbrev pub image_of : Option Told → Named (List ℕ)
image_of None = []
image_of (Some told) = image_read told.state

module _ (store : StoreFound) (image : Named (List ℕ)) where
  abbrev pub levels : List TableFile
  levels = levels_found image store.version.tables

  abbrev pub rows : List Row
  rows = flat_map table_rows levels ++ replayed_rows store.batches.items

  abbrev pub found_in : ℕ → Found
  found_in joined = record { store = store; point = point_for rows store.last_seq; levels = levels; joined = joined }

  abbrev IsRead : Type 0
  IsRead = (reading : Reading) × IsReading image reading × HasPoint reading (point_for rows store.last_seq) × (levels ≡ tables_in reading)

  new_read : IsNewRead image store → IsRead
  new_read h =
      let tables : store.version.tables ≡ [] = ap (λ v. v.tables) h.base.version in
      let none : levels ≡ [] = ap (levels_found image) tables in
      let no_row : rows ≡ [] = λ i. flat_map table_rows (none i) ++ replayed_rows (h.batches i) in
      (new, h.reads, no_rows rows store.last_seq no_row h.last, none)

  store_read : (number : ℕ) → IsStoreRead image number store → IsRead
  store_read number h =
      let f = h.store.store in
      let some = points_exist (all_rows f) store.last_seq in
      let are : AllOpen image f.version.tables f.tables = held_open image f some.0 (h.store.reads some.0 some.1 some.2) in
      let same : levels ≡ f.tables = ap (λ (v : _). levels_found image v.tables) (sym h.store.version) ∙ levels_are image f.version.tables f.tables are in
      let all : rows ≡ all_rows f = λ i. flat_map table_rows (same i) ++ replayed_rows (sym h.store.replay_is i).batches in
      let point = point_for rows store.last_seq in
      (held f point, h.store.reads point (subst (λ (l : List Row). IsMapOf l point.values) all (point_says rows store.last_seq)) (point_seq rows store.last_seq), refl, same)

  is_read : (manifest : Option ℕ) → IsReadBy image manifest store → IsRead
  is_read None h = new_read h
  is_read (Some number) h = store_read number h

found_by : (store : StoreFound) (told : Option Told) (joined : ℕ) → StoreTells told (Ok store) → IsFoundBy told (found_in store (image_of told) joined)
found_by store None joined tells = tt
found_by store (Some told) joined tells = λ directory.
    let read = is_read store (image_read told.state) store.manifest (tells directory) in
    record { reading = read.0; is_read = read.1; has = read.2; levels = read.3 }

-- ---- a story goes on

point_one : (reading : Reading) (a b : Point) → HasPoint reading a → HasPoint reading b → a ≡ b
point_one new a b h k = h ∙ sym k
point_one (held found at) a b h k = h ∙ sym k
point_one (refused refusal) a b h k = absurd h

-- how many batches of the limbo are found
joined_in : (goes : Bool) (s : State) → WhereGoesOn goes s → ℕ
joined_in true s h = h.joined
joined_in false s h = 0

goes_on : (goes : Bool) (s : State) (store : StoreFound) (h : WhereGoesOn goes s) → StoreTells s.device.told (Ok store)
    → GoesOnWith goes s.story (joined_in goes s h) (point_for (rows store (image_of s.device.told)) store.last_seq)
unfolding joined_in
goes_on false s store h tells = tt
goes_on true s store h tells =
    let at = point_of (joined_story h.joined s.story) in
    let there = found_by store (Some h.told) h.joined (subst (λ (t : Option Told). StoreTells t (Ok store)) h.is_told tells) h.directory in
    let same = reading_one (image_read h.told.state) there.reading h.reading there.is_read h.is_read in
    let has = subst (λ (r : Reading). HasPoint r at) (sym same) h.has in
    record {
      within = h.within;
      point_is = subst (λ (t : Option Told). point_for (rows store (image_of t)) store.last_seq ≡ at) (sym h.is_told) (point_one there.reading _ at there.has has);
    }

-- ---- the parts of the state

run_to : (seq last : ℕ) (batches : List Replayed) → run_on seq batches ≡ Ok last → seq + count_ops (ops_replayed batches) ≡ last
run_to seq last [] is = let same : seq ≡ last = cc is in omega (arith, same)
run_to seq last (b ∷ bs) is =
    let whole : count_ops (ops_replayed (b ∷ bs)) ≡ length b.ops + count_ops (ops_replayed bs) = refl in
    elim (b.seq == seq + 1) as (λ v. cond v (run_on (seq + length b.ops) bs) (Err (log_gap b.log (seq + 1) b.seq)) ≡ Ok last → seq + count_ops (ops_replayed (b ∷ bs)) ≡ last) [
      | true ↦ λ e. omega (arith, whole, run_to (seq + length b.ops) last bs e)
      | false ↦ λ e. absurd (cc e)
    ] is

not_booted : {P : Type 0} → false ≡ true → P
not_booted e = cc

story_on : (goes : Bool) (s : State) (joined : ℕ) (point : Point) (last : ℕ) → GoesOnWith goes s.story joined point → point.seq ≡ last
    → Continues false (new_trail last) (story_opened goes joined point s.story)
story_on false s joined point last same seq = record { earlier = []; start_is = seq; log_is = refl; limbo_is = λ is. refl; floor_is = λ is. refl }
story_on true s joined point last same seq = record {
  earlier = (joined_story joined s.story).log;
  start_is = ap (λ (p : Point). p.seq) (sym same.point_is) ∙ seq;
  log_is = sym (append-nil (joined_story joined s.story).log);
  limbo_is = λ is. not_booted is;
  floor_is = λ is. not_booted is;
}

segments_on : (seq last : ℕ) (batches : List Replayed) (logs : List ℕ) → seq + count_ops (ops_replayed batches) ≡ last
    → AreSegments seq (replayed_full seq batches logs) (replayed_segments (ops_replayed batches) logs) [] [] last
segments_on seq last [] logs is = (refl, is, tt)
segments_on seq last (b ∷ bs) logs is = (refl, refl, (refl, omega (arith, is), tt))

opened_on : (footing : Footing) (lives : List LiveTable) (files : List TableFile) → AreOpened lives files → WhereKnown footing (AreOpened lives files)
opened_on Known lives files h = h
opened_on Unknown lives files h = tt

module _ (options : Options) (store : StoreFound) (lives : List LiveTable) (tables : tables_of lives ≡ store.version.tables)
    (opened : (files : List TableFile) → entries_of files ≡ store.version.tables → AreOpened lives files)
    (order : AreLevels store.version.tables) (bounds : IsWithin store.version)
    (runs_on : run_on store.version.last_seq store.batches.items ≡ Ok store.last_seq)
    (next : IsNextFile store.listing store.version.next_file store.next_file) where
  pub opens : (s : State) (before device : Seen) → s.device ≡ before → Expects s → StoreTells before.told (Ok store) → TellsListing before.told store.listing → IsQuiet before None device
      → IsOpening s options (fresh device options store lives)
  opens s before device is expects told listing quiet =
      let tells : StoreTells s.device.told (Ok store) = subst (λ (d : Seen). StoreTells d.told (Ok store)) (sym is) told in
      let image = image_of s.device.told in
      let joined = joined_in (continues s.mode s.footing) s expects in
      let found = found_in store image joined in
      let seq : found.point.seq ≡ store.last_seq = point_seq (rows store image) store.last_seq in
      let same = goes_on (continues s.mode s.footing) s store expects tells in
      let entries = entries_found image store.version.tables in
      record {
        found = found;
        answers = record {
          cause = tells;
          finds = record {
            seq = seq;
            tables = entries;
            order = order;
            within = bounds;
            runs_on = runs_on;
            next = next;
            listing = subst (λ (d : Seen). TellsListing d.told store.listing) (sym is) listing;
            read = found_by store s.device.told joined tells;
            goes_on = same;
          };
          quiet = subst (λ (d : Seen). IsQuiet d None device) (sym is) quiet;
        };
        stands = record {
          beyond = record {
            footing = s.footing;
            left = s.mode.left;
            story = story_opened (continues s.mode s.footing) joined found.point s.story;
            immutable = replayed_segments (ops_replayed store.batches.items) store.logs.items;
            active = [];
            levels = found.levels;
            in_tables = store.version.last_seq;
            failures = [];
          };
          state_is = refl;
          fits = record {
            story = story_on (continues s.mode s.footing) s joined found.point store.last_seq same seq;
            segments = segments_on store.version.last_seq _ store.batches.items store.logs.items (run_to store.version.last_seq store.last_seq store.batches.items runs_on ∙ sym (add-zero store.last_seq));
            tables = tables ∙ sym entries;
            opened = opened_on s.footing lives found.levels (opened found.levels entries);
            leads = tt;
            handled = record { paranoid = refl; auto = refl; on = refl; standing = refl };
            flushes = refl;
          };
        };
        last_is = sym (add-zero store.last_seq);
      }

pub refuses : (s : State) (options : Options) (before device : Seen) (refusal : OpenRefusal) → s.device ≡ before → StoreTells before.told (Err refusal)
    → IsQuiet before (fault_in {T = StoreFound} (Err refusal)) device → Answers s (turns.Opening options (Err refusal)) device
refuses s options before device refusal is tells quiet =
    subst (λ (d : Seen). Answers (record s { device = d }) (turns.Opening options (Err refusal)) device) (sym is) (record { cause = tells; finds = tt; quiet = quiet })

-- ---- of the parts

core_fresh : (device : Seen) (options : Options) (store : StoreFound) (parts : Parts) (core : CoreView) → ArePartsOf store parts → IsCoreOf device options parts core
    → core ≡ fresh device options store (levels_in parts.tables)
core_fresh device options store parts core are is =
    is.core_is
    ∙ (λ i. record (fresh device options store (levels_in parts.tables)) {
      trail = new_trail (are.last_seq i);
      immutable = are.segments i;
      next_file = are.next_file i;
      manifest = are.manifest i;
    })

pub opens_parts : (s : State) (options : Options) (store : StoreFound) (parts : Parts) (core : CoreView) (before device : Seen) → ArePartsOf store parts → IsCoreOf device options parts core
    → run_on store.version.last_seq store.batches.items ≡ Ok store.last_seq → IsNextFile store.listing store.version.next_file store.next_file
    → s.device ≡ before → Expects s → StoreTells before.told (Ok store) → TellsListing before.told store.listing → IsQuiet before None device → IsOpening s options core
opens_parts s options store parts core before device are is runs_on next same expects told listing quiet =
    subst (IsOpening s options) (sym (core_fresh device options store parts core are is))
    (opens options store (levels_in parts.tables) are.tables are.opened are.order are.bounds runs_on next s before device same expects told listing quiet)
