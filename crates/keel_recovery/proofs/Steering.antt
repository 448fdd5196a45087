-- Calls about logs and tables leave CURRENT and manifests as they are, and calls that aren't about them the tables.
use Rattle.std.specs.List.{AllByRecursion}
use Rattle.std.proofs.Common.{◌≡◌, ◌≢◌, ℕ, ◌<◌, ◌≤◌, true, false, List, [], ◌∷◌, length, Some, refl, sym, ap, subst, ◌∙◌, arith}
use Rattle.keel_base.specs.declared.file_name.FileName.{FileName}
use Rattle.keel_base.specs.declared.file_name.FileName.TheVariants.{Log, Table, Manifest, Current}
use Rattle.keel_base.specs.Name.{name_eq}
use Rattle.keel_base.proofs.Names.{name_eq-same, name_eq-true}
use Rattle.keel_base.specs.Points.{Point}
use Rattle.keel_disk.specs.declared.change.Change.{Change}
use Rattle.keel_disk.specs.declared.change.Change.TheVariants.{Create, Append, Sync, SyncDir}
use Rattle.keel_disk.specs.declared.state.File.{File}
use Rattle.keel_disk.specs.Directory.{Named, find, linked}
use Rattle.keel_disk.specs.Sound.{IsOneToOne}
use Rattle.keel_disk.specs.State.{State, file_at, file_of, has_waiting_cut, settled_through}
use Rattle.keel_disk.specs.Step.{DiskStep}
use Rattle.keel_disk.specs.Steady.{Always, IsApart, IsSteady, IsHeld, file_behind}
use Rattle.keel_disk.proofs.Operating.{find-linked_other, one_name}
use Rattle.keel_disk.proofs.Steadily.{KeptBy, IsAside, always_stays, uncut_stays, steady_read, steady_stays}
use Rattle.keel_directory.specs.TableFiles.{TableFile}
use Rattle.keel_edit.specs.declared.edit.Added.{Added}
use Rattle.keel_edit.specs.declared.edit.Edit.{Edit}
use Rattle.keel_machine.specs.States.{Story, entries_in}
use Rattle.keel_name.specs.Current.{current_of}
use Rattle.keel_recovery.specs.Calls.{Answer}
use Rattle.keel_recovery.specs.Chains.{Chained, OthersEmpty}
use Rattle.keel_recovery.specs.FlushEdits.{IsOfNoManifest}
use Rattle.keel_recovery.specs.FlushFiles.{IsAlone, IsOfNoTable}
use Rattle.keel_recovery.specs.Keeping.{AreLive}
use Rattle.keel_recovery.specs.Roots.{Way, IsWay, IsOneWay, AllGo, AreFirmTables, Say, IsRoot, BeginsAt, first_from, point_at}
use Rattle.keel_recovery.proofs.Passing.{Passes}

-- the call is about a log, and takes no name and no byte away
abbrev pub IsOfLog : Change → Type 0
IsOfLog (Create (Log n)) = Unit {0}
IsOfLog (Append (Log n) bytes) = Unit {0}
IsOfLog (Sync (Log n)) = Unit {0}
IsOfLog SyncDir = Unit {0}
IsOfLog _ = ⊥

pub log_no_manifest : (change : Change) → IsOfLog change → IsOfNoManifest change
log_no_manifest (Create (Log n)) of_log = tt
log_no_manifest (Append (Log n) bytes) of_log = tt
log_no_manifest (Sync (Log n)) of_log = tt
log_no_manifest SyncDir of_log = tt
log_no_manifest _ of_log = absurd of_log

log_no_table : (change : Change) → IsOfLog change → IsOfNoTable change
log_no_table (Create (Log n)) of_log = tt
log_no_table (Append (Log n) bytes) of_log = tt
log_no_table (Sync (Log n)) of_log = tt
log_no_table SyncDir of_log = tt
log_no_table _ of_log = absurd of_log

pub table_apart : (number : ℕ) (change : Change) → IsOfNoTable change → IsApart (Table number) change
table_apart number (Create (Log n)) no_table = refl
table_apart number (Append (Log n) bytes) no_table = refl
table_apart number (Sync (Log n)) no_table = refl
table_apart number (Append (Manifest n) bytes) no_table = refl
table_apart number (Sync (Manifest n)) no_table = refl
table_apart number SyncDir no_table = tt
table_apart number _ no_table = absurd no_table

-- files that have another name are aside
abbrev pub PutsAside : Change → State → Type 0
PutsAside change state = (count file : ℕ) (name : FileName) → IsApart name change → file_behind count name state ≡ Some file → IsAside file change state

pub create_aside : (new : FileName) (state : State) → PutsAside (Create new) state
create_aside new state = λ count file name apart named. tt

pub sync_dir_aside : (state : State) → PutsAside SyncDir state
sync_dir_aside state = λ count file name apart named. tt

-- a file that has one name alone, whatever operations are done, has no name that differs
pub alone_differs : (own : FileName) (number count file : ℕ) (name : FileName) (state : State) → IsAlone own number state → name_eq own name ≡ false → file_behind count name state ≡ Some file → file ≢ number
alone_differs own number count file name state alone apart named = λ same.
    let is : name ≡ own = alone count name (named ∙ ap Some same) in
    let here : name_eq own name ≡ true = ap (name_eq own) is ∙ name_eq-same own in
    absurd cc

own_aside : (own : FileName) (number count file : ℕ) (name : FileName) (state : State) → IsAlone own number state → file_of own state ≡ Some number → name_eq own name ≡ false → file_behind count name state ≡ Some file
    → (found : ℕ) → file_of own state ≡ Some found → file ≢ found
own_aside own number count file name state alone own_is apart named found is = λ same.
    let here : number ≡ found = let e = sym own_is ∙ is in cc in
    alone_differs own number count file name state alone apart named (same ∙ sym here)

pub append_alone : (own : FileName) (number : ℕ) (bytes : List ℕ) (state : State) → IsAlone own number state → file_of own state ≡ Some number → PutsAside (Append own bytes) state
append_alone own number bytes state alone own_is = λ count file name apart named found is. own_aside own number count file name state alone own_is apart named found is

pub sync_alone : (own : FileName) (number : ℕ) (state : State) → IsAlone own number state → file_of own state ≡ Some number → PutsAside (Sync own) state
sync_alone own number state alone own_is = λ count file name apart named found is. own_aside own number count file name state alone own_is apart named found is

-- the file of a steady name is so
pub steady_alone : (name : FileName) (file : ℕ) (state : State) → IsOneToOne state → IsSteady name file state → IsAlone name file state
steady_alone name file state one steady = λ count other named.
    sym (name_eq-true name other (one_name (length state.files) name other file (settled_through count state).firm (one count) (steady.named count) named))

pub append_aside : (number own : ℕ) (bytes : List ℕ) (state : State) → IsOneToOne state → IsSteady (Log number) own state → PutsAside (Append (Log number) bytes) state
append_aside number own bytes state one steady = append_alone (Log number) own bytes state (steady_alone (Log number) own state one steady) (steady_read (Log number) own state steady)

pub sync_aside : (number own : ℕ) (state : State) → IsOneToOne state → IsSteady (Log number) own state → PutsAside (Sync (Log number)) state
sync_aside number own state one steady = sync_alone (Log number) own state (steady_alone (Log number) own state one steady) (steady_read (Log number) own state steady)

-- ---- CURRENT and manifests

-- a directory in which CURRENT names a way, whose files the call isn't about
record Steers (ways : List Way) (change : Change) (state : State) (directory : Named ℕ) : Type 0 where
  way : Way
  one : IsOneWay ways way
  is_way : IsWay way state
  current : ℕ
  named : find Current directory ≡ Some current
  says : IsHeld (file_at current state.files) (current_of way.manifest)
  not_cut : has_waiting_cut current state.waiting ≡ false
  manifest : find (Manifest way.manifest) directory ≡ Some way.file
  aside_current : IsAside current change state
  aside_manifest : IsAside way.file change state

steers_linked : (ways : List Way) (new : FileName) (state : State) (directory : Named ℕ) → name_eq new Current ≡ false → ((number : ℕ) → name_eq new (Manifest number) ≡ false)
    → Steers ways (Create new) state directory → Steers ways (Create new) state (linked new (length state.files) directory)
steers_linked ways new state directory no_current no_manifest h = record {
  way = h.way;
  one = h.one;
  is_way = h.is_way;
  current = h.current;
  named = find-linked_other Current new (length state.files) directory no_current ∙ h.named;
  says = h.says;
  not_cut = h.not_cut;
  manifest = find-linked_other (Manifest h.way.manifest) new (length state.files) directory (no_manifest h.way.manifest) ∙ h.manifest;
  aside_current = tt;
  aside_manifest = tt;
}

steers_kept : (ways : List Way) (change : Change) (state : State) → IsOfNoManifest change → KeptBy (Steers ways change state) change state
steers_kept ways (Create (Log n)) state no_manifest = λ directory h. steers_linked ways (Log n) state directory refl (λ number. refl) h
steers_kept ways (Create (Table n)) state no_manifest = λ directory h. steers_linked ways (Table n) state directory refl (λ number. refl) h
steers_kept ways (Append (Log n) bytes) state no_manifest = tt
steers_kept ways (Append (Table n) bytes) state no_manifest = tt
steers_kept ways (Sync (Log n)) state no_manifest = tt
steers_kept ways (Sync (Table n)) state no_manifest = tt
steers_kept ways SyncDir state no_manifest = tt
steers_kept ways _ state no_manifest = absurd no_manifest

current_apart : (change : Change) → IsOfNoManifest change → IsApart Current change
current_apart (Create (Log n)) no_manifest = refl
current_apart (Create (Table n)) no_manifest = refl
current_apart (Append (Log n) bytes) no_manifest = refl
current_apart (Append (Table n) bytes) no_manifest = refl
current_apart (Sync (Log n)) no_manifest = refl
current_apart (Sync (Table n)) no_manifest = refl
current_apart SyncDir no_manifest = tt
current_apart _ no_manifest = absurd no_manifest

pub manifest_apart : (number : ℕ) (change : Change) → IsOfNoManifest change → IsApart (Manifest number) change
manifest_apart number (Create (Log n)) no_manifest = refl
manifest_apart number (Create (Table n)) no_manifest = refl
manifest_apart number (Append (Log n) bytes) no_manifest = refl
manifest_apart number (Append (Table n) bytes) no_manifest = refl
manifest_apart number (Sync (Log n)) no_manifest = refl
manifest_apart number (Sync (Table n)) no_manifest = refl
manifest_apart number SyncDir no_manifest = tt
manifest_apart number _ no_manifest = absurd no_manifest

way_stays : (way : Way) (state after : State) → IsWay way state → file_at way.file after.files ≡ file_at way.file state.files → has_waiting_cut way.file after.waiting ≡ false → IsWay way after
way_stays way state after h same uncut = record {
  some = h.some;
  within = h.within;
  are_edits = h.are_edits;
  meant_is = ap (λ (f : File). f.meant) same ∙ h.meant_is;
  firm_to = omega (arith, h.firm_to, ap (λ (f : File). f.firm) same);
  read_to = omega (arith, h.read_to, ap (λ (f : File). length f.read) same);
  not_cut = uncut;
}

pub go_stays : (ways : List Way) (change : Change) (answer : Answer) (state after : State) → IsOfNoManifest change → PutsAside change state → AllGo ways state → DiskStep state change answer after → AllGo ways after
go_stays ways change answer state after no_manifest aside go step =
    let before : Always (Steers ways change state) state = λ count.
    let going = go count in
    let goes = going.3 in
    record {
      way = going.0;
      one = going.1;
      is_way = going.2;
      current = goes.current;
      named = goes.named;
      says = goes.says;
      not_cut = goes.not_cut;
      manifest = goes.manifest;
      aside_current = aside count goes.current Current (current_apart change no_manifest) goes.named;
      aside_manifest = aside count going.0.file (Manifest going.0.manifest) (manifest_apart going.0.manifest change no_manifest) goes.manifest;
    } in
    let behind : Always (Steers ways change state) after = always_stays (Steers ways change state) change answer state after (steers_kept ways change state no_manifest) before step in
    λ count.
    let h = behind count in
    let current = uncut_stays h.current (file_at h.current state.files) change answer state after h.aside_current (record { file_is = refl; not_cut = h.not_cut }) step in
    let manifest = uncut_stays h.way.file (file_at h.way.file state.files) change answer state after h.aside_manifest (record { file_is = refl; not_cut = h.is_way.not_cut }) step in (
      h.way,
      h.one,
      way_stays h.way state after h.is_way manifest.file_is manifest.not_cut,
      record {
        current = h.current;
        named = h.named;
        says = subst (λ (f : File). IsHeld f (current_of h.way.manifest)) (sym current.file_is) h.says;
        not_cut = current.not_cut;
        manifest = h.manifest;
      },
    )

-- ---- tables

-- these tables' names stay steady
abbrev pub TablesPass : List Added → State → State → Type 0
TablesPass tables state after = AllByRecursion (λ (table : Added). Passes (Table table.number) state after) tables

-- they do where those of all numbers do
pub each_passes : (state after : State) → ((number : ℕ) → Passes (Table number) state after) → (tables : List Added) → TablesPass tables state after
each_passes state after passes [] = tt
each_passes state after passes (table ∷ tables) = (passes table.number, each_passes state after passes tables)

pub apart_pass : (change : Change) (answer : Answer) (state after : State) → IsOneToOne state → DiskStep state change answer after → (tables : List Added)
    → AllByRecursion (λ (table : Added). IsApart (Table table.number) change) tables → TablesPass tables state after
apart_pass change answer state after one step [] apart = tt
apart_pass change answer state after one step (table ∷ tables) apart =
    (λ file steady. steady_stays (Table table.number) file change answer state after one apart.0 steady step, apart_pass change answer state after one step tables apart.1)

pub tables_pass : (change : Change) (answer : Answer) (state after : State) → IsOfLog change → IsOneToOne state → DiskStep state change answer after → (tables : List Added) → TablesPass tables state after
tables_pass change answer state after of_log one step tables =
    each_passes state after (λ number file steady. steady_stays (Table number) file change answer state after one (table_apart number change (log_no_table change of_log)) steady step) tables

pub tables_same : (state : State) (tables : List Added) → TablesPass tables state state
tables_same state tables = each_passes state state (λ number file steady. (steady, refl)) tables

pub firm_pass : (state after : State) (tables : List Added) (files : List TableFile) → TablesPass tables state after → AreFirmTables state tables files → AreFirmTables after tables files
firm_pass state after [] [] passes h = tt
firm_pass state after [] (file ∷ files) passes h = absurd h
firm_pass state after (table ∷ tables) [] passes h = absurd h
firm_pass state after (table ∷ tables) (found ∷ files) passes h =
    let is = h.0 in
    let behind = passes.0 is.file is.steady in (
      record {
        entry = is.entry;
        file = is.file;
        steady = behind.0;
        held = subst (λ (f : File). IsHeld f found.bytes) (sym behind.1) is.held;
        opens = is.opens;
      },
      firm_pass state after tables files passes.1 h.1,
    )

-- ---- roots

-- a story goes on from another
pub record GoesOn (story next : Story) : Type 0 where
  pub points : (place : ℕ) → place ≤ length story.log → point_at place next ≡ point_at place story
  pub longer : length story.log ≤ length next.log

pub same_story : (story : Story) → GoesOn story story
same_story story = record { points = λ place within. refl; longer = omega arith }

pub root_pass : (edits : List Edit) (logs others : List Chained) (story next : Story) (next_file later_file : ℕ) (state after : State) (root : IsRoot edits logs story next_file state)
    → TablesPass root.version.tables state after → GoesOn story next → next_file ≤ later_file
    → (BeginsAt root.place (first_from root.version.min_log logs) story → BeginsAt root.place (first_from root.version.min_log others) next)
    → (OthersEmpty root.version.min_log logs state → OthersEmpty root.version.min_log others after)
    → IsRoot edits others next later_file after
root_pass edits logs others story next next_file later_file state after root passes on le begins empty =
    let point : point_at root.place next ≡ point_at root.place story = on.points root.place root.published in
    record {
      version = root.version;
      is_version = root.is_version;
      place = root.place;
      published = omega (arith, root.published, on.longer);
      ends = root.ends ∙ ap (λ (p : Point). p.seq) (sym point);
      tables = root.tables;
      firm = firm_pass state after root.version.tables root.tables passes root.firm;
      say = subst (Say root.version.last_seq root.tables) (sym point) root.say;
      begins = begins root.begins;
      others = empty root.others;
      log_drawn = omega (arith, le, root.log_drawn);
      drawn = more root.version.tables root.drawn;
    }
  where
    more : (tables : List Added) → AllByRecursion (λ (table : Added). table.number < next_file) tables → AllByRecursion (λ (table : Added). table.number < later_file) tables
    more [] h = tt
    more (table ∷ tables) h = (omega (arith, le, h.0), more tables h.1)

pub live_pass : (place : ℕ) (levels : List TableFile) (story next : Story) (state after : State) → place ≤ length story.log → TablesPass (entries_in levels) state after → GoesOn story next → AreLive place levels story state → AreLive place levels next after
live_pass place levels story next state after within passes on live =
    let point : point_at place next ≡ point_at place story = on.points place within in
    record {
      firm = firm_pass state after (entries_in levels) levels passes live.firm;
      say = subst (λ (p : Point). Say p.seq levels p) (sym point) live.say;
    }
