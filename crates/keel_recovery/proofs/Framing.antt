-- Calls that change nothing that is kept leave all of it: making a log or a table, syncing the directory, and others.
use Rattle.std.specs.List.{AllByRecursion}
use Rattle.std.proofs.Common.{◌≡◌, ℕ, ◌+◌, ◌<◌, ◌≤◌, Bool, true, false, List, [], ◌∷◌, length, take, Some, refl, sym, subst, ◌∙◌, arith}
use Rattle.keel_base.specs.declared.file_name.FileName.{FileName}
use Rattle.keel_base.specs.declared.file_name.FileName.TheVariants.{Log, Table}
use Rattle.keel_base.specs.Name.{name_eq}
use Rattle.keel_base.proofs.Names.{name_eq-true}
use Rattle.keel_disk.specs.declared.change.Change.{Change}
use Rattle.keel_disk.specs.declared.change.Change.TheVariants.{Create, SyncDir}
use Rattle.keel_disk.specs.declared.state.File.{File}
use Rattle.keel_disk.specs.Directory.{Named, find, linked}
use Rattle.keel_disk.specs.Sound.{IsOneToOne}
use Rattle.keel_disk.specs.State.{State, file_at}
use Rattle.keel_disk.specs.Step.{DiskStep}
use Rattle.keel_disk.specs.Steady.{Always, IsApart, SparesSpoilt}
use Rattle.keel_disk.proofs.Directories.{find-linked}
use Rattle.keel_disk.proofs.Operating.{find-linked_other, file_at-created}
use Rattle.keel_disk.proofs.Meaning.{all_read_stays}
use Rattle.keel_disk.proofs.Reaching.{Reaches, reached}
use Rattle.keel_disk.proofs.Steadily.{KeptBy, always_stays, steady_stays}
use Rattle.keel_directory.specs.TableFiles.{TableFile}
use Rattle.keel_machine.specs.States.{Story, entries_in}
use Rattle.keel_open.specs.NextFiles.{number_in}
use Rattle.keel_recovery.specs.Calls.{Answer, CreateKeeps}
use Rattle.keel_recovery.specs.Chains.{Chained, is_chained, OthersEmpty, AreChained}
use Rattle.keel_recovery.specs.FlushEdits.{IsOfNoManifest}
use Rattle.keel_recovery.specs.Keeping.{AreDrawn, Keeps}
use Rattle.keel_recovery.specs.Roots.{Way, IsOneWay, version_behind}
use Rattle.keel_recovery.proofs.Emptying.{IsEmpty, empty_operated}
use Rattle.keel_recovery.proofs.Passing.{AllPass, chained_passes, differs_back, less_differs}
use Rattle.keel_recovery.proofs.Steering.{IsOfLog, PutsAside, TablesPass, create_aside, sync_dir_aside, go_stays, tables_pass, root_pass, live_pass, same_story}
use Rattle.keel_version.specs.Tables.{Contents, nothing}

-- making a log or a table, or syncing the directory
abbrev pub IsFrame : Change → Type 0
IsFrame (Create (Log n)) = Unit {0}
IsFrame (Create (Table n)) = Unit {0}
IsFrame SyncDir = Unit {0}
IsFrame _ = ⊥

frame_no_manifest : (change : Change) → IsFrame change → IsOfNoManifest change
frame_no_manifest (Create (Log n)) frame = tt
frame_no_manifest (Create (Table n)) frame = tt
frame_no_manifest SyncDir frame = tt
frame_no_manifest _ frame = absurd frame

frame_aside : (change : Change) (state : State) → IsFrame change → PutsAside change state
frame_aside (Create (Log n)) state frame = create_aside (Log n) state
frame_aside (Create (Table n)) state frame = create_aside (Table n) state
frame_aside SyncDir state frame = sync_dir_aside state
frame_aside _ state frame = absurd frame

-- ---- tables

-- those of each version that a crash may leave stay as they are, and so do those in use
pub record AllTablesPass (ways : List Way) (levels : List TableFile) (state after : State) : Type 0 where
  pub versions :
      (way : Way) (count : ℕ) (version : Contents) → IsOneWay ways way → way.firm ≤ count → count ≤ length way.edits
      → version_behind nothing (take count way.edits) ≡ Some version → TablesPass version.tables state after
  pub live : TablesPass (entries_in levels) state after

pub log_pass : (ways : List Way) (levels : List TableFile) (change : Change) (answer : Answer) (state after : State) → IsOneToOne state → IsOfLog change → DiskStep state change answer after
    → AllTablesPass ways levels state after
log_pass ways levels change answer state after one of_log step =
    let pass = tables_pass change answer state after of_log one step in
    record { versions = λ way count version is least most is_version. pass version.tables; live = pass (entries_in levels) }

-- ---- the logs

-- the call isn't about one of these logs
abbrev pub IsOfOther : List Chained → Change → Type 0
IsOfOther logs change = AllByRecursion (λ (log : Chained). IsApart (Log log.number) change) logs

pub others_pass : (logs : List Chained) (change : Change) (answer : Answer) (state after : State) → IsOneToOne state → IsOfOther logs change → DiskStep state change answer after → AllPass logs state after
others_pass [] change answer state after one apart step = tt
others_pass (log ∷ logs) change answer state after one apart step = (
  λ file h. steady_stays (Log log.number) file change answer state after one apart.0 h step,
  others_pass logs change answer state after one apart.1 step,
)

-- ---- empty files

-- what holds no byte before holds none
abbrev StaysEmpty : State → State → Type 0
StaysEmpty state after = (file : ℕ) → IsEmpty (file_at file state.files) → IsEmpty (file_at file after.files)

empty_reaches : (change : Change) (state : State) → IsFrame change → Reaches (StaysEmpty state) change state
empty_reaches (Create (Log n)) state frame = λ file h. subst IsEmpty (sym (file_at-created file state.files)) h
empty_reaches (Create (Table n)) state frame = λ file h. subst IsEmpty (sym (file_at-created file state.files)) h
empty_reaches SyncDir state frame = λ kept file h. empty_operated file (take kept state.waiting) state.files h
empty_reaches _ state frame = absurd frame

-- each other log of a directory holds no byte
abbrev HasEmpty : ℕ → List Chained → List File → Named ℕ → Type 0
HasEmpty least logs files directory = (n file : ℕ) → least ≤ n → is_chained n logs ≡ false → find (Log n) directory ≡ Some file → IsEmpty (file_at file files)

empty_linked : (least : ℕ) (logs : List Chained) (files : List File) (name : FileName) (number : ℕ) (directory : Named ℕ) → IsEmpty (file_at number files)
    → HasEmpty least logs files directory → HasEmpty least logs files (linked name number directory)
empty_linked least logs files name number directory empty h = λ n file above none found. by n file above none found (name_eq name (Log n)) refl
  where
    by : (n file : ℕ) → least ≤ n → is_chained n logs ≡ false → find (Log n) (linked name number directory) ≡ Some file → (b : Bool) → name_eq name (Log n) ≡ b → IsEmpty (file_at file files)
    by n file above none found true same =
        let here : find (Log n) (linked name number directory) ≡ Some number = subst (λ (other : FileName). find (Log n) (linked other number directory) ≡ Some number) (sym (name_eq-true name (Log n) same)) (find-linked (Log n) number directory) in
        let is : number ≡ file = cc in
        subst (λ (k : ℕ). IsEmpty (file_at k files)) is empty
    by n file above none found false apart = h n file above none (sym (find-linked_other (Log n) name number directory apart) ∙ found)

new_file_empty : (files : List File) → IsEmpty (file_at (length files) files)
new_file_empty [] = refl
new_file_empty (file ∷ files) = new_file_empty files

empty_kept : (least : ℕ) (logs : List Chained) (change : Change) (state : State) → IsFrame change → KeptBy (HasEmpty least logs state.files) change state
empty_kept least logs (Create (Log n)) state frame = λ directory h. empty_linked least logs state.files (Log n) (length state.files) directory (new_file_empty state.files) h
empty_kept least logs (Create (Table n)) state frame = λ directory h. empty_linked least logs state.files (Table n) (length state.files) directory (new_file_empty state.files) h
empty_kept least logs SyncDir state frame = tt
empty_kept least logs _ state frame = absurd frame

others_stay : (least : ℕ) (logs : List Chained) (change : Change) (answer : Answer) (state after : State) → IsFrame change → DiskStep state change answer after
    → OthersEmpty least logs state → OthersEmpty least logs after
others_stay least logs change answer state after frame step h =
    let named : Always (HasEmpty least logs state.files) after = always_stays (HasEmpty least logs state.files) change answer state after (empty_kept least logs change state frame) (λ count n file above none found. h count n file above none found) step in
    let stays : StaysEmpty state after = reached (StaysEmpty state) answer change state after (λ file e. e) (empty_reaches change state frame) step in
    λ count n file above none found. stays file (named count n file above none found)

-- ---- numbers

-- the names of a directory are numbered below that
abbrev AreBelow : ℕ → Named ℕ → Type 0
AreBelow next directory = (file : ℕ) (name : FileName) → find name directory ≡ Some file → number_in name < next

-- a file that is made has a number below that
abbrev pub IsBelow : ℕ → Change → Type 0
IsBelow next (Create name) = number_in name < next
IsBelow next _ = Unit {0}

below_linked : (next number : ℕ) (new : FileName) (directory : Named ℕ) → number_in new < next → AreBelow next directory → AreBelow next (linked new number directory)
below_linked next number new directory lt below = λ file name found. by file name found (name_eq new name) refl
  where
    by : (file : ℕ) (name : FileName) → find name (linked new number directory) ≡ Some file → (b : Bool) → name_eq new name ≡ b → number_in name < next
    by file name found true same = subst (λ (other : FileName). number_in other < next) (name_eq-true new name same) lt
    by file name found false apart = below file name (sym (find-linked_other name new number directory apart) ∙ found)

below_kept : (next : ℕ) (change : Change) (state : State) → IsFrame change → IsBelow next change → KeptBy (AreBelow next) change state
below_kept next (Create (Log n)) state frame lt = λ directory h. below_linked next (length state.files) (Log n) directory lt h
below_kept next (Create (Table n)) state frame lt = λ directory h. below_linked next (length state.files) (Table n) directory lt h
below_kept next SyncDir state frame lt = tt
below_kept next _ state frame lt = absurd frame

pub drawn_stays : (next later : ℕ) (change : Change) (answer : Answer) (state after : State) → IsFrame change → next ≤ later → IsBelow later change → AreDrawn next state → DiskStep state change answer after → AreDrawn later after
drawn_stays next later change answer state after frame le below drawn step =
    let before : Always (AreBelow later) state = λ count file name found. omega (arith, le, drawn count file name found) in
    let behind : Always (AreBelow later) after = always_stays (AreBelow later) change answer state after (below_kept later change state frame below) before step in
    λ count file name found. behind count file name found

-- ---- all that is kept

frame_spares : (change : Change) (state : State) → IsFrame change → SparesSpoilt change state
frame_spares (Create (Log n)) state frame = tt
frame_spares (Create (Table n)) state frame = tt
frame_spares SyncDir state frame = tt
frame_spares _ state frame = absurd frame

-- a call that is about no manifest, about none of these logs, and changes none of the tables
pub call_keeps : (ways : List Way) (place next later : ℕ) (logs : List Chained) (levels : List TableFile) (story : Story) (change : Change) (answer : Answer) (state after : State)
    → IsOneToOne state → Keeps ways place logs levels story next state → IsOfNoManifest change → PutsAside change state → IsOfOther logs change → AllTablesPass ways levels state after
    → ((least : ℕ) → OthersEmpty least logs state → OthersEmpty least logs after) → next ≤ later → AreDrawn later after → SparesSpoilt change state
    → DiskStep state change answer after → Keeps ways place logs levels story later after
call_keeps ways place next later logs levels story change answer state after one h no_manifest aside apart tables others le drawn spares step =
    record {
      go = go_stays ways change answer state after no_manifest aside h.go step;
      roots = λ way is count least most.
          let root = h.roots way is count least most in
          root_pass (take count way.edits) logs logs story story next later state after root (tables.versions way count root.version is least most root.is_version)
          (same_story story) le (λ begins. begins) (others root.version.min_log);
      live = live_pass place levels story story state after h.stored.place_within tables.live (same_story story) h.live;
      stored = record {
        in_turn = h.stored.in_turn;
        batches_are = h.stored.batches_are;
        limits = h.stored.limits;
        place_within = h.stored.place_within;
        floor_within = h.stored.floor_within;
        chained = chained_passes story.floor (length story.log) logs state after (others_pass logs change answer state after one apart step) h.stored.chained;
      };
      drawn = drawn;
      read = all_read_stays change answer state after one spares h.read step;
    }

pub frame_keeps : (ways : List Way) (place next later : ℕ) (logs : List Chained) (levels : List TableFile) (story : Story) (change : Change) (answer : Answer) (state after : State)
    → IsOneToOne state → Keeps ways place logs levels story next state → IsFrame change → IsOfOther logs change → AllTablesPass ways levels state after → next ≤ later → IsBelow later change
    → DiskStep state change answer after → Keeps ways place logs levels story later after
frame_keeps ways place next later logs levels story change answer state after one h frame apart tables le below step =
    call_keeps ways place next later logs levels story change answer state after one h (frame_no_manifest change frame) (frame_aside change state frame) apart tables
    (λ least. others_stay least logs change answer state after frame step) le (drawn_stays next later change answer state after frame le below h.drawn step) (frame_spares change state frame) step

-- the logs of a chain are numbered below the next file
pub chain_below : (floor published next : ℕ) (logs : List Chained) (state : State) → AreDrawn next state → AreChained floor published logs state → AllByRecursion (λ (log : Chained). log.number < next) logs
chain_below floor published next [] state drawn h = tt
chain_below floor published next (log ∷ logs) state drawn h = (drawn 0 h.0.file (Log log.number) (h.0.steady.named 0), chain_below floor published next logs state drawn h.3)

pub create_keeps : CreateKeeps
create_keeps ways place next logs levels story answer state after one h step =
    frame_keeps ways place next (next + 1) logs levels story (Create (Log next)) answer state after one h tt
    (apart logs (chain_below story.floor (length story.log) next logs state h.drawn h.stored.chained)) (log_pass ways levels (Create (Log next)) answer state after one tt step)
    (omega arith) (omega arith) step
  where
    apart : (logs : List Chained) → AllByRecursion (λ (log : Chained). log.number < next) logs → IsOfOther logs (Create (Log next))
    apart [] below = tt
    apart (log ∷ logs) below = (differs_back log.number next (less_differs log.number next below.0), apart logs below.1)
