-- What calls leave of files that they aren't about: of the table of a flush, of logs, and of the manifest in use.
use Rattle.std.proofs.Common.{◌≡◌, ◌≢◌, ℕ, ◌<◌, Bool, true, false, List, [], ◌∷◌, length, Some, refl, sym, ap, subst, ◌∙◌, arith}
use Rattle.keel_base.specs.Name.{name_eq}
use Rattle.keel_base.specs.declared.file_name.FileName.{FileName}
use Rattle.keel_base.specs.declared.file_name.FileName.TheVariants.{Log, Table, Manifest}
use Rattle.keel_base.proofs.Names.{name_eq-true}
use Rattle.keel_disk.specs.declared.change.Change.{Change}
use Rattle.keel_disk.specs.declared.change.Change.TheVariants.{Create, Append, Sync, SyncDir}
use Rattle.keel_disk.specs.declared.state.File.{File}
use Rattle.keel_disk.specs.Directory.{Named, find, linked}
use Rattle.keel_disk.specs.Sound.{IsOneToOne}
use Rattle.keel_disk.specs.State.{State, directory_read}
use Rattle.keel_disk.specs.Step.{DiskStep}
use Rattle.keel_disk.specs.Steady.{IsApart, IsGoing, IsHeld, IsPresent}
use Rattle.keel_disk.proofs.Directories.{find-linked}
use Rattle.keel_disk.proofs.Operating.{find-linked_other, is_below}
use Rattle.keel_disk.proofs.Steadily.{KeptBy, always_stays, present_stays, read_own, steady_stays}
use Rattle.keel_recovery.specs.Calls.{Answer}
use Rattle.keel_recovery.specs.Chains.{Chained}
use Rattle.keel_recovery.specs.FlushEdits.{OpenWayStays}
use Rattle.keel_recovery.specs.FlushFiles.{IsAlone, IsOfNoLog, IsOfNoTable, LogsStay, TableStays}
use Rattle.keel_recovery.proofs.Framing.{IsOfOther, others_pass}
use Rattle.keel_recovery.proofs.Passing.{all_whole_pass, whole_passes}
use Rattle.keel_recovery.proofs.Steering.{manifest_apart, table_apart}

-- ---- the table

-- a file that has one name in a directory, if any
abbrev HasOne : FileName → ℕ → Named ℕ → Type 0
HasOne name file directory = (other : FileName) → find other directory ≡ Some file → other ≡ name

one_linked : (name new : FileName) (file number : ℕ) (directory : Named ℕ) → file ≢ number → HasOne name file directory → HasOne name file (linked new number directory)
one_linked name new file number directory differs h = λ other found. by other found (name_eq new other) refl
  where
    by : (other : FileName) → find other (linked new number directory) ≡ Some file → (b : Bool) → name_eq new other ≡ b → other ≡ name
    by other found true same =
        let here : find other (linked new number directory) ≡ Some number = subst (λ (n : FileName). find other (linked n number directory) ≡ Some number) (sym (name_eq-true new other same)) (find-linked other number directory) in
        let is : file ≡ number = let e = sym found ∙ here in cc in
        absurd (differs is)
    by other found false apart = h other (sym (find-linked_other other new number directory apart) ∙ found)

one_kept : (name : FileName) (file : ℕ) (change : Change) (state : State) → IsOfNoTable change → file < length state.files → KeptBy (HasOne name file) change state
one_kept name file (Create (Log n)) state no_table there = λ directory h. one_linked name (Log n) file (length state.files) directory (λ same. omega (arith, there, same)) h
one_kept name file (Append (Log n) bytes) state no_table there = tt
one_kept name file (Sync (Log n)) state no_table there = tt
one_kept name file (Append (Manifest n) bytes) state no_table there = tt
one_kept name file (Sync (Manifest n)) state no_table there = tt
one_kept name file SyncDir state no_table there = tt
one_kept name file _ state no_table there = absurd no_table

alone_stays : (name : FileName) (file : ℕ) (change : Change) (answer : Answer) (state after : State) → IsOneToOne state → IsOfNoTable change → IsPresent name file state → IsAlone name file state
    → DiskStep state change answer after → IsAlone name file after
alone_stays name file change answer state after one no_table present alone step =
    let there = is_below (length state.files) name file (directory_read state) (read_own state one) present.named in
    always_stays (HasOne name file) change answer state after (one_kept name file change state no_table there) alone step

pub table_stays : TableStays
table_stays = record {
  begun = λ number bytes change answer state after one no_table step h.
      let stays = present_stays (Table number) h.file change answer state after one (table_apart number change no_table) h.present step in
      record {
        file = h.file;
        present = stays.0;
        alone = alone_stays (Table number) h.file change answer state after one no_table h.present h.alone step;
        meant = ap (λ (f : File). f.meant) stays.1 ∙ h.meant;
        going = subst IsGoing (sym stays.1) h.going;
      };
  whole = λ number bytes change answer state after one no_table step h.
      let stays = present_stays (Table number) h.file change answer state after one (table_apart number change no_table) h.present step in
      record { file = h.file; present = stays.0; held = subst (λ (f : File). IsHeld f bytes) (sym stays.1) h.held };
  fast = λ number bytes change answer state after one no_table step h.
      let stays = steady_stays (Table number) h.file change answer state after one (table_apart number change no_table) h.steady step in
      record { file = h.file; steady = stays.0; held = subst (λ (f : File). IsHeld f bytes) (sym stays.1) h.held };
}

-- ---- logs

log_apart : (number : ℕ) (change : Change) → IsOfNoLog change → IsApart (Log number) change
log_apart number (Create (Table n)) no_log = refl
log_apart number (Append (Table n) bytes) no_log = refl
log_apart number (Sync (Table n)) no_log = refl
log_apart number (Append (Manifest n) bytes) no_log = refl
log_apart number (Sync (Manifest n)) no_log = refl
log_apart number SyncDir no_log = tt
log_apart number _ no_log = absurd no_log

pub logs_apart : (logs : List Chained) (change : Change) → IsOfNoLog change → IsOfOther logs change
logs_apart [] change no_log = tt
logs_apart (log ∷ logs) change no_log = (log_apart log.number change no_log, logs_apart logs change no_log)

pub logs_stay : LogsStay
logs_stay = record {
  grows = λ front log size change answer state after one no_log step h.
      let stays = steady_stays (Log log.number) h.going.file change answer state after one (log_apart log.number change no_log) h.going.steady step in
      record {
        whole = all_whole_pass front state after (others_pass front change answer state after one (logs_apart front change no_log) step) h.whole;
        going = record {
          file = h.going.file;
          steady = stays.0;
          going = subst IsGoing (sym stays.1) h.going.going;
          size_is = ap (λ (f : File). length f.meant) stays.1 ∙ h.going.size_is;
        };
      };
  new = λ number change answer state after one no_log step h.
      let stays = present_stays (Log number) h.file change answer state after one (log_apart number change no_log) h.present step in
      record { file = h.file; present = stays.0; is_new = stays.1 ∙ h.is_new };
  whole = λ log change answer state after one no_log step h.
      whole_passes log state after (λ file steady. steady_stays (Log log.number) file change answer state after one (log_apart log.number change no_log) steady step) h;
}

-- ---- the manifest in use

pub open_way_stays : OpenWayStays
open_way_stays way size change answer state after one no_manifest step h =
    let stays = steady_stays (Manifest way.manifest) way.file change answer state after one (manifest_apart way.manifest change no_manifest) h.steady step in
    record { steady = stays.0; going = subst IsGoing (sym stays.1) h.going; size_is = ap (λ (f : File). length f.meant) stays.1 ∙ h.size_is }
