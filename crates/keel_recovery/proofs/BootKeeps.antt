-- Each kind of call of a boot before its move keeps what a booting store keeps, whatever is answered.
use Rattle.std.proofs.Common.{◌≡◌, ℕ, ◌+◌, ◌≤◌, ◌<◌, false, List, length, Option, Some, None, sym, ap, subst, ◌∙◌, inl, inr, arith}
use Rattle.std.specs.List.{AllByRecursion}
use Rattle.keel_base.specs.declared.failure.Fault.{Fault}
use Rattle.keel_base.specs.declared.file_name.FileName.{FileName}
use Rattle.keel_base.specs.declared.file_name.FileName.TheVariants.{Current, Table, Trash}
use Rattle.keel_disk.specs.declared.change.Change.TheVariants.{Create, Append, Sync, SyncDir}
use Rattle.keel_disk.specs.declared.state.File.{File}
use Rattle.keel_disk.specs.Directory.{find}
use Rattle.keel_disk.specs.State.{State as Disk, file_at, file_of, settled_through}
use Rattle.keel_disk.specs.Step.{DiskStep, extended, spoiled, synced, with_file}
use Rattle.keel_disk.specs.Steady.{AllRead, file_behind}
use Rattle.keel_disk.specs.Sound.{IsOneToOne}
use Rattle.keel_disk.proofs.Meaning.{all_read_stays}
use Rattle.keel_disk.proofs.Settling.{settled_twice}
use Rattle.keel_directory.specs.TableFiles.{TableFile}
use Rattle.keel_machine.specs.Outside.{as_answer}
use Rattle.keel_machine.specs.States.{Story}
use Rattle.keel_open.specs.NextFiles.{number_in}
use Rattle.keel_recovery.specs.Booting.{IsBooting, IsOldTable}
use Rattle.keel_recovery.specs.BootCalls.{IsUnmoved, IsBeingMade}
use Rattle.keel_recovery.proofs.BootFrame.{kept_created, created_unmoved, kept_changed, kept_settled, old_tables_stay}
use Rattle.keel_recovery.proofs.BootSteps.{create_leaves, append_done, append_failed, sync_done, sync_failed, sync_dir_leaves}

some_one : {A : Type 0} {x y : A} → Some x ≡ Some y → x ≡ y
some_one e = cc

-- no directory has CURRENT moved then
pub record KeptOn (bound : ℕ) (old : Disk) (levels : List TableFile) (story : Story) (next : ℕ) (after : Disk) : Type 0 where
  pub booting : IsBooting bound old levels story next after
  pub unmoved : IsUnmoved bound after

module _ (bound : ℕ) (old : Disk) (levels : List TableFile) (story : Story) (next_file : ℕ) (state : Disk) (one : IsOneToOne state) (booting : IsBooting bound old levels story next_file state) (unmoved : IsUnmoved bound state) where
  more_drawn : (next : ℕ) → next_file ≤ next → IsBooting bound old levels story next state
  more_drawn next more = record {
    within = booting.within;
    first = booting.first;
    stands = booting.stands;
    old_uncut = booting.old_uncut;
    uncut = booting.uncut;
    shows = booting.shows;
    shows_read = booting.shows_read;
    no_table = booting.no_table;
    no_trash = booting.no_trash;
    logs_empty = booting.logs_empty;
    rolls = λ count current is newer. absurd (unmoved count current is newer);
    tables = booting.tables;
    drawn = λ count file name is. omega (arith, more, booting.drawn count file name is);
    read = booting.read;
    listed = booting.listed;
    read_within = booting.read_within;
    read_steady = booting.read_steady;
  }

  -- a file that is being made is changed
  changed_on : (name : FileName) (given : List ℕ) (being : IsBeingMade bound name given state) (change : File → File) (after : Disk) → after ≡ with_file being.file change state → AllRead after
      → KeptOn bound old levels story next_file after
  changed_on name given being change after is read =
      subst (KeptOn bound old levels story next_file) (sym is) (record {
        booting = kept_changed bound old levels story next_file being.file change state booting being.newer (λ count n is_log. absurd (being.no_log count n is_log)) (subst AllRead is read) unmoved;
        unmoved = unmoved;
      })

  by_append : (failed_ : Option Fault) (after : Disk) (name : FileName) (given bytes : List ℕ) (being : IsBeingMade bound name given state) → DiskStep state (Append name bytes) (as_answer failed_) after → AllRead after
      → KeptOn bound old levels story next_file after
  by_append None after name given bytes being step read =
      changed_on name given being (extended bytes (length bytes)) after (append_done name bytes state after being.file being.present step) read
  by_append (Some fault) after name given bytes being step read =
      let fails = append_failed name bytes state after being.file fault being.present step in
      changed_on name given being (λ f. spoiled (extended bytes fails.0 f)) after fails.1 read

  by_sync : (failed_ : Option Fault) (after : Disk) (name : FileName) (given : List ℕ) (being : IsBeingMade bound name given state) → DiskStep state (Sync name) (as_answer failed_) after → AllRead after
      → KeptOn bound old levels story next_file after
  by_sync None after name given being step read = changed_on name given being synced after (sync_done name state after being.file being.present step) read
  by_sync (Some fault) after name given being step read = changed_on name given being spoiled after (sync_failed name state after being.file fault being.present step) read

  module _ (after : Disk) (failed_ : Option Fault) where
    pub append_keeps : (name : FileName) (given bytes : List ℕ) (being : IsBeingMade bound name given state) → DiskStep state (Append name bytes) (as_answer failed_) after
        → KeptOn bound old levels story next_file after
    append_keeps name given bytes being step =
        let spares : (file : ℕ) → file_of name state ≡ Some file → (file_at file state.files).spoilt ≡ false =
        λ file is. subst (λ n. (file_at n state.files).spoilt ≡ false) (some_one (sym being.present.named ∙ is)) being.going.not_spoilt in
        by_append failed_ after name given bytes being step (all_read_stays (Append name bytes) (as_answer failed_) state after one spares booting.read step)

    pub sync_keeps : (name : FileName) (given : List ℕ) (being : IsBeingMade bound name given state) → DiskStep state (Sync name) (as_answer failed_) after → KeptOn bound old levels story next_file after
    sync_keeps name given being step = by_sync failed_ after name given being step (all_read_stays (Sync name) (as_answer failed_) state after one tt booting.read step)

    -- a new name is made, under which no directory has a file
    pub create_keeps : (name : FileName) (next : ℕ) → ((count file : ℕ) → file_behind count name state ≡ Some file → ⊥) → (name ≡ Current → ⊥) → ((n : ℕ) → name ≡ Trash n → ⊥)
        → ((before : ℕ) → file_behind before Current old ≡ None → (n : ℕ) → name ≡ Table n → ⊥) → next_file ≤ next → number_in name < next → DiskStep state (Create name) (as_answer failed_) after
        → KeptOn bound old levels story next after
    create_keeps name next fresh not_current not_trash no_table more numbered step =
        let read = all_read_stays (Create name) (as_answer failed_) state after one tt booting.read step in
        elim (create_leaves name state after failed_ step) [
          | inl same ↦ subst (KeptOn bound old levels story next) (sym same) (record { booting = more_drawn next more; unmoved = unmoved })
          | inr made ↦ subst (KeptOn bound old levels story next) (sym made) (record {
            booting = kept_created bound old levels story next_file next name state one booting unmoved fresh not_current not_trash no_table more numbered (subst AllRead made read);
            unmoved = created_unmoved bound old levels story next_file next name state one booting unmoved fresh not_current not_trash no_table more numbered (subst AllRead made read);
          })
        ]

    pub sync_dir_keeps : DiskStep state SyncDir (as_answer failed_) after → KeptOn bound old levels story next_file after
    sync_dir_keeps step =
        let leaves = sync_dir_leaves state after failed_ step in
        let read = subst AllRead leaves.1 (all_read_stays SyncDir (as_answer failed_) state after one tt booting.read step) in
        let tables : (found : List TableFile) → AllByRecursion (IsOldTable bound state) found → AllByRecursion (IsOldTable bound (settled_through leaves.0 state)) found =
        λ found are. subst (λ s. AllByRecursion (IsOldTable bound s) found) leaves.1 (old_tables_stay bound SyncDir (as_answer failed_) state after one (λ n. tt) step found are) in
        let later : (count : ℕ) → file_behind count Current (settled_through leaves.0 state) ≡ file_behind (leaves.0 + count) Current state = λ count. ap (λ (s : Disk). find Current s.firm) (settled_twice leaves.0 count state) in
        let unmoved_then : IsUnmoved bound (settled_through leaves.0 state) = λ count current is newer. unmoved (leaves.0 + count) current (sym (later count) ∙ is) newer in
        subst (KeptOn bound old levels story next_file) (sym leaves.1) (record {
          booting = kept_settled bound old levels story next_file leaves.0 state one booting read tables (λ count current is newer. absurd (unmoved_then count current is newer));
          unmoved = unmoved_then;
        })
