-- The last call of a boot, which makes its move firm: where it failed.
use Rattle.std.proofs.Common.{◌≡◌, ℕ, ◌+◌, ◌≤◌, false, List, length, take, drop, Option, Some, sym, ap, subst, ◌∙◌, arith}
use Rattle.std.specs.List.{AllByRecursion}
use Rattle.keel_base.specs.declared.failure.Fault.{Fault}
use Rattle.keel_base.specs.declared.file_name.FileName.{FileName}
use Rattle.keel_base.specs.declared.file_name.FileName.TheVariants.{Current, Log, Manifest}
use Rattle.keel_disk.specs.declared.change.Change.TheVariants.{SyncDir}
use Rattle.keel_disk.specs.declared.state.File.{File}
use Rattle.keel_disk.specs.Directory.{find, operated_all}
use Rattle.keel_disk.specs.State.{State as Disk, file_at, has_waiting_cut, settled_through}
use Rattle.keel_disk.specs.Step.{DiskStep}
use Rattle.keel_disk.specs.Steady.{AllRead, IsHeld, file_behind}
use Rattle.keel_disk.specs.Sound.{IsOneToOne}
use Rattle.keel_disk.proofs.Meaning.{all_read_stays}
use Rattle.keel_disk.proofs.Operating.{cut-rest}
use Rattle.keel_disk.proofs.Settling.{settled_twice}
use Rattle.keel_directory.specs.TableFiles.{TableFile}
use Rattle.keel_machine.specs.Outside.{as_answer}
use Rattle.keel_machine.specs.Resuming.{act_failed, cleared_story}
use Rattle.keel_machine.specs.States.{State, Story}
use Rattle.keel_manifest.specs.declared.roll.RollCall.TheVariants.{SyncDirectory}
use Rattle.keel_resume.specs.Plans.{Job, Rolls, failure_of}
use Rattle.keel_name.specs.Current.{current_of}
use Rattle.keel_recovery.specs.Booting.{IsBooting, IsOldTable, IsRoll}
use Rattle.keel_recovery.specs.BootCalls.{BootKept}
use Rattle.keel_recovery.proofs.BootFrame.{kept_settled, old_tables_stay}
use Rattle.keel_recovery.proofs.BootMoved.{firm_stay, root_stays}
use Rattle.keel_recovery.proofs.BootStands.{same_files}
use Rattle.keel_recovery.proofs.BootSteps.{sync_dir_leaves}

-- without CURRENT the older names are fewer, so what is newer stays so
module _ (bound : ℕ) (old : Disk) (levels : List TableFile) (story : Story) (next_file : ℕ) (state after : Disk) (one : IsOneToOne state) (booting : IsBooting bound old levels story next_file state)
    (failed_ : Option Fault) (step : DiskStep state SyncDir (as_answer failed_) after) (k : ℕ) (is : after ≡ settled_through k state) where
  abbrev all_in : Story
  all_in = cleared_story story

  files_same : after.files ≡ state.files
  files_same = ap (λ (d : Disk). d.files) is ∙ same_files bound old levels story next_file state one booting k

  later : (count : ℕ) (name : FileName) → file_behind count name after ≡ file_behind (k + count) name state
  later count name = ap (file_behind count name) is ∙ ap (λ (d : Disk). find name d.firm) (settled_twice k count state)

  waits : after.waiting ≡ drop k state.waiting
  waits = ap (λ (d : Disk). d.waiting) is

  firm_is : after.firm ≡ operated_all (take k state.waiting) state.firm
  firm_is = ap (λ (d : Disk). d.firm) is

  uncut : (file : ℕ) → has_waiting_cut file state.waiting ≡ false → has_waiting_cut file after.waiting ≡ false
  uncut file none = subst (λ ops. has_waiting_cut file ops ≡ false) (sym waits) (cut-rest file k state.waiting none)

  read : AllRead after
  read = all_read_stays SyncDir (as_answer failed_) state after one tt booting.read step

  roll_stays : (count : ℕ) → IsRoll (k + count) all_in next_file state → IsRoll count all_in next_file after
  roll_stays count roll = record {
    way = roll.way;
    is_way = record {
      some = roll.is_way.some;
      within = roll.is_way.within;
      are_edits = roll.is_way.are_edits;
      meant_is = ap (λ (files : List File). (file_at roll.way.file files).meant) files_same ∙ roll.is_way.meant_is;
      firm_to = omega (arith, roll.is_way.firm_to, ap (λ (files : List File). (file_at roll.way.file files).firm) files_same);
      read_to = omega (arith, roll.is_way.read_to, ap (λ (files : List File). length (file_at roll.way.file files).read) files_same);
      not_cut = uncut roll.way.file roll.is_way.not_cut;
    };
    goes = record {
      current = roll.goes.current;
      named = later count Current ∙ roll.goes.named;
      says = subst (λ (files : List File). IsHeld (file_at roll.goes.current files) (current_of roll.way.manifest)) (sym files_same) roll.goes.says;
      not_cut = uncut roll.goes.current roll.goes.not_cut;
      manifest = later count (Manifest roll.way.manifest) ∙ roll.goes.manifest;
    };
    one = roll.one;
    root = root_stays roll.way.edits all_in next_file state after roll.root
        (firm_stay state after SyncDir (as_answer failed_) one step (λ n. tt) roll.root.version.tables roll.root.tables roll.root.firm)
        (λ count_ n file over other there. ap (λ (files : List File). (file_at file files).meant) files_same ∙ roll.root.others (k + count_) n file over other (sym (later count_ (Log n)) ∙ there));
  }

  rolls_after : (count current : ℕ) → file_behind count Current after ≡ Some current → bound ≤ current → IsRoll count all_in next_file after
  rolls_after count current there newer = roll_stays count (booting.rolls (k + count) current (sym (later count Current) ∙ there) newer)

  pub settled_boot : IsBooting bound old levels story next_file after
  settled_boot =
      subst (IsBooting bound old levels story next_file) (sym is)
      (kept_settled bound old levels story next_file k state one booting
      (subst AllRead is read)
      (λ found are. subst (λ (d : Disk). AllByRecursion (IsOldTable bound d) found) is (old_tables_stay bound SyncDir (as_answer failed_) state after one (λ n. tt) step found are))
      (subst (λ (d : Disk). (count current : ℕ) → file_behind count Current d ≡ Some current → bound ≤ current → IsRoll count all_in next_file d) is rolls_after))

module _ (s : State) (state after : Disk) (one : IsOneToOne state) (kept : BootKept s state) where
  -- where it failed, the boot is over, and CURRENT may be either
  pub last_failed : (job : Job) (fault : Fault) → DiskStep state SyncDir (as_answer (Some fault)) after → BootKept (act_failed (Rolls SyncDirectory) job (failure_of (Rolls SyncDirectory) fault) s) after
  last_failed job fault step =
      let leaves = sync_dir_leaves state after (Some fault) step in
      record {
        bound = kept.bound;
        booting = settled_boot kept.bound kept.old s.levels s.story s.numbers.next_file state after one kept.booting (Some fault) step leaves.0 leaves.1;
        old = kept.old;
        floor_within = kept.floor_within;
        numbered = kept.numbered;
        bare = kept.bare;
        facts = kept.facts;
        runs = tt;
        none_active = kept.none_active;
        waits = kept.waits;
        no_group = kept.no_group;
        no_flush = kept.no_flush;
      }
