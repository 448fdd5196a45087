-- A new log, and the sync of the directory behind which it joins the others.
use Rattle.std.specs.List.{AllByRecursion}
use Rattle.std.proofs.Common.{◌≡◌, ℕ, ◌-◌, ◌<◌, ◌≤◌, Bool, true, false, if◌then◌else◌, List, [], ◌∷◌, ◌++◌, length, take, Option, Some, Ok, Err, refl, sym, ap, subst, ◌∙◌, arith, take_all}
use Rattle.std.specs.Prelude.{nat_le}
use Rattle.std.proofs.lemmas.Bool.{le-leb}
use Rattle.std.proofs.lemmas.List.{append-nil, get_or_push}
use Rattle.keel_base.specs.declared.file_name.FileName.TheVariants.{Log}
use Rattle.keel_batch.specs.Batches.{AreBatches}
use Rattle.keel_disk.specs.declared.change.Change.TheVariants.{SyncDir}
use Rattle.keel_disk.specs.declared.error.DiskError.TheVariants as error
use Rattle.keel_disk.specs.declared.state.File.{File}
use Rattle.keel_disk.specs.declared.state.Operation.TheVariants.{Link}
use Rattle.keel_disk.specs.Directory.{find}
use Rattle.keel_disk.specs.Sound.{IsOneToOne}
use Rattle.keel_disk.specs.State.{State, file_at, new_file, directory_read}
use Rattle.keel_disk.specs.Step.{done, created}
use Rattle.keel_disk.specs.Steady.{IsApart, IsGoing}
use Rattle.keel_disk.proofs.Directories.{find-linked}
use Rattle.keel_disk.proofs.Operating.{read-more, cut-append}
use Rattle.keel_disk.proofs.Steadily.{present_firm, Firm}
use Rattle.keel_frag.specs.Writing.{records_bytes}
use Rattle.keel_machine.specs.States.{Story}
use Rattle.keel_recovery.specs.Calls.{IsNewLog, CreateMakes, next_chained, AllReach, AllWhole, CanGrow, SyncDirKeeps}
use Rattle.keel_recovery.specs.Chains.{Chained, size_of_first, batches_of, HoldsRecords, HoldsBatches}
use Rattle.keel_directory.specs.TableFiles.{TableFile}
use Rattle.keel_recovery.specs.Keeping.{Keeps}
use Rattle.keel_recovery.specs.Roots.{Way, BeginsAt, first_from, point_at}
use Rattle.keel_recovery.proofs.Framing.{others_pass, frame_keeps, log_pass}
use Rattle.keel_recovery.proofs.Passing.{all_whole_pass, chained_push, front_below}
use Rattle.keel_recovery.proofs.Steering.{root_pass, same_story, tables_same}
use Rattle.keel_recovery.proofs.Following.{batches_push, follow_push, unchained_push, at_end}

pub create_makes : CreateMakes
create_makes number state after cuts step =
    let is : created (Log number) state ≡ after = cc in
    subst (IsNewLog number) is (record {
      file = length state.files;
      present = record {
        named = ap (find (Log number)) (read-more (Link (Log number) (length state.files)) state) ∙ find-linked (Log number) (length state.files) (directory_read state);
        not_cut = cut-append (length state.files) state.waiting (Link (Log number) (length state.files) ∷ []) (cuts (length state.files) (omega arith)) refl;
      };
      is_new = get_or_push state.files new_file new_file (length state.files) refl;
    })

no_records : (lasting shown : ℕ) → HoldsRecords lasting shown [] new_file
unfolding records_bytes
no_records lasting shown =
    let none : (count : ℕ) → size_of_first count [] ≡ 0 = λ count. ap (λ (l : List (List ℕ)). length (records_bytes 0 l)) (take_all count [] (omega arith)) in
    record { meant_is = refl; firm_to = omega (arith, none lasting); read_to = omega (arith, none shown) }

-- a log that stands behind others changes nothing of the first
first_push : (least : ℕ) (front : List Chained) (log next : Chained) → least ≤ log.number → first_from least ((front ++ log ∷ []) ++ next ∷ []) ≡ first_from least (front ++ log ∷ [])
first_push least [] log next le = rw (le-leb least log.number le) refl
first_push least (first ∷ front) log next le = by (nat_le least first.number) (first_push least front log next le)
  where
    by : (b : Bool) → first_from least ((front ++ log ∷ []) ++ next ∷ []) ≡ first_from least (front ++ log ∷ [])
        → (if b then Some first else first_from least ((front ++ log ∷ []) ++ next ∷ [])) ≡ (if b then Some first else first_from least (front ++ log ∷ []))
    by true later = refl
    by false later = later

module _ (ways : List Way) (place next_file number : ℕ) (front : List Chained) (log : Chained) (levels : List TableFile) (story : Story) (state after : State) (one : IsOneToOne state)
    (h : Keeps ways place (front ++ log ∷ []) levels story next_file state) (reach : AllReach ways log.number) (above : log.number < number)
    (new : IsNewLog number state) (whole : AllWhole (front ++ log ∷ []) state) (step : done SyncDir state ≡ Some after) where
  abbrev logs : List Chained
  logs = front ++ log ∷ []

  abbrev next : Chained
  next = next_chained number story

  all_apart : (logs : List Chained) → AllByRecursion (λ (log : Chained). IsApart (Log log.number) SyncDir) logs
  all_apart [] = tt
  all_apart (log ∷ logs) = (tt, all_apart logs)

  kept : Keeps ways place logs levels story next_file after
  kept = frame_keeps ways place next_file next_file logs levels story SyncDir (Ok tt) state after one h tt (all_apart logs) (log_pass ways levels SyncDir (Ok tt) state after one tt step) (omega arith) tt step

  firm : Firm (Log number) new.file state after
  firm = present_firm (Log number) new.file state after new.present step

  is_new : file_at new.file after.files ≡ new_file
  is_new = firm.file_same ∙ new.is_new

  new_holds : HoldsBatches story.floor (length story.log) next after
  new_holds = record {
    file = new.file;
    steady = firm.steady;
    holds = subst (HoldsRecords (story.floor - next.before) (length story.log - next.before) []) (sym is_new) (no_records (story.floor - next.before) (length story.log - next.before));
  }

  below_next : (logs : List Chained) → AllByRecursion (λ (earlier : Chained). earlier.number < log.number) logs → AllByRecursion (λ (earlier : Chained). earlier.number < number) (logs ++ log ∷ [])
  below_next [] below = (above, tt)
  below_next (l ∷ logs) below = (omega (arith, above, below.0), below_next logs below.1)

  pub joins : Keeps ways place (logs ++ next ∷ []) levels story next_file after × CanGrow logs next 0 after
  joins =
      let stored = kept.stored in
      let end = at_end place logs story after stored in
      let all : batches_of (logs ++ next ∷ []) ≡ batches_of logs = batches_push logs next ∙ append-nil (batches_of logs) in (
        record {
          go = kept.go;
          roots = λ way is count least most.
              let root = kept.roots way is count least most in
              let le = reach way count root.version is least most root.is_version in
              root_pass (take count way.edits) logs (logs ++ next ∷ []) story story next_file next_file after after root (tables_same after root.version.tables) (same_story story) (omega arith)
              (λ begins. subst (λ (o : Option Chained). BeginsAt root.place o story) (sym (first_push root.version.min_log front log next le)) begins)
              (λ others count n file low none found. others count n file low (unchained_push n logs next none) found);
          live = kept.live;
          stored = record {
            in_turn = follow_push place (point_at place story).seq logs next (sym end.0) (sym end.1) stored.in_turn;
            batches_are = stored.batches_are ∙ sym all;
            limits = subst (AreBatches (point_at place story).seq) (sym all) stored.limits;
            place_within = stored.place_within;
            floor_within = stored.floor_within;
            chained = chained_push story.floor (length story.log) logs next after (below_next front (front_below story.floor (length story.log) front log after stored.chained)) refl new_holds stored.chained;
          };
          drawn = kept.drawn;
          read = kept.read;
        },
        record {
          whole = all_whole_pass logs state after (others_pass logs SyncDir (Ok tt) state after one (all_apart logs) step) whole;
          going = record {
            file = new.file;
            steady = firm.steady;
            going = subst IsGoing (sym is_new) (record { not_spoilt = refl; read = refl });
            size_is = ap (λ (f : File). length f.meant) is_new;
          };
        },
      )

pub sync_dir_keeps : SyncDirKeeps
sync_dir_keeps ways place next_file number front log levels story (Ok value) state after one h reach above new whole step =
    joins ways place next_file number front log levels story state after one h reach above new whole step
sync_dir_keeps ways place next_file number front log levels story (Err (error.Fault fault)) state after one h reach above new whole step =
    frame_keeps ways place next_file next_file (front ++ log ∷ []) levels story SyncDir (Err (error.Fault fault)) state after one h tt (none_apart (front ++ log ∷ []))
    (log_pass ways levels SyncDir (Err (error.Fault fault)) state after one tt step) (omega arith) tt step
  where
    none_apart : (logs : List Chained) → AllByRecursion (λ (log : Chained). IsApart (Log log.number) SyncDir) logs
    none_apart [] = tt
    none_apart (log ∷ logs) = (tt, none_apart logs)
sync_dir_keeps ways place next_file number front log levels story (Err error.OutOfMemory) state after one h reach above new whole step = step
