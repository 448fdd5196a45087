-- Calls on the last log.
use Rattle.std.specs.List.{AllByRecursion}
use Rattle.std.proofs.Common.{◌≡◌, ℕ, ◌+◌, ◌-◌, ◌<◌, ◌≤◌, false, List, [], ◌∷◌, ◌++◌, length, take, Some, Ok, Err, refl, sym, ap, subst, ◌∙◌, arith, eqb}
use Rattle.std.proofs.lemmas.List.{length-append}
use Rattle.keel_base.specs.declared.file_name.FileName.TheVariants.{Log}
use Rattle.keel_base.specs.declared.op.Op.{Op}
use Rattle.keel_batch.specs.Batches.{payloads_behind, AreBatches}
use Rattle.keel_disk.specs.declared.change.Change.{Change}
use Rattle.keel_disk.specs.declared.change.Change.TheVariants.{Append, Sync}
use Rattle.keel_disk.specs.declared.error.DiskError.TheVariants as error
use Rattle.keel_disk.specs.declared.state.File.{File}
use Rattle.keel_disk.specs.Sound.{IsOneToOne}
use Rattle.keel_disk.specs.State.{State, file_of, file_at}
use Rattle.keel_disk.specs.Step.{DiskStep, extended, spoiled, synced, with_file}
use Rattle.keel_disk.specs.Steady.{IsApart, IsSteady, IsGoing, IsFirmWhole, SparesSpoilt}
use Rattle.keel_disk.proofs.Meaning.{all_read_stays}
use Rattle.keel_disk.proofs.Steadily.{steady_read, AppendLeaves, append_leaves, SyncLeaves, sync_leaves, steady_present, steady_changed, file_changed}
use Rattle.keel_directory.specs.TableFiles.{TableFile}
use Rattle.keel_frag.specs.Writing.{records_bytes}
use Rattle.keel_machine.specs.States.{Story, entries_in, handed}
use Rattle.keel_recovery.specs.Calls.{Answer, ByAnswer, point_handed, CanGrow, grown, LogAppendKeeps, LogSyncKeeps}
use Rattle.keel_recovery.specs.Chains.{Chained, payloads, HoldsRecords, HoldsBatches, IsWholeLog, IsGoingLog, AreChained}
use Rattle.keel_recovery.specs.Keeping.{HoldStory, Keeps}
use Rattle.keel_recovery.specs.Roots.{Way}
use Rattle.keel_recovery.proofs.Following.{last_ends, stored_handed}
use Rattle.keel_recovery.proofs.Framing.{others_pass}
use Rattle.keel_recovery.proofs.LastLog.{others_set, begins_changed, handed_on}
use Rattle.keel_recovery.proofs.Passing.{AllPass, all_whole_pass, chained_last, last_holds, front_below, less_differs, differs_back, same_file}
use Rattle.keel_recovery.proofs.Records.{records_spoiled, records_grown, going_grown, records_synced, synced_whole}
use Rattle.keel_recovery.proofs.Steering.{GoesOn, IsOfLog, PutsAside, append_aside, sync_aside, go_stays, log_no_manifest, tables_pass, root_pass, live_pass, same_story}

-- ---- the file of the last log is changed

module _ (ways : List Way) (place next_file size : ℕ) (front : List Chained) (log : Chained) (levels : List TableFile) (story : Story) (state : State) (one : IsOneToOne state)
    (h : Keeps ways place (front ++ log ∷ []) levels story next_file state) (can : CanGrow front log size state) where
  abbrev file : ℕ
  file = can.going.file

  abbrev own : File
  own = file_at file state.files

  own_holds : HoldsRecords (story.floor - log.before) (length story.log - log.before) (payloads log) own
  own_holds =
      let holds = last_holds story.floor (length story.log) front log state h.stored.chained in
      let same : holds.file ≡ file = same_file (Log log.number) holds.file file state holds.steady can.going.steady in
      subst (λ (n : ℕ). HoldsRecords (story.floor - log.before) (length story.log - log.before) (payloads log) (file_at n state.files)) same holds.holds

  -- no call on it failed
  own_sound : (number : ℕ) → file_of (Log log.number) state ≡ Some number → (file_at number state.files).spoilt ≡ false
  own_sound number named =
      let found = steady_read (Log log.number) file state can.going.steady in
      let same : file ≡ number = let e = sym found ∙ named in cc in
      subst (λ (n : ℕ). (file_at n state.files).spoilt ≡ false) same can.going.going.not_spoilt

  -- behind a call on the last log's file all before it is as it was
  front_pass : (change : Change) (answer : Answer) (after : State) → DiskStep state change answer after → ((number : ℕ) → eqb log.number number ≡ false → IsApart (Log number) change) → AllPass front state after
  front_pass change answer after step apart = others_pass front change answer state after one (of_front front (front_below story.floor (length story.log) front log state h.stored.chained)) step
    where
      of_front : (logs : List Chained) → AllByRecursion (λ (earlier : Chained). earlier.number < log.number) logs → AllByRecursion (λ (earlier : Chained). IsApart (Log earlier.number) change) logs
      of_front [] below = tt
      of_front (first ∷ logs) below = (apart first.number (differs_back first.number log.number (less_differs first.number log.number below.0)), of_front logs below.1)

  -- the last log with other batches, and its changed file
  module _ (next : Chained) (after_story : Story) (change : Change) (set : File → File) (answer : Answer) (same : next.number ≡ log.number) (before : next.before ≡ log.before)
      (on : GoesOn story after_story) (log_same : after_story.log ≡ story.log)
      (step : DiskStep state change answer (with_file file set state)) (of_log : IsOfLog change) (aside : PutsAside change state) (passes : AllPass front state (with_file file set state)) where
    chained_set : HoldsRecords (story.floor - next.before) (length story.log - next.before) (payloads next) (set own) → AreChained story.floor (length story.log) (front ++ next ∷ []) (with_file file set state)
    chained_set holds =
        let here : HoldsBatches story.floor (length story.log) next (with_file file set state) = record {
          file = file;
          steady = subst (λ (n : ℕ). IsSteady (Log n) file (with_file file set state)) (sym same) (steady_changed (Log log.number) file set state can.going.steady);
          holds = subst (HoldsRecords (story.floor - next.before) (length story.log - next.before) (payloads next)) (sym (file_changed (Log log.number) file set state one can.going.steady)) holds;
        } in
        chained_last story.floor (length story.log) story.floor (length story.log) front log next state (with_file file set state) same passes can.whole here h.stored.chained

    keeps_set : HoldStory place (front ++ next ∷ []) after_story (with_file file set state) → SparesSpoilt change state → Keeps ways place (front ++ next ∷ []) levels after_story next_file (with_file file set state)
    keeps_set stored spares =
        let after = with_file file set state in
        let tables = tables_pass change answer state after of_log one step in
        record {
          go = go_stays ways change answer state after (log_no_manifest change of_log) aside h.go step;
          roots = λ way is count least most.
              let root = h.roots way is count least most in
              root_pass (take count way.edits) (front ++ log ∷ []) (front ++ next ∷ []) story after_story next_file next_file state after root (tables root.version.tables) on (omega arith)
              (begins_changed root.version.min_log root.place front log next story after_story same before log_same)
              (others_set root.version.min_log file front log next set state same one can.going.steady);
          live = live_pass place levels story after_story state after h.stored.place_within (tables (entries_in levels)) on h.live;
          stored = stored;
          drawn = λ count number name found. h.drawn count number name found;
          read = all_read_stays change answer state after one spares h.read step;
        }

    going_set : (long : ℕ) → IsGoing (set own) → length (set own).meant ≡ long → IsGoingLog next long (with_file file set state)
    going_set long going size_is =
        let set_file = file_changed (Log log.number) file set state one can.going.steady in
        record {
          file = file;
          steady = subst (λ (n : ℕ). IsSteady (Log n) file (with_file file set state)) (sym same) (steady_changed (Log log.number) file set state can.going.steady);
          going = subst IsGoing (sym set_file) going;
          size_is = ap (λ (f : File). length f.meant) set_file ∙ size_is;
        }

  -- ---- an append

  module _ (batches : List (List Op)) (bytes : List ℕ) (limits : AreBatches (point_handed story).seq batches) (bytes_are : bytes ≡ records_bytes size (payloads_behind (point_handed story).seq batches)) where
    abbrev longer : List Chained
    longer = front ++ grown batches log ∷ []

    appended : (kept : ℕ) → HoldsRecords (story.floor - log.before) (length story.log - log.before) (payloads (grown batches log)) (extended bytes kept own)
    appended kept =
        let last = last_ends place front log story state h.stored in
        let within : length story.log - log.before ≤ length log.batches = omega (arith, last.ends, length-append story.log story.limbo) in
        records_grown (story.floor - log.before) (length story.log - log.before) size kept log.last log.batches batches bytes own
        (omega (arith, within, h.stored.floor_within)) within own_holds can.going.going can.going.size_is
        (bytes_are ∙ ap (λ (n : ℕ). records_bytes size (payloads_behind n batches)) (sym last.seq))

    append_set : (set : File → File) (answer : Answer) → DiskStep state (Append (Log log.number) bytes) answer (with_file file set state)
        → HoldsRecords (story.floor - log.before) (length story.log - log.before) (payloads (grown batches log)) (set own)
        → Keeps ways place longer levels (handed batches story) next_file (with_file file set state)
    append_set set answer step holds =
        let after = with_file file set state in
        let change = Append (Log log.number) bytes in
        let passes = front_pass change answer after step (λ number differs. differs) in
        let aside = append_aside log.number file bytes state one can.going.steady in
        let chained = chained_set (grown batches log) (handed batches story) change set answer refl refl (handed_on batches story) refl step tt aside passes holds in
        keeps_set (grown batches log) (handed batches story) change set answer refl refl (handed_on batches story) refl step tt aside passes
        (stored_handed place front log story batches state after h.stored limits chained) own_sound

    pub append_keeps : (answer : Answer) (after : State) → DiskStep state (Append (Log log.number) bytes) answer after
        → ByAnswer answer
        (Keeps ways place longer levels (handed batches story) next_file after × CanGrow front (grown batches log) (size + length bytes) after)
        (Keeps ways place longer levels (handed batches story) next_file after) (after ≡ state)
    append_keeps answer after step = by answer step (append_leaves (Log log.number) file bytes answer state after (steady_present (Log log.number) file state can.going.steady) step)
      where
        by : (a : Answer) → DiskStep state (Append (Log log.number) bytes) a after → AppendLeaves file bytes state a after
            → ByAnswer a
            (Keeps ways place longer levels (handed batches story) next_file after × CanGrow front (grown batches log) (size + length bytes) after)
            (Keeps ways place longer levels (handed batches story) next_file after) (after ≡ state)
        by (Ok value) s is =
            let change = Append (Log log.number) bytes in
            let set = extended bytes (length bytes) in
            let there = with_file file set state in
            let s_there : DiskStep state change (Ok value) there = subst (DiskStep state change (Ok value)) is s in
            let kept = append_set set (Ok value) s_there (appended (length bytes)) in
            let passes = front_pass change (Ok value) there s_there (λ number differs. differs) in
            let grows : CanGrow front (grown batches log) (size + length bytes) there = record {
              whole = all_whole_pass front state there passes can.whole;
              going = going_set (grown batches log) (handed batches story) change set (Ok value) refl refl (handed_on batches story) refl s_there tt (append_aside log.number file bytes state one can.going.steady) passes
                  (size + length bytes) (going_grown bytes own can.going.going) (omega (arith, length-append own.meant bytes, can.going.size_is));
            } in
            subst (λ (s : State). Keeps ways place longer levels (handed batches story) next_file s × CanGrow front (grown batches log) (size + length bytes) s) (sym is) (kept, grows)
        by (Err (error.Fault fault)) s left =
            let set : File → File = λ f. spoiled (extended bytes left.0 f) in
            let s_there = subst (DiskStep {T = Unit {0}} state (Append (Log log.number) bytes) (Err (error.Fault fault))) left.1 s in
            subst (Keeps ways place longer levels (handed batches story) next_file) (sym left.1)
            (append_set set (Err (error.Fault fault)) s_there
            (records_spoiled (story.floor - log.before) (length story.log - log.before) (payloads (grown batches log)) (extended bytes left.0 own) (appended left.0)))
        by (Err error.OutOfMemory) s is = is

  -- ---- a sync

  stored_set : (after : State) → AreChained story.floor (length story.log) (front ++ log ∷ []) after → HoldStory place (front ++ log ∷ []) story after
  stored_set after chained = record {
    in_turn = h.stored.in_turn;
    batches_are = h.stored.batches_are;
    limits = h.stored.limits;
    place_within = h.stored.place_within;
    floor_within = h.stored.floor_within;
    chained = chained;
  }

  sync_set : (set : File → File) (answer : Answer) → DiskStep state (Sync (Log log.number)) answer (with_file file set state)
      → HoldsRecords (story.floor - log.before) (length story.log - log.before) (payloads log) (set own) → Keeps ways place (front ++ log ∷ []) levels story next_file (with_file file set state)
  sync_set set answer step holds =
      let after = with_file file set state in
      let change = Sync (Log log.number) in
      let passes = front_pass change answer after step (λ number differs. differs) in
      let aside = sync_aside log.number file state one can.going.steady in
      keeps_set log story change set answer refl refl (same_story story) refl step tt aside passes
      (stored_set after (chained_set log story change set answer refl refl (same_story story) refl step tt aside passes holds)) tt

  pub sync_keeps : (answer : Answer) (after : State) → DiskStep state (Sync (Log log.number)) answer after
      → ByAnswer answer
      (Keeps ways place (front ++ log ∷ []) levels story next_file after × CanGrow front log size after × IsWholeLog log after)
      (Keeps ways place (front ++ log ∷ []) levels story next_file after) (after ≡ state)
  sync_keeps answer after step = by answer step (sync_leaves (Log log.number) file answer state after (steady_present (Log log.number) file state can.going.steady) step)
    where
      by : (a : Answer) → DiskStep state (Sync (Log log.number)) a after → SyncLeaves file state a after
          → ByAnswer a
          (Keeps ways place (front ++ log ∷ []) levels story next_file after × CanGrow front log size after × IsWholeLog log after)
          (Keeps ways place (front ++ log ∷ []) levels story next_file after) (after ≡ state)
      by (Ok value) s is =
          let change = Sync (Log log.number) in
          let there = with_file file synced state in
          let s_there = subst (DiskStep state change (Ok value)) is s in
          let firm = records_synced (story.floor - log.before) (length story.log - log.before) (story.floor - log.before) (length story.log - log.before) (payloads log) own own_holds can.going.going in
          let passes = front_pass change (Ok value) there s_there (λ number differs. differs) in
          let going = going_set log story change synced (Ok value) refl refl (same_story story) refl s_there tt (sync_aside log.number file state one can.going.steady) passes size firm.1 (firm.2 ∙ can.going.size_is) in
          let grows : CanGrow front log size there = record { whole = all_whole_pass front state there passes can.whole; going = going } in
          let whole : IsWholeLog log there = record {
            file = file;
            steady = steady_changed (Log log.number) file synced state can.going.steady;
            firm = subst IsFirmWhole (sym (file_changed (Log log.number) file synced state one can.going.steady)) (synced_whole own can.going.going);
          } in
          subst (λ (s : State). Keeps ways place (front ++ log ∷ []) levels story next_file s × CanGrow front log size s × IsWholeLog log s) (sym is) (sync_set synced (Ok value) s_there firm.0, grows, whole)
      by (Err (error.Fault fault)) s is =
          let s_there = subst (DiskStep {T = Unit {0}} state (Sync (Log log.number)) (Err (error.Fault fault))) is s in
          subst (Keeps ways place (front ++ log ∷ []) levels story next_file) (sym is)
          (sync_set spoiled (Err (error.Fault fault)) s_there (records_spoiled (story.floor - log.before) (length story.log - log.before) (payloads log) own own_holds))
      by (Err error.OutOfMemory) s is = is

pub log_append_keeps : LogAppendKeeps
log_append_keeps ways place next_file size front log batches bytes levels story answer state after one h can limits bytes_are step =
    append_keeps ways place next_file size front log levels story state one h can batches bytes limits bytes_are answer after step

pub log_sync_keeps : LogSyncKeeps
log_sync_keeps ways place next_file size front log levels story answer state after one h can step = sync_keeps ways place next_file size front log levels story state one h can answer after step
