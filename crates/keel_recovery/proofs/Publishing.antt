-- Publishing what is in limbo.
use Rattle.std.specs.Prelude.{nat_le}
use Rattle.std.proofs.Common.{◌≡◌, ℕ, ◌-◌, ◌≤◌, Bool, true, false, if◌then◌else◌, List, [], ◌∷◌, ◌++◌, length, take, Some, None, refl, sym, ap, subst, arith}
use Rattle.std.proofs.lemmas.Bool.{le-leb}
use Rattle.std.proofs.lemmas.List.{length-append}
use Rattle.keel_base.specs.Points.{fold_batches}
use Rattle.keel_base.specs.declared.file_name.FileName.TheVariants.{Log}
use Rattle.keel_base.specs.declared.op.Op.{Op}
use Rattle.keel_disk.specs.State.{State, file_at}
use Rattle.keel_disk.specs.Steady.{IsGoing}
use Rattle.keel_machine.specs.States.{Story, entries_in, published}
use Rattle.keel_recovery.specs.Calls.{PublishKeeps}
use Rattle.keel_recovery.specs.Chains.{Chained, payloads, HoldsBatches, IsWholeLog}
use Rattle.keel_recovery.specs.Roots.{BeginsAt, first_from}
use Rattle.keel_recovery.proofs.Following.{same_all, stored_published}
use Rattle.keel_recovery.proofs.Passing.{AllPass, chained_last, last_holds, same_file, whole_holds}
use Rattle.keel_recovery.proofs.Records.{records_read}
use Rattle.keel_recovery.proofs.Steering.{GoesOn, root_pass, live_pass, tables_same}

all_same : (logs : List Chained) (state : State) → AllPass logs state state
all_same [] state = tt
all_same (log ∷ logs) state = (λ file steady. (steady, refl), all_same logs state)

published_on : (sync : Bool) (story : Story) → GoesOn story (published sync story)
published_on sync story = record {
  points = λ place within. ap (λ (l : List (List Op)). fold_batches story.start (take place l)) (same_all sync story);
  longer = omega (arith, length-append story.log story.limbo);
}

-- a root that reads the last log begins where it did
begins_still : (least place : ℕ) (front : List Chained) (log : Chained) (story next : Story) → least ≤ log.number
    → BeginsAt place (first_from least (front ++ log ∷ [])) story → BeginsAt place (first_from least (front ++ log ∷ [])) next
begins_still least place [] log story next le h = subst (λ (b : Bool). BeginsAt place (if b then Some log else None) next) (sym (le-leb least log.number le)) (is log.before (subst (λ (b : Bool). BeginsAt place (if b then Some log else None) story) (le-leb least log.number le) h))
  where
    is : (before : ℕ) → place ≡ before → place ≡ before
    is before e = e
begins_still least place (first ∷ front) log story next le h = by (nat_le least first.number) h (begins_still least place front log story next le)
  where
    by : (b : Bool) → BeginsAt place (if b then Some first else first_from least (front ++ log ∷ [])) story
        → (BeginsAt place (first_from least (front ++ log ∷ [])) story → BeginsAt place (first_from least (front ++ log ∷ [])) next)
        → BeginsAt place (if b then Some first else first_from least (front ++ log ∷ [])) next
    by true h later = h
    by false h later = later h

pub publish_keeps : PublishKeeps
publish_keeps ways place next_file size sync front log levels story state h can reach firm =
    let next = published sync story in
    let all = length story.log in
    let holds = last_holds story.floor all front log state h.stored.chained in
    let on = published_on sync story in
    record {
      go = h.go;
      roots = λ way is count least most.
          let root = h.roots way is count least most in
          root_pass (take count way.edits) (front ++ log ∷ []) (front ++ log ∷ []) story next next_file next_file state state root (tables_same state root.version.tables) on (omega arith)
          (begins_still root.version.min_log root.place front log story next (reach way count root.version is least most root.is_version)) (λ others. others);
      live = live_pass place levels story next state state h.stored.place_within (tables_same state (entries_in levels)) on h.live;
      stored = stored_published place (front ++ log ∷ []) sync story state state h.stored
          (chained_last story.floor all next.floor (length next.log) front log log state state refl (all_same front state) can.whole (by sync firm holds) h.stored.chained);
      drawn = h.drawn;
      read = h.read;
    }
  where
    by : (sync : Bool) → (sync ≡ true → IsWholeLog log state) → HoldsBatches story.floor (length story.log) log state → HoldsBatches (published sync story).floor (length (published sync story).log) log state
    by true firm holds = whole_holds story.floor (length story.log) (published true story).floor (length (published true story).log) log state holds (firm refl)
    by false firm holds =
        let same : can.going.file ≡ holds.file = same_file (Log log.number) can.going.file holds.file state can.going.steady holds.steady in
        let going : IsGoing (file_at holds.file state.files) = subst (λ (n : ℕ). IsGoing (file_at n state.files)) same can.going.going in
        record {
          file = holds.file;
          steady = holds.steady;
          holds = records_read (story.floor - log.before) (length story.log - log.before) (length (story.log ++ story.limbo) - log.before) (payloads log) (file_at holds.file state.files) holds.holds going;
        }
