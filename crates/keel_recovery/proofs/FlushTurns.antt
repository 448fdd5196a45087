-- Each call of a flush, answered Ok or failed, keeps what the store's logs hold.
use Rattle.std.specs.Prelude.{is_some}
use Rattle.std.specs.List.{flat_map}
use Rattle.std.proofs.Common.{◌≡◌, ◌⊎◌, inl, inr, ℕ, zero, suc, ◌+◌, ◌-◌, ◌≤◌, ◌<◌, ◌^◌, true, List, [], ◌∷◌, ◌++◌, length, map, drop, Option, Some, None, refl, sym, ap, subst, ◌∙◌, arith, append_assoc, length-append}
use Rattle.std.proofs.lemmas.List.{append-nil}
use Rattle.keel_base.specs.declared.failure.Failure.{Failure}
use Rattle.keel_base.specs.declared.failure.Fault.{Fault}
use Rattle.keel_base.specs.declared.file_name.FileName.TheVariants.{Table, Manifest}
use Rattle.keel_base.specs.declared.op.Op.{Op}
use Rattle.keel_disk.specs.declared.change.Change.{Change}
use Rattle.keel_disk.specs.declared.change.Change.TheVariants.{Create, Append, Sync, SyncDir}
use Rattle.keel_disk.specs.Sound.{IsOneToOne}
use Rattle.keel_disk.specs.State.{State as Disk}
use Rattle.keel_disk.specs.Step.{DiskStep}
use Rattle.keel_disk.specs.Steady.{CutsExist}
use Rattle.keel_directory.specs.TableFiles.{TableFile}
use Rattle.keel_draft.specs.Drafts.{bytes_in, pieces_in}
use Rattle.keel_edit.specs.declared.edit.Edit.{Edit}
use Rattle.keel_edit.specs.Spelling.{spelling}
use Rattle.keel_flush.specs.Plans.{Act, AddPiece, MakeTable, SyncTable, SyncName, AppendEdit, SyncManifest, Job, edit_acts, edit_of, left_of, moved, number_of, plan_of}
use Rattle.keel_frag.specs.Writing.{record_bytes}
use Rattle.keel_machine.specs.Flushing.{levels_with}
use Rattle.keel_machine.specs.States.{State, SegmentLog, Segment, Group}
use Rattle.keel_manifest.specs.declared.manifest.InUse.{InUse}
use Rattle.keel_manifest.specs.declared.manifest.Progress.TheVariants.{Firm, Appended}
use Rattle.keel_manifest.specs.State.{ManifestState, appended, edit_bytes, edits_of, length_of, name_of, number_of as manifest_number, synced}
use Rattle.keel_recovery.specs.Calls.{Answer, AllReach, AllWhole, CanGrow}
use Rattle.keel_recovery.specs.Chains.{Chained, batches_of}
use Rattle.keel_recovery.specs.FlushEdits.{FlushGives, IsInUse, IsOfNoManifest, all_firm, with_edit}
use Rattle.keel_recovery.specs.FlushFiles.{AreTablesBelow, IsBegun, IsFast, IsOfNoLog, IsWhole}
use Rattle.keel_recovery.specs.Flushes.{AtEdit, AtName, AtSync, FlushesBy, HasFlush, HasMade, HasTable, InTable, IsBeforeEdit, IsFlushing, IsReady, first_number}
use Rattle.keel_recovery.specs.Keeping.{HoldStory, Keeps}
use Rattle.keel_recovery.specs.Machine.{AreFull, HasLog, IsAt, WhileItGoes}
use Rattle.keel_recovery.specs.Waiting.{AreOnTheirWay}
use Rattle.keel_recovery.specs.Roots.{IsRoot, Way, point_at}
use Rattle.keel_recovery.proofs.BootTables.{pieces_joined}
use Rattle.keel_recovery.proofs.FlushEditing.{edit_append_keeps, edit_sync_keeps}
use Rattle.keel_recovery.proofs.FlushEnding.{flush_ends}
use Rattle.keel_recovery.proofs.FlushGiving.{edit_gives}
use Rattle.keel_recovery.proofs.FlushKept.{in_use_on}
use Rattle.keel_recovery.proofs.FlushPlaces.{seq_behind}
use Rattle.keel_recovery.proofs.FlushStays.{open_way_stays, table_stays}
use Rattle.keel_recovery.proofs.FlushSteps.{given_more, in_use_with, left_moved, number_is, order_on, reach_firm, reach_with, second_below}
use Rattle.keel_recovery.proofs.FlushTables.{table_append_keeps, table_create_keeps, table_name_keeps, table_sync_keeps, tables_are_below}
use Rattle.keel_recovery.proofs.Ordering.{went_well, went_wrong}

-- ---- logs without the first

split_first : (full : List Chained) (own first next : Chained) (rest : List Chained) → full ++ own ∷ [] ≡ first ∷ next ∷ rest → drop 1 full ++ own ∷ [] ≡ next ∷ rest
split_first [] own first next rest is = cc
split_first (one ∷ full) own first next rest is = let same : full ++ own ∷ [] ≡ next ∷ rest = cc in same

full_tail : (immutable : List Segment) (full : List Chained) → AreFull immutable full → AreFull (drop 1 immutable) (drop 1 full)
full_tail [] [] h = tt
full_tail [] (log ∷ full) h = absurd h
full_tail (segment ∷ immutable) [] h = absurd h
full_tail (segment ∷ immutable) (log ∷ full) h = h.2

whole_tail : (full : List Chained) (state : Disk) → AllWhole full state → AllWhole (drop 1 full) state
whole_tail [] state h = tt
whole_tail (log ∷ full) state h = h.1

batches_push : (full : List Chained) (own : Chained) → batches_of (full ++ own ∷ []) ≡ batches_of full ++ own.batches
batches_push [] own = append-nil own.batches
batches_push (log ∷ full) own = ap (λ (l : List (List Op)). log.batches ++ l) (batches_push full own) ∙ sym (append_assoc log.batches (batches_of full) own.batches)

-- those of the first full segment are among them
first_long : (full : List Chained) (own first next : Chained) (rest : List Chained) → full ++ own ∷ [] ≡ first ∷ next ∷ rest → length first.batches ≤ length (batches_of full)
first_long [] own first next rest is = cc
first_long (one ∷ full) own first next rest is =
    let same : one ≡ first = cc in
    omega (arith, length-append one.batches (batches_of full), ap (λ (l : Chained). length l.batches) same)

dropped : {A : Type 0} (n : ℕ) (xs : List A) → length (drop n xs) ≡ length xs - n
dropped zero xs = omega arith
dropped (suc n) [] = omega arith
dropped (suc n) (x ∷ xs) = omega (arith, dropped n xs)

-- where no flush runs one may begin, unless writes are stopped
goes_free : (later : Option Failure) (way : Way) (levels : List TableFile) (in_tables : ℕ) (logs : List Chained) (next : ℕ) (manifest : ManifestState) (state : Disk) → (later ≡ None → IsReady way manifest state) → FlushesBy None later way levels in_tables logs next manifest state
goes_free None way levels in_tables logs next manifest state ready = ready refl
goes_free (Some failure) way levels in_tables logs next manifest state ready = tt

-- once writes are stopped
not_severe : (later : Option Failure) → is_some later ≡ true → later ≡ None → ⊥
not_severe later severe none = let e = ap is_some (sym none) ∙ severe in cc

no_longer : {P : Type 0} (later : Option Failure) → is_some later ≡ true → later ≡ None → P
no_longer later severe none = absurd (not_severe later severe none)

-- the manifest in use as it is shown
name_is : (m : ManifestState) (used : InUse) → m.in_use ≡ Some used → name_of m ≡ Manifest used.number
name_is m used is = ap (λ (o : Option InUse). Manifest (manifest_number o)) is

bytes_are : (m : ManifestState) (used : InUse) (edit : List ℕ) → m.in_use ≡ Some used → edit_bytes m edit ≡ record_bytes (length_of (Some used)) edit
bytes_are m used edit is = ap (λ (o : Option InUse). record_bytes (length_of o) edit) is

module _ (s : State) (log : SegmentLog) (job : Job) (stops : Option Failure) (before after : Disk) (one : IsOneToOne before) (cuts : CutsExist before) (numbered : 1 ≤ s.numbers.next_file)
    (h : HasLog log before s.levels s.story s.segments.immutable s.segments.active.batches s.writing.waiting stops s.jobs.write.running s.numbers.next_file s.numbers.in_tables (Some job) s.numbers.manifest) where
  abbrev next : ℕ
  next = s.numbers.next_file

  abbrev manifest : ManifestState
  manifest = s.numbers.manifest

  abbrev in_tables : ℕ
  in_tables = s.numbers.in_tables

  abbrev logs : List Chained
  logs = h.full ++ h.own ∷ []

  abbrev f : IsFlushing h.way s.levels in_tables logs job next manifest before
  f = h.flushes.goes

  abbrev Behind : Option Failure → ℕ → Option Job → ManifestState → Type 0
  Behind later more flush shown =
      HasLog log after s.levels s.story s.segments.immutable s.segments.active.batches s.writing.waiting later s.jobs.write.running more in_tables flush shown

  -- what a call leaves, with its manifest and its flush
  behind : (change : Change) (answer : Answer) (of_log : IsOfNoLog change) (step : DiskStep before change answer after) (way : Way) (later : Option Failure) (more : ℕ) (flush : Option Job) (shown : ManifestState)
      → next ≤ more → (later ≡ None → stops ≡ None) → Keeps (way ∷ []) h.place logs s.levels s.story more after → AllReach (way ∷ []) h.own.number
      → HasFlush way s.levels in_tables logs later flush more shown after → Behind later more flush shown
  behind change answer of_log step way later more flush shown le less keeps reach flushes = record {
    way = way;
    place = h.place;
    full = h.full;
    are_full = h.are_full;
    own = h.own;
    number_is = h.number_is;
    batches_are = h.batches_are;
    keeps = keeps;
    reach = reach;
    tables_to = h.tables_to;
    flushes = flushes;
    order = order_on change answer before after one of_log step s.story h.full h.own log.size next more s.jobs.write.running s.writing.waiting stops later le less h.order;
  }

  -- the job goes on
  flushing : (way : Way) (more : ℕ) (act : Act) (shown : ManifestState)
      → (IsBeforeEdit way s.levels (moved next act job) more shown after ⊎ AtSync way s.levels (moved next act job) more shown after)
      → IsFlushing way s.levels in_tables logs (moved next act job) more shown after
  flushing way more act shown stage = record {
    first = f.first;
    next = f.next;
    rest = f.rest;
    logs_are = f.logs_are;
    draft = f.draft;
    some = f.some;
    min_log = f.min_log;
    few = f.few;
    stage = stage;
  }

  -- ---- before the edit

  -- its table has come so far, and the manifest is as it was
  before_edit : (change : Change) (answer : Answer) → IsOfNoManifest change → DiskStep before change answer after → IsReady h.way manifest before → (act : Act) (more : ℕ)
      → (number : ℕ) × HasTable h.way s.levels (moved next act job) more number × HasMade (moved next act job) number after → IsFlushing h.way s.levels in_tables logs (moved next act job) more manifest after
  before_edit change answer of step ready act more has =
      flushing h.way more act manifest (inl (record {
        ready = record { size = ready.size; opened = open_way_stays h.way ready.size change answer before after one of step ready.opened; firm = ready.firm; known = ready.known };
        stage = inr has;
      }))

  same_flush : (more : ℕ) → next ≤ more → more ≤ 2 ^ 56 → (flush : Option Job) (later : Option Failure) → FlushesBy flush later h.way s.levels in_tables logs more manifest after → HasFlush h.way s.levels in_tables logs later flush more manifest after
  same_flush more le most flush later goes = record {
    in_use = in_use_on h.way s.levels in_tables (first_number logs) (first_number logs) next more (omega arith) le h.flushes.in_use;
    most = most;
    goes = goes;
  }

  -- a call of its table that failed
  over_free : (change : Change) (fault : Fault) → IsOfNoManifest change → IsOfNoLog change → DiskStep before change (went_wrong fault) after → IsReady h.way manifest before → (later : Option Failure) (more : ℕ)
      → next ≤ more → more ≤ 2 ^ 56 → (later ≡ None → stops ≡ None) → Keeps (h.way ∷ []) h.place logs s.levels s.story more after → Behind later more None manifest
  over_free change fault of of_log step ready later more le most less keeps =
      behind change (went_wrong fault) of_log step h.way later more None manifest le less keeps h.reach
      (same_flush more le most None later (goes_free later h.way s.levels in_tables logs more manifest after
      (λ none. record { size = ready.size; opened = open_way_stays h.way ready.size change (went_wrong fault) before after one of step ready.opened; firm = ready.firm; known = ready.known })))

  -- ---- the table

  module _ (ready : IsReady h.way manifest before) (left : left_of job ≡ plan_of job.draft) (below_end : next < 2 ^ 56) where
    pub make_done : DiskStep before (Create (Table next)) went_well after → Behind stops (next + 1) (Some (moved next MakeTable job)) manifest
    make_done step =
        let made = table_create_keeps (h.way ∷ []) h.place next logs s.levels s.story went_well before after one cuts h.keeps step in
        behind (Create (Table next)) went_well tt step h.way stops (next + 1) (Some (moved next MakeTable job)) manifest (omega arith) (λ none. none) made.0 h.reach
        (same_flush (next + 1) (omega arith) (omega (arith, below_end)) (Some (moved next MakeTable job)) stops
        (before_edit (Create (Table next)) went_well tt step ready MakeTable (next + 1) (
          next,
          record { is = refl; least = numbered; drawn = omega arith; below = tables_are_below (h.way ∷ []) h.place next logs s.levels s.story before h.keeps },
          inl (record {
            given = [];
            todo = pieces_in job.draft;
            pieces_are = refl;
            left_is = left_moved next MakeTable (map AddPiece (pieces_in job.draft) ++ SyncTable ∷ edit_acts) job left;
            begun = made.1;
          }),
        )))

    pub make_failed : (fault : Fault) (later : Option Failure) → (later ≡ None → stops ≡ None) → DiskStep before (Create (Table next)) (went_wrong fault) after → Behind later (next + 1) None manifest
    make_failed fault later less step =
        over_free (Create (Table next)) fault tt tt step ready later (next + 1) (omega arith) (omega (arith, below_end)) less
        (table_create_keeps (h.way ∷ []) h.place next logs s.levels s.story (went_wrong fault) before after one cuts h.keeps step)

  module _ (ready : IsReady h.way manifest before) (number : ℕ) (has : HasTable h.way s.levels job next number) where
    has_still : (act : Act) → (moved next act job).progress.table ≡ job.progress.table → HasTable h.way s.levels (moved next act job) next number
    has_still act same = record { is = same ∙ has.is; least = has.least; drawn = has.drawn; below = has.below }

    goes_with : (change : Change) (act : Act) → IsOfNoManifest change → IsOfNoLog change → DiskStep before change went_well after → Keeps (h.way ∷ []) h.place logs s.levels s.story next after
        → HasTable h.way s.levels (moved next act job) next number → HasMade (moved next act job) number after → Behind stops next (Some (moved next act job)) manifest
    goes_with change act of of_log step keeps still made =
        behind change went_well of_log step h.way stops next (Some (moved next act job)) manifest (omega arith) (λ none. none) keeps h.reach
        (same_flush next (omega arith) h.flushes.most (Some (moved next act job)) stops (before_edit change went_well of step ready act next (number, still, made)))

    fails_with : (change : Change) (fault : Fault) (later : Option Failure) → IsOfNoManifest change → IsOfNoLog change → (later ≡ None → stops ≡ None) → DiskStep before change (went_wrong fault) after
        → Keeps (h.way ∷ []) h.place logs s.levels s.story next after → Behind later next None manifest
    fails_with change fault later of of_log less step keeps = over_free change fault of of_log step ready later next (omega arith) h.flushes.most less keeps

    module _ (in_ : InTable job number before) where
      abbrev given_bytes : List ℕ
      given_bytes = flat_map (λ (p : List ℕ). p) in_.given

      pub piece_done : (piece : List ℕ) (todo : List (List ℕ)) → in_.todo ≡ piece ∷ todo → DiskStep before (Append (Table number) piece) went_well after → Behind stops next (Some (moved next (AddPiece piece) job)) manifest
      piece_done piece todo is step =
          let kept = table_append_keeps (h.way ∷ []) h.place next number logs s.levels s.story given_bytes piece went_well before after one h.keeps has.below in_.begun step in
          goes_with (Append (Table number) piece) (AddPiece piece) tt tt step kept.0 (has_still (AddPiece piece) refl) (inl (record {
            given = in_.given ++ piece ∷ [];
            todo = todo;
            pieces_are = in_.pieces_are ∙ ap (λ (l : List (List ℕ)). in_.given ++ l) is ∙ sym (append_assoc in_.given (piece ∷ []) todo);
            left_is = left_moved next (AddPiece piece) (map AddPiece todo ++ SyncTable ∷ edit_acts) job (in_.left_is ∙ ap (λ (l : List (List ℕ)). map AddPiece l ++ SyncTable ∷ edit_acts) is);
            begun = subst (λ (l : List ℕ). IsBegun number l after) (sym (given_more in_.given piece)) kept.1;
          }))

      pub piece_failed : (piece : List ℕ) (fault : Fault) (later : Option Failure) → (later ≡ None → stops ≡ None) → DiskStep before (Append (Table number) piece) (went_wrong fault) after → Behind later next None manifest
      piece_failed piece fault later less step =
          fails_with (Append (Table number) piece) fault later tt tt less step
          (table_append_keeps (h.way ∷ []) h.place next number logs s.levels s.story given_bytes piece (went_wrong fault) before after one h.keeps has.below in_.begun step)

      pub sync_done : in_.todo ≡ [] → DiskStep before (Sync (Table number)) went_well after → Behind stops next (Some (moved next SyncTable job)) manifest
      sync_done none step =
          let kept = table_sync_keeps (h.way ∷ []) h.place next number logs s.levels s.story given_bytes went_well before after one h.keeps has.below in_.begun step in
          let all : in_.given ≡ pieces_in job.draft = sym (append-nil in_.given) ∙ ap (λ (l : List (List ℕ)). in_.given ++ l) (sym none) ∙ sym in_.pieces_are in
          let bytes : given_bytes ≡ bytes_in job.draft = ap (flat_map (λ (p : List ℕ). p)) all ∙ pieces_joined job.draft in
          goes_with (Sync (Table number)) SyncTable tt tt step kept.0 (has_still SyncTable refl) (inr (inl (record {
            left_is = left_moved next SyncTable edit_acts job (in_.left_is ∙ ap (λ (l : List (List ℕ)). map AddPiece l ++ SyncTable ∷ edit_acts) none);
            whole = subst (λ (l : List ℕ). IsWhole number l after) bytes kept.1;
          })))

      pub sync_failed : (fault : Fault) (later : Option Failure) → (later ≡ None → stops ≡ None) → DiskStep before (Sync (Table number)) (went_wrong fault) after → Behind later next None manifest
      sync_failed fault later less step =
          fails_with (Sync (Table number)) fault later tt tt less step
          (table_sync_keeps (h.way ∷ []) h.place next number logs s.levels s.story given_bytes (went_wrong fault) before after one h.keeps has.below in_.begun step)

    module _ (at : AtName job number before) where
      pub name_done : DiskStep before SyncDir went_well after → Behind stops next (Some (moved next SyncName job)) manifest
      name_done step =
          let kept = table_name_keeps (h.way ∷ []) h.place next number logs s.levels s.story (bytes_in job.draft) went_well before after one h.keeps at.whole step in
          goes_with SyncDir SyncName tt tt step kept.0 (has_still SyncName refl) (inr (inr (record {
            left_is = left_moved next SyncName (AppendEdit ∷ SyncManifest ∷ []) job at.left_is;
            fast = kept.1;
          })))

      pub name_failed : (fault : Fault) (later : Option Failure) → (later ≡ None → stops ≡ None) → DiskStep before SyncDir (went_wrong fault) after → Behind later next None manifest
      name_failed fault later less step =
          fails_with SyncDir fault later tt tt less step
          (table_name_keeps (h.way ∷ []) h.place next number logs s.levels s.story (bytes_in job.draft) (went_wrong fault) before after one h.keeps at.whole step)

    -- ---- the edit

    module _ (at : AtEdit job number before) where
      abbrev edit : Edit
      edit = edit_of job next

      abbrev size : ℕ
      size = ready.size

      abbrev record_of : List ℕ
      record_of = record_bytes size (spelling edit)

      its : number_of job ≡ number
      its = number_is job number has.is

      published : h.place + length f.first.batches ≤ length s.story.log
      published =
          let all = ap length h.keeps.stored.batches_are in
          let own = ap length h.batches_are in
          omega (
            arith,
            all,
            own,
            h.keeps.stored.place_within,
            dropped h.place (s.story.log ++ s.story.limbo),
            length-append s.story.log s.story.limbo,
            ap length (batches_push h.full h.own),
            length-append (batches_of h.full) h.own.batches,
            length-append s.segments.active.batches s.story.limbo,
            first_long h.full h.own f.first f.next f.rest f.logs_are,
          )

      gives : FlushGives h.way in_tables next f.first f.next f.rest s.levels s.story job before
      gives = edit_gives h.way h.place in_tables next f.first f.next f.rest s.levels s.story job before (record {
        keeps = subst (λ (l : List Chained). Keeps (h.way ∷ []) h.place l s.levels s.story next before) f.logs_are h.keeps;
        in_use = subst (λ (l : List Chained). IsInUse h.way s.levels in_tables (first_number l) next) f.logs_are h.flushes.in_use;
        all_firm = ready.firm;
        to = h.tables_to;
        draft = f.draft;
        some = f.some;
        published = published;
        min_log = f.min_log;
        table = subst (λ (n : ℕ). IsFast n (bytes_in job.draft) before) (sym its) at.fast;
        below = subst (AreTablesBelow (h.way ∷ []) s.levels) (sym its) has.below;
        drawn = subst (λ (n : ℕ). 1 ≤ n) (sym its) has.least;
        few = f.few;
        most = h.flushes.most;
        numbered = subst (λ (n : ℕ). n < next) (sym its) has.drawn;
      })

      root : IsRoot (h.way.edits ++ edit ∷ []) logs s.story next before
      root = subst (λ (l : List Chained). IsRoot (h.way.edits ++ edit ∷ []) l s.story next before) (sym f.logs_are) gives.root

      firm_within : h.way.firm ≤ length h.way.edits
      firm_within = omega (arith, ready.firm)

      in_use_still : IsInUse (with_edit edit h.way) s.levels in_tables (first_number logs) next
      in_use_still = in_use_with h.way edit s.levels in_tables (first_number logs) next firm_within h.flushes.in_use

      next_below : f.next.number ≤ h.own.number
      next_below = second_below s.story.floor (length s.story.log) f.first f.next f.rest h.full h.own before f.logs_are h.keeps.stored.chained

      reach_still : AllReach (with_edit edit h.way ∷ []) h.own.number
      reach_still = reach_with h.way edit (levels_with job s.levels) job.draft.last f.next.number next h.own.number h.reach gives.in_use next_below

      change_is : Append (name_of manifest) (edit_bytes manifest (spelling edit)) ≡ Append (Manifest h.way.manifest) record_of
      change_is = λ i. Append (name_is manifest _ ready.known.in_use i) (bytes_are manifest _ (spelling edit) ready.known.in_use i)

      pub append_done : DiskStep before (Append (name_of manifest) (edit_bytes manifest (spelling edit))) went_well after → Behind stops next (Some (moved next AppendEdit job)) (appended (spelling edit) manifest)
      append_done step =
          let there = subst (λ (c : Change). DiskStep before c went_well after) change_is step in
          let kept = edit_append_keeps h.way h.place next size logs s.levels s.story edit went_well before after one h.keeps ready.opened gives.is_edit root there in
          let job_after = moved next AppendEdit job in
          behind (Append (Manifest h.way.manifest) record_of) went_well tt there (with_edit edit h.way) stops next (Some job_after) (appended (spelling edit) manifest) (omega arith) (λ none. none) kept.0 reach_still (record {
            in_use = in_use_still;
            most = h.flushes.most;
            goes = flushing (with_edit edit h.way) next AppendEdit (appended (spelling edit) manifest) (inr (record {
              left_is = left_moved next AppendEdit (SyncManifest ∷ []) job at.left_is;
              number = number;
              table = has.is;
              drawn = has.drawn;
              fast = table_stays.fast number (bytes_in job.draft) (Append (Manifest h.way.manifest) record_of) went_well before after one tt there at.fast;
              edit = edit;
              between = record {
                own = h.way;
                way_is = refl;
                firm = ready.firm;
                size = size + length record_of;
                opened = kept.1;
                known = record {
                  edits = ready.known.edits + 1;
                  in_use = ap (λ (o : Option InUse). Some (record { number = manifest_number o; edits = edits_of o + 1; progress = Appended (length_of o + length (record_bytes (length_of o) (spelling edit))) })) ready.known.in_use;
                };
              };
              gives = in_use_on (all_firm (with_edit edit h.way)) (levels_with job s.levels) job.draft.last f.next.number job.min_log next next (omega (arith, f.min_log)) (omega arith) gives.in_use;
            }));
          })

      pub append_failed : (fault : Fault) (later : Option Failure) → is_some later ≡ true → DiskStep before (Append (name_of manifest) (edit_bytes manifest (spelling edit))) (went_wrong fault) after
          → (shown : ManifestState) → Behind later next None shown
      append_failed fault later severe step shown =
          let there = subst (λ (c : Change). DiskStep before c (went_wrong fault) after) change_is step in
          let kept = edit_append_keeps h.way h.place next size logs s.levels s.story edit (went_wrong fault) before after one h.keeps ready.opened gives.is_edit root there in
          behind (Append (Manifest h.way.manifest) record_of) (went_wrong fault) tt there (with_edit edit h.way) later next None shown (omega arith) (no_longer later severe) kept reach_still (record {
            in_use = in_use_still;
            most = h.flushes.most;
            goes = goes_free later (with_edit edit h.way) s.levels in_tables logs next shown after (λ none. absurd (not_severe later severe none));
          })

  -- ---- its end

  module _ (at : AtSync h.way s.levels job next manifest before) where
    abbrev full_behind : List Chained
    full_behind = drop 1 h.full

    abbrev logs_behind : List Chained
    logs_behind = full_behind ++ h.own ∷ []

    its_number : number_of job ≡ at.number
    its_number = number_is job at.number at.table

    within_edits : h.way.firm ≤ length h.way.edits
    within_edits =
        subst (λ (w : Way). w.firm ≤ length w.edits) (sym at.between.way_is) (omega (arith, at.between.firm, length-append at.between.own.edits (at.edit ∷ [])))

    sync_is : Sync (name_of manifest) ≡ Sync (Manifest h.way.manifest)
    sync_is = ap Sync (name_is manifest _ at.between.known.in_use)

    tail_is : logs_behind ≡ f.next ∷ f.rest
    tail_is = split_first h.full h.own f.first f.next f.rest f.logs_are

    all_published : h.place + length f.first.batches ≤ length s.story.log
    all_published =
        omega (
          arith,
          ap length h.keeps.stored.batches_are,
          ap length h.batches_are,
          h.keeps.stored.place_within,
          dropped h.place (s.story.log ++ s.story.limbo),
          length-append s.story.log s.story.limbo,
          ap length (batches_push h.full h.own),
          length-append (batches_of h.full) h.own.batches,
          length-append s.segments.active.batches s.story.limbo,
          first_long h.full h.own f.first f.next f.rest f.logs_are,
        )

    pub end_failed : (fault : Fault) (later : Option Failure) → is_some later ≡ true → DiskStep before (Sync (name_of manifest)) (went_wrong fault) after → (shown : ManifestState) → Behind later next None shown
    end_failed fault later severe step shown =
        let there = subst (λ (c : Change). DiskStep before c (went_wrong fault) after) sync_is step in
        let kept = edit_sync_keeps h.way h.place next at.between.size logs s.levels s.story (went_wrong fault) before after one h.keeps at.between.opened there in
        behind (Sync (Manifest h.way.manifest)) (went_wrong fault) tt there h.way later next None shown (omega arith) (no_longer later severe) kept h.reach (record {
          in_use = h.flushes.in_use;
          most = h.flushes.most;
          goes = goes_free later h.way s.levels in_tables logs next shown after (λ none. absurd (not_severe later severe none));
        })

    pub end_done : DiskStep before (Sync (name_of manifest)) went_well after
        → HasLog log after (levels_with job s.levels) s.story (drop 1 s.segments.immutable) s.segments.active.batches s.writing.waiting stops s.jobs.write.running next job.draft.last None (synced manifest)
    end_done step =
        let there = subst (λ (c : Change). DiskStep before c went_well after) sync_is step in
        let change = Sync (Manifest h.way.manifest) in
        let kept = edit_sync_keeps h.way h.place next at.between.size logs s.levels s.story went_well before after one h.keeps at.between.opened there in
        let now : IsInUse (all_firm h.way) (levels_with job s.levels) job.draft.last f.next.number next = in_use_on (all_firm h.way) (levels_with job s.levels) job.draft.last job.min_log f.next.number next next (omega (arith, f.min_log)) (omega arith) at.gives in
        let fast = subst (λ (n : ℕ). IsFast n (bytes_in job.draft) after) (sym its_number) (table_stays.fast at.number (bytes_in job.draft) change went_well before after one tt there at.fast) in
        let whole : Keeps (all_firm h.way ∷ []) h.place (f.first ∷ f.next ∷ f.rest) s.levels s.story next after = subst (λ (l : List Chained). Keeps (all_firm h.way ∷ []) h.place l s.levels s.story next after) f.logs_are kept.0 in
        let ended = flush_ends (all_firm h.way) h.place in_tables next f.first f.next f.rest s.levels s.story job after whole refl now h.tables_to f.draft f.some all_published fast (subst (λ (n : ℕ). n < next) (sym its_number) at.drawn) in
        let ordered = order_on change went_well before after one tt there s.story h.full h.own log.size next next s.jobs.write.running s.writing.waiting stops stops (omega arith) (λ none. none) h.order in
        record {
          way = all_firm h.way;
          place = h.place + length f.first.batches;
          full = full_behind;
          are_full = full_tail s.segments.immutable h.full h.are_full;
          own = h.own;
          number_is = h.number_is;
          batches_are = h.batches_are;
          keeps = subst (λ (l : List Chained). Keeps (all_firm h.way ∷ []) (h.place + length f.first.batches) l (levels_with job s.levels) s.story next after) (sym tail_is) ended;
          reach = reach_firm h.way h.own.number within_edits h.reach;
          tables_to = tables_behind;
          flushes = record {
            in_use = subst (λ (l : List Chained). IsInUse (all_firm h.way) (levels_with job s.levels) job.draft.last (first_number l) next) (sym tail_is) now;
            most = h.flushes.most;
            goes = goes_free stops (all_firm h.way) (levels_with job s.levels) job.draft.last logs_behind next (synced manifest) after (λ none. record {
              size = at.between.size;
              opened = kept.1;
              firm = refl;
              known = record {
                edits = at.between.known.edits;
                in_use = ap (λ (o : Option InUse). Some (record { number = manifest_number o; edits = edits_of o; progress = Firm (length_of o) })) at.between.known.in_use;
              };
            });
          };
          order = fewer s.jobs.write.running stops ordered;
        }
      where
        tables_behind : (point_at (h.place + length f.first.batches) s.story).seq ≡ job.draft.last
        tables_behind =
            let held = subst (λ (l : List Chained). HoldStory h.place l s.story before) f.logs_are h.keeps.stored in
            omega (arith, seq_behind h.place f.first (f.next ∷ f.rest) s.story before held, h.tables_to, f.draft.last)

        fewer : (running : Option Group) (stops_then : Option Failure)
            → WhileItGoes running stops_then (CanGrow h.full h.own log.size after × IsAt after s.story next h.own running × AreOnTheirWay s.story running s.writing.waiting)
            → WhileItGoes running stops_then (CanGrow full_behind h.own log.size after × IsAt after s.story next h.own running × AreOnTheirWay s.story running s.writing.waiting)
        fewer (Some group) stops_then o = (record { whole = whole_tail h.full after o.0.whole; going = o.0.going }, o.1, o.2)
        fewer None None o = (record { whole = whole_tail h.full after o.0.whole; going = o.0.going }, o.1, o.2)
        fewer None (Some failure) o = tt
