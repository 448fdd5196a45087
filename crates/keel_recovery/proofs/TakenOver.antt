-- A resume takes over a store that writes: it keeps the device as it is, and has a table before it for each segment.
use Rattle.std.proofs.Common.{◌≡◌, ℕ, zero, suc, ◌+◌, ◌≤◌, true, false, if◌then◌else◌, List, [], ◌∷◌, ◌++◌, length, take, drop, Option, Some, None, Result, Ok, Err, refl, sym, ap, subst, ◌∙◌, arith, append_assoc, append-nil, take-append-drop}
use Rattle.std.specs.List.{AllByRecursion, flat_map}
use Rattle.std.proofs.lemmas.List.{map-append, take-append-le, drop-append-le}
use Rattle.keel_base.specs.declared.file_name.FileName.TheVariants.{Table}
use Rattle.keel_base.specs.declared.limits.TheConstants.{LAST_NUMBER}
use Rattle.keel_base.specs.declared.op.Op.{Op}
use Rattle.keel_base.specs.declared.row.Row.{Row}
use Rattle.keel_base.specs.Points.{Point, fold_batches}
use Rattle.keel_base.specs.Rows.{IsMapOf}
use Rattle.keel_batch.specs.Batches.{AreBatches}
use Rattle.keel_directory.specs.TableFiles.{TableFile, table_rows}
use Rattle.keel_disk.specs.Sound.{IsOneToOne}
use Rattle.keel_disk.specs.State.{State as Disk, settled_through}
use Rattle.keel_disk.proofs.Operating.{is_below}
use Rattle.keel_draft.specs.Drafts.{Draft, batch_rows, count_ops}
use Rattle.keel_edit.specs.declared.edit.Added.{Added}
use Rattle.keel_edit.specs.declared.edit.Edit.{Edit}
use Rattle.keel_edit.specs.Spelling.{IsEdit}
use Rattle.keel_machine.specs.Admission.{stopping}
use Rattle.keel_machine.specs.Reads.{all_segments, contents, segment_rows}
use Rattle.keel_machine.specs.Resuming.{AreTables, HasBatch, batches_in, closed_batches, taken_over}
use Rattle.keel_machine.specs.States.{State, Resumption, Segment, SegmentLog, entries_in, point_of}
use Rattle.keel_machine.specs.WritingAfter.{numbers_of}
use Rattle.keel_version.specs.Applying.{applied, no_less, renumbered, each_fits, take_off, then_added}
use Rattle.keel_version.specs.Tables.{Contents, nothing}
use Rattle.keel_recovery.specs.Booting.{IsOldTable}
use Rattle.keel_recovery.specs.BootCalls.{BootKept, IsUnmoved, RunsSo, joined}
use Rattle.keel_recovery.specs.Machine.{Bears, HasLog, HoldsBy, IsCalm, IsKept}
use Rattle.keel_recovery.specs.Roots.{AreFirmTables, IsWay, Way, point_at, then_behind, version_behind}
use Rattle.keel_recovery.proofs.Bearing.{full_batches, joined_push, kept_bears, same_front, segment_rows_are}
use Rattle.keel_recovery.proofs.BootTaken.{just_taken, taken_unmoved}
use Rattle.keel_recovery.proofs.FlushEditing.{only_way}
use Rattle.keel_recovery.proofs.Following.{batches_push}
use Rattle.keel_recovery.proofs.Left.{kept_left}
use Rattle.keel_recovery.proofs.Numbering.{folded_append, front_batches, seq_folded}

some_none : {A P : Type 0} (x : A) → Some x ≡ None → P
some_none x e = cc

-- ---- the last op that is in a table has a number within limits

renumbered_known : (edit : Edit) (version next : Contents) (tables : Result (List Added) ℕ) → IsEdit edit → renumbered edit version tables ≡ Ok next → next.last_seq ≤ LAST_NUMBER
renumbered_known edit version next (Err entry) is gives = absurd (never gives)
  where
    never : Err entry ≡ Ok next → ⊥
    never e = cc
renumbered_known edit version next (Ok tables) is gives =
    elim (no_less edit version)
    as (λ b. (if b then Ok (record { tables = tables; min_log = edit.min_log; next_file = edit.next_file; last_seq = edit.last_seq }) else Err (length edit.removed + length edit.added)) ≡ Ok next → next.last_seq ≤ LAST_NUMBER) [
      | true ↦ λ some.
          let same : record { tables = tables; min_log = edit.min_log; next_file = edit.next_file; last_seq = edit.last_seq } ≡ next = cc in
          subst (λ (v : Contents). v.last_seq ≤ LAST_NUMBER) same is.last_seq
      | false ↦ λ none. cc
    ] gives

known_behind : (edits : List Edit) (version last : Contents) → AllByRecursion IsEdit edits → version.last_seq ≤ LAST_NUMBER → version_behind version edits ≡ Some last → last.last_seq ≤ LAST_NUMBER
known_behind [] version last are known is = let same : version ≡ last = cc is in subst (λ (v : Contents). v.last_seq ≤ LAST_NUMBER) same known
known_behind (edit ∷ edits) version last are known is =
    elim (applied edit version) as (λ next. applied edit version ≡ next → then_behind next (λ v. version_behind v edits) ≡ Some last → last.last_seq ≤ LAST_NUMBER) [
      | (Err entry) ↦ λ at none. some_none last (sym none)
      | (Ok next) ↦ λ at some.
          known_behind edits next last are.1 (renumbered_known edit version next (then_added edit (each_fits take_off 0 edit.removed version.tables)) are.0 at) some
    ] refl is

taken_all : {A : Type 0} (P : A → Type 0) (count : ℕ) (xs : List A) → AllByRecursion P xs → AllByRecursion P (take count xs)
taken_all P zero xs all = tt
taken_all P (suc count) [] all = tt
taken_all P (suc count) (x ∷ xs) all = (all.0, taken_all P count xs all.1)

-- ---- tables that are firm are there

tables_there : (state : Disk) → IsOneToOne state → (levels : List TableFile) → AreFirmTables state (entries_in levels) levels → AllByRecursion (IsOldTable (length state.files) state) levels
tables_there state one [] are = tt
tables_there state one (table ∷ levels) are = (
  record {
    file = are.0.file;
    steady = are.0.steady;
    old = is_below (length state.files) (Table table.entry.number) are.0.file (settled_through 0 state).firm (one 0) (are.0.steady.named 0);
    held = are.0.held;
    opens = are.0.opens;
  },
  tables_there state one levels are.1,
)

-- ---- the batches of the segments

closed_joined : (immutable : List Segment) (batches : List (List Op)) (logs : List ℕ) → joined (batches_in (immutable ++ closed_batches batches logs)) ≡ joined (batches_in immutable) ++ batches
closed_joined immutable [] logs = ap (λ (l : List Segment). joined (batches_in l)) (append-nil immutable) ∙ sym (append-nil (joined (batches_in immutable)))
closed_joined immutable (ops ∷ batches) logs =
    ap joined (map-append (λ (segment : Segment). segment.batches) immutable (closed_batches (ops ∷ batches) logs)) ∙ joined_push (batches_in immutable) (ops ∷ batches)

each_some : (segments : List Segment) → AllByRecursion HasBatch segments → AllByRecursion (λ (batches : List (List Op)). 1 ≤ length batches) (batches_in segments)
each_some [] some = tt
each_some (segment ∷ segments) some = (some.0, each_some segments some.1)

-- ---- what is kept

module _ (s : State) (state : Disk) (drafts : List Draft) (h : IsKept state s) (calm : IsCalm s) (tables : AreTables (taken_over s) drafts) where
  abbrev own : Type 0
  own = BootKept (taken_over s) state

  by_log : (log : SegmentLog)
      → HasLog log state s.levels s.story s.segments.immutable s.segments.active.batches s.writing.waiting (stopping s) s.jobs.write.running s.numbers.next_file s.numbers.in_tables s.jobs.flush.running s.numbers.manifest
      → (kept : BootKept (taken_over s) state) × IsUnmoved kept.bound state
  by_log log l =
      let story = s.story in
      let base = point_at l.place story in
      let stored = l.keeps.stored in
      let full = joined (batches_in s.segments.immutable) in
      let active = s.segments.active.batches in
      let all = batches_in (taken_over s).segments.immutable in
      let all_are : joined all ≡ full ++ active = closed_joined s.segments.immutable active (numbers_of s.segments.active.log) in
      let handed : drop l.place (story.log ++ story.limbo) ≡ (full ++ active) ++ story.limbo =
      stored.batches_are ∙ (batches_push l.full l.own ∙ ((λ i. full_batches s.segments.immutable l.full l.are_full i ++ l.batches_are i) ∙ sym (append_assoc full active story.limbo))) in
      let rest : drop l.place story.log ≡ full ++ active =
      same_front (drop l.place story.log) (full ++ active) story.limbo (sym (drop-append-le l.place story.log story.limbo stored.place_within) ∙ handed) in
      let point : fold_batches base (full ++ active) ≡ point_of story =
      sym (folded_append story.start (take l.place (story.log ++ story.limbo)) (full ++ active))
      ∙ ap (fold_batches story.start) ((λ i. take-append-le l.place story.log story.limbo stored.place_within i ++ sym rest i) ∙ take-append-drop l.place story.log) in
      let limits : AreBatches s.numbers.in_tables (joined all) =
      subst (λ (n : ℕ). AreBatches n (joined all)) l.tables_to
      (subst (AreBatches base.seq) (sym all_are) (front_batches base.seq (full ++ active) story.limbo (subst (AreBatches base.seq) (sym stored.batches_are ∙ handed) stored.limits))) in
      let bears : Bears state s = kept_bears state s h in
      let rows : segment_rows s.numbers.in_tables (all_segments s) ≡ segment_rows s.numbers.in_tables all =
      segment_rows_are s.numbers.in_tables (all_segments s)
      ∙ (ap (batch_rows (s.numbers.in_tables + 1)) (joined_push (batches_in s.segments.immutable) active ∙ sym all_are)
      ∙ sym (segment_rows_are s.numbers.in_tables all)) in
      let used = l.flushes.in_use in
      let go = l.keeps.go 0 in
      let is_way : IsWay l.way state = subst (λ (w : Way). IsWay w state) (only_way l.way go.0 go.1) go.2 in (
        record {
          bound = length state.files;
          old = state;
          booting = just_taken s.levels story s.numbers.next_file state (kept_left state s h) (tables_there state h.one_to_one s.levels l.keeps.live.firm) l.keeps.drawn;
          floor_within = stored.floor_within;
          numbered = h.numbered;
          bare = λ count none. let goes = l.keeps.go count in some_none goes.3.current (sym goes.3.named ∙ none);
          facts = record {
            said = bears.said;
            agree = l.keeps.live.say.agree;
            layered = l.keeps.live.say.layered;
            entries = used.each;
            order = used.order;
            limits = limits;
            each_some = each_some (taken_over s).segments.immutable tables.some;
            in_known = subst (λ (n : ℕ). n ≤ LAST_NUMBER) used.last
                (known_behind (take l.way.firm l.way.edits) nothing used.version (taken_all IsEdit l.way.firm l.way.edits is_way.are_edits) (omega arith) used.is_version);
            map = subst (λ (r : List Row). IsMapOf (flat_map table_rows s.levels ++ r) (contents s)) rows bears.says;
            seq = omega (arith, ap count_ops all_are, l.tables_to, seq_folded base (full ++ active), ap (λ (p : Point). p.seq) point);
          };
          runs = subst (λ (r : Option Resumption). RunsSo (length state.files) (taken_over s) r state) (sym h.none_boots) tt;
          none_active = refl;
          waits = h.waits;
          no_group = calm.no_group;
          no_flush = calm.no_flush;
        },
        taken_unmoved state h.one_to_one,
      )

  pub takes_over : (kept : BootKept (taken_over s) state) × IsUnmoved kept.bound state
  takes_over = by s.segments.active.log h.stored
    where
      by : (o : Option SegmentLog)
          → HoldsBy o state s.levels s.story s.segments.immutable s.segments.active.batches s.writing.waiting (stopping s) s.jobs.write.running s.numbers.next_file s.numbers.in_tables s.jobs.flush.running s.numbers.manifest
          → (kept : BootKept (taken_over s) state) × IsUnmoved kept.bound state
      by None stored = absurd stored
      by (Some log) stored = by_log log stored
