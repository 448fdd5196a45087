-- Calls on the manifest in use.
use Rattle.std.specs.List.{AllByRecursion}
use Rattle.std.proofs.Common.{◌≡◌, inl, ⊎_elim, ℕ, ◌+◌, ◌<◌, ◌≤◌, false, List, [], ◌∷◌, ◌++◌, length, map, take, Some, Ok, Err, refl, sym, ap, subst, ◌∙◌, arith, get_or-set_other}
use Rattle.std.proofs.Math.Nat.{eq-or-lt_of_le}
use Rattle.std.proofs.Math.Seq.{take-length}
use Rattle.std.proofs.lemmas.List.{append-nil, length-append, length-map, map-append, take-append-le}
use Rattle.keel_base.specs.declared.file_name.FileName.{FileName}
use Rattle.keel_base.specs.declared.file_name.FileName.TheVariants.{Current, Log, Manifest, Table}
use Rattle.keel_base.specs.Name.{name_eq}
use Rattle.keel_disk.specs.declared.change.Change.{Change}
use Rattle.keel_disk.specs.declared.change.Change.TheVariants.{Append, Sync}
use Rattle.keel_disk.specs.declared.error.DiskError.TheVariants as error
use Rattle.keel_disk.specs.declared.state.File.{File}
use Rattle.keel_disk.specs.Sound.{IsOneToOne}
use Rattle.keel_disk.specs.State.{State, file_at, file_of, new_file, settled_through}
use Rattle.keel_disk.specs.Step.{DiskStep, extended, spoiled, synced, with_file}
use Rattle.keel_disk.specs.Steady.{IsGoing, IsHeld, SparesSpoilt, file_behind}
use Rattle.keel_disk.proofs.Meaning.{all_read_stays}
use Rattle.keel_disk.proofs.Operating.{other_file}
use Rattle.keel_disk.proofs.Steadily.{AppendLeaves, SyncLeaves, append_leaves, file_changed, steady_changed, steady_present, steady_read, sync_leaves}
use Rattle.keel_directory.specs.TableFiles.{TableFile}
use Rattle.keel_edit.specs.declared.edit.Added.{Added}
use Rattle.keel_edit.specs.declared.edit.Edit.{Edit}
use Rattle.keel_edit.specs.Spelling.{IsEdit, spelling}
use Rattle.keel_frag.specs.Writing.{record_bytes, records_bytes}
use Rattle.keel_frag.proofs.Continuing.{going_on}
use Rattle.keel_machine.specs.States.{Story, entries_in}
use Rattle.keel_name.specs.Current.{current_of}
use Rattle.keel_recovery.specs.Calls.{Answer, ByAnswer}
use Rattle.keel_recovery.specs.Chains.{Chained, HoldsRecords, OthersEmpty, size_of_first}
use Rattle.keel_recovery.specs.FlushEdits.{EditAppendKeeps, EditSyncKeeps, IsOpenWay, all_firm, with_edit}
use Rattle.keel_recovery.specs.Keeping.{Keeps}
use Rattle.keel_recovery.specs.Roots.{AllGo, AreRoots, Goes, IsOneWay, IsRoot, IsWay, Way}
use Rattle.keel_recovery.proofs.BootSaysRows.{both}
use Rattle.keel_recovery.proofs.Passing.{AllPass, Passes, chained_passes}
use Rattle.keel_recovery.proofs.Records.{going_grown, records_spoiled, records_synced, same_front}
use Rattle.keel_recovery.proofs.Steering.{TablesPass, each_passes, live_pass, root_pass, same_story}

pub only_way : (way other : Way) → IsOneWay (way ∷ []) other → other ≡ way
only_way way other one = ⊎_elim (λ same. same) (λ none. absurd none) one

-- the bytes of a record behind others
one_more : (payloads : List (List ℕ)) (payload : List ℕ) (size : ℕ) → size ≡ length (records_bytes 0 payloads)
    → records_bytes 0 (payloads ++ payload ∷ []) ≡ records_bytes 0 payloads ++ record_bytes size payload
unfolding records_bytes
one_more payloads payload size is =
    let place : 0 + length (records_bytes 0 payloads) ≡ size = omega (arith, is) in
    going_on 0 payloads (payload ∷ [])
    ∙ ap (λ (n : ℕ). records_bytes 0 payloads ++ records_bytes n (payload ∷ [])) place
    ∙ ap (λ (b : List ℕ). records_bytes 0 payloads ++ b) (append-nil (record_bytes size payload))

module _ (way : Way) (place next_file size : ℕ) (logs : List Chained) (levels : List TableFile) (story : Story) (state : State) (one : IsOneToOne state)
    (h : Keeps (way ∷ []) place logs levels story next_file state) (can : IsOpenWay way size state) where
  abbrev own : File
  own = file_at way.file state.files

  is_way : IsWay way state
  is_way = let going = h.go 0 in subst (λ (w : Way). IsWay w state) (only_way way going.0 going.1) going.2

  holds : HoldsRecords way.firm way.firm (map spelling way.edits) own
  holds = record { meant_is = is_way.meant_is; firm_to = is_way.firm_to; read_to = is_way.read_to }

  -- no call on it failed
  own_sound : (number : ℕ) → file_of (Manifest way.manifest) state ≡ Some number → (file_at number state.files).spoilt ≡ false
  own_sound number named =
      let found = steady_read (Manifest way.manifest) way.file state can.steady in
      let same : way.file ≡ number = let e = sym found ∙ named in cc in
      subst (λ (n : ℕ). (file_at n state.files).spoilt ≡ false) same can.going.not_spoilt

  -- ---- its file is changed

  module _ (set : File → File) where
    abbrev there : State
    there = with_file way.file set state

    -- files of other names are as they were
    same_there : (count number : ℕ) (name : FileName) → name_eq name (Manifest way.manifest) ≡ false → file_behind count name state ≡ Some number → file_at number there.files ≡ file_at number state.files
    same_there count number name apart found =
        get_or-set_other state.files way.file number (set own) new_file
        (other_file (length state.files) (Manifest way.manifest) name way.file number (settled_through count state).firm (one count) apart (can.steady.named count) found)

    passes : (name : FileName) → name_eq name (Manifest way.manifest) ≡ false → Passes name state there
    passes name apart = λ file steady. (record { named = steady.named; not_cut = steady.not_cut }, same_there 0 file name apart (steady.named 0))

    tables_there : (tables : List Added) → TablesPass tables state there
    tables_there tables = each_passes state there (λ number. passes (Table number) refl) tables

    all_pass : (some : List Chained) → AllPass some state there
    all_pass [] = tt
    all_pass (log ∷ some) = (passes (Log log.number) refl, all_pass some)

    others_there : (least : ℕ) → OthersEmpty least logs state → OthersEmpty least logs there
    others_there least empty = λ count n number above none found.
        subst (λ (f : File). f.meant ≡ []) (sym (same_there count number (Log n) refl found)) (empty count n number above none found)

    root_there : (edits : List Edit) → IsRoot edits logs story next_file state → IsRoot edits logs story next_file there
    root_there edits root =
        root_pass edits logs logs story story next_file next_file state there root (tables_there root.version.tables)
        (same_story story) (omega arith) (λ begins. begins) (others_there root.version.min_log)

    -- the way with other edits, or more of them firm
    module _ (edits : List Edit) (firm : ℕ) where
      abbrev next : Way
      next = record { manifest = way.manifest; file = way.file; edits = edits; firm = firm }

      way_there : (1 ≤ firm) → (firm ≤ length edits) → AllByRecursion IsEdit edits → HoldsRecords firm firm (map spelling edits) (set own) → IsWay next there
      way_there some within are has =
          let same = file_changed (Manifest way.manifest) way.file set state one can.steady in
          record {
            some = some;
            within = within;
            are_edits = are;
            meant_is = ap (λ (f : File). f.meant) same ∙ has.meant_is;
            firm_to = omega (arith, has.firm_to, ap (λ (f : File). f.firm) same);
            read_to = omega (arith, has.read_to, ap (λ (f : File). length f.read) same);
            not_cut = is_way.not_cut;
          }

      go_there : IsWay next there → AllGo (next ∷ []) there
      go_there is = λ count.
          let going = h.go count in
          let goes : Goes count way state = subst (λ (w : Way). Goes count w state) (only_way way going.0 going.1) going.3 in (
            next,
            inl refl,
            is,
            record {
              current = goes.current;
              named = goes.named;
              says = subst (λ (f : File). IsHeld f (current_of way.manifest)) (sym (same_there count goes.current Current refl goes.named)) goes.says;
              not_cut = goes.not_cut;
              manifest = goes.manifest;
            },
          )

      keeps_there : (change : Change) (answer : Answer) → DiskStep state change answer there → SparesSpoilt change state → IsWay next there → AreRoots next logs story next_file state
          → Keeps (next ∷ []) place logs levels story next_file there
      keeps_there change answer step spares is roots = record {
        go = go_there is;
        roots = λ other one_way.
            subst (λ (w : Way). AreRoots w logs story next_file there) (sym (only_way next other one_way)) (λ count least most. root_there (take count edits) (roots count least most));
        live = live_pass place levels story story state there h.stored.place_within (tables_there (entries_in levels)) (same_story story) h.live;
        stored = record {
          in_turn = h.stored.in_turn;
          batches_are = h.stored.batches_are;
          limits = h.stored.limits;
          place_within = h.stored.place_within;
          floor_within = h.stored.floor_within;
          chained = chained_passes story.floor (length story.log) logs state there (all_pass logs) h.stored.chained;
        };
        drawn = λ count number name found. h.drawn count number name found;
        read = all_read_stays change answer state there one spares h.read step;
      }

      open_there : (long : ℕ) → IsGoing (set own) → length (set own).meant ≡ long → IsOpenWay next long there
      open_there long going size_is =
          let same = file_changed (Manifest way.manifest) way.file set state one can.steady in
          record {
            steady = steady_changed (Manifest way.manifest) way.file set state can.steady;
            going = subst IsGoing (sym same) going;
            size_is = ap (λ (f : File). length f.meant) same ∙ size_is;
          }

  -- ---- an append

  module _ (edit : Edit) (is_edit : IsEdit edit) (root : IsRoot (way.edits ++ edit ∷ []) logs story next_file state) where
    abbrev longer : List Edit
    longer = way.edits ++ edit ∷ []

    abbrev bytes : List ℕ
    bytes = record_bytes size (spelling edit)

    spelled : map spelling longer ≡ map spelling way.edits ++ spelling edit ∷ []
    spelled = map-append spelling way.edits (edit ∷ [])

    -- a crash may leave the edit or not
    roots_longer : AreRoots (with_edit edit way) logs story next_file state
    roots_longer count least most = ⊎_elim whole fewer (eq-or-lt_of_le most)
      where
        whole : count ≡ length longer → IsRoot (take count longer) logs story next_file state
        whole all = subst (λ (edits : List Edit). IsRoot edits logs story next_file state) (sym (ap (λ (n : ℕ). take n longer) all ∙ take-length longer)) root

        fewer : count < length longer → IsRoot (take count longer) logs story next_file state
        fewer few =
            let within : count ≤ length way.edits = omega (arith, few, length-append way.edits (edit ∷ [])) in
            subst (λ (edits : List Edit). IsRoot edits logs story next_file state) (sym (take-append-le count way.edits (edit ∷ []) within)) (h.roots way (inl refl) count least within)

    holds_longer : (kept : ℕ) → HoldsRecords way.firm way.firm (map spelling longer) (extended bytes kept own)
    holds_longer kept =
        let many : length (map spelling way.edits) ≡ length way.edits = length-map way.edits spelling in
        let front = same_front way.firm (map spelling way.edits) (spelling edit ∷ []) (omega (arith, many, is_way.within)) in
        record {
          meant_is = ap (λ (b : List ℕ). b ++ bytes) is_way.meant_is
              ∙ sym (one_more (map spelling way.edits) (spelling edit) size (sym can.size_is ∙ ap length is_way.meant_is)) ∙ ap (records_bytes 0) (sym spelled);
          firm_to = omega (arith, ap (size_of_first way.firm) spelled, front, is_way.firm_to);
          read_to = omega (arith, ap (size_of_first way.firm) spelled, front, is_way.read_to, length-append own.read (take kept bytes));
        }

    append_set : (set : File → File) (answer : Answer) → DiskStep state (Append (Manifest way.manifest) bytes) answer (with_file way.file set state)
        → HoldsRecords way.firm way.firm (map spelling longer) (set own) → Keeps (with_edit edit way ∷ []) place logs levels story next_file (with_file way.file set state)
    append_set set answer step has =
        keeps_there set longer way.firm (Append (Manifest way.manifest) bytes) answer step own_sound
        (way_there set longer way.firm is_way.some (omega (arith, is_way.within, length-append way.edits (edit ∷ []))) (both IsEdit way.edits (edit ∷ []) is_way.are_edits (is_edit, tt)) has) roots_longer

    pub append_keeps : (answer : Answer) (after : State) → DiskStep state (Append (Manifest way.manifest) bytes) answer after
        → ByAnswer answer
        (Keeps (with_edit edit way ∷ []) place logs levels story next_file after × IsOpenWay (with_edit edit way) (size + length bytes) after)
        (Keeps (with_edit edit way ∷ []) place logs levels story next_file after) (after ≡ state)
    append_keeps answer after step = by answer step (append_leaves (Manifest way.manifest) way.file bytes answer state after (steady_present (Manifest way.manifest) way.file state can.steady) step)
      where
        by : (a : Answer) → DiskStep state (Append (Manifest way.manifest) bytes) a after → AppendLeaves way.file bytes state a after
            → ByAnswer a
            (Keeps (with_edit edit way ∷ []) place logs levels story next_file after × IsOpenWay (with_edit edit way) (size + length bytes) after)
            (Keeps (with_edit edit way ∷ []) place logs levels story next_file after) (after ≡ state)
        by (Ok value) s is =
            let set = extended bytes (length bytes) in
            let s_there : DiskStep state (Append (Manifest way.manifest) bytes) (Ok value) (with_file way.file set state) = subst (DiskStep state (Append (Manifest way.manifest) bytes) (Ok value)) is s in
            subst (λ (s : State). Keeps (with_edit edit way ∷ []) place logs levels story next_file s × IsOpenWay (with_edit edit way) (size + length bytes) s) (sym is) (
              append_set set (Ok value) s_there (holds_longer (length bytes)),
              open_there set longer way.firm (size + length bytes) (going_grown bytes own can.going) (omega (arith, length-append own.meant bytes, can.size_is)),
            )
        by (Err (error.Fault fault)) s left =
            let set : File → File = λ f. spoiled (extended bytes left.0 f) in
            let s_there = subst (DiskStep {T = Unit {0}} state (Append (Manifest way.manifest) bytes) (Err (error.Fault fault))) left.1 s in
            subst (Keeps (with_edit edit way ∷ []) place logs levels story next_file) (sym left.1)
            (append_set set (Err (error.Fault fault)) s_there (records_spoiled way.firm way.firm (map spelling longer) (extended bytes left.0 own) (holds_longer left.0)))
        by (Err error.OutOfMemory) s is = is

  -- ---- a sync

  pub sync_keeps : (answer : Answer) (after : State) → DiskStep state (Sync (Manifest way.manifest)) answer after
      → ByAnswer answer
      (Keeps (all_firm way ∷ []) place logs levels story next_file after × IsOpenWay (all_firm way) size after)
      (Keeps (way ∷ []) place logs levels story next_file after) (after ≡ state)
  sync_keeps answer after step = by answer step (sync_leaves (Manifest way.manifest) way.file answer state after (steady_present (Manifest way.manifest) way.file state can.steady) step)
    where
      by : (a : Answer) → DiskStep state (Sync (Manifest way.manifest)) a after → SyncLeaves way.file state a after
          → ByAnswer a
          (Keeps (all_firm way ∷ []) place logs levels story next_file after × IsOpenWay (all_firm way) size after)
          (Keeps (way ∷ []) place logs levels story next_file after) (after ≡ state)
      by (Ok value) s is =
          let all = length way.edits in
          let s_there = subst (DiskStep state (Sync (Manifest way.manifest)) (Ok value)) is s in
          let firm = records_synced way.firm way.firm all all (map spelling way.edits) own holds can.going in
          let kept = keeps_there synced way.edits all (Sync (Manifest way.manifest)) (Ok value) s_there tt
          (way_there synced way.edits all (omega (arith, is_way.some, is_way.within)) (omega arith) is_way.are_edits firm.0)
          (λ count least most. h.roots way (inl refl) count (omega (arith, is_way.within, least)) most) in
          subst (λ (s : State). Keeps (all_firm way ∷ []) place logs levels story next_file s × IsOpenWay (all_firm way) size s) (sym is)
          (kept, open_there synced way.edits all size firm.1 (firm.2 ∙ can.size_is))
      by (Err (error.Fault fault)) s is =
          let s_there = subst (DiskStep {T = Unit {0}} state (Sync (Manifest way.manifest)) (Err (error.Fault fault))) is s in
          subst (Keeps (way ∷ []) place logs levels story next_file) (sym is)
          (keeps_there spoiled way.edits way.firm (Sync (Manifest way.manifest)) (Err (error.Fault fault)) s_there tt
          (way_there spoiled way.edits way.firm is_way.some is_way.within is_way.are_edits (records_spoiled way.firm way.firm (map spelling way.edits) own holds)) (h.roots way (inl refl)))
      by (Err error.OutOfMemory) s is = is

pub edit_append_keeps : EditAppendKeeps
edit_append_keeps way place next_file size logs levels story edit answer state after one h can is_edit root step =
    append_keeps way place next_file size logs levels story state one h can edit is_edit root answer after step

pub edit_sync_keeps : EditSyncKeeps
edit_sync_keeps way place next_file size logs levels story answer state after one h can step = sync_keeps way place next_file size logs levels story state one h can answer after step
