-- The device of an open store bears out what reads say.
use Rattle.std.specs.Prelude.{option_map}
use Rattle.std.specs.List.{AllByRecursion, flat_map}
use Rattle.std.proofs.Common.{◌≡◌, ℕ, ◌+◌, Bool, true, List, [], ◌∷◌, ◌++◌, length, take, drop, Option, Some, None, refl, sym, ap, subst, ◌∙◌, ⊎_elim, arith, append_assoc, take-append-drop}
use Rattle.std.proofs.lemmas.List.{append-nil, length-append, take_at, take-append-le, drop-append-le}
use Rattle.keel_base.specs.declared.file_name.FileName.{FileName}
use Rattle.keel_base.specs.declared.file_name.FileName.TheVariants.{Table}
use Rattle.keel_base.specs.declared.op.Op.{Op}
use Rattle.keel_base.specs.declared.row.Row.{Row}
use Rattle.keel_base.specs.Points.{Point, fold_batches}
use Rattle.keel_base.specs.Rows.{IsMapOf}
use Rattle.keel_disk.specs.Directory.{find}
use Rattle.keel_disk.specs.Plain.{image_read}
use Rattle.keel_disk.specs.Sound.{IsOneToOne}
use Rattle.keel_disk.specs.State.{State as Disk, file_at, file_of, directory_read}
use Rattle.keel_disk.specs.Steady.{IsHeld}
use Rattle.keel_disk.specs.Told.{Told}
use Rattle.keel_disk.proofs.Imaging.{read_found}
use Rattle.keel_disk.proofs.Steadily.{read_own, steady_read}
use Rattle.keel_directory.specs.Laws.{AreNamedOnce}
use Rattle.keel_directory.specs.Sound.{AreWhole, IsAsSaid}
use Rattle.keel_directory.specs.TableFiles.{TableFile, Opens, table_rows}
use Rattle.keel_machine.specs.Admission.{stopping}
use Rattle.keel_machine.specs.Reads.{BearsOut, rows_of, segment_rows, all_segments, contents}
use Rattle.keel_machine.specs.Resuming.{batches_in}
use Rattle.keel_machine.specs.States.{State, Footing, Known, Unknown, Phase, Shut, Booting, Open, Closing, Active, SegmentLog, Segment, is_open, is_left, entries_in, point_of}
use Rattle.keel_recovery.specs.BootCalls.{BootKept, joined}
use Rattle.keel_recovery.specs.Booting.{IsOldTable}
use Rattle.keel_recovery.specs.Chains.{Chained, batches_of}
use Rattle.keel_recovery.specs.Machine.{Bears, IsKept, KeptBy, IsCoveredBy, CoveredBears, HasLog, HoldsBy, AreFull}
use Rattle.keel_recovery.specs.Roots.{AreFirmTables, point_at}
use Rattle.keel_recovery.proofs.Following.{batches_push}
use Rattle.keel_recovery.proofs.Numbering.{folded_append}
use Rattle.keel_recovery.proofs.OpenTables.{said_known}
use Rattle.keel_recovery.proofs.Rows.{map_folds, batch_rows_append}
use Rattle.keel_recovery.proofs.Showing.{read_once}
use Rattle.keel_draft.specs.Drafts.{batch_rows, count_ops}

once_read : (state : Disk) → IsOneToOne state → AreNamedOnce (image_read state)
once_read state one = read_once (length state.files) state.files (directory_read state) (read_own state one)

-- a file that reads find, with the bytes that it holds
held_read : (state : Disk) (name : FileName) (file : ℕ) (bytes : List ℕ) → file_of name state ≡ Some file → IsHeld (file_at file state.files) bytes → find name (image_read state) ≡ Some bytes
held_read state name file bytes named held =
    read_found state.files name (directory_read state) ∙ ap (option_map (λ n. (file_at n state.files).read)) named ∙ ap (λ (b : List ℕ). Some b) held.read

all_whole : (last : ℕ) (levels : List TableFile) → AllByRecursion (IsAsSaid last) levels → AllByRecursion (λ (table : TableFile). AreWhole table.bytes [] table.file.entries) levels
all_whole last [] said = tt
all_whole last (table ∷ levels) said = (said.0.whole, all_whole last levels said.1)

-- ---- rows of segments

pub segment_rows_are : (seq : ℕ) (segments : List (List (List Op))) → segment_rows seq segments ≡ batch_rows (seq + 1) (joined segments)
segment_rows_are seq [] = refl
segment_rows_are seq (batches ∷ segments) =
    let e : seq + count_ops batches + 1 ≡ seq + 1 + count_ops batches = omega arith in
    ap (λ (l : List Row). batch_rows (seq + 1) batches ++ l) (segment_rows_are (seq + count_ops batches) segments ∙ ap (λ (n : ℕ). batch_rows n (joined segments)) e)
    ∙ sym (batch_rows_append (seq + 1) batches (joined segments))

pub joined_push : (segments : List (List (List Op))) (last : List (List Op)) → joined (segments ++ last ∷ []) ≡ joined segments ++ last
joined_push [] last = append-nil last
joined_push (batches ∷ segments) last = ap (λ (l : List (List Op)). batches ++ l) (joined_push segments last) ∙ sym (append_assoc batches (joined segments) last)

-- ---- a store that boots

boot_tables : (bound : ℕ) (state : Disk) (levels : List TableFile) → AllByRecursion (IsOldTable bound state) levels → AllByRecursion (λ (table : TableFile). Opens (image_read state) table.entry table) levels
boot_tables bound state [] h = tt
boot_tables bound state (table ∷ levels) h =
    (record { entry = refl; there = held_read state (Table table.entry.number) h.0.file table.bytes (steady_read (Table table.entry.number) h.0.file state h.0.steady) h.0.held; opens = h.0.opens }, boot_tables bound state levels h.1)

pub boot_bears : (state : Disk) (s : State) → BootKept s state → Bears state s
boot_bears state s k =
    let segments = batches_in s.segments.immutable in
    let none : segment_rows s.numbers.in_tables (all_segments s) ≡ segment_rows s.numbers.in_tables segments =
    segment_rows_are s.numbers.in_tables (all_segments s)
    ∙ ap (batch_rows (s.numbers.in_tables + 1)) (joined_push segments s.segments.active.batches ∙ ap (λ (a : Active). joined segments ++ a.batches) k.none_active ∙ append-nil (joined segments))
    ∙ sym (segment_rows_are s.numbers.in_tables segments) in
    record {
      tables = boot_tables k.bound state s.levels k.booting.tables;
      said = k.facts.said;
      says = subst (λ (rows : List Row). IsMapOf (flat_map table_rows s.levels ++ rows) (contents s)) (sym none) k.facts.map;
    }

-- ---- a store that writes

firm_tables : (state : Disk) (levels : List TableFile) → AreFirmTables state (entries_in levels) levels → AllByRecursion (λ (table : TableFile). Opens (image_read state) table.entry table) levels
firm_tables state [] h = tt
firm_tables state (table ∷ levels) h = (
  record { entry = refl; there = held_read state (Table table.entry.number) h.0.file table.bytes (steady_read (Table table.entry.number) h.0.file state h.0.steady) h.0.held; opens = h.0.opens },
  firm_tables state levels h.1,
)

pub full_batches : (immutable : List Segment) (full : List Chained) → AreFull immutable full → batches_of full ≡ joined (batches_in immutable)
full_batches [] [] h = refl
full_batches [] (_ ∷ _) h = absurd h
full_batches (_ ∷ _) [] h = absurd h
full_batches (segment ∷ immutable) (log ∷ full) h = λ i. h.1 i ++ full_batches immutable full h.2 i

pub same_front : (xs ys rest : List (List Op)) → xs ++ rest ≡ ys ++ rest → xs ≡ ys
same_front xs ys rest e =
    let long : length xs ≡ length ys = omega (arith, ap length e, length-append xs rest, length-append ys rest) in
    sym (take_at xs rest (length xs) refl) ∙ ap (take (length xs)) e ∙ take_at ys rest (length xs) (sym long)

log_bears : (log : SegmentLog) (state : Disk) (s : State) → IsOneToOne state
    → HasLog log state s.levels s.story s.segments.immutable s.segments.active.batches s.writing.waiting (stopping s) s.jobs.write.running s.numbers.next_file s.numbers.in_tables s.jobs.flush.running s.numbers.manifest → Bears state s
log_bears log state s one h =
    let story = s.story in
    let base = point_at h.place story in
    let live = h.keeps.live in
    let stored = h.keeps.stored in
    let segments = joined (batches_in s.segments.immutable) in
    let active = s.segments.active.batches in
    let rest : drop h.place story.log ≡ segments ++ active =
    same_front (drop h.place story.log) (segments ++ active) story.limbo
    (sym (drop-append-le h.place story.log story.limbo stored.place_within) ∙ stored.batches_are ∙ batches_push h.full h.own
    ∙ (λ i. full_batches s.segments.immutable h.full h.are_full i ++ h.batches_are i) ∙ sym (append_assoc segments active story.limbo)) in
    let first : take h.place (story.log ++ story.limbo) ≡ take h.place story.log = take-append-le h.place story.log story.limbo stored.place_within in
    let point : fold_batches base (segments ++ active) ≡ point_of story =
    sym (folded_append story.start (take h.place (story.log ++ story.limbo)) (segments ++ active))
    ∙ ap (fold_batches story.start) ((λ i. first i ++ sym rest i) ∙ take-append-drop h.place story.log) in
    let rows : batch_rows (base.seq + 1) (segments ++ active) ≡ segment_rows s.numbers.in_tables (all_segments s) =
    ap (λ (n : ℕ). batch_rows (n + 1) (segments ++ active)) h.tables_to
    ∙ ap (batch_rows (s.numbers.in_tables + 1)) (sym (joined_push (batches_in s.segments.immutable) active)) ∙ sym (segment_rows_are s.numbers.in_tables (all_segments s)) in
    record {
      tables = firm_tables state s.levels live.firm;
      said = subst (λ (n : ℕ). AllByRecursion (IsAsSaid n) s.levels) h.tables_to live.say.said;
      says = subst (λ (p : Point). IsMapOf (rows_of s) p.values) point
          (subst (λ (r : List Row). IsMapOf (flat_map table_rows s.levels ++ r) (fold_batches base (segments ++ active)).values) rows
          (map_folds (flat_map table_rows s.levels) base (segments ++ active) live.say.map (said_known base.seq s.levels live.say.said)));
    }

pub kept_bears : (state : Disk) (s : State) → IsKept state s → Bears state s
kept_bears state s h = by s.segments.active.log h.stored
  where
    by : (o : Option SegmentLog)
        → HoldsBy o state s.levels s.story s.segments.immutable s.segments.active.batches s.writing.waiting (stopping s) s.jobs.write.running s.numbers.next_file s.numbers.in_tables s.jobs.flush.running s.numbers.manifest → Bears state s
    by None stored = absurd stored
    by (Some log) stored = log_bears log state s h.one_to_one stored

-- ---- by the phase

pub bears_by : (phase : Phase) (left : Bool) (state : Disk) (s : State) → is_open phase ≡ true → KeptBy phase left state s → Bears state s
bears_by Shut left state s opens h = cc
bears_by Booting left state s opens h = boot_bears state s h.kept
bears_by Closing left state s opens h = h.bears
bears_by Open left state s opens h = ⊎_elim (λ kept. kept_bears state s kept) (λ taken. boot_bears state s taken.kept) h

told_bears : (f : Footing) (o : Option Told) (s : State) → f ≡ Known → o ≡ s.device.told → is_open s.mode.phase ≡ true → IsCoveredBy f s.mode o s → BearsOut s
told_bears Unknown o s known is opens h = cc
told_bears Known None s known is opens h = absurd h
told_bears Known (Some told) s known is opens h =
    let b = bears_by s.mode.phase (is_left s.mode.left) told.state s opens h in
    record { told = told; is_told = sym is; tables = b.tables; said = b.said; says = b.says }

pub covered_bears : CoveredBears
covered_bears s known opens h = told_bears s.footing s.device.told s known refl opens h
