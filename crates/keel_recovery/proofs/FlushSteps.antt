-- The parts of a flush that its calls change: what is left, its pieces, and the order of its logs.
use Rattle.std.specs.List.{AllByRecursion, flat_map}
use Rattle.std.proofs.Common.{◌≡◌, inl, inr, ⊎_elim, ℕ, zero, suc, ◌+◌, ◌≤◌, ◌<◌, List, [], ◌∷◌, ◌++◌, length, take, drop, Option, Some, None, unwrap_or, refl, sym, ap, subst, ◌∙◌, arith, append_assoc, Bool, true, false, nat_le, length-append}
use Rattle.std.proofs.lemmas.Bool.{leb-false, leb-true}
use Rattle.std.proofs.lemmas.List.{append-nil}
use Rattle.keel_base.specs.declared.failure.Failure.{Failure}
use Rattle.keel_base.specs.declared.op.Batch.{Batch}
use Rattle.keel_disk.specs.declared.change.Change.{Change}
use Rattle.keel_disk.specs.Sound.{IsOneToOne}
use Rattle.keel_disk.specs.State.{State as Disk}
use Rattle.keel_disk.specs.Step.{DiskStep}
use Rattle.keel_directory.specs.TableFiles.{TableFile}
use Rattle.keel_edit.specs.declared.edit.Edit.{Edit}
use Rattle.keel_flush.specs.Plans.{Act, AddPiece, MakeTable, SyncTable, SyncName, AppendEdit, SyncManifest, Job, Progress, handed, left_of, moved, number_of, plan_of}
use Rattle.keel_group.specs.Queue.{Ticketed}
use Rattle.keel_machine.specs.States.{Story, Group, Act as GroupAct, left_of as calls_of}
use Rattle.keel_version.specs.Tables.{Contents, nothing}
use Rattle.keel_recovery.specs.Calls.{Answer, AllReach, CanGrow}
use Rattle.keel_recovery.specs.Chains.{AreChained, Chained}
use Rattle.keel_recovery.specs.FlushEdits.{IsInUse, all_firm, with_edit}
use Rattle.keel_recovery.specs.FlushFiles.{IsOfNoLog}
use Rattle.keel_recovery.specs.Machine.{AtStage, HasMade, IsAt, WhileItGoes}
use Rattle.keel_recovery.specs.Waiting.{AreOnTheirWay}
use Rattle.keel_recovery.specs.Roots.{Way, version_behind}
use Rattle.keel_recovery.proofs.FlushEditing.{only_way}
use Rattle.keel_recovery.proofs.FlushStays.{logs_stay}
use Rattle.keel_recovery.proofs.Ordering.{drop_next}

-- ---- calls that are left

handed_made : (next : ℕ) (act : Act) (p : Progress) → (handed next act p).made ≡ p.made
handed_made next MakeTable p = refl
handed_made next (AddPiece bytes) p = refl
handed_made next SyncTable p = refl
handed_made next SyncName p = refl
handed_made next AppendEdit p = refl
handed_made next SyncManifest p = refl

-- those behind a call that was made
pub left_moved : (next : ℕ) (act : Act) (later : List Act) (job : Job) → left_of job ≡ act ∷ later → left_of (moved next act job) ≡ later
left_moved next act later job left =
    ap (λ (n : ℕ). drop (n + 1) (plan_of job.draft)) (handed_made next act job.progress) ∙ drop_next job.progress.made (plan_of job.draft) act later left

pub number_is : (job : Job) (number : ℕ) → job.progress.table ≡ Some number → number_of job ≡ number
number_is job number is = ap (λ (o : Option ℕ). unwrap_or o 0) is

pub first_act : (left : List Act) (act first : Act) (later others : List Act) → left ≡ act ∷ later → left ≡ first ∷ others → act ≡ first
first_act left act first later others e k = cc

pub later_acts : (left : List Act) (act first : Act) (later others : List Act) → left ≡ act ∷ later → left ≡ first ∷ others → later ≡ others
later_acts left act first later others e k = cc

-- pieces that were given, and one more
pub given_more : (given : List (List ℕ)) (piece : List ℕ) → flat_map (λ (p : List ℕ). p) (given ++ piece ∷ []) ≡ flat_map (λ (p : List ℕ). p) given ++ piece
given_more [] piece = append-nil piece
given_more (first ∷ given) piece = ap (λ (l : List ℕ). first ++ l) (given_more given piece) ∙ sym (append_assoc first (flat_map (λ (p : List ℕ). p) given) piece)

-- ---- the logs that groups go on with

module _ (change : Change) (answer : Answer) (state after : Disk) (one : IsOneToOne state) (of_log : IsOfNoLog change) (step : DiskStep state change answer after) where
  made_log_on : (number next more : ℕ) (own : Chained) → next ≤ more → HasMade state number next own → HasMade after number more own
  made_log_on number next more own le h =
      record { drawn = omega (arith, h.drawn, le); above = h.above; new = logs_stay.new number change answer state after one of_log step h.new }

  stage_on : (story : Story) (next more : ℕ) (own : Chained) (drawn : Option ℕ) (batches : List Batch) (left : List GroupAct) → next ≤ more
      → AtStage state story next own drawn batches left → AtStage after story more own drawn batches left
  stage_on story next more own None batches left le h =
      ⊎_elim (λ writes. inl writes) (λ changes. inr (⊎_elim (λ first. inl first) (λ second. inr (second.0, logs_stay.whole own change answer state after one of_log step second.1)) changes)) h
  stage_on story next more own (Some number) batches left le h =
      (h.0, made_log_on number next more own le h.1, logs_stay.whole own change answer state after one of_log step h.2)

  at_on : (story : Story) (next more : ℕ) (own : Chained) (running : Option Group) → next ≤ more → IsAt state story next own running → IsAt after story more own running
  at_on story next more own None le h = h
  at_on story next more own (Some group) le h = stage_on story next more own group.progress.log group.batches (calls_of group) le h

  goes_on : (story : Story) (front : List Chained) (own : Chained) (size next more : ℕ) (running : Option Group) (waiting : List Ticketed) → next ≤ more
      → CanGrow front own size state × IsAt state story next own running × AreOnTheirWay story running waiting
      → CanGrow front own size after × IsAt after story more own running × AreOnTheirWay story running waiting
  goes_on story front own size next more running waiting le h =
      (logs_stay.grows front own size change answer state after one of_log step h.0, at_on story next more own running le h.1, h.2)

  -- what goes on while a group does, or writes aren't stopped: from then on fewer are
  pub order_on : (story : Story) (front : List Chained) (own : Chained) (size next more : ℕ) (running : Option Group) (waiting : List Ticketed) (stops later : Option Failure) → next ≤ more → (later ≡ None → stops ≡ None)
      → WhileItGoes running stops (CanGrow front own size state × IsAt state story next own running × AreOnTheirWay story running waiting)
      → WhileItGoes running later (CanGrow front own size after × IsAt after story more own running × AreOnTheirWay story running waiting)
  order_on story front own size next more (Some group) waiting stops later le less h = goes_on story front own size next more (Some group) waiting le h
  order_on story front own size next more None waiting None None le less h = goes_on story front own size next more None waiting le h
  order_on story front own size next more None waiting (Some failure) None le less h = absurd (cc (less refl))
  order_on story front own size next more None waiting stops (Some failure) le less h = tt

-- ---- what the versions of a manifest read

-- the last log stands at or behind the second one
pub second_below : (floor published : ℕ) (first next : Chained) (rest front : List Chained) (own : Chained) (state : Disk) → front ++ own ∷ [] ≡ first ∷ next ∷ rest → AreChained floor published (front ++ own ∷ []) state → next.number ≤ own.number
second_below floor published first next rest [] own state is h = cc
second_below floor published first next rest (one ∷ []) own state is h = let same : own ≡ next = cc in omega (arith, ap (λ (l : Chained). l.number) same)
second_below floor published first next rest (one ∷ two ∷ front) own state is h =
    let same : two ≡ next = cc in
    let below : two.number < own.number = last_over two.number front own h.3.1 in
    omega (arith, ap (λ (l : Chained). l.number) same, below)
  where
    last_over : (n : ℕ) (logs : List Chained) (own : Chained) → AllByRecursion (λ (later : Chained). n < later.number) (logs ++ own ∷ []) → n < own.number
    last_over n [] own h = h.0
    last_over n (l ∷ logs) own h = last_over n logs own h.1

take_within : {A : Type 0} (n : ℕ) (xs ys : List A) → n ≤ length xs → take n (xs ++ ys) ≡ take n xs
take_within zero xs ys le = refl
take_within (suc n) [] ys le = absurd (omega (arith, le))
take_within {A} (suc n) (x ∷ xs) ys le = ap (λ (l : List A). x ∷ l) (take_within n xs ys (omega (arith, le)))

take_long : {A : Type 0} (n : ℕ) (xs : List A) → length xs ≤ n → take n xs ≡ xs
take_long zero [] le = refl
take_long zero (x ∷ xs) le = absurd (omega (arith, le))
take_long (suc n) [] le = refl
take_long {A} (suc n) (x ∷ xs) le = ap (λ (l : List A). x ∷ l) (take_long n xs (omega (arith, le)))

some_once : {A : Type 0} (x y : A) → Some x ≡ Some y → x ≡ y
some_once x y e = cc

-- a version that the manifest gave before
pub in_use_with : (way : Way) (edit : Edit) (levels : List TableFile) (in_tables first_log next : ℕ) → way.firm ≤ length way.edits → IsInUse way levels in_tables first_log next → IsInUse (with_edit edit way) levels in_tables first_log next
in_use_with way edit levels in_tables first_log next within h = record {
  version = h.version;
  is_version = ap (version_behind nothing) (take_within way.firm way.edits (edit ∷ []) within) ∙ h.is_version;
  tables = h.tables;
  last = h.last;
  min_log = h.min_log;
  next = h.next;
  order = h.order;
  each = h.each;
}

-- every version with the edit or without reads the last log
pub reach_with : (way : Way) (edit : Edit) (levels : List TableFile) (in_tables first_log next number : ℕ) → AllReach (way ∷ []) number → IsInUse (all_firm (with_edit edit way)) levels in_tables first_log next → first_log ≤ number → AllReach (with_edit edit way ∷ []) number
reach_with way edit levels in_tables first_log next number reach in_use le other count version is least most some =
    subst (λ (w : Way). w.firm ≤ count → count ≤ length w.edits → version_behind nothing (take count w.edits) ≡ Some version → version.min_log ≤ number) (sym (only_way (with_edit edit way) other is)) by least most some
  where
    by : way.firm ≤ count → count ≤ length (way.edits ++ edit ∷ []) → version_behind nothing (take count (way.edits ++ edit ∷ [])) ≡ Some version → version.min_log ≤ number
    by least most some = split (nat_le count (length way.edits)) refl
      where
        split : (within : Bool) → nat_le count (length way.edits) ≡ within → version.min_log ≤ number
        split true le_ =
            let le : count ≤ length way.edits = leb-true count (length way.edits) le_ in
            reach way count version (inl refl) least le (ap (version_behind nothing) (sym (take_within count way.edits (edit ∷ []) le)) ∙ some)
        split false over_ =
            let over : length way.edits < count = leb-false count (length way.edits) over_ in
            let long : length (way.edits ++ edit ∷ []) ≤ count = omega (arith, over, length-append way.edits (edit ∷ [])) in
            let whole : version_behind nothing (way.edits ++ edit ∷ []) ≡ Some version = ap (version_behind nothing) (sym (take_long count (way.edits ++ edit ∷ []) long)) ∙ some in
            let own : version_behind nothing (way.edits ++ edit ∷ []) ≡ Some in_use.version = ap (version_behind nothing) (sym (take_long (length (way.edits ++ edit ∷ [])) (way.edits ++ edit ∷ []) (omega arith))) ∙ in_use.is_version in
            let same : version ≡ in_use.version = some_once version in_use.version (sym whole ∙ own) in
            omega (arith, ap (λ (v : Contents). v.min_log) same, in_use.min_log, le)

-- where all edits are firm fewer versions are left
pub reach_firm : (way : Way) (number : ℕ) → way.firm ≤ length way.edits → AllReach (way ∷ []) number → AllReach (all_firm way ∷ []) number
reach_firm way number within reach other count version is least most some =
    subst (λ (w : Way). w.firm ≤ count → count ≤ length w.edits → version_behind nothing (take count w.edits) ≡ Some version → version.min_log ≤ number) (sym (only_way (all_firm way) other is))
    (λ least most some. reach way count version (inl refl) (omega (arith, within, least)) most some) least most some
