-- The tables that a boot makes of all its segments.
use Rattle.std.proofs.Common.{◌≡◌, ℕ, ◌+◌, ◌<◌, ◌≤◌, true, List, [], ◌∷◌, ◌++◌, length, Option, refl, sym, ap, subst, ◌∙◌, append_assoc, arith}
use Rattle.std.specs.List.{AllByRecursion, flat_map, list_all}
use Rattle.std.proofs.lemmas.Bool.{and_from}
use Rattle.keel_base.specs.declared.limits.TheConstants.{LAST_NUMBER}
use Rattle.keel_base.specs.declared.op.Op.{Op}
use Rattle.keel_base.specs.declared.row.Row.{Row}
use Rattle.keel_base.specs.Name.{IsFileNumber}
use Rattle.keel_base.specs.Rows.{newest, op_rows}
use Rattle.keel_base.proofs.Newest.{newest-append, newest_of_both}
use Rattle.keel_batch.specs.Batches.{AreBatches}
use Rattle.keel_directory.specs.TableFiles.{TableFile, table_rows}
use Rattle.keel_edit.specs.declared.edit.Added.{Added}
use Rattle.keel_machine.specs.Reads.{segment_rows}
use Rattle.keel_machine.specs.States.{entries_in}
use Rattle.keel_draft.specs.Drafts.{AreDraftsOf, Draft, added_of, batch_rows, count_ops, file_of, numbered, rows_in}
use Rattle.keel_version.specs.Tables.{are_apart, goes_before}
use Rattle.keel_recovery.specs.BootCalls.{AreOver, AreRising, joined}
use Rattle.keel_recovery.proofs.BootSaysLevels.{IsNewOver, new_behind, test_all}
use Rattle.keel_recovery.proofs.BootSaysRows.{back_of, batches_back, batches_front, both, each, front_of, newest_have, newest_same}
use Rattle.keel_recovery.proofs.BootSaysTables.{IsFit, draft_fits, draft_rows}
use Rattle.keel_recovery.proofs.Numbering.{counted_append}

abbrev pub new_tables : List ℕ → List Draft → List TableFile
new_tables numbers drafts = numbered file_of numbers drafts

-- ---- entries

pub new_entries : (numbers : List ℕ) (drafts : List Draft) → entries_in (new_tables numbers drafts) ≡ numbered added_of numbers drafts
new_entries [] drafts = refl
new_entries (number ∷ numbers) [] = refl
new_entries (number ∷ numbers) (draft ∷ drafts) = ap (λ (ts : List Added). added_of number draft ∷ ts) (new_entries numbers drafts)

pub new_few : (numbers : List ℕ) (drafts : List Draft) → length (new_tables numbers drafts) ≤ length drafts
new_few [] drafts = omega arith
new_few (number ∷ numbers) [] = omega arith
new_few (number ∷ numbers) (draft ∷ drafts) = omega (arith, new_few numbers drafts)

-- they are on level 0, and their numbers are those that were drawn
pub new_numbers : (P : ℕ → Type 0) (numbers : List ℕ) (drafts : List Draft) → AllByRecursion P numbers
    → AllByRecursion (λ (a : Added). (a.level ≡ 0) × P a.number) (numbered added_of numbers drafts)
new_numbers P [] drafts h = tt
new_numbers P (number ∷ numbers) [] h = tt
new_numbers P (number ∷ numbers) (draft ∷ drafts) h = ((refl, h.0), new_numbers P numbers drafts h.1)

pub new_over : (live : List Added) (numbers : List ℕ) (drafts : List Draft) → AreOver live numbers → AllByRecursion (λ old. AllByRecursion (IsNewOver old) (numbered added_of numbers drafts)) live
new_over live numbers drafts over =
    each (λ (old : Added). AllByRecursion (λ number. old.number < number) numbers) (λ old. AllByRecursion (IsNewOver old) (numbered added_of numbers drafts)) live
    (λ old h. new_numbers (λ number. old.number < number) numbers drafts h) over

pub new_apart : (numbers : List ℕ) (drafts : List Draft) (next : ℕ) → AreRising numbers next → are_apart (numbered added_of numbers drafts) ≡ true
new_apart [] drafts next rising = refl
new_apart (number ∷ numbers) [] next rising = refl
new_apart (number ∷ numbers) (draft ∷ drafts) next rising =
    let first = added_of number draft in
    let rest = numbered added_of numbers drafts in
    and_from (list_all (goes_before first) rest) (are_apart rest)
    (test_all (goes_before first) rest
    (each (IsNewOver first) (λ b. goes_before first b ≡ true) rest (λ b is. new_behind first b refl is.0 is.1) (new_numbers (λ later. number < later) numbers drafts rising.2)))
    (new_apart numbers drafts next rising.3)

-- numbers that were drawn are numbers of files
pub drawn_numbers : (numbers : List ℕ) (next : ℕ) → next ≤ LAST_NUMBER → AreRising numbers next → AllByRecursion IsFileNumber numbers
drawn_numbers [] next most rising = tt
drawn_numbers (number ∷ numbers) next most rising =
    (record { least = rising.0; most = omega (arith, rising.1, most) }, drawn_numbers numbers next most rising.3)

-- ---- tables

pub new_fit : (last seq : ℕ) (numbers : List ℕ) (segments : List (List (List Op))) (drafts : List Draft) → AreDraftsOf seq segments drafts → AllByRecursion IsFileNumber numbers
    → AllByRecursion (λ (batches : List (List Op)). 1 ≤ length batches) segments → AreBatches seq (joined segments)
    → seq + count_ops (joined segments) ≤ LAST_NUMBER → seq + count_ops (joined segments) ≤ last → AllByRecursion (IsFit last) (new_tables numbers drafts)
new_fit last seq [] segments drafts are drawn some limits most le = tt
new_fit last seq (number ∷ numbers) [] [] are drawn some limits most le = tt
new_fit last seq (number ∷ numbers) [] (draft ∷ drafts) are drawn some limits most le = absurd are
new_fit last seq (number ∷ numbers) (batches ∷ segments) [] are drawn some limits most le = absurd are
new_fit last seq (number ∷ numbers) (batches ∷ segments) (draft ∷ drafts) are drawn some limits most le =
    let counted = counted_append batches (joined segments) in (
      draft_fits seq number batches draft are.0 last drawn.0 some.0 (batches_front seq batches (joined segments) limits) (omega (arith, most, counted)) (omega (arith, le, counted)),
      new_fit last (seq + count_ops batches) numbers segments drafts are.1 drawn.1 some.1 (batches_back seq batches (joined segments) limits) (omega (arith, most, counted)) (omega (arith, le, counted)),
    )

-- ---- rows

-- the newest row of a key in the tables is the newest of the segments
pub new_newest : (key : List ℕ) (seq : ℕ) (numbers : List ℕ) (segments : List (List (List Op))) (drafts : List Draft) → AreDraftsOf seq segments drafts → length numbers ≡ length drafts
    → newest key (flat_map table_rows (new_tables numbers drafts)) ≡ newest key (segment_rows seq segments)
new_newest key seq [] [] [] are each_ = refl
new_newest key seq [] [] (draft ∷ drafts) are each_ = absurd are
new_newest key seq [] (batches ∷ segments) [] are each_ = absurd are
new_newest key seq [] (batches ∷ segments) (draft ∷ drafts) are each_ = absurd (omega (arith, each_))
new_newest key seq (number ∷ numbers) [] [] are each_ = absurd (omega (arith, each_))
new_newest key seq (number ∷ numbers) [] (draft ∷ drafts) are each_ = absurd are
new_newest key seq (number ∷ numbers) (batches ∷ segments) [] are each_ = absurd are
new_newest key seq (number ∷ numbers) (batches ∷ segments) (draft ∷ drafts) are each_ =
    let table = table_rows (file_of number draft) in
    let tables = flat_map table_rows (new_tables numbers drafts) in
    let later = segment_rows (seq + count_ops batches) segments in
    let here : newest key table ≡ newest key (batch_rows (seq + 1) batches) =
    ap (newest key) (draft_rows seq number batches draft are.0) ∙ newest_same (batch_rows (seq + 1) batches) (rows_in draft) key are.0.newest in
    newest-append key table tables
    ∙ ap (λ (o : Option Row). newest_of_both o (newest key tables)) here
    ∙ ap (newest_of_both (newest key (batch_rows (seq + 1) batches))) (new_newest key (seq + count_ops batches) numbers segments drafts are.1 (omega (arith, each_)))
    ∙ sym (newest-append key (batch_rows (seq + 1) batches) later)

-- what holds of all rows of the segments holds of those of the tables
pub new_have : (P : Row → Type 0) (seq : ℕ) (numbers : List ℕ) (segments : List (List (List Op))) (drafts : List Draft) → AreDraftsOf seq segments drafts
    → AllByRecursion P (segment_rows seq segments) → AllByRecursion P (flat_map table_rows (new_tables numbers drafts))
new_have P seq [] segments drafts are h = tt
new_have P seq (number ∷ numbers) [] [] are h = tt
new_have P seq (number ∷ numbers) [] (draft ∷ drafts) are h = absurd are
new_have P seq (number ∷ numbers) (batches ∷ segments) [] are h = absurd are
new_have P seq (number ∷ numbers) (batches ∷ segments) (draft ∷ drafts) are h =
    let here = batch_rows (seq + 1) batches in
    let later = segment_rows (seq + count_ops batches) segments in
    both P (table_rows (file_of number draft)) (flat_map table_rows (new_tables numbers drafts))
    (subst (AllByRecursion P) (sym (draft_rows seq number batches draft are.0)) (newest_have P here (rows_in draft) are.0.newest (front_of P here later h)))
    (new_have P (seq + count_ops batches) numbers segments drafts are.1 (back_of P here later h))

batch_rows_joined : (seq : ℕ) (front rest : List (List Op)) → batch_rows seq (front ++ rest) ≡ batch_rows seq front ++ batch_rows (seq + count_ops front) rest
batch_rows_joined seq [] rest = let e : seq ≡ seq + 0 = omega arith in ap (λ (n : ℕ). batch_rows n rest) e
batch_rows_joined seq (ops ∷ front) rest =
    let e : seq + length ops + count_ops front ≡ seq + (length ops + count_ops front) = omega arith in
    ap (λ (l : List Row). op_rows seq ops ++ l) (batch_rows_joined (seq + length ops) front rest ∙ ap (λ (n : ℕ). batch_rows (seq + length ops) front ++ batch_rows n rest) e)
    ∙ sym (append_assoc (op_rows seq ops) (batch_rows (seq + length ops) front) (batch_rows (seq + (length ops + count_ops front)) rest))

pub segments_joined : (seq : ℕ) (segments : List (List (List Op))) → segment_rows seq segments ≡ batch_rows (seq + 1) (joined segments)
segments_joined seq [] = refl
segments_joined seq (batches ∷ segments) =
    let e : seq + count_ops batches + 1 ≡ seq + 1 + count_ops batches = omega arith in
    ap (λ (l : List Row). batch_rows (seq + 1) batches ++ l) (segments_joined (seq + count_ops batches) segments ∙ ap (λ (n : ℕ). batch_rows n (joined segments)) e)
    ∙ sym (batch_rows_joined (seq + 1) batches (joined segments))
