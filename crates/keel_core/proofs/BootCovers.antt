-- The tables of segments' rows are those of their batches.
use Rattle.std.proofs.Common.{◌≡◌, ◌≢◌, Option, ℕ, ◌+◌, ◌≤◌, List, [], ◌∷◌, ◌++◌, length, refl, sym, ap, subst, ◌∙◌, arith, append_assoc, append-nil}
use Rattle.std.proofs.lemmas.List.{length-append, length-map}
use Rattle.std.proofs.lemmas.List.Sums.{sum_by-cons}
use Rattle.std.specs.List.{AllByRecursion}
use Rattle.keel_base.specs.declared.op.Op.{Op}
use Rattle.keel_base.specs.declared.op.Op.TheVariants.{Put, Del}
use Rattle.keel_base.specs.declared.row.Row.{Row}
use Rattle.keel_base.specs.Rows.{op_row, op_rows}
use Rattle.keel_machine.specs.Resuming.{HasBatch, batches_in}
use Rattle.keel_machine.specs.States.{Segment}
use Rattle.keel_machine.specs.WritingAfter.{numbers_of}
use Rattle.keel_resume.specs.Jobs.{Covers, JobState}
use Rattle.keel_core.proofs.Segmenting.{closed_some}
use Rattle.keel_mem.specs.Totals.{least_seq, greatest_seq, row_bytes, weight_of}
use Rattle.keel_draft.specs.Drafts.{AreDraftsOf, AreNewestOf, Draft, IsDraftOf, IsTableFor, batch_rows, count_ops, rows_in}
use Rattle.keel_resume.specs.Plans.{Job, job_of}
use Rattle.keel_edit.specs.declared.edit.Added.{Added}
use Rattle.keel_levels.specs.declared.live.LiveTable.{LiveTable}
use Rattle.keel_core.specs.Tables.{IsOf, lives_of}
use Rattle.keel_core.proofs.Unopened.{entries_shown}
use Rattle.keel_core.specs.Covering.{AreNewTables, AreTablesFor, AreTablesOfFull, closed_full, taken_over}
use Rattle.keel_core.specs.Views.{AreSegments, CoreView, FullSegment}

-- rows that are numbered one by one from a number on
AreNumbered : ℕ → List Row → Type 0
AreNumbered seq [] = Unit {0}
AreNumbered seq (row ∷ rows) = (row.seq ≡ seq) × AreNumbered (seq + 1) rows

op_seq : (seq : ℕ) (op : Op) → (op_row seq op).seq ≡ seq
op_seq seq (Put key value) = refl
op_seq seq (Del key) = refl

ops_numbered : (seq : ℕ) (ops : List Op) (rest : List Row) → AreNumbered (seq + length ops) rest → AreNumbered seq (op_rows seq ops ++ rest)
unfolding AreNumbered
ops_numbered seq [] rest h = subst (λ n. AreNumbered n rest) (omega arith) h
ops_numbered seq (op ∷ ops) rest h =
    let number : seq + length (op ∷ ops) ≡ seq + 1 + length ops = omega arith in
    (op_seq seq op, ops_numbered (seq + 1) ops rest (subst (λ n. AreNumbered n rest) number h))

numbered : (seq : ℕ) (batches : List (List Op)) → AreNumbered seq (batch_rows seq batches)
unfolding AreNumbered
numbered seq [] = tt
numbered seq (ops ∷ batches) = ops_numbered seq ops (batch_rows (seq + length ops) batches) (numbered (seq + length ops) batches)

least_is : (seq : ℕ) (row : Row) (rows : List Row) → AreNumbered seq (row ∷ rows) → least_seq (row ∷ rows) ≡ seq
unfolding AreNumbered
least_is seq row [] h = h.0
least_is seq row (other ∷ rows) h = omega (arith, h.0, least_is (seq + 1) other rows h.1)

greatest_is : (seq : ℕ) (row : Row) (rows : List Row) → AreNumbered seq (row ∷ rows) → greatest_seq (row ∷ rows) ≡ seq + length rows
unfolding AreNumbered
greatest_is seq row [] h = omega (arith, h.0)
greatest_is seq row (other ∷ rows) h = omega (arith, h.0, greatest_is (seq + 1) other rows h.1)

length-op_rows : (seq : ℕ) (ops : List Op) → length (op_rows seq ops) ≡ length ops
length-op_rows seq [] = refl
length-op_rows seq (op ∷ ops) = omega (arith, length-op_rows (seq + 1) ops)

length-batch_rows : (seq : ℕ) (batches : List (List Op)) → length (batch_rows seq batches) ≡ count_ops batches
length-batch_rows seq [] = refl
length-batch_rows seq (ops ∷ batches) =
    let whole : count_ops (ops ∷ batches) ≡ length ops + count_ops batches = refl in
    omega (arith, whole, length-append (op_rows seq ops) (batch_rows (seq + length ops) batches), length-op_rows seq ops, length-batch_rows (seq + length ops) batches)

ends : (seq many : ℕ) (rows : List Row) → rows ≢ [] → AreNumbered (seq + 1) rows → length rows ≡ many → (least_seq rows ≡ seq + 1) × (greatest_seq rows ≡ seq + many)
ends seq many [] some h is = absurd (some refl)
ends seq many (row ∷ rows) some h is = (least_is (seq + 1) row rows h, omega (arith, is, greatest_is (seq + 1) row rows h))

pub draft_is : (seq : ℕ) (batches : List (List Op)) (rows : List Row) (draft : Draft) → rows ≡ batch_rows (seq + 1) batches → rows ≢ [] → IsTableFor rows draft → IsDraftOf seq batches draft
draft_is seq batches rows draft is some t =
    let at = ends seq (count_ops batches) rows some (subst (AreNumbered (seq + 1)) (sym is) (numbered (seq + 1) batches)) (ap (λ (l : List Row). length l) is ∙ length-batch_rows (seq + 1) batches) in
    record {
      first = t.first ∙ at.0;
      last = t.last ∙ at.1;
      newest = subst (λ (l : List Row). AreNewestOf l (rows_in draft)) is t.newest;
      table = t.table;
      blocks = t.blocks;
      size = t.size;
    }

pub drafts_are : (seq : ℕ) (fulls : List FullSegment) (segments : List Segment) (rows : List Row) (active : List (List Op)) (last : ℕ) (drafts : List Draft)
    → AreSegments seq fulls segments rows active last → AreTablesFor fulls drafts → AreDraftsOf seq (batches_in segments) drafts
drafts_are seq [] [] rows active last [] h t = tt
drafts_are seq (full ∷ fulls) (segment ∷ segments) rows active last (draft ∷ drafts) h t =
    (draft_is seq segment.batches full.rows draft h.1 t.0 t.1, drafts_are (seq + count_ops segment.batches) fulls segments rows active last drafts h.2 t.2)
drafts_are seq [] [] rows active last (draft ∷ drafts) h t = absurd t
drafts_are seq [] (segment ∷ segments) rows active last drafts h t = absurd h
drafts_are seq (full ∷ fulls) [] rows active last drafts h t = absurd h
drafts_are seq (full ∷ fulls) (segment ∷ segments) rows active last [] h t = absurd t

-- each segment with a table has a batch
has_batch : (seq : ℕ) (rows : List Row) (batches : List (List Op)) → rows ≡ batch_rows seq batches → rows ≢ [] → 1 ≤ length batches
has_batch seq rows [] is some = absurd (some is)
has_batch seq rows (ops ∷ batches) is some = omega arith

pub have_batches : (seq : ℕ) (fulls : List FullSegment) (segments : List Segment) (rows : List Row) (active : List (List Op)) (last : ℕ) (drafts : List Draft)
    → AreSegments seq fulls segments rows active last → AreTablesFor fulls drafts → AllByRecursion HasBatch segments
have_batches seq [] [] rows active last drafts h t = tt
have_batches seq (full ∷ fulls) (segment ∷ segments) rows active last (draft ∷ drafts) h t =
    (has_batch (seq + 1) full.rows segment.batches h.1 t.0, have_batches (seq + count_ops segment.batches) fulls segments rows active last drafts h.2 t.2)
have_batches seq [] (segment ∷ segments) rows active last drafts h t = absurd h
have_batches seq (full ∷ fulls) [] rows active last drafts h t = absurd h
have_batches seq (full ∷ fulls) (segment ∷ segments) rows active last [] h t = absurd t

-- ---- the tables of the first segments

-- with tables for the others the drafts are tables for all
abbrev pub CoversTo : List FullSegment → List FullSegment → List Draft → Type 0
CoversTo all left drafts = (more : List Draft) → AreTablesFor left more → AreTablesFor all (drafts ++ more)

pub covers_next : (all left rest : List FullSegment) (full : FullSegment) (drafts : List Draft) (draft : Draft) → left ≡ full ∷ rest → full.rows ≢ [] → IsTableFor full.rows draft
    → CoversTo all left drafts → CoversTo all rest (drafts ++ draft ∷ [])
covers_next all left rest full drafts draft is some table h more tables =
    subst (AreTablesFor all) (sym (append_assoc drafts (draft ∷ []) more)) (h (draft ∷ more) (subst (λ (l : List FullSegment). AreTablesFor l (draft ∷ more)) (sym is) (some, table, tables)))

pub covers_all : (all left : List FullSegment) (drafts : List Draft) → left ≡ [] → CoversTo all left drafts → AreTablesFor all drafts
covers_all all left drafts none h =
    subst (AreTablesFor all) (append-nil drafts) (h [] (subst (λ (l : List FullSegment). AreTablesFor l []) (sym none) tt))

pub has_rows : (rows : List Row) (weight : ℕ) → weight ≡ weight_of rows → (weight ≡ 0 → ⊥) → rows ≢ []
has_rows rows weight is some none = some (is ∙ ap weight_of none)

pub job_goes : (job behind : Job) (tables : List Added) (last : ℕ) (draft : Draft) → behind ≡ record job { drafts = job.drafts ++ draft ∷ [] } → job ≡ job_of tables last job.drafts
    → behind ≡ job_of tables last behind.drafts
job_goes job behind tables last draft is h =
    is ∙ ap (λ (j : Job). record j { drafts = job.drafts ++ draft ∷ [] }) h ∙ ap (job_of tables last) (sym (ap (λ (j : Job). j.drafts) is))

-- with the table of what follows they are tables for all
pub covers_more : (fulls : List FullSegment) (drafts : List Draft) (full : FullSegment) (draft : Draft) → AreTablesFor fulls drafts → full.rows ≢ [] → IsTableFor full.rows draft
    → AreTablesFor (fulls ++ full ∷ []) (drafts ++ draft ∷ [])
covers_more [] [] full draft t some is = (some, is, tt)
covers_more (first ∷ fulls) (other ∷ drafts) full draft t some is = (t.0, t.1, covers_more fulls drafts full draft t.2 some is)
covers_more [] (other ∷ drafts) full draft t some is = absurd t
covers_more (first ∷ fulls) [] full draft t some is = absurd t

-- without a row the active segment leaves nothing
pub nothing_taken : (view : CoreView) → view.rows ≡ [] → (taken_over view).immutable ≡ view.immutable
nothing_taken view none = ap (λ (r : List Row). view.immutable ++ closed_full r (numbers_of view.log)) none ∙ append-nil view.immutable

pub no_rows : (rows : List Row) → weight_of rows ≡ 0 → rows ≡ []
no_rows [] none = refl
no_rows (row ∷ rows) none = absurd (omega (arith, none, sum_by-cons (λ (r : Row). 16 + row_bytes r) row rows))

-- a job for the full segments alone, where there is no row in the active one
pub job_of_none : (view : CoreView) (state : JobState) → view.rows ≡ [] → AreTablesOfFull view state → AreNewTables (taken_over view) (record { steps = 0; job = state.job })
job_of_none view state none h = record {
  drafts = state.job.drafts;
  are = subst (λ (l : List FullSegment). AreTablesFor l state.job.drafts) (sym (nothing_taken view none)) h.are;
  few = h.few;
  steps = refl;
  job = h.job;
}

-- and with the table of its rows
pub job_of_more : (view : CoreView) (before state : JobState) → view.rows ≢ [] → AreTablesOfFull view before → Covers view.rows before state → AreNewTables (taken_over view) (record { steps = 0; job = state.job })
job_of_more view before state some h k =
    let drafts = ap (λ (s : JobState). s.job.drafts) k.after_is in
    let live = ap (λ (s : JobState). length s.job.live) k.after_is in
    let known = ap (λ (j : Job). length j.live) h.job in
    let many = length-map view.levels (λ (t : LiveTable). t.entry) in
    let few = k.few in
    record {
      drafts = state.job.drafts;
      are = subst (λ (l : List Draft). AreTablesFor (taken_over view).immutable l) (sym drafts)
          (subst (λ (l : List FullSegment). AreTablesFor (view.immutable ++ l) (before.job.drafts ++ k.draft ∷ [])) (sym (closed_some view.rows (numbers_of view.log) some))
          (covers_more view.immutable before.job.drafts (record { rows = view.rows; logs = numbers_of view.log }) k.draft h.are some k.is));
      few = omega (arith, few, live, known, many);
      steps = refl;
      job = job_goes before.job state.job _ _ k.draft (ap (λ (s : JobState). s.job) k.after_is) h.job;
    }

-- ---- the job that is to make them

pub begin_covers : (all : List FullSegment) (drafts : List Draft) → drafts ≡ [] → CoversTo all all drafts
begin_covers all drafts none = λ more tables. subst (λ (l : List Draft). AreTablesFor all (l ++ more)) (sym none) tables

pub job_begins : (job : Job) (live tables : List Added) (seq last : ℕ) → job ≡ job_of live seq [] → live ≡ tables → seq ≡ last → job ≡ job_of tables last job.drafts
job_begins job live tables seq last is same number =
    is ∙ (λ i. job_of (same i) (number i) (sym (ap (λ (j : Job). j.drafts) is) i))

pub entries_many : (live : Option (List LiveTable)) (entries : List Added) → IsOf live entries → length (lives_of live entries) ≡ length entries
entries_many live entries same =
    sym (length-map (lives_of live entries) (λ (t : LiveTable). t.entry)) ∙ ap (λ (l : List Added). length l) (entries_shown live entries same)
