-- The batch of a put that is on its way: it waits last, or is the last of the group in flight, or has an outcome.
use Rattle.std.proofs.Common.{◌≡◌, ◌∙◌, ◌⊎◌, inl, inr, ℕ, zero, suc, ◌+◌, ◌==◌, Bool, true, false, cond, Option, None, Some, List, [], ◌∷◌, ◌++◌, find, filter, take, drop, option_map, refl, sym, ap, subst, arith, eq-eqb}
use Rattle.keel_base.specs.declared.op.Batch.{Batch}
use Rattle.keel_base.specs.declared.op.Op.{Op}
use Rattle.keel_group.specs.Queue.{Ticketed, tickets_of, batches_of}
use Rattle.keel_machine.specs.declared.answers.Outcome.{Outcome}
use Rattle.keel_machine.specs.declared.answers.Outcome.TheVariants as outcome
use Rattle.keel_machine.specs.Admission.{outcome_kept, ops_of}
use Rattle.keel_machine.specs.States.{Act, CloseLog, MakeLog, SyncDirectory, AddRecords, SyncLog}
use Rattle.keel_machine.specs.Writing.{group_plan}
use Rattle.keel_machine.specs.WritingAfter.{seq_behind, done_each}
use Rattle.keel_recovery.specs.Waiting.{ops_waiting}
use Rattle.keel_draft.specs.Drafts.{count_ops}
use Rattle.keel_cli.specs.ReadClaim.{Acked}
use Rattle.keel_cli.proofs.Ledger.{FreeOf, AllFree}
use Rattle.keel_cli.proofs.Tickets.{given}

-- ---- the outcome that is kept of a ticket

abbrev pub told : Option (ℕ × Outcome) → Option Outcome
told found = option_map (λ (e : ℕ × Outcome). e.1) found

skip_by : (v : Bool) (entry : ℕ × Outcome) (rest more : Option (ℕ × Outcome)) (x : Option Outcome) → told (cond v (Some entry) rest) ≡ None → (told rest ≡ None → told more ≡ x)
    → told (cond v (Some entry) more) ≡ x
skip_by true entry rest more x none by = absurd cc
skip_by false entry rest more x none by = by none

none_rest : (v : Bool) (entry : ℕ × Outcome) (rest : Option (ℕ × Outcome)) → told (cond v (Some entry) rest) ≡ None → told rest ≡ None
none_rest true entry rest none = absurd cc
none_rest false entry rest none = none

module _ (ticket : ℕ) where
  pub kept_skip : (a b : List (ℕ × Outcome)) → outcome_kept ticket a ≡ None → outcome_kept ticket (a ++ b) ≡ outcome_kept ticket b
  kept_skip [] b none = refl
  kept_skip (entry ∷ a) b none =
      skip_by (entry.0 == ticket) entry (find (λ (e : ℕ × Outcome). e.0 == ticket) a) (find (λ (e : ℕ × Outcome). e.0 == ticket) (a ++ b)) (outcome_kept ticket b) none (kept_skip a b)

  pub none_filter : (test : ℕ × Outcome → Bool) (outcomes : List (ℕ × Outcome)) → outcome_kept ticket outcomes ≡ None → outcome_kept ticket (filter test outcomes) ≡ None
  none_filter test [] none = refl
  none_filter test (entry ∷ outcomes) none =
      let rest : outcome_kept ticket outcomes ≡ None = none_rest (entry.0 == ticket) entry (find (λ (e : ℕ × Outcome). e.0 == ticket) outcomes) none in
      let same : outcome_kept ticket (filter test outcomes) ≡ None = none_filter test outcomes rest in
      elim (test entry) as (λ v. outcome_kept ticket (cond v (entry ∷ filter test outcomes) (filter test outcomes)) ≡ None) [
        | true ↦
            skip_by (entry.0 == ticket) entry (find (λ (e : ℕ × Outcome). e.0 == ticket) outcomes) (find (λ (e : ℕ × Outcome). e.0 == ticket) (filter test outcomes)) None none
            (λ is. same)
        | false ↦ same
      ]

-- ---- tickets that aren't it

abbrev pub Lacks : ℕ → List ℕ → Type 0
Lacks ticket [] = Unit {0}
Lacks ticket (other ∷ tickets) = ((other == ticket) ≡ false) × Lacks ticket tickets

found_by : (v w : Bool) (entry : ℕ × Outcome) (rest : Option (ℕ × Outcome)) → v ≡ w → told (cond v (Some entry) rest) ≡ told (cond w (Some entry) rest)
found_by v w entry rest same = ap (λ (b : Bool). told (cond b (Some entry) rest)) same

pub given_none : (ticket : ℕ) (out : Outcome) (tickets : List ℕ) → Lacks ticket tickets → outcome_kept ticket (given out tickets) ≡ None
given_none ticket out [] lacks = refl
given_none ticket out (other ∷ tickets) lacks =
    found_by (other == ticket) false (other, out) (find (λ (e : ℕ × Outcome). e.0 == ticket) (given out tickets)) lacks.0 ∙ given_none ticket out tickets lacks.1

pub done_none : (ticket seq : ℕ) (tickets : List ℕ) (batches : List (List Op)) → Lacks ticket tickets → outcome_kept ticket (done_each seq tickets batches) ≡ None
done_none ticket seq [] batches lacks = refl
done_none ticket seq (other ∷ tickets) batches lacks =
    found_by (other == ticket) false (other, outcome.Done (seq_behind seq batches))
    (find (λ (e : ℕ × Outcome). e.0 == ticket) (done_each (seq_behind seq batches) tickets (drop 1 batches))) lacks.0
    ∙ done_none ticket (seq_behind seq batches) tickets (drop 1 batches) lacks.1

-- ---- the last of the tickets and batches of a group

abbrev pub Paired : ℕ → List Op → List ℕ → List (List Op) → Type 0
Paired ticket own [] batches = ⊥
Paired ticket own (first ∷ tickets) [] = ⊥
Paired ticket own (first ∷ tickets) (ops ∷ batches) =
    ((first ≡ ticket) × (ops ≡ own) × (tickets ≡ []) × (batches ≡ [])) ⊎ (((first == ticket) ≡ false) × Paired ticket own tickets batches)

module _ (ticket : ℕ) (own : List Op) where
  pub done_own : (seq number : ℕ) (tickets : List ℕ) (batches : List (List Op)) → Paired ticket own tickets batches → number ≡ seq + count_ops batches
      → outcome_kept ticket (done_each seq tickets batches) ≡ Some (outcome.Done number)
  done_own seq number [] batches paired is = absurd paired
  done_own seq number (first ∷ tickets) [] paired is = absurd paired
  done_own seq number (first ∷ tickets) (ops ∷ batches) (inl end) is =
      let none : count_ops batches ≡ 0 = ap count_ops end.3 in
      found_by (first == ticket) true (first, outcome.Done (seq_behind seq (ops ∷ batches)))
      (find (λ (e : ℕ × Outcome). e.0 == ticket) (done_each (seq_behind seq (ops ∷ batches)) tickets batches)) (eq-eqb first ticket end.0)
      ∙ ap (λ (n : ℕ). Some (outcome.Done n)) (omega (arith, is, none))
  done_own seq number (first ∷ tickets) (ops ∷ batches) (inr more) is =
      found_by (first == ticket) false (first, outcome.Done (seq_behind seq (ops ∷ batches)))
      (find (λ (e : ℕ × Outcome). e.0 == ticket) (done_each (seq_behind seq (ops ∷ batches)) tickets batches)) more.0
      ∙ done_own (seq_behind seq (ops ∷ batches)) number tickets batches more.1 (omega (arith, is))

  pub given_own : (out : Outcome) (tickets : List ℕ) (batches : List (List Op)) → Paired ticket own tickets batches → outcome_kept ticket (given out tickets) ≡ Some out
  given_own out [] batches paired = absurd paired
  given_own out (first ∷ tickets) [] paired = absurd paired
  given_own out (first ∷ tickets) (ops ∷ batches) (inl end) =
      found_by (first == ticket) true (first, out) (find (λ (e : ℕ × Outcome). e.0 == ticket) (given out tickets)) (eq-eqb first ticket end.0)
  given_own out (first ∷ tickets) (ops ∷ batches) (inr more) =
      found_by (first == ticket) false (first, out) (find (λ (e : ℕ × Outcome). e.0 == ticket) (given out tickets)) more.0 ∙ given_own out tickets batches more.1

  pub paired_ends : (tickets : List ℕ) (batches : List (List Op)) → Paired ticket own tickets batches → (before : List (List Op)) × (batches ≡ before ++ own ∷ [])
  paired_ends [] batches paired = absurd paired
  paired_ends (first ∷ tickets) [] paired = absurd paired
  paired_ends (first ∷ tickets) (ops ∷ batches) (inl end) = ([], ap (λ (l : List (List Op)). ops ∷ l) end.3 ∙ ap (λ (o : List Op). o ∷ []) end.1)
  paired_ends (first ∷ tickets) (ops ∷ batches) (inr more) =
      let rest = paired_ends tickets batches more.1 in
      (ops ∷ rest.0, ap (λ (l : List (List Op)). ops ∷ l) rest.1)

-- ---- the last that waits

abbrev pub OwnLast : ℕ → List Op → List ℕ → Option Acked → List Ticketed → Type 0
OwnLast ticket own key last [] = ⊥
OwnLast ticket own key last (member ∷ waiting) =
    ((member.ticket ≡ ticket) × (member.batch.ops ≡ own) × (waiting ≡ []))
    ⊎ (((member.ticket == ticket) ≡ false) × FreeOf key last member.batch.ops × OwnLast ticket own key last waiting)

-- the group that is formed has it last, or the queue goes on to
abbrev pub Formed : ℕ → List Op → List ℕ → Option Acked → ℕ → List Ticketed → Type 0
Formed ticket own key last count waiting =
    ((drop count waiting ≡ []) × Paired ticket own (take count (tickets_of waiting)) (ops_of (take count (batches_of waiting))))
    ⊎ (OwnLast ticket own key last (drop count waiting) × Lacks ticket (take count (tickets_of waiting)) × AllFree key last (ops_of (take count (batches_of waiting))))

module _ (ticket : ℕ) (own : List Op) (key : List ℕ) (last : Option Acked) where
  pub own_joined : (batch : Batch) (waiting : List Ticketed) → Lacks ticket (tickets_of waiting) → AllFree key last (ops_waiting waiting) → batch.ops ≡ own
      → OwnLast ticket own key last (waiting ++ (record { ticket = ticket; batch = batch }) ∷ [])
  own_joined batch [] lacks free is = inl (refl, is, refl)
  own_joined batch (member ∷ waiting) lacks free is = inr (lacks.0, free.0, own_joined batch waiting lacks.1 free.1 is)

  pub given_last : (out : Outcome) (waiting : List Ticketed) → OwnLast ticket own key last waiting → outcome_kept ticket (given out (tickets_of waiting)) ≡ Some out
  given_last out [] owned = absurd owned
  given_last out (member ∷ waiting) (inl end) =
      found_by (member.ticket == ticket) true (member.ticket, out) (find (λ (e : ℕ × Outcome). e.0 == ticket) (given out (tickets_of waiting))) (eq-eqb member.ticket ticket end.0)
  given_last out (member ∷ waiting) (inr more) =
      found_by (member.ticket == ticket) false (member.ticket, out) (find (λ (e : ℕ × Outcome). e.0 == ticket) (given out (tickets_of waiting))) more.0
      ∙ given_last out waiting more.2

  none_taken : (count : ℕ) (waiting : List Ticketed) → waiting ≡ [] → (drop count waiting ≡ []) × (take count (tickets_of waiting) ≡ []) × (ops_of (take count (batches_of waiting)) ≡ [])
  none_taken zero [] none = (refl, refl, refl)
  none_taken (suc count) [] none = (refl, refl, refl)
  none_taken count (member ∷ waiting) none = absurd cc

  pub formed : (count : ℕ) (waiting : List Ticketed) → OwnLast ticket own key last waiting → Formed ticket own key last count waiting
  formed zero waiting owned = inr (owned, tt, tt)
  formed (suc count) [] owned = absurd owned
  formed (suc count) (member ∷ waiting) (inl end) =
      let none = none_taken count waiting end.2 in
      inl (none.0, inl (end.0, end.1, none.1, none.2))
  formed (suc count) (member ∷ waiting) (inr more) = by (formed count waiting more.2)
    where
      by : Formed ticket own key last count waiting → Formed ticket own key last (suc count) (member ∷ waiting)
      by (inl all) = inl (all.0, inr (more.0, all.1))
      by (inr left) = inr (left.0, (more.0, left.1), (more.1, left.2))

-- ---- the calls of a group

abbrev pub IsTail : List Act → Type 0
IsTail [] = Unit {0}
IsTail (SyncLog ∷ []) = Unit {0}
IsTail other = ⊥

-- the append is among the calls that are left, or the batches were handed over
abbrev pub Stage : List Batch → List Act → Type 0
Stage batches [] = ⊥
Stage batches (AddRecords ∷ later) = IsTail later
Stage batches (SyncLog ∷ later) = (batches ≡ []) × (later ≡ [])
Stage batches (other ∷ later) = Stage batches later

abbrev pub Behind : List Batch → List Act → Type 0
Behind batches [] = batches ≡ []
Behind batches (act ∷ later) = Stage batches (act ∷ later)

pub staged : (batches : List Batch) (later : List Act) → Stage batches later → Behind batches later
staged batches [] stage = absurd stage
staged batches (act ∷ later) stage = stage

pub tailed : (later : List Act) → IsTail later → Behind [] later
tailed [] tail = refl
tailed (SyncLog ∷ []) tail = (refl, refl)
tailed (SyncLog ∷ act ∷ later) tail = absurd tail
tailed (CloseLog ∷ later) tail = absurd tail
tailed (MakeLog ∷ later) tail = absurd tail
tailed (SyncDirectory ∷ later) tail = absurd tail
tailed (AddRecords ∷ later) tail = absurd tail

pub synced : (batches : List Batch) (later : List Act) → Stage batches (SyncLog ∷ later) → Behind batches later
synced batches [] stage = stage.0
synced batches (act ∷ later) stage = let more : act ∷ later ≡ [] = stage.1 in absurd cc

pub plan_staged : (switches sync : Bool) (batches : List Batch) → Stage batches (group_plan switches sync)
plan_staged true true batches = tt
plan_staged true false batches = tt
plan_staged false true batches = tt
plan_staged false false batches = tt

drop_more : (count : ℕ) (xs : List Act) (x : Act) (rest : List Act) → drop count xs ≡ x ∷ rest → drop (suc count) xs ≡ rest
drop_more zero [] x rest is = cc
drop_more zero (y ∷ xs) x rest is = cc
drop_more (suc count) [] x rest is = cc
drop_more (suc count) (y ∷ xs) x rest is = drop_more count xs x rest is

pub one_dropped : (count : ℕ) (xs : List Act) (x : Act) (rest : List Act) → drop count xs ≡ x ∷ rest → drop (count + 1) xs ≡ rest
one_dropped count xs x rest is = let e : count + 1 ≡ suc count = omega arith in subst (λ n. drop n xs ≡ rest) (sym e) (drop_more count xs x rest is)
