-- Batches that hold the last write of a key, and others that leave the key alone.
use Rattle.std.proofs.Common.{◌≡◌, ◌∙◌, ℕ, zero, suc, ◌+◌, ◌≤◌, Bool, true, false, cond, Option, None, Some, List, [], ◌∷◌, ◌++◌, take, length, refl, sym, ap, arith}
use Rattle.std.specs.FinMap.{get, get-insert, get-remove}
use Rattle.std.specs.Ordering.{eq_by_cmp}
use Rattle.std.proofs.lemmas.Cmp.{nat_list_cmp_total, eq_by_cmp_equiv}
use Rattle.keel_base.specs.declared.op.Op.{Op}
use Rattle.keel_base.specs.declared.op.Op.TheVariants.{Put, Del}
use Rattle.keel_base.specs.Keys.{key_cmp, key_eq}
use Rattle.keel_base.specs.Points.{Point, Values, after_op, after_ops, after_batch, fold_batches}
use Rattle.keel_recovery.proofs.Numbering.{seq_folded, folded_append}
use Rattle.keel_draft.specs.Drafts.{count_ops}
use Rattle.keel_cli.specs.ReadClaim.{Acked}

-- ---- ops that leave a key alone

abbrev pub key_of : Op → List ℕ
key_of (Put key value) = key
key_of (Del key) = key

abbrev pub value_of : Op → Option (List ℕ)
value_of (Put key value) = Some value
value_of (Del key) = None

same_key : (a b : List ℕ) → key_eq a b ≡ eq_by_cmp key_cmp b a
same_key a b = (eq_by_cmp_equiv nat_list_cmp_total).symm a b

get_behind : (op : Op) (values : Values) (key : List ℕ) → get (after_op op values) key ≡ cond (key_eq (key_of op) key) (value_of op) (get values key)
get_behind (Put written value) values key =
    get-insert nat_list_cmp_total values written value key ∙ ap (λ (b : Bool). cond b (Some value) (get values key)) (sym (same_key written key))
get_behind (Del written) values key =
    get-remove nat_list_cmp_total values written key ∙ ap (λ (b : Bool). cond b None (get values key)) (sym (same_key written key))

pub get_written : (op : Op) (values : Values) (key : List ℕ) → key_eq (key_of op) key ≡ true → get (after_op op values) key ≡ value_of op
get_written op values key same = get_behind op values key ∙ ap (λ (b : Bool). cond b (value_of op) (get values key)) same

get_other : (op : Op) (values : Values) (key : List ℕ) → key_eq (key_of op) key ≡ false → get (after_op op values) key ≡ get values key
get_other op values key other = get_behind op values key ∙ ap (λ (b : Bool). cond b (value_of op) (get values key)) other

abbrev pub FreeOps : List ℕ → List Op → Type 0
FreeOps key [] = Unit {0}
FreeOps key (op ∷ ops) = (key_eq (key_of op) key ≡ false) × FreeOps key ops

get_past : (ops : List Op) (values : Values) (key : List ℕ) → FreeOps key ops → get (after_ops ops values) key ≡ get values key
get_past [] values key free = refl
get_past (op ∷ ops) values key free = get_past ops (after_op op values) key free.1 ∙ get_other op values key free.0

-- where there is a last write of the key, the ops leave it alone
abbrev pub FreeOf : List ℕ → Option Acked → List Op → Type 0
FreeOf key None ops = Unit {0}
FreeOf key (Some write) ops = FreeOps key ops

abbrev pub AllFree : List ℕ → Option Acked → List (List Op) → Type 0
AllFree key last [] = Unit {0}
AllFree key last (ops ∷ batches) = FreeOf key last ops × AllFree key last batches

module _ (key : List ℕ) (last : Option Acked) where
  pub free_append : (a b : List (List Op)) → AllFree key last a → AllFree key last b → AllFree key last (a ++ b)
  free_append [] b first second = second
  free_append (ops ∷ a) b first second = (first.0, free_append a b first.1 second)

pub free_none : (key : List ℕ) (batches : List (List Op)) → AllFree key None batches
free_none key [] = tt
free_none key (ops ∷ batches) = (tt, free_none key batches)

-- ---- batches with the last write

-- From the number of the write on, whatever first part of the batches is made, the key has what it left.
abbrev pub Lasts : List ℕ → Acked → Point → List (List Op) → Type 0
Lasts key write point [] = write.number ≤ point.seq → get point.values key ≡ write.value
Lasts key write point (ops ∷ batches) = (write.number ≤ point.seq → get point.values key ≡ write.value) × Lasts key write (after_batch point ops) batches

module _ (key : List ℕ) (write : Acked) where
  lasts_first : (point : Point) (batches : List (List Op)) → Lasts key write point batches → write.number ≤ point.seq → get point.values key ≡ write.value
  lasts_first point [] lasts reached = lasts reached
  lasts_first point (ops ∷ batches) lasts reached = lasts.0 reached

  pub lasts_take : (count : ℕ) (point : Point) (batches : List (List Op)) → Lasts key write point batches → Lasts key write point (take count batches)
  lasts_take zero point batches lasts = λ reached. lasts_first point batches lasts reached
  lasts_take (suc count) point [] lasts = lasts
  lasts_take (suc count) point (ops ∷ batches) lasts = (lasts.0, lasts_take count (after_batch point ops) batches lasts.1)

  lasts_free : (point : Point) (batches : List (List Op)) → get point.values key ≡ write.value → AllFree key (Some write) batches → Lasts key write point batches
  lasts_free point [] has free = λ reached. has
  lasts_free point (ops ∷ batches) has free =
      (λ reached. has, lasts_free (after_batch point ops) batches (get_past ops point.values key free.0 ∙ has) free.1)

  pub lasts_append : (point : Point) (batches more : List (List Op)) → Lasts key write point batches → write.number ≤ (fold_batches point batches).seq → AllFree key (Some write) more
      → Lasts key write point (batches ++ more)
  lasts_append point [] more lasts reached free = lasts_free point more (lasts reached) free
  lasts_append point (ops ∷ batches) more lasts reached free = (lasts.0, lasts_append (after_batch point ops) batches more lasts.1 reached free)

  pub lasts_end : (point : Point) (batches : List (List Op)) → Lasts key write point batches → write.number ≤ (fold_batches point batches).seq
      → get (fold_batches point batches).values key ≡ write.value
  lasts_end point [] lasts reached = lasts reached
  lasts_end point (ops ∷ batches) lasts reached = lasts_end (after_batch point ops) batches lasts.1 reached

  -- the last op of the batches is the write
  pub lasts_own : (op : Op) (point : Point) (before : List (List Op)) → key_eq (key_of op) key ≡ true → value_of op ≡ write.value
      → write.number ≡ (fold_batches point (before ++ (op ∷ []) ∷ [])).seq → Lasts key write point (before ++ (op ∷ []) ∷ [])
  lasts_own op point [] same value number =
      let at : write.number ≡ point.seq + 1 = omega (arith, number) in
      (λ reached. absurd (omega (arith, reached, at)), λ reached. get_written op point.values key same ∙ value)
  lasts_own op point (ops ∷ before) same value number =
      let from : (fold_batches (after_batch point ops) (before ++ (op ∷ []) ∷ [])).seq ≡ point.seq + length ops + count_ops (before ++ (op ∷ []) ∷ []) =
      seq_folded (after_batch point ops) (before ++ (op ∷ []) ∷ []) in
      let one : 1 ≤ count_ops (before ++ (op ∷ []) ∷ []) = count_one before in
      (λ reached. absurd (omega (arith, reached, number, from, one)), lasts_own op (after_batch point ops) before same value number)
    where
      count_one : (before : List (List Op)) → 1 ≤ count_ops (before ++ (op ∷ []) ∷ [])
      count_one [] = omega arith
      count_one (ops ∷ before) = omega (arith, count_one before)

-- ---- a log with the last write, where there is one

abbrev pub Logged : List ℕ → Option Acked → Point → List (List Op) → Type 0
Logged key None point log = Unit {0}
Logged key (Some write) point log = Lasts key write point log × (write.number ≤ (fold_batches point log).seq)

pub logged_append : (key : List ℕ) (last : Option Acked) (point : Point) (log more : List (List Op)) → Logged key last point log → AllFree key last more → Logged key last point (log ++ more)
logged_append key None point log more logged free = tt
logged_append key (Some write) point log more logged free =
    let further : (fold_batches point (log ++ more)).seq ≡ (fold_batches point log).seq + count_ops more =
    ap (λ (p : Point). p.seq) (folded_append point log more) ∙ seq_folded (fold_batches point log) more in
    (lasts_append key write point log more logged.0 logged.1 free, omega (arith, logged.1, further))
