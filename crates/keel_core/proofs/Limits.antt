-- What a batch's size refuses, and what holds of one that isn't refused.
use Rattle.std.proofs.Common.{◌≡◌, ℕ, ◌≤◌, ◌&&◌, not, nat_le, nat_lt, Bool, true, false, List, [], ◌∷◌, length, Option, Some, None, refl, sym, ap, subst, ◌∙◌, arith}
use Rattle.std.proofs.lemmas.Bool.{leb-true}
use Rattle.std.specs.List.{AllByRecursion}
use Rattle.keel_base.specs.Weight.{AreAdmissible, IsWithinLimits, weight_of}
use Rattle.keel_base.specs.declared.op.Batch.{Batch}
use Rattle.keel_base.specs.declared.op.Op.{Op}
use Rattle.keel_base.specs.declared.op.Op.TheVariants.{Put, Del}
use Rattle.keel_machine.specs.declared.answers.Admit.{Admit}
use Rattle.keel_machine.specs.declared.answers.Admit.TheVariants.{BadSize}
use Rattle.keel_machine.specs.declared.answers.Admit.TheVariants as admit
use Rattle.keel_machine.specs.declared.answers.Part.TheVariants.{Key, Value}
use Rattle.keel_machine.specs.declared.answers.Part.TheVariants as part
use Rattle.keel_machine.specs.Admission.{AdmitAnswers, admit_after, is_key_length, op_refusal, ops_refusal, size_refusal}
use Rattle.keel_machine.specs.States.{State, with_device}
use Rattle.keel_machine.specs.Tests.{first_some, when}
use Rattle.keel_machine.specs.Turns.{Admitting}
use Rattle.keel_core.specs.Views.{CoreView, TakesTurn, state_of}
use Rattle.keel_core.proofs.Admitting.{turns_by_story}

-- ---- tests in an order

last_one : (a : Option Admit) → first_some (a ∷ []) ≡ a
last_one None = refl
last_one (Some answer) = refl

none_of_two : (a b : Option Admit) → first_some (a ∷ b ∷ []) ≡ None → (a ≡ None) × (b ≡ None)
none_of_two None b h = (refl, sym (last_one b) ∙ h)
none_of_two (Some answer) b h = cc

none_of_three : (a b c : Option Admit) → first_some (a ∷ b ∷ c ∷ []) ≡ None → (a ≡ None) × (b ≡ None) × (c ≡ None)
none_of_three None b c h = let both = none_of_two b c h in (refl, both.0, both.1)
none_of_three (Some answer) b c h = cc

no_answer : (test : Bool) (answer : Admit) → when test answer ≡ None → test ≡ false
no_answer true answer h = cc
no_answer false answer h = refl

both_true : (a b : Bool) → not (a && b) ≡ false → (a ≡ true) × (b ≡ true)
both_true true true h = (refl, refl)
both_true true false h = cc
both_true false b h = cc

at_most : (a b : ℕ) → nat_lt a b ≡ false → b ≤ a
at_most a b h = grind arith

-- ---- ops within their limits

abbrev key_test : List ℕ → Option Admit
key_test key = when (not (is_key_length (length key))) (BadSize Key (length key))

abbrev value_test : List ℕ → Option Admit
value_test value = when (nat_lt 65536 (length value)) (BadSize Value (length value))

key_within : (key : List ℕ) → key_test key ≡ None → (1 ≤ length key) × (length key ≤ 1024)
key_within key h =
    let tests = both_true (nat_le 1 (length key)) (nat_le (length key) 1024) (no_answer (not (is_key_length (length key))) (BadSize Key (length key)) h) in
    (leb-true 1 (length key) tests.0, leb-true (length key) 1024 tests.1)

op_within : (op : Op) → op_refusal op ≡ None → IsWithinLimits op
op_within (Put key value) h =
    let tests = none_of_two (key_test key) (value_test value) h in
    let within = key_within key tests.0 in
    (record { some = omega (arith, within.0); most = within.1 }, at_most 65536 (length value) (no_answer (nat_lt 65536 (length value)) (BadSize Value (length value)) tests.1))
op_within (Del key) h = let within = key_within key h in record { some = omega (arith, within.0); most = within.1 }

pub ops_within : (ops : List Op) → ops_refusal ops ≡ None → AllByRecursion IsWithinLimits ops
ops_within [] h = tt
ops_within (op ∷ ops) h = let both = none_of_two (op_refusal op) (ops_refusal ops) h in (op_within op both.0, ops_within ops both.1)

-- ---- the ops from one on

pub refused_here : (ops rest : List Op) (op : Op) (answer : Admit) → rest ≡ op ∷ ops → op_refusal op ≡ Some answer → ops_refusal rest ≡ Some answer
refused_here ops rest op answer is refused = ap ops_refusal is ∙ ap (λ (o : Option Admit). first_some (o ∷ ops_refusal ops ∷ [])) refused

pub goes_on : (ops rest : List Op) (op : Op) → rest ≡ op ∷ ops → op_refusal op ≡ None → ops_refusal rest ≡ ops_refusal ops
goes_on ops rest op is none = ap ops_refusal is ∙ ap (λ (o : Option Admit). first_some (o ∷ ops_refusal ops ∷ [])) none ∙ last_one (ops_refusal ops)

-- ---- batches

-- a test of the whole batch
abbrev batch_test : Bool → ℕ → Option Admit
batch_test test length = when test (BadSize part.Batch length)

-- a batch that isn't refused for its size may be queued
pub admissible : (batch : Batch) → size_refusal batch ≡ None → AreAdmissible batch.ops
admissible batch h =
    let count : Bool = not (nat_le 1 (length batch.ops) && nat_le (length batch.ops) 1000) in
    let tests = none_of_three (ops_refusal batch.ops) (batch_test count (length batch.ops)) (batch_test (nat_lt 1048576 (weight_of batch.ops)) (weight_of batch.ops)) h in
    let within = both_true (nat_le 1 (length batch.ops)) (nat_le (length batch.ops) 1000) (no_answer count (BadSize part.Batch (length batch.ops)) tests.1) in
    record { some = leb-true 1 (length batch.ops) within.0; few = leb-true (length batch.ops) 1000 within.1; each = ops_within batch.ops tests.0 }

-- ---- the answer

abbrev IsBadSize : Admit → Type 0
IsBadSize (BadSize part length) = Unit {0}
IsBadSize _ = ⊥

abbrev WhereBadSize : Option Admit → Type 0
WhereBadSize None = Unit {0}
WhereBadSize (Some answer) = IsBadSize answer

bad_when : (test : Bool) (answer : Admit) → IsBadSize answer → WhereBadSize (when test answer)
bad_when true answer h = h
bad_when false answer h = tt

bad_first : (a : Option Admit) (rest : List (Option Admit)) → WhereBadSize a → WhereBadSize (first_some rest) → WhereBadSize (first_some (a ∷ rest))
bad_first None rest h k = k
bad_first (Some answer) rest h k = h

bad_key : (key : List ℕ) → WhereBadSize (key_test key)
bad_key key = bad_when (not (is_key_length (length key))) (BadSize Key (length key)) tt

bad_value : (value : List ℕ) → WhereBadSize (value_test value)
bad_value value = bad_when (nat_lt 65536 (length value)) (BadSize Value (length value)) tt

bad_op : (op : Op) → WhereBadSize (op_refusal op)
bad_op (Put key value) = bad_first (key_test key) (value_test value ∷ []) (bad_key key) (bad_first (value_test value) [] (bad_value value) tt)
bad_op (Del key) = bad_key key

bad_ops : (ops : List Op) → WhereBadSize (ops_refusal ops)
bad_ops [] = tt
bad_ops (op ∷ ops) = bad_first (op_refusal op) (ops_refusal ops ∷ []) (bad_op op) (bad_first (ops_refusal ops) [] (bad_ops ops) tt)

bad_batch : (test : Bool) (length : ℕ) → WhereBadSize (batch_test test length)
bad_batch test length = bad_when test (BadSize part.Batch length) tt

bad_size : (batch : Batch) → WhereBadSize (size_refusal batch)
bad_size batch =
    let count : Bool = not (nat_le 1 (length batch.ops) && nat_le (length batch.ops) 1000) in
    let heavy : Bool = nat_lt 1048576 (weight_of batch.ops) in
    bad_first (ops_refusal batch.ops) (batch_test count (length batch.ops) ∷ batch_test heavy (weight_of batch.ops) ∷ []) (bad_ops batch.ops)
    (bad_first (batch_test count (length batch.ops)) (batch_test heavy (weight_of batch.ops) ∷ []) (bad_batch count (length batch.ops))
    (bad_first (batch_test heavy (weight_of batch.ops)) [] (bad_batch heavy (weight_of batch.ops)) tt))

first_answer : (a : Option Admit) (rest : List (Option Admit)) (answer : Admit) → a ≡ Some answer → first_some (a ∷ rest) ≡ Some answer
first_answer a rest answer is = ap (λ (o : Option Admit). first_some (o ∷ rest)) is

bad_answers : (s : State) (batch : Batch) (answer : Admit) → IsBadSize answer → size_refusal batch ≡ Some answer → AdmitAnswers s batch answer
bad_answers s batch (BadSize part length) bad is = first_answer (size_refusal batch) _ (BadSize part length) is
bad_answers s batch (admit.Queued ticket) bad is = absurd bad
bad_answers s batch admit.Closing bad is = absurd bad
bad_answers s batch admit.Booting bad is = absurd bad
bad_answers s batch (admit.Full active immutables) bad is = absurd bad
bad_answers s batch (admit.Stopped failure) bad is = absurd bad
bad_answers s batch (admit.Spent counter) bad is = absurd bad
bad_answers s batch (admit.QueueFull waiting) bad is = absurd bad
bad_answers s batch admit.OutOfMemory bad is = absurd bad

same_behind : (s : State) (batch : Batch) (answer : Admit) → IsBadSize answer → admit_after s batch answer ≡ s
same_behind s batch (BadSize part length) bad = refl
same_behind s batch (admit.Queued ticket) bad = absurd bad
same_behind s batch admit.Closing bad = absurd bad
same_behind s batch admit.Booting bad = absurd bad
same_behind s batch (admit.Full active immutables) bad = absurd bad
same_behind s batch (admit.Stopped failure) bad = absurd bad
same_behind s batch (admit.Spent counter) bad = absurd bad
same_behind s batch (admit.QueueFull waiting) bad = absurd bad
same_behind s batch admit.OutOfMemory bad = absurd bad

-- a batch that is refused for its size leaves all as it was
pub bad_size_goes : (view : CoreView) (batch : Batch) (answer : Admit) → size_refusal batch ≡ Some answer → TakesTurn view (Admitting batch answer) view
bad_size_goes view batch answer is =
    let bad : IsBadSize answer = subst WhereBadSize is (bad_size batch) in
    turns_by_story view view (Admitting batch answer) (λ beyond fits.
    let s : State = state_of view beyond in (
      (bad_answers s batch answer bad is, refl),
      record {
        beyond = beyond;
        state_is = ap (with_device view.device) (same_behind s batch answer bad);
        fits = record { story = fits.story; segments = fits.segments; tables = fits.tables; opened = fits.opened; leads = fits.leads; handled = fits.handled; flushes = fits.flushes };
      },
    ))
