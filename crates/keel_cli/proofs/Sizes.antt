-- Of a batch of one op, no count and no weight is refused.
use Rattle.std.specs.Prelude.{nat_le, nat_lt, not, ◌&&◌}
use Rattle.std.proofs.Common.{◌≡◌, ◌⊎◌, ℕ, ◌+◌, ◌≤◌, Bool, true, false, List, [], ◌∷◌, length, Option, Some, None, option_map, refl, sym, subst, ◌∙◌, inl, inr, arith, ltb-false}
use Rattle.std.proofs.lemmas.Bool.{leb-true}
use Rattle.keel_base.specs.declared.failure.Failure.{Failure}
use Rattle.keel_base.specs.declared.failure.Counter.TheVariants.{Sequence, Ticket}
use Rattle.keel_base.specs.declared.op.Batch.{Batch}
use Rattle.keel_base.specs.declared.op.Op.{Op}
use Rattle.keel_base.specs.declared.op.Op.TheVariants.{Put, Del}
use Rattle.keel_machine.specs.declared.answers.Admit.{Admit}
use Rattle.keel_machine.specs.declared.answers.Admit.TheVariants as admit
use Rattle.keel_machine.specs.declared.answers.Part.TheVariants as part
use Rattle.keel_base.specs.Weight.{weight_of}
use Rattle.keel_machine.specs.Admission.{stopping, is_key_length, size_refusal, refusal}
use Rattle.keel_machine.specs.States.{State}
use Rattle.keel_machine.specs.Tests.{first_some, when}

-- none of the later tests names a size
no_size : (closes boots : Bool) (failure : Option Failure) (sequence ticket full many : Bool) (weight others waits n : ℕ)
    → first_some (when closes admit.Closing ∷ when boots admit.Booting ∷ option_map admit.Stopped failure ∷ when sequence (admit.Spent Sequence) ∷ when ticket (admit.Spent Ticket)
    ∷ when full (admit.Full weight others) ∷ when many (admit.QueueFull waits) ∷ []) ≡ Some (admit.BadSize part.Batch n) → ⊥
no_size true boots failure sequence ticket full many weight others waits n is = absurd cc
no_size false true failure sequence ticket full many weight others waits n is = absurd cc
no_size false false (Some failure) sequence ticket full many weight others waits n is = absurd cc
no_size false false None true ticket full many weight others waits n is = absurd cc
no_size false false None false true full many weight others waits n is = absurd cc
no_size false false None false false true many weight others waits n is = absurd cc
no_size false false None false false false true weight others waits n is = absurd cc
no_size false false None false false false false weight others waits n is = absurd cc

-- ---- the tests of sizes

heavy_only : (many heavy : Bool) (count weight n : ℕ) → first_some (when many (admit.BadSize part.Batch count) ∷ when heavy (admit.BadSize part.Batch weight) ∷ []) ≡ Some (admit.BadSize part.Batch n)
    → (many ≡ true) ⊎ (heavy ≡ true)
heavy_only true heavy count weight n is = inl refl
heavy_only false true count weight n is = inr refl
heavy_only false false count weight n is = absurd cc

put_tests : (key value many heavy : Bool) (of_key of_value count weight n : ℕ)
    → first_some (first_some (first_some (when (not key) (admit.BadSize part.Key of_key) ∷ when value (admit.BadSize part.Value of_value) ∷ []) ∷ None ∷ [])
    ∷ when many (admit.BadSize part.Batch count) ∷ when heavy (admit.BadSize part.Batch weight) ∷ []) ≡ Some (admit.BadSize part.Batch n)
    → (key ≡ true) × (value ≡ false) × ((many ≡ true) ⊎ (heavy ≡ true))
put_tests false value many heavy of_key of_value count weight n is = absurd cc
put_tests true true many heavy of_key of_value count weight n is = absurd cc
put_tests true false many heavy of_key of_value count weight n is = (refl, refl, heavy_only many heavy count weight n is)

del_tests : (key many heavy : Bool) (of_key count weight n : ℕ)
    → first_some (first_some (when (not key) (admit.BadSize part.Key of_key) ∷ None ∷ []) ∷ when many (admit.BadSize part.Batch count) ∷ when heavy (admit.BadSize part.Batch weight) ∷ [])
    ≡ Some (admit.BadSize part.Batch n) → (key ≡ true) × ((many ≡ true) ⊎ (heavy ≡ true))
del_tests false many heavy of_key count weight n is = absurd cc
del_tests true many heavy of_key count weight n is = (refl, heavy_only many heavy count weight n is)

both_true : (a b : Bool) → (a && b) ≡ true → (a ≡ true) × (b ≡ true)
both_true true b h = (refl, h)
both_true false b h = cc

key_at_most : (n : ℕ) → is_key_length n ≡ true → n ≤ 1024
key_at_most n h = leb-true n 1024 (both_true (nat_le 1 n) (nat_le n 1024) h).1

not_heavy : (weight : ℕ) → weight ≤ 1048576 → nat_lt 1048576 weight ≡ true → ⊥
not_heavy weight most h = absurd (omega (arith, most, leb-true (1048576 + 1) weight h))

light : (many : Bool) (weight : ℕ) → many ≡ false → weight ≤ 1048576 → (many ≡ true) ⊎ (nat_lt 1048576 weight ≡ true) → ⊥
light many weight one most (inl is) = absurd (let e : false ≡ true = sym one ∙ is in cc)
light many weight one most (inr is) = not_heavy weight most is

op_sizes : (op : Op) (sync : Bool) (n : ℕ) → size_refusal (record { ops = op ∷ []; sync = sync }) ≡ Some (admit.BadSize part.Batch n) → ⊥
op_sizes (Put key value) sync n is =
    let weight = weight_of (Put key value ∷ []) in
    let tests = put_tests (is_key_length (length key)) (nat_lt 65536 (length value)) false (nat_lt 1048576 weight) (length key) (length value) 1 weight n is in
    let size : weight ≤ 1048576 = omega (arith, key_at_most (length key) tests.0, ltb-false 65536 (length value) tests.1) in
    light false weight refl size tests.2
op_sizes (Del key) sync n is =
    let weight = weight_of (Del key ∷ []) in
    let tests = del_tests (is_key_length (length key)) false (nat_lt 1048576 weight) (length key) 1 weight n is in
    let size : weight ≤ 1048576 = omega (arith, key_at_most (length key) tests.0) in
    light false weight refl size tests.1

-- ---- all tests

in_order : (sizes : Option Admit) (rest : List (Option Admit)) (x : Admit) → first_some (sizes ∷ rest) ≡ Some x → (sizes ≡ Some x) ⊎ (first_some rest ≡ Some x)
in_order None rest x is = inr is
in_order (Some y) rest x is = inl is

one_of : (ops : List Op) → length ops ≡ 1 → (op : Op) × (ops ≡ op ∷ [])
one_of [] one = absurd (omega (arith, one))
one_of (op ∷ []) one = (op, refl)
one_of (op ∷ next ∷ ops) one = absurd (omega (arith, one))

pub one_op_fits : (s : State) (batch : Batch) (n : ℕ) → length batch.ops ≡ 1 → refusal s batch ≡ Some (admit.BadSize part.Batch n) → ⊥
one_op_fits s batch n one is =
    let first = one_of batch.ops one in
    let tests = in_order (size_refusal batch) _ (admit.BadSize part.Batch n) is in
    elim tests [
      | inl sizes ↦ op_sizes first.0 batch.sync n (subst (λ (ops : List Op). size_refusal (record { ops = ops; sync = batch.sync }) ≡ Some (admit.BadSize part.Batch n)) first.1 sizes)
      | inr later ↦ no_size _ _ (stopping s) _ _ _ _ _ _ (length s.writing.waiting) n later
    ]
