-- What is read is spelled so, and what is spelled so is read.
use Rattle.std.proofs.Common.{◌≡◌, ℕ, zero, suc, ◌+◌, ◌-◌, ◌*◌, ◌/◌, ◌%◌, ◌^◌, ◌<◌, ◌≤◌, Bool, true, false, cond, ltb, eqb, List, [], ◌∷◌, ◌++◌, length, Option, Some, None, Result, Ok, Err, refl, sym, ap, subst, ◌∙◌, append_assoc, arith, inl, inr, ◌⊎◌}
use Rattle.std.specs.Prelude.{IfOk, ◌&&◌, nat_le}
use Rattle.std.specs.List.{flat_map}
use Rattle.std.specs.Int.{w32, w64, to_le_bytes}
use Rattle.std.proofs.lemmas.Bool.{cases_lt, ltb-false, ltb-true, lt-ltb, le-ltb, eqb-false, ne_eqb}
use Rattle.keel_base.specs.declared.op.Op.{Op}
use Rattle.keel_base.specs.declared.op.Op.TheVariants.{Put, Del}
use Rattle.keel_fields.specs.Reading.{◌>>=◌, bounded_at, many_at}
use Rattle.keel_fields.proofs.Fields.{IsBytes, IsBytes-rest, bind_ok, check_ok, ok_is, Takes, Takes-then, IsField, Between, between_true, true_between, wide32, wide64, bounded_field, sized_field, many_takes, many_again, alone_takes, alone_again}
use Rattle.keel_batch.specs.declared.batch.Numbered.{Numbered}
use Rattle.keel_batch.specs.declared.batch.BatchError.{BatchError}
use Rattle.keel_batch.specs.declared.batch.BatchError.TheVariants as errors
use Rattle.keel_batch.specs.Spelling.{groups, varint, sized, op_bytes, spelling, IsKey, IsValue, IsOp, IsBatch}
use Rattle.keel_batch.specs.Reading.{high_group, varint_at, within, length_at, key_at, value_at, op_at, most_ops, batch_at, batch_of, Decodes, Is}

-- ---- lengths

chosen : {A : Type 0} (b : Bool) (x y z : A) → cond b x y ≡ z → ((b ≡ true) × (x ≡ z)) ⊎ ((b ≡ false) × (y ≡ z))
chosen true x y z e = inl (refl, e)
chosen false x y z e = inr (refl, e)

abbrev found : {A : Type 0} → A → Option A
found x = Some x

some_is : {A : Type 0} (x y : A) → found x ≡ found y → x ≡ y
some_is x y e = cc

abbrev nothing : {A : Type 0} → Option A
nothing = None

none_is : {A : Type 0} (x : A) → nothing ≡ found x → ⊥
none_is x e = cc

positive : (n : ℕ) → eqb n 0 ≡ false → 0 < n
positive zero e = absurd (eqb-false 0 0 e refl)
positive (suc n) e = omega arith

not_zero : (n : ℕ) → 0 < n → eqb n 0 ≡ false
not_zero n some = ne_eqb n 0 (λ e. omega (arith, e))

less : (k n : ℕ) → n < 128 ^ suc (suc k) → n / 128 < 128 ^ suc k
less k n lt = omega arith

-- a higher group that was read isn't 0
high_some : (low : ℕ) (read : Option (ℕ × List ℕ)) (x : ℕ × List ℕ) → high_group low read ≡ Some x
    → (high : ℕ × List ℕ) × (read ≡ Some high) × (0 < high.0) × ((low + 128 * high.0, high.1) ≡ x)
high_some low None x e = absurd cc
high_some low (Some high) x e =
    elim (chosen (eqb high.0 0) None (Some (low + 128 * high.0, high.1)) (Some x) e) [
      | inl p ↦ absurd (none_is x p.1)
      | inr p ↦ (high, refl, positive high.0 p.0, some_is (low + 128 * high.0, high.1) x p.1)
    ]

groups_last : (k n : ℕ) → n < 128 → groups (suc k) n ≡ n ∷ []
groups_last k n lt = rw (lt-ltb n 128 lt) refl

groups_more : (k n low high : ℕ) → low < 128 → 0 < high → n ≡ low + 128 * high → groups (suc k) n ≡ (128 + low) ∷ groups k high
groups_more k n low high lt some e =
    let large : ltb n 128 ≡ false = le-ltb n 128 (omega arith) in
    let m : n % 128 ≡ low = omega arith in
    let d : n / 128 ≡ high = omega arith in
    rw (large, m, d) refl

varint_takes : (k : ℕ) (bytes : List ℕ) (x : ℕ × List ℕ) → IsBytes bytes → varint_at k bytes ≡ Some x → Takes bytes (groups k x.0) x.1
varint_takes zero bytes x fits e = absurd (none_is x e)
varint_takes (suc k) [] x fits e = absurd (none_is x e)
varint_takes (suc k) (b ∷ rest) x fits e =
    elim (chosen (ltb b 128) (Some (b, rest)) (high_group (b - 128) (varint_at k rest)) (Some x) e) [
      | inl p ↦
          subst (λ (y : ℕ × List ℕ). Takes (b ∷ rest) (groups (suc k) y.0) y.1) (some_is (b, rest) x p.1)
          (record { parts = ap (λ (t : List ℕ). t ++ rest) (sym (groups_last k b (ltb-true b 128 p.0))); rest_fits = IsBytes-rest b rest fits })
      | inr p ↦
          let h = high_some (b - 128) (varint_at k rest) x p.1 in
          let t = varint_takes k rest h.0 (IsBytes-rest b rest fits) h.1 in
          let large : 128 ≤ b = ltb-false b 128 p.0 in
          let g : groups (suc k) (b - 128 + 128 * h.0.0) ≡ (128 + (b - 128)) ∷ groups k h.0.0 = groups_more k _ (b - 128) h.0.0 (omega (arith, fits 0)) h.2 refl in
          let same : 128 + (b - 128) ≡ b = omega arith in
          subst (λ (y : ℕ × List ℕ). Takes (b ∷ rest) (groups (suc k) y.0) y.1) h.3
          (record { parts = ap (λ (r : List ℕ). b ∷ r) t.parts ∙ ap (λ (c : ℕ). c ∷ (groups k h.0.0 ++ h.0.1)) (sym same) ∙ ap (λ (u : List ℕ). u ++ h.0.1) (sym g); rest_fits = t.rest_fits })
    ]

high_again : (low high : ℕ) (rest : List ℕ) (read : Option (ℕ × List ℕ)) → 0 < high → read ≡ Some (high, rest) → high_group low read ≡ Some (low + 128 * high, rest)
high_again low high rest read some e = rw e (rw (not_zero high some) refl)

varint_small : (k n : ℕ) (rest : List ℕ) → n < 128 → varint_at (suc k) (groups (suc k) n ++ rest) ≡ Some (n, rest)
varint_small k n rest small = ap (λ (t : List ℕ). varint_at (suc k) (t ++ rest)) (groups_last k n small) ∙ rw (lt-ltb n 128 small) refl

varint_more : (k n : ℕ) (rest : List ℕ) → 128 ≤ n → varint_at k (groups k (n / 128) ++ rest) ≡ Some (n / 128, rest) → varint_at (suc k) (groups (suc k) n ++ rest) ≡ Some (n, rest)
varint_more k n rest large h =
    let g : groups (suc k) n ≡ (128 + n % 128) ∷ groups k (n / 128) = groups_more k n (n % 128) (n / 128) (omega arith) (omega arith) (omega arith) in
    let f : ltb (128 + n % 128) 128 ≡ false = le-ltb _ _ (omega arith) in
    let low : 128 + n % 128 - 128 ≡ n % 128 = omega arith in
    let sum : n % 128 + 128 * (n / 128) ≡ n = omega arith in
    ap (λ (t : List ℕ). varint_at (suc k) (t ++ rest)) g
    ∙ rw (f, low) (high_again (n % 128) (n / 128) rest (varint_at k (groups k (n / 128) ++ rest)) (omega arith) h ∙ ap (λ (m : ℕ). Some (m, rest)) sum)

varint_again : (k n : ℕ) (rest : List ℕ) → n < 128 ^ suc k → varint_at (suc k) (groups (suc k) n ++ rest) ≡ Some (n, rest)
varint_again zero n rest lt = varint_small zero n rest lt
varint_again (suc k) n rest lt =
    elim (cases_lt n 128) [
      | inl small ↦ varint_small (suc k) n rest small
      | inr large ↦ varint_more (suc k) n rest large (varint_again k (n / 128) rest (less k n lt))
    ]

within_ok : (least most left : ℕ) (read : Option (ℕ × List ℕ)) (x : ℕ × List ℕ) → within least most left read ≡ Ok x → (read ≡ Some x) × Between least most x.0
within_ok least most left None x e = absurd cc
within_ok least most left (Some n) x e =
    let g = check_ok (nat_le least n.0 && nat_le n.0 most) left n x e in
    (ap found g.1, subst (λ (y : ℕ × List ℕ). Between least most y.0) g.1 (between_true least n.0 most g.0))

length_field : (least most : ℕ) → most < 2097152 → IsField (length_at least most) varint (Between least most)
unfolding length_at varint
length_field least most below = record {
  takes = λ bytes x fits e.
      let w = within_ok least most (length bytes) (varint_at 3 bytes) x e in
      (varint_takes 3 bytes x fits w.0, w.1);
  again = λ n rest h.
      ap (within least most (length (groups 3 n ++ rest))) (varint_again 2 n rest (omega (arith, h.1))) ∙ rw (true_between least n most h) refl;
}

-- ---- ops

key_field : IsField key_at sized IsKey
unfolding key_at
key_field = sized_field (length_at 1 1024) varint (Between 1 1024) (length_field 1 1024 (omega arith))

value_field : IsField value_at sized IsValue
unfolding value_at
value_field = sized_field (length_at 0 65536) varint (Between 0 65536) (length_field 0 65536 (omega arith))

op_takes : (bytes : List ℕ) (x : Op × List ℕ) → IsBytes bytes → op_at bytes ≡ Ok x → Takes bytes (op_bytes x.0) x.1 × IsOp x.0
unfolding op_at
op_takes [] x fits e = absurd cc
op_takes (zero ∷ rest) x fits e =
    let b = bind_ok (key_at rest) (λ key. Ok (Del key.0, key.1)) x e in
    let t = key_field.takes rest b.0 (IsBytes-rest 0 rest fits) b.1 in
    subst (λ (y : Op × List ℕ). Takes (0 ∷ rest) (op_bytes y.0) y.1 × IsOp y.0) (ok_is (Del b.0.0, b.0.1) x b.2)
    (record { parts = ap (λ (r : List ℕ). 0 ∷ r) t.0.parts; rest_fits = t.0.rest_fits }, t.1)
op_takes (suc zero ∷ rest) x fits e =
    let b = bind_ok (key_at rest) (λ key. value_at key.1 >>= λ value. Ok (Put key.0 value.0, value.1)) x e in
    let d = bind_ok (value_at b.0.1) (λ value. Ok (Put b.0.0 value.0, value.1)) x b.2 in
    let t = key_field.takes rest b.0 (IsBytes-rest 1 rest fits) b.1 in
    let u = value_field.takes b.0.1 d.0 t.0.rest_fits d.1 in
    let both = Takes-then rest (sized b.0.0) b.0.1 (sized d.0.0) d.0.1 t.0 u.0 in
    subst (λ (y : Op × List ℕ). Takes (1 ∷ rest) (op_bytes y.0) y.1 × IsOp y.0) (ok_is (Put b.0.0 d.0.0, d.0.1) x d.2)
    (record { parts = ap (λ (r : List ℕ). 1 ∷ r) both.parts; rest_fits = both.rest_fits }, (t.1, u.1))
op_takes (suc (suc b) ∷ rest) x fits e = absurd cc

op_again : (op : Op) (rest : List ℕ) → IsOp op → op_at (op_bytes op ++ rest) ≡ Ok (op, rest)
unfolding op_at
op_again (Del key) rest h = rw (key_field.again key rest h) refl
op_again (Put key value) rest h =
    ap (λ (r : List ℕ). op_at (1 ∷ r)) (append_assoc (sized key) (sized value) rest)
    ∙ rw (key_field.again key (sized value ++ rest) h.0, value_field.again value rest h.1) refl

op_field : IsField op_at op_bytes IsOp
op_field = record { takes = op_takes; again = op_again }

-- ---- batches

abbrev pair_spelling : ℕ × List Op → List ℕ
pair_spelling b = spelling b.0 b.1

most_ops_small : (seq : ℕ) → most_ops seq < 2 ^ 32
most_ops_small seq = omega arith

batch_takes : (bytes : List ℕ) (x : (ℕ × List Op) × List ℕ) → IsBytes bytes → batch_at bytes ≡ Ok x → Takes bytes (pair_spelling x.0) x.1 × IsBatch x.0.0 x.0.1
unfolding batch_at spelling
batch_takes bytes x fits e =
    let a = bind_ok (bounded_at w64 1 (2 ^ 56) bytes) (λ seq. bounded_at w32 1 (most_ops seq.0) seq.1 >>= λ count. many_at op_at count.0 count.1 >>= λ ops. Ok ((seq.0, ops.0), ops.1)) x e in
    let b = bind_ok (bounded_at w32 1 (most_ops a.0.0) a.0.1) (λ count. many_at op_at count.0 count.1 >>= λ ops. Ok ((a.0.0, ops.0), ops.1)) x a.2 in
    let d = bind_ok (many_at op_at b.0.0 b.0.1) (λ ops. Ok ((a.0.0, ops.0), ops.1)) x b.2 in
    let t = (bounded_field w64 (2 ^ 64) wide64 1 (2 ^ 56) (omega arith)).takes bytes a.0 fits a.1 in
    let u = (bounded_field w32 (2 ^ 32) wide32 1 (most_ops a.0.0) (most_ops_small a.0.0)).takes a.0.1 b.0 t.0.rest_fits b.1 in
    let v = many_takes op_at op_bytes IsOp op_field b.0.0 b.0.1 d.0 u.0.rest_fits d.1 in
    let back = Takes-then a.0.1 (to_le_bytes w32 b.0.0) b.0.1 (flat_map op_bytes d.0.0) d.0.1 u.0 v.0 in
    let all = Takes-then bytes (to_le_bytes w64 a.0.0) a.0.1 (to_le_bytes w32 b.0.0 ++ flat_map op_bytes d.0.0) d.0.1 t.0 back in
    let whole : Takes bytes (spelling a.0.0 d.0.0) d.0.1 = subst (λ (k : ℕ). Takes bytes (to_le_bytes w64 a.0.0 ++ (to_le_bytes w32 k ++ flat_map op_bytes d.0.0)) d.0.1) (sym v.1) all in
    subst (λ (y : (ℕ × List Op) × List ℕ). Takes bytes (pair_spelling y.0) y.1 × IsBatch y.0.0 y.0.1) (ok_is ((a.0.0, d.0.0), d.0.1) x d.2)
    (whole, record { first = t.1.0; some = omega (arith, u.1.0, v.1); few = omega (arith, u.1.1, v.1); last = omega (arith, u.1.1, v.1, t.1.1); each = v.2 })

batch_again : (b : ℕ × List Op) (rest : List ℕ) → IsBatch b.0 b.1 → batch_at (pair_spelling b ++ rest) ≡ Ok (b, rest)
unfolding batch_at spelling
batch_again b rest h =
    let seq = b.0 in
    let ops = b.1 in
    let regrouped : spelling seq ops ++ rest ≡ to_le_bytes w64 seq ++ (to_le_bytes w32 (length ops) ++ (flat_map op_bytes ops ++ rest)) =
    append_assoc (to_le_bytes w64 seq) (to_le_bytes w32 (length ops) ++ flat_map op_bytes ops) rest
    ∙ ap (λ (t : List ℕ). to_le_bytes w64 seq ++ t) (append_assoc (to_le_bytes w32 (length ops)) (flat_map op_bytes ops) rest) in
    let s = (bounded_field w64 (2 ^ 64) wide64 1 (2 ^ 56) (omega arith)).again seq (to_le_bytes w32 (length ops) ++ (flat_map op_bytes ops ++ rest)) (h.first, omega (arith, h.last, h.some)) in
    let c = (bounded_field w32 (2 ^ 32) wide32 1 (most_ops seq) (most_ops_small seq)).again (length ops) (flat_map op_bytes ops ++ rest) (h.some, omega (arith, h.few, h.last)) in
    ap batch_at regrouped ∙ rw (s, c, many_again op_at op_bytes IsOp op_field ops rest h.each) refl

batch_field : IsField batch_at pair_spelling (λ b. IsBatch b.0 b.1)
batch_field = record { takes = batch_takes; again = batch_again }

-- ---- what decoding answers

abbrev failed : {A : Type 0} → ℕ → Result A ℕ
failed left = Err left

differ : {A : Type 0} (left : ℕ) (x : A) → failed left ≡ Ok x → ⊥
differ left x e = cc

pub decoded : (bytes : List ℕ) (r : Result Numbered BatchError) → IsBytes bytes → Decodes bytes r → IfOk r (λ b. IsBatch b.seq b.ops × (bytes ≡ spelling b.seq b.ops))
decoded bytes (Ok found) fits given =
    let t = alone_takes batch_at pair_spelling (λ b. IsBatch b.0 b.1) batch_field bytes (found.seq, found.ops) fits given in
    (t.1, t.0)
decoded bytes (Err e) fits given = tt

is_one : (bytes : List ℕ) (r : Result Numbered BatchError) → Decodes bytes r → (seq : ℕ) (ops : List Op) → batch_of bytes ≡ Ok (seq, ops) → Is r seq ops
is_one bytes (Ok found) given seq ops e =
    let same : (found.seq, found.ops) ≡ (seq, ops) = ok_is (found.seq, found.ops) (seq, ops) (sym given ∙ e) in
    (ap (λ (p : ℕ × List Op). p.0) same, ap (λ (p : ℕ × List Op). p.1) same)
is_one bytes (Err errors.OutOfMemory) given seq ops e = tt
is_one bytes (Err (errors.BadBatch at)) given seq ops e = differ given.0 (seq, ops) (sym given.1 ∙ e)

pub decoded_only : (bytes : List ℕ) (r : Result Numbered BatchError) → Decodes bytes r → (seq : ℕ) (ops : List Op) → IsBatch seq ops → bytes ≡ spelling seq ops → Is r seq ops
decoded_only bytes r given seq ops fits e =
    let is : batch_of bytes ≡ Ok (seq, ops) = ap batch_of e ∙ alone_again batch_at pair_spelling (λ b. IsBatch b.0 b.1) batch_field (seq, ops) fits in
    is_one bytes r given seq ops is
