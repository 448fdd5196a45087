-- The memtable has the room for the batches on their way.
use Rattle.std.proofs.Common.{◌≡◌, ℕ, ◌+◌, ◌<◌, Bool, List, [], ◌∷◌, ◌++◌, length, Option, None, refl, sym, ap, subst, arith, append_assoc, append-nil}
use Rattle.std.specs.Prelude.{All}
use Rattle.keel_base.specs.declared.op.Batch.{Batch}
use Rattle.keel_base.specs.declared.op.Op.{Op}
use Rattle.keel_base.specs.declared.row.Row.{Row}
use Rattle.keel_base.specs.Rows.{op_row, op_rows}
use Rattle.keel_group.specs.Queue.{Ticketed, ticketed, batches_of}
use Rattle.keel_machine.specs.Admission.{ops_of}
use Rattle.keel_draft.specs.Drafts.{batch_rows, count_ops}
use Rattle.keel_mem.specs.Needs.{bytes_of}
use Rattle.keel_mem.specs.Shown.{MemShown}
use Rattle.keel_mem.proofs.Folding.{below_next}
use Rattle.keel_core.specs.Flights.{FlightShown, batches_flying, without_batches}
use Rattle.keel_core.specs.Orders.{IsHeld}
use Rattle.keel_core.specs.Placing.{bytes_needed}
use Rattle.keel_core.specs.Trails.{TrailShown, handed, published, seq_in}
use Rattle.keel_core.proofs.Lists.{count_ops-append}

-- ---- rows of batches

pub below_ops : (rows : List Row) (seq : ℕ) (ops : List Op) → All (λ row. row.seq < seq) rows → All (λ row. row.seq < seq + length ops) (rows ++ op_rows seq ops)
below_ops rows seq [] below = subst (All (λ (row : Row). row.seq < seq + 0)) (sym (append-nil rows)) (subst (λ n. All (λ (row : Row). row.seq < n) rows) (omega arith) below)
below_ops rows seq (op ∷ ops) below =
    let rest = below_ops (rows ++ op_row seq op ∷ []) (seq + 1) ops (below_next rows seq op below) in
    let number : seq + 1 + length ops ≡ seq + length (op ∷ ops) = omega arith in
    subst (All (λ (row : Row). row.seq < seq + length (op ∷ ops))) (append_assoc rows (op_row seq op ∷ []) (op_rows (seq + 1) ops))
    (subst (λ n. All (λ (row : Row). row.seq < n) ((rows ++ op_row seq op ∷ []) ++ op_rows (seq + 1) ops)) number rest)

-- the rows of batches more
pub below_batches : (rows : List Row) (seq : ℕ) (batches : List (List Op)) → All (λ row. row.seq < seq) rows → All (λ row. row.seq < seq + count_ops batches) (rows ++ batch_rows seq batches)
below_batches rows seq [] below = subst (All (λ (row : Row). row.seq < seq + 0)) (sym (append-nil rows)) (subst (λ n. All (λ (row : Row). row.seq < n) rows) (omega arith) below)
below_batches rows seq (ops ∷ batches) below =
    let rest = below_batches (rows ++ op_rows seq ops) (seq + length ops) batches (below_ops rows seq ops below) in
    let number : seq + length ops + count_ops batches ≡ seq + count_ops (ops ∷ batches) = omega arith in
    subst (All (λ (row : Row). row.seq < seq + count_ops (ops ∷ batches))) (append_assoc rows (op_rows seq ops) (batch_rows (seq + length ops) batches))
    (subst (λ n. All (λ (row : Row). row.seq < n) ((rows ++ op_rows seq ops) ++ batch_rows (seq + length ops) batches)) number rest)

-- ---- room

pub bytes_needed-append : (front back : List (List Op)) → bytes_needed (front ++ back) ≡ bytes_needed front + bytes_needed back
bytes_needed-append [] back = omega arith
bytes_needed-append (ops ∷ front) back =
    let rest = bytes_needed-append front back in
    let left : bytes_needed ((ops ∷ front) ++ back) ≡ bytes_of ops + bytes_needed (front ++ back) = refl in
    let right : bytes_needed (ops ∷ front) ≡ bytes_of ops + bytes_needed front = refl in
    omega (arith, rest, left, right)

pub over_held : (mem : MemShown) (trail : TrailShown) (group : Option FlightShown) (waiting : List Ticketed) → IsHeld mem trail group waiting → IsHeld mem trail None waiting
over_held mem trail group waiting h = record { below = h.below; bytes = omega (arith, h.bytes); entries = omega (arith, h.entries) }

pub turned_held : (mem : MemShown) (trail : TrailShown) (group : Option FlightShown) (waiting : List Ticketed) → IsHeld mem trail group waiting → IsHeld mem trail group []
turned_held mem trail group waiting h = record { below = h.below; bytes = omega (arith, h.bytes); entries = omega (arith, h.entries) }

pub handed_held : (mem : MemShown) (trail : TrailShown) (group : Option FlightShown) (waiting : List Ticketed) (batches : List Batch)
    → batches ≡ batches_flying group → batches_flying (without_batches group) ≡ [] → IsHeld mem trail group waiting
    → IsHeld mem (handed (ops_of batches) trail) (without_batches group) waiting
handed_held mem trail group waiting batches taken none h =
    let bytes = ap (λ (l : List Batch). bytes_needed (ops_of l)) taken in
    let ops = ap (λ (l : List Batch). count_ops (ops_of l)) taken in
    let no_bytes = ap (λ (l : List Batch). bytes_needed (ops_of l)) none in
    let no_ops = ap (λ (l : List Batch). count_ops (ops_of l)) none in
    let more = bytes_needed-append trail.limbo (ops_of batches) in
    let longer = count_ops-append trail.limbo (ops_of batches) in
    record {
      below = h.below;
      bytes = omega (arith, h.bytes, bytes, no_bytes, more);
      entries = omega (arith, h.entries, ops, no_ops, longer);
    }

pub published_held : (mem behind : MemShown) (trail : TrailShown) (group : Option FlightShown) (waiting : List Ticketed) (sync : Bool) → IsHeld mem trail group waiting
    → behind.rows ≡ mem.rows ++ batch_rows (seq_in trail + 1) trail.limbo → behind.bytes + bytes_needed trail.limbo ≡ mem.bytes
    → behind.entries + count_ops trail.limbo ≡ mem.entries → IsHeld behind (published sync trail) None waiting
published_held mem behind trail group waiting sync h rows bytes entries =
    let below = below_batches mem.rows (seq_in trail + 1) trail.limbo h.below in
    let number : seq_in trail + 1 + count_ops trail.limbo ≡ seq_in (published sync trail) + 1 = omega (arith, count_ops-append trail.log trail.limbo) in
    record {
      below = subst (λ n. All (λ (row : Row). row.seq < n) behind.rows) number
          (subst (All (λ (row : Row). row.seq < seq_in trail + 1 + count_ops trail.limbo)) (sym rows) below);
      bytes = omega (arith, h.bytes, bytes);
      entries = omega (arith, h.entries, entries);
    }

same_below : (mem behind : MemShown) (seq : ℕ) → behind.rows ≡ mem.rows → All (λ row. row.seq < seq) mem.rows → All (λ row. row.seq < seq) behind.rows
same_below mem behind seq rows h = subst (All (λ (row : Row). row.seq < seq)) (sym rows) h

joined_bytes : (waiting : List Ticketed) (ticket : ℕ) (batch : Batch)
    → bytes_needed (ops_of (batches_of (waiting ++ ticketed ticket batch ∷ []))) ≡ bytes_needed (ops_of (batches_of waiting)) + bytes_of batch.ops
joined_bytes [] ticket batch = omega arith
joined_bytes (first ∷ waiting) ticket batch =
    let rest = joined_bytes waiting ticket batch in
    let whole : bytes_needed (ops_of (batches_of ((first ∷ waiting) ++ ticketed ticket batch ∷ []))) ≡ bytes_of first.batch.ops + bytes_needed (ops_of (batches_of (waiting ++ ticketed ticket batch ∷ []))) = refl in
    let part : bytes_needed (ops_of (batches_of (first ∷ waiting))) ≡ bytes_of first.batch.ops + bytes_needed (ops_of (batches_of waiting)) = refl in
    omega (arith, rest, whole, part)

pub joined_ops : (waiting : List Ticketed) (ticket : ℕ) (batch : Batch)
    → count_ops (ops_of (batches_of (waiting ++ ticketed ticket batch ∷ []))) ≡ count_ops (ops_of (batches_of waiting)) + length batch.ops
joined_ops [] ticket batch = omega arith
joined_ops (first ∷ waiting) ticket batch =
    let rest = joined_ops waiting ticket batch in
    let whole : count_ops (ops_of (batches_of ((first ∷ waiting) ++ ticketed ticket batch ∷ []))) ≡ length first.batch.ops + count_ops (ops_of (batches_of (waiting ++ ticketed ticket batch ∷ []))) = refl in
    let part : count_ops (ops_of (batches_of (first ∷ waiting))) ≡ length first.batch.ops + count_ops (ops_of (batches_of waiting)) = refl in
    omega (arith, rest, whole, part)

-- there is room for a batch more
pub record HasRoomMore (mem behind : MemShown) (ops : List Op) : Type 0 where
  pub rows : behind.rows ≡ mem.rows
  pub bytes : behind.bytes ≡ mem.bytes + bytes_of ops
  pub entries : behind.entries ≡ mem.entries + length ops

pub reserved_held : (mem behind : MemShown) (trail : TrailShown) (group : Option FlightShown) (waiting : List Ticketed) (ops : List Op) → IsHeld mem trail group waiting → HasRoomMore mem behind ops
    → IsHeld behind trail group waiting
reserved_held mem behind trail group waiting ops h r = record {
  below = same_below mem behind (seq_in trail + 1) r.rows h.below;
  bytes = omega (arith, h.bytes, r.bytes);
  entries = omega (arith, h.entries, r.entries);
}

pub joined_held : (mem behind : MemShown) (trail : TrailShown) (group : Option FlightShown) (waiting : List Ticketed) (ticket : ℕ) (batch : Batch) → IsHeld mem trail group waiting
    → HasRoomMore mem behind batch.ops → IsHeld behind trail group (waiting ++ ticketed ticket batch ∷ [])
joined_held mem behind trail group waiting ticket batch h r = record {
  below = same_below mem behind (seq_in trail + 1) r.rows h.below;
  bytes = omega (arith, h.bytes, r.bytes, joined_bytes waiting ticket batch);
  entries = omega (arith, h.entries, r.entries, joined_ops waiting ticket batch);
}
