-- A row is put: its bytes behind those that are there, its entry in at its place.
use Rattle.std.proofs.Common.{◌≡◌, ℕ, ◌+◌, ◌-◌, ◌*◌, ◌^◌, ◌<◌, ◌≤◌, List, [], ◌∷◌, ◌++◌, length, take, drop, Some, None, refl, sym, ap, subst, ◌∙◌, arith}
use Rattle.std.specs.Prelude.{All, insert, sum_by}
use Rattle.std.specs.List.Sorted.{IsPermutation}
use Rattle.std.proofs.lemmas.List.{length-append}
use Rattle.std.proofs.lemmas.List.Elements.{All-append, All-cons, All-push, All-take, All-drop}
use Rattle.std.proofs.lemmas.List.Sums.{sum_by-cons}
use Rattle.std.proofs.lemmas.List.Sorted.{IsPermutation-insert, IsPermutation-map, sum_by_pushed, sum_by-IsPermutation, length_permutation}
use Rattle.keel_base.specs.declared.row.Row.{Row}
use Rattle.keel_base.specs.Rows.{IsRow}
use Rattle.keel_region.specs.declared.span.IndexEntry.{IndexEntry}
use Rattle.keel_region.specs.Order.{IsPutIn, AreInOrder}
use Rattle.keel_region.specs.Shown.{RegionShown, IndexShown}
use Rattle.keel_region.specs.Spans.{IsHeld, AreHeld, IsWithin}
use Rattle.keel_mem.specs.Shown.{by_number, row_in, rows_in, rows_by_arrival}
use Rattle.keel_mem.specs.Sound.{HoldsRows}
use Rattle.keel_mem.specs.Totals.{most_weight, row_bytes, weight_of, least_seq, greatest_seq, first_of}
use Rattle.keel_mem.proofs.Keeping.{bytes_at-append, bytes_at-placed, AreHeld-append, rows_in-append, length-rows_in}
use Rattle.keel_mem.proofs.Numbering.{by_number-permutes, arrives_last, greatest_seq-push, least_seq-push}

length_arrived : (bytes : List ℕ) (entries : List IndexEntry) → length (rows_by_arrival bytes entries) ≡ length entries
length_arrived bytes entries = length_permutation (rows_in bytes entries) (rows_by_arrival bytes entries) (by_number-permutes (rows_in bytes entries)) ∙ length-rows_in bytes entries

-- the spans of an entry are those at which its key and value were placed behind the bytes
pub record IsPlaced (bytes key value : List ℕ) (entry : IndexEntry) : Type 0 where
  pub key_start : entry.key.start ≡ length bytes
  pub key_length : entry.key.length ≡ length key
  pub value_start : entry.value.start ≡ length (bytes ++ key)
  pub value_length : entry.value.length ≡ length value

abbrev pub put_row : IndexEntry → List ℕ → List ℕ → Row
put_row entry key value = record { seq = entry.seq; kind = entry.kind; key = key; value = value }

module _ (bytes key value : List ℕ) (entry : IndexEntry) (placed : IsPlaced bytes key value entry) where
  key_within : IsWithin (bytes ++ key) entry.key
  key_within = omega (arith, length-append bytes key, placed.key_start, placed.key_length)

  own_row : row_in ((bytes ++ key) ++ value) entry ≡ put_row entry key value
  own_row =
      let first = bytes_at-append (bytes ++ key) value entry.key key_within ∙ bytes_at-placed bytes key entry.key placed.key_start placed.key_length in
      let second = bytes_at-placed (bytes ++ key) value entry.value placed.value_start placed.value_length in
      λ i. record { seq = entry.seq; kind = entry.kind; key = first i; value = second i }

  own_held : IsHeld ((bytes ++ key) ++ value) entry
  own_held =
      let size = length-append (bytes ++ key) value in
      record { key = omega (arith, size, key_within); value = omega (arith, size, placed.value_start, placed.value_length) }

  old_rows : (old : List IndexEntry) → AreHeld bytes old → rows_in ((bytes ++ key) ++ value) old ≡ rows_in bytes old
  old_rows old held = rows_in-append (bytes ++ key) value old (AreHeld-append bytes key old held) ∙ rows_in-append bytes key old held

  module _ (old new : List IndexEntry) (held : AreHeld bytes old) (put : IsPutIn old new entry) where
    old_arrived : rows_by_arrival ((bytes ++ key) ++ value) old ≡ rows_by_arrival bytes old
    old_arrived = ap by_number (old_rows old held)

    -- the row is the last to arrive
    pub put_arrives : All (λ row. row.seq < entry.seq) (rows_by_arrival bytes old)
        → rows_by_arrival ((bytes ++ key) ++ value) new ≡ rows_by_arrival bytes old ++ put_row entry key value ∷ []
    put_arrives below =
        let all : All (λ row. row.seq < entry.seq) (rows_by_arrival ((bytes ++ key) ++ value) old) = subst (All (λ (row : Row). row.seq < entry.seq)) (sym old_arrived) below in
        arrives_last ((bytes ++ key) ++ value) old new entry put all
        ∙ (λ i. old_arrived i ++ own_row i ∷ [])

    put_held : AreHeld ((bytes ++ key) ++ value) new
    put_held =
        let after = (bytes ++ key) ++ value in
        let stay = AreHeld-append (bytes ++ key) value old (AreHeld-append bytes key old held) in
        subst (AreHeld after) (sym put.is)
        (All-append (IsHeld after) (take put.place old) (entry ∷ drop put.place old) (All-take (IsHeld after) put.place old stay)
        (All-cons (IsHeld after) entry (drop put.place old) own_held (All-drop (IsHeld after) put.place old stay)))

    put_total : length bytes ≡ sum_by row_bytes (rows_in bytes old) → length ((bytes ++ key) ++ value) ≡ sum_by row_bytes (rows_in ((bytes ++ key) ++ value) new)
    put_total total =
        let after = (bytes ++ key) ++ value in
        let moved : IsPermutation (row_in after entry ∷ rows_in after old) (rows_in after (insert old put.place entry)) =
        IsPermutation-map (row_in after) (entry ∷ old) (insert old put.place entry) (IsPermutation-insert old put.place entry) in
        let sum = ap (λ (es : List IndexEntry). sum_by row_bytes (rows_in after es)) put.is
        ∙ sum_by_pushed row_bytes (row_in after entry) (rows_in after old) (rows_in after (insert old put.place entry)) moved in
        let one = ap row_bytes own_row in
        let rest = ap (sum_by row_bytes) (old_rows old held) in
        omega (arith, sum, one, rest, total, length-append (bytes ++ key) value, length-append bytes key)

    -- the room that the put uses weighs what the row does
    put_weight : (after : List ℕ) (entries : List IndexEntry) (free_bytes free_entries : ℕ) → after ≡ (bytes ++ key) ++ value
        → rows_by_arrival after entries ≡ rows_by_arrival bytes old ++ put_row entry key value ∷ []
        → 16 * (length old + free_entries) + (length bytes + free_bytes) ≤ most_weight → length key + length value ≤ free_bytes → 0 < free_entries
        → 16 * (length entries + (free_entries - 1)) + (length after + (free_bytes - (length key + length value))) ≤ most_weight
    put_weight after entries free_bytes free_entries whole arrived weighs_most fits some =
        let count : length entries ≡ length old + 1 =
        sym (length_arrived after entries) ∙ ap length arrived ∙ length-append (rows_by_arrival bytes old) (put_row entry key value ∷ [])
        ∙ ap (λ (n : ℕ). n + 1) (length_arrived bytes old) in
        let size : length after ≡ length bytes + (length key + length value) =
        omega (arith, ap length whole, length-append (bytes ++ key) value, length-append bytes key) in
        omega (arith, count, size, weighs_most, fits, some)

    -- what held of the parts holds of them behind the put
    pub put_sound : (region after : RegionShown) (index next : IndexShown) (free_bytes free_entries first last first_next : ℕ)
        → region.bytes ≡ bytes → index.entries ≡ old → next.entries ≡ new
        → after.bytes ≡ (bytes ++ key) ++ value → after.spare + (length key + length value) ≡ region.spare → next.spare + 1 ≡ index.spare → AreInOrder after.bytes next.entries
        → All (λ row. row.seq < entry.seq) (rows_by_arrival bytes old) → first_next ≡ first_of (rows_by_arrival bytes old) entry.seq
        → length bytes ≡ sum_by row_bytes (rows_in bytes old) → free_bytes ≤ region.spare → free_entries ≤ index.spare
        → All IsRow (rows_by_arrival bytes old) → IsRow (put_row entry key value) → entry.seq ≤ 2 ^ 56
        → 16 * (length old + free_entries) + (length bytes + free_bytes) ≤ most_weight → length key + length value ≤ free_bytes → 0 < free_entries
        → HoldsRows after next (free_bytes - (length key + length value)) (free_entries - 1) first_next entry.seq
    put_sound region after index next free_bytes free_entries first last first_next is_bytes is_old is_new whole spare places order below first_is total room free limits own within weighs_most fits some =
        let arrived : rows_by_arrival after.bytes next.entries ≡ rows_by_arrival bytes old ++ put_row entry key value ∷ [] = (λ i. rows_by_arrival (whole i) (is_new i)) ∙ put_arrives below in
        record {
          held = subst (λ (b : List ℕ). AreHeld b next.entries) (sym whole) (subst (AreHeld ((bytes ++ key) ++ value)) (sym is_new) put_held);
          order = order;
          room = omega arith;
          places = omega arith;
          first_is = first_is ∙ sym (ap least_seq arrived ∙ least_seq-push (rows_by_arrival bytes old) (put_row entry key value) below);
          last_is = sym (ap greatest_seq arrived ∙ greatest_seq-push (rows_by_arrival bytes old) (put_row entry key value) below);
          last_within = within;
          limits = subst (All IsRow) (sym arrived) (All-push IsRow (rows_by_arrival bytes old) (put_row entry key value) limits own);
          weight = put_weight after.bytes next.entries free_bytes free_entries whole arrived weighs_most fits some;
          total = ap length whole ∙ put_total total ∙ (λ i. sum_by row_bytes (rows_in (sym whole i) (sym is_new i)));
        }

first_of_some : (rows : List Row) (seq : ℕ) → 0 < length rows → first_of rows seq ≡ least_seq rows
first_of_some [] seq lt = absurd (omega arith)
first_of_some (row ∷ rows) seq lt = refl

pub first_where_none : (bytes : List ℕ) (entries : List IndexEntry) (seq : ℕ) → length entries ≡ 0 → first_of (rows_by_arrival bytes entries) seq ≡ seq
first_where_none bytes [] seq h = refl
first_where_none bytes (entry ∷ entries) seq h = absurd (omega (arith, h))

pub first_where_some : (bytes : List ℕ) (entries : List IndexEntry) (seq : ℕ) → 0 < length entries
    → first_of (rows_by_arrival bytes entries) seq ≡ least_seq (rows_by_arrival bytes entries)
first_where_some bytes entries seq h =
    first_of_some (rows_by_arrival bytes entries) seq (omega (arith, h, length_arrived bytes entries))

weight_sum : (rows : List Row) → weight_of rows ≡ 16 * length rows + sum_by row_bytes rows
weight_sum [] = refl
weight_sum (row ∷ rows) = omega (arith, sum_by-cons (λ (r : Row). 16 + row_bytes r) row rows, sum_by-cons row_bytes row rows, weight_sum rows)

-- the weight, from the number of the entries and of the bytes
pub weighs : (bytes : List ℕ) (entries : List IndexEntry) (size : ℕ) → size ≡ sum_by row_bytes (rows_in bytes entries) → 16 * length entries + size ≡ weight_of (rows_by_arrival bytes entries)
weighs bytes entries size total =
    let rows = rows_in bytes entries in
    let moved = sum_by-IsPermutation (λ (r : Row). 16 + row_bytes r) rows (rows_by_arrival bytes entries) (by_number-permutes rows) in
    omega (arith, moved, weight_sum rows, length-rows_in bytes entries, total)

-- what held of the parts holds of them with more room, where that weighs no more than a memtable may
pub reserved_sound : (region after : RegionShown) (index next : IndexShown) (old_bytes old_entries free_bytes free_entries first last : ℕ)
    → HoldsRows region index old_bytes old_entries first last → after.bytes ≡ region.bytes → next.entries ≡ index.entries
    → free_bytes ≤ after.spare → free_entries ≤ next.spare
    → weight_of (rows_by_arrival region.bytes index.entries) + (16 * free_entries + free_bytes) ≤ most_weight
    → HoldsRows after next free_bytes free_entries first last
reserved_sound region after index next old_bytes old_entries free_bytes free_entries first last sound same_bytes same_entries room places fits =
    let rows : rows_by_arrival after.bytes next.entries ≡ rows_by_arrival region.bytes index.entries = λ i. rows_by_arrival (same_bytes i) (same_entries i) in
    let weighed = weighs region.bytes index.entries (length region.bytes) sound.total in
    record {
      held = subst (λ (b : List ℕ). AreHeld b next.entries) (sym same_bytes) (subst (AreHeld region.bytes) (sym same_entries) sound.held);
      order = subst (λ (b : List ℕ). AreInOrder b next.entries) (sym same_bytes) (subst (AreInOrder region.bytes) (sym same_entries) sound.order);
      room = room;
      places = places;
      first_is = sound.first_is ∙ sym (ap least_seq rows);
      last_is = sound.last_is ∙ sym (ap greatest_seq rows);
      last_within = sound.last_within;
      limits = subst (All IsRow) (sym rows) sound.limits;
      total = ap length same_bytes ∙ sound.total ∙ (λ i. sum_by row_bytes (rows_in (sym same_bytes i) (sym same_entries i)));
      weight = omega (arith, ap length same_bytes, ap (λ (es : List IndexEntry). length es) same_entries, weighed, fits);
    }
