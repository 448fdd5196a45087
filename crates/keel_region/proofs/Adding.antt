-- An entry put in at its place.
use Rattle.std.proofs.Common.{ℕ, Some, List, get_or}
use Rattle.std.specs.Prelude.{insert}
use Rattle.keel_region.specs.declared.span.IndexEntry.{IndexEntry}
use Rattle.keel_region.specs.Order.{entry_before, Precedes, AreInOrder, IsNew}
use Rattle.keel_region.specs.Places.{IsPlaceOf}
use Rattle.keel_region.specs.Spans.{bytes_at}
use Rattle.keel_region.proofs.Halves.{insert_pairs}
use Rattle.keel_region.proofs.Orders.{comes_before-other}

pub put_in_order : (bytes : List ℕ) (entries : List IndexEntry) (entry : IndexEntry) (place : ℕ) → AreInOrder bytes entries → IsNew bytes entries entry
    → IsPlaceOf (entry_before bytes (bytes_at bytes entry.key) (Some entry.seq)) entries place → AreInOrder bytes (insert entries place entry)
put_in_order bytes entries entry place order fresh at =
    insert_pairs (Precedes bytes) entries place entry at.within order at.before
    (λ k d le lt.
    let other = get_or entries k d in
    comes_before-other (bytes_at bytes other.key) other.seq (bytes_at bytes entry.key) entry.seq (at.behind k d le lt) (fresh k d lt))
