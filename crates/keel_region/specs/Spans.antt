-- Spans of a region's bytes.
use Rattle.std.specs.Prelude.{ℕ, ◌+◌, ◌≤◌, List, length, take, drop, All}
use Rattle.keel_region.specs.declared.span.Span.{Span}
use Rattle.keel_region.specs.declared.span.IndexEntry.{IndexEntry}

-- the bytes of a span
abbrev pub bytes_at : List ℕ → Span → List ℕ
bytes_at bytes span = take span.length (drop span.start bytes)

-- a span lies among the bytes
abbrev pub IsWithin : List ℕ → Span → Type 0
IsWithin bytes span = span.start + span.length ≤ length bytes

-- both spans of an entry lie among the bytes
pub record IsHeld (bytes : List ℕ) (entry : IndexEntry) : Type 0 where
  pub key : IsWithin bytes entry.key
  pub value : IsWithin bytes entry.value

-- the spans of every entry lie among the bytes
abbrev pub AreHeld : List ℕ → List IndexEntry → Type 0
AreHeld bytes entries = All (IsHeld bytes) entries
