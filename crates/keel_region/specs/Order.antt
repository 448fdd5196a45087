-- The order of changes: by key, and of one key the greatest sequence first.
use Rattle.std.specs.Prelude.{◌≡◌, ◌≢◌, ℕ, ◌≤◌, Bool, true, ◌||◌, ◌&&◌, nat_lt, List, length, insert, All, AllPairs, Option, Some, None}
use Rattle.keel_base.specs.Keys.{key_lt, key_eq}
use Rattle.keel_region.specs.declared.span.IndexEntry.{IndexEntry}
use Rattle.keel_region.specs.Spans.{bytes_at}

-- the lesser key comes before, and of one key the greater sequence
abbrev pub comes_before : List ℕ → ℕ → List ℕ → ℕ → Bool
comes_before key seq other other_seq = key_lt key other || (key_eq key other && nat_lt other_seq seq)

-- whether an entry comes before a key at a sequence, or with none before every entry of the key
abbrev pub entry_before : List ℕ → List ℕ → Option ℕ → IndexEntry → Bool
entry_before bytes key None entry = key_lt (bytes_at bytes entry.key) key
entry_before bytes key (Some seq) entry = comes_before (bytes_at bytes entry.key) entry.seq key seq

-- one entry comes before another
abbrev pub Precedes : List ℕ → IndexEntry → IndexEntry → Type 0
Precedes bytes entry other = comes_before (bytes_at bytes entry.key) entry.seq (bytes_at bytes other.key) other.seq ≡ true

-- each entry comes before those behind it
abbrev pub AreInOrder : List ℕ → List IndexEntry → Type 0
AreInOrder bytes entries = AllPairs (Precedes bytes) entries

-- whether an entry has that key
abbrev pub has_key : List ℕ → List ℕ → IndexEntry → Bool
has_key bytes key entry = key_eq (bytes_at bytes entry.key) key

-- no entry has both the key and the sequence of this one
abbrev pub IsNew : List ℕ → List IndexEntry → IndexEntry → Type 0
IsNew bytes entries entry = All (λ other. bytes_at bytes other.key ≡ bytes_at bytes entry.key → other.seq ≢ entry.seq) entries

-- the new list is the old one with this entry put in somewhere
pub record IsPutIn (old new : List IndexEntry) (entry : IndexEntry) : Type 0 where
  pub place : ℕ
  pub within : place ≤ length old
  pub is : new ≡ insert old place entry
