-- The records of bytes hold bytes.
use Rattle.std.specs.Prelude.{All}
use Rattle.std.specs.List.{AllByRecursion}
use Rattle.std.proofs.Common.{ℕ, zero, suc, ◌<◌, true, false, List, [], ◌∷◌, ◌++◌, length, Option, Some, None, ap, subst, arith}
use Rattle.std.specs.Int.{w16, w32, to_le_bytes}
use Rattle.std.proofs.lemmas.List.Elements.{All-head, All-tail}
use Rattle.keel_fields.proofs.Fields.{IsBytes}
use Rattle.keel_frag.specs.Checksum.{crc32c, mask}
use Rattle.keel_frag.specs.declared.record.LogRecord.{LogRecord}
use Rattle.keel_frag.specs.Pieces.{Piece, fragment, trailer, fragment_bytes, type_of, spelling_of, spelling, Progress, start, after, after_all, extended}
use Rattle.keel_frag.specs.Reading.{AreRecords}

-- each number is a byte
abbrev pub AreSmall : List ℕ → Type 0
AreSmall bytes = AllByRecursion (λ (byte : ℕ). byte < 256) bytes

pub small_of : (bytes : List ℕ) → All (λ byte. byte < 256) bytes → AreSmall bytes
small_of [] all = tt
small_of (byte ∷ bytes) all = (All-head (λ b. b < 256) byte bytes all, small_of bytes (All-tail (λ b. b < 256) byte bytes all))

pub fits_of : (bytes : List ℕ) → AreSmall bytes → IsBytes bytes
fits_of [] small i = omega arith
fits_of (byte ∷ bytes) small zero = small.0
fits_of (byte ∷ bytes) small (suc i) = fits_of bytes small.1 i

front_small : (xs ys : List ℕ) → AreSmall (xs ++ ys) → AreSmall xs
front_small [] ys h = tt
front_small (x ∷ xs) ys h = (h.0, front_small xs ys h.1)

back_small : (xs ys : List ℕ) → AreSmall (xs ++ ys) → AreSmall ys
back_small [] ys h = h
back_small (x ∷ xs) ys h = back_small xs ys h.1

both_small : (xs ys : List ℕ) → AreSmall xs → AreSmall ys → AreSmall (xs ++ ys)
both_small [] ys h k = k
both_small (x ∷ xs) ys h k = (h.0, both_small xs ys h.1 k)

-- the records hold bytes
abbrev pub HoldSmall : List LogRecord → Type 0
HoldSmall records = AllByRecursion (λ (r : LogRecord). AreSmall r.payload) records

push_small : (records : List LogRecord) (r : LogRecord) → HoldSmall records → AreSmall r.payload → HoldSmall (records ++ r ∷ [])
push_small [] r h k = (k, tt)
push_small (first ∷ records) r h k = (h.0, push_small records r h.1 k)

abbrev BegunSmall : Option LogRecord → Type 0
BegunSmall None = Unit {0}
BegunSmall (Some r) = AreSmall r.payload

record SmallSoFar (p : Progress) : Type 0 where
  done : HoldSmall p.done
  begun : BegunSmall p.begun

extended_small : (begun : Option LogRecord) (offset : ℕ) (payload : List ℕ) → BegunSmall begun → AreSmall payload → AreSmall (extended begun offset payload).payload
extended_small None offset payload h k = k
extended_small (Some r) offset payload h k = both_small r.payload payload h k

fragment_small : (kind : ℕ) (payload : List ℕ) → AreSmall (fragment_bytes kind payload) → AreSmall payload
unfolding fragment_bytes
fragment_small kind payload h =
    (back_small (to_le_bytes w16 (length payload)) (kind ∷ payload) (back_small (to_le_bytes w32 (mask (crc32c (kind ∷ payload)))) (to_le_bytes w16 (length payload) ++ kind ∷ payload) h)).1

small_after : (p : Progress) (x : Piece) → SmallSoFar p → AreSmall (spelling_of x) → SmallSoFar (after p x)
small_after p (trailer n) h small = record { done = h.done; begun = h.begun }
small_after p (fragment first true payload) h small = record {
  done = push_small p.done (extended p.begun p.offset payload) h.done (extended_small p.begun p.offset payload h.begun (fragment_small (type_of first true) payload small));
  begun = tt;
}
small_after p (fragment first false payload) h small = record {
  done = h.done;
  begun = extended_small p.begun p.offset payload h.begun (fragment_small (type_of first false) payload small);
}

small_after_all : (p : Progress) (pieces : List Piece) → SmallSoFar p → AreSmall (spelling pieces) → SmallSoFar (after_all p pieces)
small_after_all p [] h small = h
small_after_all p (x ∷ pieces) h small =
    small_after_all (after p x) pieces (small_after p x h (front_small (spelling_of x) (spelling pieces) small)) (back_small (spelling_of x) (spelling pieces) small)

pub records_small : (bytes : List ℕ) (all : List LogRecord) (end : ℕ) → AreRecords bytes all end → AreSmall bytes → HoldSmall all
records_small bytes all end (begun, h) small =
    let laid : AreSmall (spelling h.pieces ++ h.laid.rest) = subst AreSmall h.laid.spelled small in
    let so_far = small_after_all start h.pieces (record { done = tt; begun = tt }) (front_small (spelling h.pieces) h.laid.rest laid) in
    subst HoldSmall (ap (λ (p : Progress). p.done) h.says) so_far.done
