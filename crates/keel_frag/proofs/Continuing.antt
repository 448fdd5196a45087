-- Records written one behind the other.
use Rattle.std.proofs.Common.{◌≡◌, ℕ, ◌+◌, List, [], ◌∷◌, ◌++◌, length, refl, sym, ap, subst, ◌∙◌, arith}
use Rattle.std.proofs.lemmas.List.{append_assoc, append-nil, length-append}
use Rattle.keel_frag.specs.declared.record.LogRecord.{LogRecord}
use Rattle.keel_frag.specs.Pieces.{spelling_of}
use Rattle.keel_frag.specs.Reading.{IsWholeLog}
use Rattle.keel_frag.specs.Writing.{first_offset, record_bytes, records_bytes, records_at, WritingAddsAll, WritingMakes, PayloadsStay, WritingGoesOn}
use Rattle.keel_frag.proofs.Laying.{size_is, size_positive}
use Rattle.keel_frag.proofs.Adding.{adding}
use Rattle.keel_frag.proofs.Spelled.{are_bytes}

-- a whole log with other names for the same
same_log : (bytes other : List ℕ) (all some : List LogRecord) → bytes ≡ other → all ≡ some → IsWholeLog bytes all → IsWholeLog other some
same_log bytes other all some e f h = subst (λ (b : List ℕ). IsWholeLog b some) e (subst (λ (l : List LogRecord). IsWholeLog bytes l) f h)

pub adding_all : WritingAddsAll
unfolding records_bytes records_at
adding_all bytes all [] h = same_log bytes (bytes ++ []) all (all ++ []) (sym (append-nil bytes)) (sym (append-nil all)) h
adding_all bytes all (payload ∷ payloads) h =
    let new = record_bytes (length bytes) payload in
    let found : LogRecord = record { offset = first_offset (length bytes); payload = payload } in
    let one : IsWholeLog (bytes ++ new) (all ++ found ∷ []) = adding bytes all payload new h (are_bytes (length bytes) payload) in
    let later = adding_all (bytes ++ new) (all ++ found ∷ []) payloads one in
    let offset : length (bytes ++ new) ≡ length bytes + length new = length-append bytes new in
    same_log _ _ _ _
    (append_assoc bytes new (records_bytes (length (bytes ++ new)) payloads) ∙ ap (λ (n : ℕ). bytes ++ (new ++ records_bytes n payloads)) offset)
    (append_assoc all (found ∷ []) (records_at (length (bytes ++ new)) payloads) ∙ ap (λ (n : ℕ). all ++ (found ∷ records_at n payloads)) offset)
    later

nothing : IsWholeLog [] []
nothing = record {
  pieces = [];
  laid = record { rest = []; spelled = refl; in_order = tt };
  no_more = λ x more. omega (arith, size_positive 0 x more.in_order.0.0, size_is x, ap length more.spelled, length-append (spelling_of x ++ []) more.rest, length-append (spelling_of x) []);
  says = refl;
}

pub making : WritingMakes
making payloads = adding_all [] [] payloads nothing

pub payloads_stay : PayloadsStay
unfolding records_at
payloads_stay offset [] = refl
payloads_stay offset (payload ∷ payloads) = ap (λ (l : List (List ℕ)). payload ∷ l) (payloads_stay (offset + length (record_bytes offset payload)) payloads)

pub going_on : WritingGoesOn
unfolding records_bytes
going_on offset [] back = ap (λ (n : ℕ). records_bytes n back) (omega arith)
going_on offset (payload ∷ front) back =
    let new = record_bytes offset payload in
    let later = records_bytes (offset + length new) front in
    let sum : offset + length new + length later ≡ offset + length (new ++ later) = omega (arith, length-append new later) in
    ap (λ (b : List ℕ). new ++ b) (going_on (offset + length new) front back)
    ∙ sym (append_assoc new later (records_bytes (offset + length new + length later) back))
    ∙ ap (λ (n : ℕ). (new ++ later) ++ records_bytes n back) sum
