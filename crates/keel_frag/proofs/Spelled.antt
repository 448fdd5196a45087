-- The bytes of a record are those of its one cut.
use Rattle.std.proofs.Common.{◌≡◌, ℕ, zero, suc, ◌+◌, ◌-◌, ◌<◌, ◌≤◌, Bool, true, false, ltb, List, [], ◌∷◌, ◌++◌, length, take, drop, if◌then◌else◌, refl, sym, ap, subst, ◌∙◌, arith, lit≤}
use Rattle.std.proofs.lemmas.List.{append_cancel_left, take_at, take-append-drop, length-append, length-take, length-drop}
use Rattle.std.proofs.lemmas.Bool.{ltb-true, ltb-false}
use Rattle.keel_frag.specs.Pieces.{Piece, fragment, trailer, block, room_at, spelling}
use Rattle.keel_frag.specs.Writing.{IsCut, AreRecordBytes, fragments_behind, fragments_of, all_fragments, record_pieces, record_bytes, RecordBytes}

-- ---- the fragments are a cut

none_behind : (room left : ℕ) → 7 ≤ room → fragments_behind room left ≡ 0 → 7 + left ≤ room
none_behind room left long e = omega arith

more_left : (room left more : ℕ) → fragments_behind room left ≡ suc more → room - 7 < left
more_left room left more e = omega arith

one_less : (room left more : ℕ) → fragments_behind room left ≡ suc more → fragments_behind block (left - (room - 7)) ≡ more
one_less room left more e = omega arith

fragments_cut : (more room : ℕ) (first : Bool) (left : List ℕ) → 7 ≤ room → fragments_behind room (length left) ≡ more → IsCut room first left (fragments_of more room first left)
unfolding fragments_of
fragments_cut zero room first left long e = (refl, refl, none_behind room (length left) long e, refl)
fragments_cut (suc more) room first left long e =
    let lt : room - 7 < length left = more_left room (length left) more e in
    let size : 7 + length (take (room - 7) left) ≡ room = omega (arith, length-take (room - 7) left) in
    let later : length (drop (room - 7) left) ≡ length left - (room - 7) = length-drop (room - 7) left in
    let some : 0 < length (drop (room - 7) left) = omega arith in
    let count : fragments_behind block (length (drop (room - 7) left)) ≡ more = ap (fragments_behind block) later ∙ one_less room (length left) more e in
    (refl, size, (drop (room - 7) left, sym (take-append-drop (room - 7) left), some, fragments_cut more block false (drop (room - 7) left) (lit≤ tt) count))

record_cut : (offset : ℕ) (payload : List ℕ) → IsCut (room_at offset) true payload (record_pieces offset payload)
record_cut offset payload =
    elim (ltb (room_at offset) 7) as (λ b. ltb (room_at offset) 7 ≡ b → IsCut (room_at offset) true payload (if b then trailer (room_at offset) ∷ all_fragments block payload else all_fragments (room_at offset) payload)) [
      | true ↦ λ t. (ltb-true (room_at offset) 7 t, refl, fragments_cut (fragments_behind block (length payload)) block true payload (lit≤ tt) refl)
      | false ↦ λ t. fragments_cut (fragments_behind (room_at offset) (length payload)) (room_at offset) true payload (ltb-false (room_at offset) 7 t) refl
    ] refl

-- ---- and there is no other

cut_once : (xs ys : List Piece) (room : ℕ) (first : Bool) (payload : List ℕ) → IsCut room first payload xs → IsCut room first payload ys → xs ≡ ys
cut_once [] ys room first payload h k = absurd h
cut_once (x ∷ xs) [] room first payload h k = absurd k
cut_once (trailer n ∷ xs) (trailer m ∷ ys) room first payload h k =
    let later = cut_once xs ys block first payload h.2 k.2 in
    λ i. trailer ((h.1 ∙ sym k.1) i) ∷ later i
cut_once (trailer n ∷ xs) (fragment g true q ∷ ys) room first payload h k = absurd (omega (arith, h.0, k.2))
cut_once (trailer n ∷ xs) (fragment g false q ∷ ys) room first payload h k = absurd (omega (arith, h.0, k.1))
cut_once (fragment f true p ∷ xs) (trailer m ∷ ys) room first payload h k = absurd (omega (arith, k.0, h.2))
cut_once (fragment f false p ∷ xs) (trailer m ∷ ys) room first payload h k = absurd (omega (arith, k.0, h.1))
cut_once (fragment f true p ∷ xs) (fragment g true q ∷ ys) room first payload h k =
    λ i. fragment ((h.0 ∙ sym k.0) i) true ((h.1 ∙ sym k.1) i) ∷ (h.3 ∙ sym k.3) i
cut_once (fragment f true p ∷ xs) (fragment g false q ∷ ys) room first payload h k =
    absurd (omega (arith, h.2, ap length h.1, k.1, ap length k.2.1, length-append q k.2.0, k.2.2))
cut_once (fragment f false p ∷ xs) (fragment g true q ∷ ys) room first payload h k =
    absurd (omega (arith, k.2, ap length k.1, h.1, ap length h.2.1, length-append p h.2.0, h.2.2))
cut_once (fragment f false p ∷ xs) (fragment g false q ∷ ys) room first payload h k =
    let parts : p ++ h.2.0 ≡ q ++ k.2.0 = sym h.2.1 ∙ k.2.1 in
    let size : length p ≡ length q = omega (arith, h.1, k.1) in
    let same : p ≡ q = sym (take_at p h.2.0 (length p) refl) ∙ ap (take (length p)) parts ∙ take_at q k.2.0 (length p) (sym size) in
    let rests : h.2.0 ≡ k.2.0 = append_cancel_left p h.2.0 k.2.0 (parts ∙ ap (λ (z : List ℕ). z ++ k.2.0) (sym same)) in
    let later : xs ≡ ys = cut_once xs ys block false h.2.0 h.2.3 (subst (λ (z : List ℕ). IsCut block false z ys) (sym rests) k.2.3) in
    λ i. fragment ((h.0 ∙ sym k.0) i) false (same i) ∷ later i

pub are_bytes : (offset : ℕ) (payload : List ℕ) → AreRecordBytes offset payload (record_bytes offset payload)
unfolding record_bytes
are_bytes offset payload = record { pieces = record_pieces offset payload; cut = record_cut offset payload; spelled = refl }

pub one_spelling : (offset : ℕ) (payload bytes : List ℕ) → AreRecordBytes offset payload bytes → bytes ≡ record_bytes offset payload
unfolding record_bytes
one_spelling offset payload bytes h =
    h.spelled ∙ ap spelling (cut_once h.pieces (record_pieces offset payload) (room_at offset) true payload h.cut (record_cut offset payload))

pub record_bytes_law : RecordBytes
record_bytes_law offset payload bytes =
    (one_spelling offset payload bytes, λ e. subst (λ (b : List ℕ). AreRecordBytes offset payload b) (sym e) (are_bytes offset payload))
