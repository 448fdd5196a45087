-- How a part of a piece goes onto a line.
use Rattle.std.proofs.Common.{◌≡◌, ◌<◌, ◌≤◌, ◌+◌, ℕ, suc, min, true, false, true≢false, List, [], ◌∷◌, ◌++◌, length, take, drop, sym, ap, ◌∙◌, subst, refl, arith, append_assoc, append-nil, length-append, length-take-le, take-append-drop, take_all, drop_of_length-le, Bool, nat_lt, ltb-true, ltb-false}
use Rattle.keel_lines.specs.Lines.{longest_line, length_before, IsUnbroken}
use Rattle.keel_lines.specs.Pieces.{GoesOn, IsBegun, IsTooLong, IsTooMuch}
use Rattle.keel_lines.proofs.Texts.{at_newline, length_before-le, unbroken_append, unbroken_before, unbroken_front}

pub take_past : (line bytes : List ℕ) (count : ℕ) → take (length line + count) (line ++ bytes) ≡ line ++ take count bytes
take_past [] bytes count = let none : 0 + count ≡ count = omega arith in rw none refl
take_past (byte ∷ line) bytes count =
    let rest = take_past line bytes count in
    let more : length (byte ∷ line) + count ≡ suc (length line + count) = omega arith in
    rw more (ap (λ l. byte ∷ l) rest)

-- the line and what the piece has of it
unbroken_part : (line bytes : List ℕ) → IsUnbroken line → IsUnbroken (take (length line + length_before bytes) (line ++ bytes))
unbroken_part line bytes all =
    subst IsUnbroken (sym (take_past line bytes (length_before bytes))) (unbroken_append line (take (length_before bytes) bytes) all (unbroken_before bytes))

pub too_long : (line bytes : List ℕ) (room : ℕ) → IsUnbroken line → longest_line < min (length line + length_before bytes) room → IsTooLong room (line ++ bytes)
too_long line bytes room all long = record {
  unbroken = unbroken_front (longest_line + 1) (length line + length_before bytes) (line ++ bytes) (omega (arith, long)) (unbroken_part line bytes all);
  long = omega (arith, long, length-append line bytes, length_before-le bytes);
}

pub too_much : (line bytes : List ℕ) (room : ℕ) → IsUnbroken line → min (length line + length_before bytes) room ≤ longest_line
    → room < length line + min (length bytes) (length_before bytes + 1) → IsTooMuch room (line ++ bytes)
too_much line bytes room all short more = record {
  unbroken = unbroken_front room (length line + length_before bytes) (line ++ bytes) (omega (arith, more)) (unbroken_part line bytes all);
  room_is = omega (arith, short, more);
  more = omega (arith, more, length-append line bytes);
}

line_length : (line bytes : List ℕ) → length (line ++ take (length_before bytes) bytes) ≡ length line + length_before bytes
line_length line bytes =
    omega (arith, length-append line (take (length_before bytes) bytes), length-take-le (length_before bytes) bytes (length_before-le bytes))

-- the newline is among the bytes
pub goes_to_newline : (line bytes : List ℕ) (room : ℕ) → IsBegun room line → length_before bytes < length bytes
    → min (length line + length_before bytes) room ≤ longest_line → length line + length_before bytes + 1 ≤ room
    → GoesOn true line bytes (line ++ take (length_before bytes) bytes) (drop (suc (length_before bytes)) bytes) room
goes_to_newline line bytes room begun some short fits =
    let count = length_before bytes in
    let front = take count bytes in
    let rest = drop (suc count) bytes in
    let cut : bytes ≡ front ++ 10 ∷ rest = sym (take-append-drop count bytes) ∙ ap (λ l. front ++ l) (at_newline bytes some) in
    record {
      same = ap (λ l. line ++ l) cut ∙ sym (append_assoc line front (10 ∷ rest)) ∙ sym (append_assoc (line ++ front) (10 ∷ []) rest);
      unbroken = unbroken_append line front begun.unbroken (unbroken_before bytes);
      short = omega (arith, line_length line bytes, short, fits);
      fits = omega (arith, line_length line bytes, fits, length-append (line ++ front) (10 ∷ []));
      longer = λ other. absurd (true≢false other);
      all = λ other. absurd (true≢false other);
    }

-- it isn't
pub goes_to_end : (line bytes : List ℕ) (room : ℕ) → IsBegun room line → 0 < length bytes → length_before bytes ≡ length bytes
    → min (length line + length_before bytes) room ≤ longest_line → length line + length bytes ≤ room
    → GoesOn false line bytes (line ++ take (length_before bytes) bytes) [] room
goes_to_end line bytes room begun some whole short fits =
    let front = take (length_before bytes) bytes in
    let cut : front ≡ bytes = rw whole (take_all (length bytes) bytes (omega arith)) in
    record {
      same = sym (ap (λ l. line ++ l) cut) ∙ sym (append-nil (line ++ front)) ∙ sym (append-nil (line ++ front ++ []));
      unbroken = unbroken_append line front begun.unbroken (unbroken_before bytes);
      short = omega (arith, line_length line bytes, short, fits, whole);
      fits = rw append-nil (omega (arith, line_length line bytes, fits, whole));
      longer = λ _. omega (arith, line_length line bytes, some, whole);
      all = λ _. refl;
    }

pub goes_on : (line bytes : List ℕ) (room count through : ℕ) → count ≡ length_before bytes → through ≡ min (length bytes) (count + 1)
    → IsBegun room line → 0 < length bytes → min (length line + count) room ≤ longest_line → length line + through ≤ room
    → GoesOn (nat_lt count through) line bytes (line ++ take count bytes) (drop through bytes) room
goes_on line bytes room count through count_is through_is begun some short fits =
    let least = length_before-le bytes in
    let mine : (found : Bool) → nat_lt count through ≡ found → GoesOn found line bytes (line ++ take count bytes) (drop through bytes) room =
    λ found test. (elim found as (λ v. nat_lt count through ≡ v → GoesOn v line bytes (line ++ take count bytes) (drop through bytes) room) [
      | true ↦ λ less.
          let below = ltb-true count through less in
          let to : through ≡ suc (length_before bytes) = omega (arith, below, count_is, through_is) in
          rw (to, count_is)
          (goes_to_newline line bytes room begun (omega (arith, below, count_is, through_is)) (omega (arith, short, count_is)) (omega (arith, fits, to)))
      | false ↦ λ more.
          let past = ltb-false count through more in
          let whole : length_before bytes ≡ length bytes = omega (arith, past, count_is, through_is, least) in
          let none : drop through bytes ≡ [] = drop_of_length-le bytes (omega (arith, past, through_is, whole, count_is)) in
          rw (none, count_is) (goes_to_end line bytes room begun some whole (omega (arith, short, count_is)) (omega (arith, fits, through_is, past, whole, count_is)))
    ]) test
    in
    mine (nat_lt count through) refl
