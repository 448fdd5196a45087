-- What the lines that were given are of the input.
use Rattle.std.proofs.Common.{◌≡◌, ◌⊎◌, inl, inr, ◌<◌, ◌≤◌, ◌+◌, ◌-◌, ℕ, suc, Bool, true, false, true≢false, Option, None, Some, List, [], ◌∷◌, ◌++◌, length, take, drop, sym, ap, ◌∙◌, subst, refl, arith, append_assoc, append-nil, length-append, length-take-le}
use Rattle.std.proofs.lemmas.List.{take-append-le}
use Rattle.std.proofs.KnownBytes.{Consumes-nil, Consumes-trans, Consumes-kept}
use Rattle.std.specs.List.{AllByRecursion}
use Rattle.std.specs.Io.KnownBytes.{Consumes, IsAtEnd, Keeps, prepend_known}
use Rattle.keel_lines.specs.Calls.{LinesView, left}
use Rattle.keel_lines.specs.Delivered.{Delivered}
use Rattle.keel_lines.specs.Inputs.{IsFront}
use Rattle.keel_lines.specs.Laws as law
use Rattle.keel_lines.specs.Lines.{longest_line, longest_input, lines_of, whole_lines, length_before, IsUnbroken, EndsLine}
use Rattle.keel_lines.specs.Pieces.{mark_if, IsTooLong}
use Rattle.keel_lines.proofs.Lefts.{at_end}
use Rattle.keel_lines.proofs.Parts.{take_past}
use Rattle.keel_lines.proofs.Texts.{ends_line, last_line, lines_append, lines_of-first, length_before-le, long_line, none_whole, one_line, whole_append}

-- ---- a line more

given_line : (newline : Bool) (line : List ℕ) → IsUnbroken line → (newline ≡ false → 0 < length line) → lines_of (line ++ mark_if newline) ≡ line ∷ []
given_line true line all some = one_line line [] all
given_line false line all some = rw append-nil (last_line line all (some refl))

ends_given : (newline : Bool) (bytes line : List ℕ) → (newline ≡ false → ⊥) → EndsLine (bytes ++ (line ++ mark_if newline))
ends_given true bytes line found = subst EndsLine (append_assoc bytes line (10 ∷ [])) (ends_line (bytes ++ line))
ends_given false bytes line found = absurd (found refl)

ends_open : (newline ended : Bool) (P : Type 0) → ended ≡ true → (newline ≡ true → ended ≡ false) → (newline ≡ false → P) → P
ends_open true ended P met going last = absurd (true≢false (sym met ∙ going refl))
ends_open false ended P met going last = last refl

all_and_one : (P : List ℕ → Type 0) (lines : List (List ℕ)) (line : List ℕ) → AllByRecursion P lines → P line → AllByRecursion P (lines ++ line ∷ [])
all_and_one P [] line all one = (one, tt)
all_and_one P (first ∷ lines) line all one = (all.0, all_and_one P lines line all.1 one)

pub begins : law.Begins
begins view none going = record {
  bytes = [];
  taken = Consumes-nil (left view);
  passed_is = none;
  within = omega (arith, none);
  lines_are = refl;
  short = tt;
  whole = λ _. tt;
  last = λ met. absurd (true≢false (sym met ∙ going));
}

pub adds_line : law.AddsLine
adds_line input old new lines line so_far gives =
    let more = line ++ mark_if gives.newline in
    record {
      bytes = so_far.bytes ++ more;
      taken = Consumes-trans input (left old) (left new) so_far.bytes more so_far.taken gives.taken;
      passed_is = omega (arith, gives.passed_is, so_far.passed_is, length-append so_far.bytes more);
      within = gives.within;
      lines_are =
          lines_append so_far.bytes more (so_far.whole gives.open_before) ∙ ap (λ l. l ++ lines_of more) so_far.lines_are
          ∙ ap (λ l. lines ++ l) (given_line gives.newline line gives.unbroken (λ none. (gives.last none).some));
      short = all_and_one (λ l. length l ≤ longest_line) lines line so_far.short gives.short;
      whole = λ going. ends_given gives.newline so_far.bytes line (λ none. true≢false (sym (gives.last none).ended ∙ going));
      last = λ met. ends_open gives.newline new.ended (IsAtEnd (left new)) met gives.open_behind (λ none. at_end new.pending new.remaining (gives.last none).pending (gives.last none).at_end);
    }

pub holds_lines : law.HoldsLines
holds_lines input old new lines so_far held = record {
  bytes = so_far.bytes;
  taken = Consumes-kept input (left old) (left new) so_far.bytes so_far.taken held.same;
  passed_is = held.passed_is ∙ so_far.passed_is;
  within = omega (arith, held.passed_is, so_far.within);
  lines_are = so_far.lines_are;
  short = so_far.short;
  whole = λ _. so_far.whole held.open_before;
  last = λ met. absurd (true≢false (sym met ∙ held.open_behind));
}

pub ends_lines : law.EndsLines
ends_lines input old new lines so_far finished = record {
  bytes = so_far.bytes;
  taken = Consumes-kept input (left old) (left new) so_far.bytes so_far.taken finished.same;
  passed_is = finished.passed_is ∙ so_far.passed_is;
  within = omega (arith, finished.passed_is, so_far.within);
  lines_are = so_far.lines_are;
  short = so_far.short;
  whole = λ going. absurd (true≢false (sym finished.ended ∙ going));
  last = λ met. at_end new.pending new.remaining finished.pending finished.at_end;
}

-- what was given and what is held was taken
taken_of : (input remaining : Option (List ℕ)) (bytes pending : List ℕ) → Consumes input (prepend_known pending remaining) bytes → Consumes input remaining (bytes ++ pending)
taken_of None remaining bytes pending taken = tt
taken_of (Some input) None bytes pending taken = absurd taken
taken_of (Some input) (Some rest) bytes pending taken = taken ∙ sym (append_assoc bytes pending rest)

pub few_taken : law.FewTaken
few_taken input view lines so_far few = record {
  taken = so_far.bytes ++ view.pending;
  consumed = taken_of input view.remaining so_far.bytes view.pending so_far.taken;
  few = omega (arith, few, so_far.passed_is, length-append so_far.bytes view.pending);
}

-- ---- of an input that is told

-- what was given is a front of it
front_of : (input bytes : List ℕ) (lines : List (List ℕ)) (rest : Option (List ℕ)) (ended : Bool) → Consumes (Some input) rest bytes → length bytes ≤ longest_input
    → lines_of bytes ≡ lines → (ended ≡ false → EndsLine bytes) → (ended ≡ true → IsAtEnd rest) → IsFront input bytes lines
front_of input bytes lines None ended taken within lines_are whole last = absurd taken
front_of input bytes lines (Some rest) false taken within lines_are whole last =
    record { rest = rest; input_is = taken; within = within; lines_are = lines_are; whole = inl (whole refl) }
front_of input bytes lines (Some rest) true taken within lines_are whole last =
    record { rest = rest; input_is = taken; within = within; lines_are = lines_are; whole = inr (last refl) }

given_front : (input : List ℕ) (view : LinesView) (lines : List (List ℕ)) (so_far : Delivered (Some input) view lines) → IsFront input so_far.bytes lines
given_front input view lines so_far =
    front_of input so_far.bytes lines (left view) view.ended so_far.taken (omega (arith, so_far.passed_is, so_far.within)) so_far.lines_are so_far.whole so_far.last

-- the lines of a front come first
front_first : (input front rest : List ℕ) (lines : List (List ℕ)) → input ≡ front ++ rest → lines_of front ≡ lines → EndsLine front ⊎ (rest ≡ [])
    → (more : List (List ℕ)) × (lines_of input ≡ lines ++ more)
front_first input front rest lines input_is lines_are (inl ends) =
    (lines_of rest, ap lines_of input_is ∙ lines_append front rest ends ∙ ap (λ l. l ++ lines_of rest) lines_are)
front_first input front rest lines input_is lines_are (inr none) =
    ([], ap lines_of (input_is ∙ ap (λ l. front ++ l) none ∙ append-nil front) ∙ lines_are ∙ sym (append-nil lines))

pub are_first : law.FirstGiven
are_first input view lines so_far =
    let front = given_front input view lines so_far in
    let first = front_first input so_far.bytes front.rest lines front.input_is front.lines_are front.whole in
    record { front = so_far.bytes; is_front = front; more = first.0; lines_are = first.1 }

all_bytes : (input bytes : List ℕ) (before now : Option (List ℕ)) → Consumes (Some input) before bytes → Keeps before now → IsAtEnd now → input ≡ bytes
all_bytes input bytes None now taken kept ended = absurd taken
all_bytes input bytes (Some rest) None taken kept ended = absurd kept
all_bytes input bytes (Some rest) (Some same) taken kept ended = taken ∙ ap (λ l. bytes ++ l) (sym kept ∙ ended) ∙ append-nil bytes

pub are_all : law.AllGiven
are_all input old new lines so_far finished =
    let whole = all_bytes input so_far.bytes (left old) (left new) so_far.taken finished.same (at_end new.pending new.remaining finished.pending finished.at_end) in
    record { lines_are = ap lines_of whole ∙ so_far.lines_are; short = omega (arith, ap length whole, so_far.passed_is, so_far.within) }

-- what is held and what the source has left, where that is told
split : (input bytes pending : List ℕ) (remaining : Option (List ℕ)) → Consumes (Some input) (prepend_known pending remaining) bytes
    → (rest : List ℕ) × (remaining ≡ Some rest) × (input ≡ bytes ++ (pending ++ rest))
split input bytes pending None taken = absurd taken
split input bytes pending (Some rest) taken = (rest, refl, taken)

next_is_long : (bytes more : List ℕ) (room : ℕ) → IsTooLong room bytes
    → (line : List ℕ) × (rest : List (List ℕ)) × (lines_of (bytes ++ more) ≡ line ∷ rest) × (longest_line < length line)
next_is_long bytes more room long =
    let all = bytes ++ more in
    let size = length-append bytes more in
    let front : IsUnbroken (take (suc longest_line) all) =
    rw (take-append-le (suc longest_line) bytes more (omega (arith, long.long))) long.unbroken
    in
    let far = long_line longest_line all front (omega (arith, long.long, size)) in
    let cut = length-take-le (length_before all) all (length_before-le all) in (
      take (length_before all) all,
      lines_of (drop (suc (length_before all)) all),
      lines_of-first all (omega (arith, long.long, size)),
      omega (arith, cut, far),
    )

pub long_is_next : law.LongIsNext
long_is_next input view lines so_far going long =
    let told = split input so_far.bytes view.pending view.remaining so_far.taken in
    let next = next_is_long view.pending told.0 (longest_input - view.passed) long in
    record {
      front = so_far.bytes;
      is_front = given_front input view lines so_far;
      room = omega (arith, long.long, so_far.passed_is, so_far.within);
      line = next.0;
      more = next.1;
      lines_are =
          ap lines_of told.2 ∙ lines_append so_far.bytes (view.pending ++ told.0) (so_far.whole going) ∙ ap (λ l. l ++ lines_of (view.pending ++ told.0)) so_far.lines_are
          ∙ ap (λ l. lines ++ l) next.2;
      long = next.3;
      number_is = refl;
    }

-- the first bytes are those that were given, and as many as there is room for of those that are held
first_bytes : (bytes pending rest : List ℕ) (most room : ℕ) → most ≡ length bytes + room → room ≤ length pending
    → take most (bytes ++ (pending ++ rest)) ≡ bytes ++ take room pending
first_bytes bytes pending rest most room same within =
    rw (same, take_past bytes (pending ++ rest) room, take-append-le room pending rest within) refl

whole_front : (bytes begun : List ℕ) → IsUnbroken begun → EndsLine bytes → whole_lines (bytes ++ begun) ≡ lines_of bytes
whole_front bytes begun unbroken ends =
    whole_append bytes begun ends ∙ ap (λ l. lines_of bytes ++ l) (none_whole begun unbroken) ∙ append-nil (lines_of bytes)

abbrev AreShort : List (List ℕ) → Type 0
AreShort lines = AllByRecursion (λ line. length line ≤ longest_line) lines

-- a line that has begun, behind short ones
short_and_begun : (bytes begun : List ℕ) → AreShort (lines_of bytes) → EndsLine bytes → IsUnbroken begun → length begun ≤ longest_line → AreShort (lines_of (bytes ++ begun))
short_and_begun bytes [] short ends unbroken few = subst (λ l. AreShort (lines_of l)) (sym (append-nil bytes)) short
short_and_begun bytes (byte ∷ begun) short ends unbroken few =
    let line = byte ∷ begun in
    subst AreShort (sym (lines_append bytes line ends ∙ ap (λ l. lines_of bytes ++ l) (last_line line unbroken (omega arith))))
    (all_and_one (λ l. length l ≤ longest_line) (lines_of bytes) line short few)

pub whole_within : law.WholeWithin
whole_within input view lines so_far going much =
    let told = split input so_far.bytes view.pending view.remaining so_far.taken in
    let room = longest_input - view.passed in
    let begun = take room view.pending in
    let first : take longest_input input ≡ so_far.bytes ++ begun =
    ap (take longest_input) told.2
    ∙ first_bytes so_far.bytes view.pending told.0 longest_input room (omega (arith, so_far.passed_is, so_far.within)) (omega (arith, much.more))
    in
    record {
      long = omega (arith, ap length told.2, so_far.passed_is, so_far.within, much.more, length-append so_far.bytes (view.pending ++ told.0), length-append view.pending told.0);
      lines_are = ap whole_lines first ∙ whole_front so_far.bytes begun much.unbroken (so_far.whole going) ∙ so_far.lines_are;
      short = subst (λ l. AreShort (lines_of l)) (sym first)
          (short_and_begun so_far.bytes begun (subst AreShort (sym so_far.lines_are) so_far.short) (so_far.whole going) much.unbroken
          (omega (arith, length-take-le room view.pending (omega (arith, much.more)), much.room_is)));
    }

pub whole_taken : law.WholeTaken
whole_taken input view lines so_far going cut =
    let told = split input so_far.bytes view.pending view.remaining so_far.taken in
    record {
      taken = so_far.bytes ++ view.pending;
      rest = told.0;
      input_is = told.2 ∙ sym (append_assoc so_far.bytes view.pending told.0);
      left_is = told.1;
      within = omega (arith, length-append so_far.bytes view.pending, cut.fits, so_far.passed_is, so_far.within);
      lines_are = whole_front so_far.bytes view.pending cut.unbroken (so_far.whole going) ∙ so_far.lines_are;
    }
