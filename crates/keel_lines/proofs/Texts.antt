-- How texts are cut into lines.
use Rattle.std.proofs.Common.{◌≡◌, ◌<◌, ◌≤◌, ℕ, zero, suc, true, false, true≢false, List, [], ◌∷◌, ◌++◌, length, take, drop, sym, ap, ◌∙◌, subst, refl, arith, eqb-true, take-take, ◌==◌, if◌then◌else◌}
use Rattle.keel_lines.specs.Lines.{lines_of, whole_lines, length_before, onto_first, into_first, IsUnbroken, EndsLine}

-- ---- bytes without a newline

apart : (byte : ℕ) → (byte == 10) ≡ false → byte ≡ 10 → ⊥
apart byte other same = true≢false (sym (ap (λ b. b == 10) same) ∙ other)

not_newline : (byte : ℕ) → (byte ≡ 10 → ⊥) → (byte == 10) ≡ false
not_newline byte other =
    (elim (byte == 10) as (λ v. (byte == 10) ≡ v → v ≡ false) [ true ↦ λ same. absurd (other (eqb-true byte 10 same)) | false ↦ λ same. refl ]) refl

pub unbroken_append : (first second : List ℕ) → IsUnbroken first → IsUnbroken second → IsUnbroken (first ++ second)
unbroken_append [] second a b = b
unbroken_append (byte ∷ first) second a b = (a.0, unbroken_append first second a.1 b)

pub unbroken_take : (count : ℕ) (bytes : List ℕ) → IsUnbroken bytes → IsUnbroken (take count bytes)
unbroken_take zero bytes all = tt
unbroken_take (suc count) [] all = tt
unbroken_take (suc count) (byte ∷ bytes) all = (all.0, unbroken_take count bytes all.1)

pub unbroken_front : (few many : ℕ) (bytes : List ℕ) → few ≤ many → IsUnbroken (take many bytes) → IsUnbroken (take few bytes)
unbroken_front few many bytes le all = subst IsUnbroken (take-take few many bytes le) (unbroken_take few (take many bytes) all)

-- ---- the first newline

pub length_before-le : (bytes : List ℕ) → length_before bytes ≤ length bytes
length_before-le [] = omega arith
length_before-le (byte ∷ bytes) =
    let rest = length_before-le bytes in
    elim (byte == 10) as (λ v. (if v then 0 else suc (length_before bytes)) ≤ length (byte ∷ bytes)) [ true ↦ omega arith | false ↦ omega (arith, rest) ]

pub unbroken_before : (bytes : List ℕ) → IsUnbroken (take (length_before bytes) bytes)
unbroken_before [] = tt
unbroken_before (byte ∷ bytes) =
    let rest = unbroken_before bytes in
    (elim (byte == 10) as (λ v. (byte == 10) ≡ v → IsUnbroken (take (if v then 0 else suc (length_before bytes)) (byte ∷ bytes)))
    [ true ↦ λ same. tt | false ↦ λ other. (apart byte other, rest) ]) refl

pub at_newline : (bytes : List ℕ) → length_before bytes < length bytes → drop (length_before bytes) bytes ≡ 10 ∷ drop (suc (length_before bytes)) bytes
at_newline [] some = absurd (omega (arith, some))
at_newline (byte ∷ bytes) some =
    let rest = at_newline bytes in
    (elim (byte == 10) as (λ v. (byte == 10) ≡ v → (if v then 0 else suc (length_before bytes)) < length (byte ∷ bytes)
    → drop (if v then 0 else suc (length_before bytes)) (byte ∷ bytes) ≡ 10 ∷ drop (suc (if v then 0 else suc (length_before bytes))) (byte ∷ bytes))
    [ true ↦ λ same less. ap (λ b. b ∷ bytes) (eqb-true byte 10 same) | false ↦ λ other less. rest (omega (arith, less)) ]) refl some

-- ---- lines

-- the first line, and then the lines of what stands behind its newline
pub lines_of-first : (bytes : List ℕ) → 0 < length bytes → lines_of bytes ≡ take (length_before bytes) bytes ∷ lines_of (drop (suc (length_before bytes)) bytes)
lines_of-first [] some = absurd (omega arith)
lines_of-first (byte ∷ []) some =
    elim (byte == 10) as (λ v. (if v then [] ∷ [] else onto_first byte []) ≡ take (if v then 0 else suc 0) (byte ∷ []) ∷ lines_of (drop (suc (if v then 0 else suc 0)) (byte ∷ [])))
    [ true ↦ refl | false ↦ refl ]
lines_of-first (byte ∷ next ∷ bytes) some =
    let more = next ∷ bytes in
    let rest = lines_of-first (next ∷ bytes) (omega arith) in
    elim (byte == 10) as (λ v. (if v then [] ∷ lines_of more else onto_first byte (lines_of more))
    ≡ take (if v then 0 else suc (length_before more)) (byte ∷ more) ∷ lines_of (drop (suc (if v then 0 else suc (length_before more))) (byte ∷ more)))
    [ true ↦ refl | false ↦ ap (onto_first byte) rest ]

-- a line without its newline
pub last_line : (line : List ℕ) → IsUnbroken line → 0 < length line → lines_of line ≡ line ∷ []
last_line [] all some = absurd (omega (arith, some))
last_line (byte ∷ []) all some = rw (not_newline byte all.0) refl
last_line (byte ∷ next ∷ line) all some =
    let rest = last_line (next ∷ line) all.1 (omega arith) in
    rw (not_newline byte all.0) (ap (onto_first byte) rest)

-- a line with its newline, and what stands behind
pub one_line : (line bytes : List ℕ) → IsUnbroken line → lines_of (line ++ 10 ∷ bytes) ≡ line ∷ lines_of bytes
one_line [] bytes all = refl
one_line (byte ∷ line) bytes all =
    let rest = one_line line bytes all.1 in
    rw (not_newline byte all.0) (ap (onto_first byte) rest)

pub none_whole : (bytes : List ℕ) → IsUnbroken bytes → whole_lines bytes ≡ []
none_whole [] all = refl
none_whole (byte ∷ bytes) all =
    let rest = none_whole bytes all.1 in
    rw (not_newline byte all.0) (ap (into_first byte) rest)

-- ---- texts one after the other

pub ends_line : (bytes : List ℕ) → EndsLine (bytes ++ 10 ∷ [])
ends_line [] = refl
ends_line (byte ∷ []) = refl
ends_line (byte ∷ next ∷ bytes) = ends_line (next ∷ bytes)

some_line : (byte : ℕ) (bytes : List ℕ) → 0 < length (lines_of (byte ∷ bytes))
some_line byte bytes =
    let onto : (lines : List (List ℕ)) → 0 < length (onto_first byte lines) = λ lines. elim lines as (λ l. 0 < length (onto_first byte l)) [ [] ↦ omega arith | line ∷ more ↦ omega arith ] in
    let mine = onto (lines_of bytes) in
    elim (byte == 10) as (λ v. 0 < length (if v then [] ∷ lines_of bytes else onto_first byte (lines_of bytes))) [ true ↦ omega arith | false ↦ mine ]

onto_append : (byte : ℕ) (lines more : List (List ℕ)) → 0 < length lines → onto_first byte (lines ++ more) ≡ onto_first byte lines ++ more
onto_append byte [] more some = absurd (omega (arith, some))
onto_append byte (line ∷ lines) more some = refl

into_append : (byte : ℕ) (lines more : List (List ℕ)) → 0 < length lines → into_first byte (lines ++ more) ≡ onto_first byte lines ++ more
into_append byte [] more some = absurd (omega (arith, some))
into_append byte (line ∷ lines) more some = refl

-- behind whole lines stand the lines of the rest
pub lines_append : (first second : List ℕ) → EndsLine first → lines_of (first ++ second) ≡ lines_of first ++ lines_of second
lines_append [] second ends = refl
lines_append (byte ∷ []) second ends = rw ends refl
lines_append (byte ∷ next ∷ first) second ends =
    let mine = lines_of (next ∷ first) in
    let both = lines_of (next ∷ first ++ second) in
    let rest = lines_append (next ∷ first) second ends in
    elim (byte == 10) as (λ v. (if v then [] ∷ both else onto_first byte both) ≡ (if v then [] ∷ mine else onto_first byte mine) ++ lines_of second)
    [ true ↦ ap (λ l. [] ∷ l) rest | false ↦ ap (onto_first byte) rest ∙ onto_append byte mine (lines_of second) (some_line next first) ]

pub whole_append : (first second : List ℕ) → EndsLine first → whole_lines (first ++ second) ≡ lines_of first ++ whole_lines second
whole_append [] second ends = refl
whole_append (byte ∷ []) second ends = rw ends refl
whole_append (byte ∷ next ∷ first) second ends =
    let mine = lines_of (next ∷ first) in
    let both = whole_lines (next ∷ first ++ second) in
    let rest = whole_append (next ∷ first) second ends in
    elim (byte == 10) as (λ v. (if v then [] ∷ both else into_first byte both) ≡ (if v then [] ∷ mine else onto_first byte mine) ++ whole_lines second)
    [ true ↦ ap (λ l. [] ∷ l) rest | false ↦ ap (into_first byte) rest ∙ into_append byte mine (whole_lines second) (some_line next first) ]

-- a line that is longer than these bytes
pub long_line : (count : ℕ) (bytes : List ℕ) → IsUnbroken (take (suc count) bytes) → count < length bytes → count < length_before bytes
long_line count [] all less = absurd (omega (arith, less))
long_line zero (byte ∷ bytes) all less = rw (not_newline byte all.0) (omega arith)
long_line (suc count) (byte ∷ bytes) all less =
    let rest = long_line count bytes all.1 (omega (arith, less)) in
    rw (not_newline byte all.0) (omega (arith, rest))
