-- How the words of a line are taken off one by one.
use Rattle.std.proofs.Common.{◌≡◌, ◌≢◌, ℕ, zero, suc, ◌<◌, ◌≤◌, true, false, List, [], ◌∷◌, length, get_or, take, drop, refl, sym, ap, ◌∙◌, arith, ◌-◌, inl, inr, add-zero, get_or-drop, length-drop}
use Rattle.std.proofs.lemmas.Bool.{cases_lt, eq-eqb, ne_eqb}
use Rattle.keel_script.specs.Words.{begins_word, onto_first, words_of}

-- spaces in front are left out
pub behind_spaces : (line : List ℕ) (n : ℕ) → ((k : ℕ) → k < n → get_or line k 0 ≡ 32) → words_of line ≡ words_of (drop n line)
behind_spaces line zero spaces = refl
behind_spaces [] (suc n) spaces = refl
behind_spaces (byte ∷ line) (suc n) spaces =
    rw (eq-eqb byte 32 (spaces 0 (omega arith))) (behind_spaces line n (λ k below. spaces (suc k) (omega arith)))

pub behind_space : (byte : ℕ) (line : List ℕ) → byte ≡ 32 → words_of (byte ∷ line) ≡ words_of line
behind_space byte line space = rw (eq-eqb byte 32 space) refl

-- a byte that is no space begins a word, which goes on or not
pub word_goes_on : (byte : ℕ) (line : List ℕ) → byte ≢ 32 → begins_word line ≡ true → words_of (byte ∷ line) ≡ onto_first byte (words_of line)
word_goes_on byte line other goes = rw (ne_eqb byte 32 other, goes) refl

pub word_ends : (byte : ℕ) (line : List ℕ) → byte ≢ 32 → begins_word line ≡ false → words_of (byte ∷ line) ≡ (byte ∷ []) ∷ words_of line
word_ends byte line other ends = rw (ne_eqb byte 32 other, ends) refl

-- what stands up to the next space is a word
pub first_word : (line : List ℕ) (n : ℕ) → 0 < n → n ≤ length line → ((k : ℕ) → k < n → get_or line k 0 ≢ 32) → (n < length line → get_or line n 0 ≡ 32)
    → words_of line ≡ take n line ∷ words_of (drop n line)
first_word line zero some within inside ends = absurd (omega arith)
first_word [] (suc n) some within inside ends = absurd (omega arith)
first_word (byte ∷ []) (suc zero) some within inside ends = word_ends byte [] (inside 0 (omega arith)) refl
first_word (byte ∷ next ∷ line) (suc zero) some within inside ends =
    word_ends byte (next ∷ line) (inside 0 (omega arith)) (rw (eq-eqb next 32 (ends (omega arith))) refl)
first_word (byte ∷ []) (suc (suc n)) some within inside ends = absurd (omega arith)
first_word (byte ∷ next ∷ line) (suc (suc n)) some within inside ends =
    let more = first_word (next ∷ line) (suc n) (omega arith) (omega arith) (λ k below. inside (suc k) (omega arith)) (λ below. ends (omega arith)) in
    word_goes_on byte (next ∷ line) (inside 0 (omega arith)) (rw (ne_eqb next 32 (inside 1 (omega arith))) refl) ∙ ap (onto_first byte) more

empty : (xs : List ℕ) → length xs ≡ 0 → xs ≡ []
empty [] none = refl
empty (x ∷ xs) none = absurd (omega arith)

first_byte : (line rest : List ℕ) (start : ℕ) → rest ≡ drop start line → get_or rest 0 0 ≡ get_or line start 0
first_byte line rest start back = ap (λ (xs : List ℕ). get_or xs 0 0) back ∙ get_or-drop start line 0 0 ∙ ap (λ (k : ℕ). get_or line k 0) (add-zero start)

length_behind : (line rest : List ℕ) (start : ℕ) → rest ≡ drop start line → length rest ≡ length line - start
length_behind line rest start back = ap length back ∙ length-drop start line

-- a line of spaces alone
pub no_word : (line rest : List ℕ) (start : ℕ) → ((k : ℕ) → k < start → get_or line k 0 ≡ 32) → rest ≡ drop start line → length rest ≡ 0 → words_of line ≡ []
no_word line rest start spaces back none = behind_spaces line start spaces ∙ ap words_of (sym back ∙ empty rest none)

-- the first word, and the others
pub some_word : (line rest word others : List ℕ) (start end : ℕ) → ((k : ℕ) → k < start → get_or line k 0 ≡ 32)
    → (start < length line → get_or line start 0 ≢ 32) → rest ≡ drop start line → 0 < length rest
    → end ≤ length rest → ((k : ℕ) → k < end → get_or rest k 0 ≢ 32) → (end < length rest → get_or rest end 0 ≡ 32)
    → word ≡ take end rest → others ≡ drop end rest → words_of line ≡ word ∷ words_of others
some_word line rest word others start end spaces begins back some within inside ends front behind =
    let here = first_byte line rest start back in
    let long = length_behind line rest start back in
    let more : 0 < end = elim (cases_lt 0 end) [
      | inl more ↦ more
      | inr none ↦
          let zero_end : end ≡ 0 = omega arith in
          absurd (begins (omega arith) (sym here ∙ ap (λ (k : ℕ). get_or rest k 0) (sym zero_end) ∙ ends (omega arith)))
    ] in
    behind_spaces line start spaces ∙ ap words_of (sym back) ∙ first_word rest end more within inside ends ∙ rw (front, behind) refl
