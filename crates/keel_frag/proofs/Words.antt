-- Four and eight bytes that enter the register at once.
use Rattle.std.proofs.Common.{◌≡◌, ℕ, suc, ◌+◌, ◌*◌, ◌/◌, ◌%◌, ◌<◌, List, [], ◌∷◌, length, get_or, refl, sym, ap, ◌∙◌, arith, bit_xor, bit_and}
use Rattle.std.specs.Prelude.{fold}
use Rattle.std.specs.Int.{w32, from_le_bytes}
use Rattle.std.specs.Int.Bits.{and_mask, xor_assoc, xor_comm, xor_shifted, xor_zero_r}
use Rattle.keel_frag.specs.Checksum.{shift_bits, shift_byte}
use Rattle.keel_frag.proofs.Heads.{four_fit}
use Rattle.keel_frag.proofs.Shifting.{shift_bits-xor, shift_bits-high, shift_bits-add, shift_bits-split}

-- the number that bytes spell, lowest byte first
abbrev number_of : List ℕ → ℕ
number_of [] = 0
number_of (byte ∷ bytes) = number_of bytes * 256 + byte

abbrev AreBytes : List ℕ → Type 0
AreBytes bytes = (i : ℕ) → get_or bytes i 0 < 256

-- bytes that enter one after the other are a number that enters at once
shift_number : (bytes : List ℕ) (register : ℕ) → AreBytes bytes → fold shift_byte register bytes ≡ shift_bits (8 * length bytes) (bit_xor register (number_of bytes))
unfolding shift_bits
shift_number [] register fits = sym (xor_zero_r register)
shift_number (byte ∷ bytes) register fits =
    let n = 8 * length bytes in
    let number = number_of bytes in
    let later = shift_number bytes (shift_byte register byte) (λ i. fits (suc i)) in
    let below : bit_xor (number * 256) byte ≡ number * 256 + byte = xor_shifted number 8 byte (fits 0) in
    let joined : bit_xor (bit_xor register byte) (number * 256) ≡ bit_xor register (number * 256 + byte) =
    xor_assoc register byte (number * 256) ∙ ap (bit_xor register) (xor_comm byte (number * 256) ∙ below) in
    let raised : bit_xor (shift_byte register byte) number ≡ shift_bits 8 (bit_xor register (number * 256 + byte)) =
    ap (bit_xor (shift_byte register byte)) (sym (shift_bits-high 8 number))
    ∙ sym (shift_bits-xor 8 (bit_xor register byte) (number * 256))
    ∙ ap (shift_bits 8) joined in
    let count : 8 + n ≡ 8 * suc (length bytes) = omega arith in
    later
    ∙ ap (shift_bits n) raised
    ∙ sym (shift_bits-add 8 n (bit_xor register (number * 256 + byte)))
    ∙ ap (λ (k : ℕ). shift_bits k (bit_xor register (number * 256 + byte))) count

split : (n more x low : ℕ) → 8 + n ≡ more → low ≡ shift_bits more (x % 256) → shift_bits more x ≡ bit_xor low (shift_bits n (x / 256))
split n more x low e low_is =
    ap (λ (k : ℕ). shift_bits k x) (sym e)
    ∙ shift_bits-split n x
    ∙ ap (λ (y : ℕ). bit_xor y (shift_bits n (x / 256))) (ap (λ (k : ℕ). shift_bits k (x % 256)) e ∙ sym low_is)

-- the four bytes of a word go through the tables each by itself
pub shift_word : (n x a b c d : ℕ) → a ≡ shift_bits (32 + n) (bit_and x 255) → b ≡ shift_bits (24 + n) (bit_and (x / 256) 255)
    → c ≡ shift_bits (16 + n) (bit_and (x / 65536) 255) → d ≡ shift_bits (8 + n) (x / 16777216)
    → bit_xor (bit_xor (bit_xor a b) c) d ≡ shift_bits (32 + n) x
shift_word n x a b c d a_is b_is c_is d_is =
    let second : x / 256 / 256 ≡ x / 65536 = omega arith in
    let third : x / 65536 / 256 ≡ x / 16777216 = omega arith in
    let one : shift_bits (32 + n) x ≡ bit_xor a (shift_bits (24 + n) (x / 256)) =
    split (24 + n) (32 + n) x a (omega arith) (a_is ∙ ap (shift_bits (32 + n)) (and_mask x 8)) in
    let two : shift_bits (24 + n) (x / 256) ≡ bit_xor b (shift_bits (16 + n) (x / 65536)) =
    split (16 + n) (24 + n) (x / 256) b (omega arith) (b_is ∙ ap (shift_bits (24 + n)) (and_mask (x / 256) 8)) ∙ ap (λ (y : ℕ). bit_xor b (shift_bits (16 + n) y)) second in
    let three : shift_bits (16 + n) (x / 65536) ≡ bit_xor c d =
    split (8 + n) (16 + n) (x / 65536) c (omega arith) (c_is ∙ ap (shift_bits (16 + n)) (and_mask (x / 65536) 8)) ∙ ap (λ (y : ℕ). bit_xor c (shift_bits (8 + n) y)) third ∙ ap (bit_xor c) (sym d_is) in
    xor_assoc (bit_xor a b) c d ∙ xor_assoc a b (bit_xor c d)
    ∙ sym (one ∙ ap (bit_xor a) (two ∙ ap (bit_xor b) three))

eight : (bytes : List ℕ) → length bytes ≡ 8
    → bytes ≡ get_or bytes 0 0 ∷ get_or bytes 1 0 ∷ get_or bytes 2 0 ∷ get_or bytes 3 0 ∷ get_or bytes 4 0 ∷ get_or bytes 5 0 ∷ get_or bytes 6 0 ∷ get_or bytes 7 0 ∷ []
eight (a ∷ b ∷ c ∷ d ∷ e ∷ f ∷ g ∷ h ∷ []) len = refl
eight bytes len = absurd (omega arith)

-- eight bytes are two words
pub shift_two : (bytes : List ℕ) (register first second far near : ℕ) → length bytes ≡ 8 → AreBytes bytes
    → first ≡ from_le_bytes w32 (get_or bytes 0 0 ∷ get_or bytes 1 0 ∷ get_or bytes 2 0 ∷ get_or bytes 3 0 ∷ [])
    → second ≡ from_le_bytes w32 (get_or bytes 4 0 ∷ get_or bytes 5 0 ∷ get_or bytes 6 0 ∷ get_or bytes 7 0 ∷ [])
    → far ≡ shift_bits 64 (bit_xor register first) → near ≡ shift_bits 32 second
    → bit_xor near far ≡ fold shift_byte register bytes
shift_two bytes register first second far near len fits first_is second_is far_is near_is =
    let front : List ℕ = get_or bytes 0 0 ∷ get_or bytes 1 0 ∷ get_or bytes 2 0 ∷ get_or bytes 3 0 ∷ [] in
    let back : List ℕ = get_or bytes 4 0 ∷ get_or bytes 5 0 ∷ get_or bytes 6 0 ∷ get_or bytes 7 0 ∷ [] in
    let first_number : first ≡ number_of front = omega arith in
    let second_number : second ≡ number_of back = omega arith in
    let word = bit_xor register (number_of front) in
    let one : fold shift_byte register front ≡ shift_bits 32 word = shift_number front register (four_fit _ _ _ _ (fits 0) (fits 1) (fits 2) (fits 3)) in
    let two : fold shift_byte (shift_bits 32 word) back ≡ shift_bits 32 (bit_xor (shift_bits 32 word) (number_of back)) = shift_number back (shift_bits 32 word) (four_fit _ _ _ _ (fits 4) (fits 5) (fits 6) (fits 7)) in
    let three : shift_bits 32 (bit_xor (shift_bits 32 word) (number_of back)) ≡ bit_xor far near =
    shift_bits-xor 32 (shift_bits 32 word) (number_of back)
    ∙ ap (λ (y : ℕ). bit_xor y (shift_bits 32 (number_of back))) (sym (shift_bits-add 32 32 word) ∙ ap (λ (y : ℕ). shift_bits 64 (bit_xor register y)) (sym first_number) ∙ sym far_is)
    ∙ ap (bit_xor far) (ap (shift_bits 32) (sym second_number) ∙ sym near_is) in
    sym (ap (fold shift_byte register) (eight bytes len) ∙ ap (λ (r : ℕ). fold shift_byte r back) one ∙ two ∙ three ∙ xor_comm far near)
