-- Many shifts at once, by tables.
use Rattle.std.proofs.Common.{◌≡◌, ℕ, zero, suc, ◌+◌, ◌*◌, ◌/◌, ◌%◌, ◌^◌, ◌<◌, List, get_or, map, refl, sym, ap, ◌∙◌, arith, bit_xor}
use Rattle.std.specs.List.{range_with_len}
use Rattle.std.proofs.lemmas.List.FromFn.{get_or-map-range_with_len}
use Rattle.std.specs.Int.Bits.{xor_assoc, xor_comm, xor_shr, xor_mod, xor_shifted, xor_zero_r, shifted_half, shifted_even}
use Rattle.keel_frag.specs.Checksum.{polynomial, shift_bit, shift_bits}
use Rattle.keel_frag.specs.declared.crc_table.TheConstants.{TABLE}

-- ---- shifts and sums

xor_swap : (a b c d : ℕ) → bit_xor (bit_xor a b) (bit_xor c d) ≡ bit_xor (bit_xor a c) (bit_xor b d)
xor_swap a b c d =
    xor_assoc a b (bit_xor c d)
    ∙ ap (bit_xor a) (sym (xor_assoc b c d) ∙ ap (λ (x : ℕ). bit_xor x d) (xor_comm b c) ∙ xor_assoc c b d)
    ∙ sym (xor_assoc a c (bit_xor b d))

-- what leaves the register
carry : (x y : ℕ) → x < 2 → y < 2 → bit_xor x y * polynomial ≡ bit_xor (x * polynomial) (y * polynomial)
carry zero y h k = refl
carry (suc zero) zero h k = refl
carry (suc zero) (suc zero) h k = refl
carry (suc zero) (suc (suc y)) h k = absurd (omega arith)
carry (suc (suc x)) y h k = absurd (omega arith)

shift_bit-xor : (a b : ℕ) → shift_bit (bit_xor a b) ≡ bit_xor (shift_bit a) (shift_bit b)
unfolding shift_bit
shift_bit-xor a b =
    let e : bit_xor a b / 2 ≡ bit_xor (a / 2) (b / 2) = xor_shr a b 1 in
    let f : bit_xor a b % 2 ≡ bit_xor (a % 2) (b % 2) = xor_mod a b 1 in
    let g : bit_xor (a % 2) (b % 2) * polynomial ≡ bit_xor (a % 2 * polynomial) (b % 2 * polynomial) = carry (a % 2) (b % 2) (omega arith) (omega arith) in
    ap (λ (x : ℕ). bit_xor x (bit_xor a b % 2 * polynomial)) e
    ∙ ap (λ (x : ℕ). bit_xor (bit_xor (a / 2) (b / 2)) (x * polynomial)) f
    ∙ ap (bit_xor (bit_xor (a / 2) (b / 2))) g
    ∙ xor_swap (a / 2) (b / 2) (a % 2 * polynomial) (b % 2 * polynomial)

pub shift_bits-xor : (n a b : ℕ) → shift_bits n (bit_xor a b) ≡ bit_xor (shift_bits n a) (shift_bits n b)
unfolding shift_bits
shift_bits-xor zero a b = refl
shift_bits-xor (suc n) a b = ap (shift_bits n) (shift_bit-xor a b) ∙ shift_bits-xor n (shift_bit a) (shift_bit b)

-- zeros leave the register and change nothing
pub shift_bits-high : (n a : ℕ) → shift_bits n (a * 2 ^ n) ≡ a
unfolding shift_bits shift_bit
shift_bits-high zero a = omega arith
shift_bits-high (suc n) a =
    let e : shift_bit (a * 2 ^ suc n) ≡ a * 2 ^ n =
    ap (λ (x : ℕ). bit_xor x (a * 2 ^ suc n % 2 * polynomial)) (shifted_half a n)
    ∙ ap (λ (x : ℕ). bit_xor (a * 2 ^ n) (x * polynomial)) (shifted_even a n)
    ∙ xor_zero_r (a * 2 ^ n) in
    ap (shift_bits n) e ∙ shift_bits-high n a

pub shift_bits-add : (m n a : ℕ) → shift_bits (m + n) a ≡ shift_bits n (shift_bits m a)
unfolding shift_bits
shift_bits-add zero n a =
    let e : zero + n ≡ n = omega arith in
    ap (λ (k : ℕ). shift_bits k a) e
shift_bits-add (suc m) n a =
    let e : suc m + n ≡ suc (m + n) = omega arith in
    ap (λ (k : ℕ). shift_bits k a) e ∙ shift_bits-add m n (shift_bit a)

-- the low byte is shifted all the way, and eight of the shifts bring the others down
pub shift_bits-split : (n x : ℕ) → shift_bits (8 + n) x ≡ bit_xor (shift_bits (8 + n) (x % 256)) (shift_bits n (x / 256))
shift_bits-split n x =
    let e : bit_xor (x / 256 * 256) (x % 256) ≡ x / 256 * 256 + x % 256 = xor_shifted (x / 256) 8 (x % 256) (omega arith) in
    let f : x ≡ bit_xor (x / 256 * 256) (x % 256) = sym (e ∙ omega arith) in
    let g : shift_bits (8 + n) (x / 256 * 256) ≡ shift_bits n (x / 256) = shift_bits-add 8 n (x / 256 * 256) ∙ ap (shift_bits n) (shift_bits-high 8 (x / 256)) in
    ap (shift_bits (8 + n)) f
    ∙ shift_bits-xor (8 + n) (x / 256 * 256) (x % 256)
    ∙ ap (λ (y : ℕ). bit_xor y (shift_bits (8 + n) (x % 256))) g
    ∙ xor_comm (shift_bits n (x / 256)) (shift_bits (8 + n) (x % 256))

-- ---- the table

abbrev entry : ℕ → ℕ
entry i = shift_bits (8 * (i / 256 + 1)) (i % 256)

table_is : TABLE ≡ map entry (range_with_len 0 2048)
unfolding shift_bits shift_bit
table_is = refl

pub table_at : (more byte : ℕ) → more < 8 → byte < 256 → get_or TABLE (256 * more + byte) 0 ≡ shift_bits (8 * (more + 1)) byte
table_at more byte h k =
    let i = 256 * more + byte in
    let part : i / 256 ≡ more = omega arith in
    let low : i % 256 ≡ byte = omega arith in
    ap (λ (xs : List ℕ). get_or xs i 0) table_is
    ∙ get_or-map-range_with_len entry 0 2048 i i 0 (omega arith) (omega arith)
    ∙ (λ j. shift_bits (8 * (part j + 1)) (low j))
