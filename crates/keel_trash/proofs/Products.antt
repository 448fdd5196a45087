-- A product in two parts.
use Rattle.std.proofs.Common.{◌≡◌, ℕ, ◌+◌, ◌*◌, ◌/◌, ◌%◌, ◌^◌, arith, ap, sym, ◌∙◌}
use Rattle.std.proofs.Math.Nat.{add-mul, mul_assoc, mul_comm}

times : (high low factor : ℕ) → (high * 2 ^ 64 + low) * factor ≡ high * factor * 2 ^ 64 + low * factor
times high low factor =
    add-mul (high * 2 ^ 64) low factor
    ∙ ap (λ (n : ℕ). n + low * factor) (mul_assoc high (2 ^ 64) factor ∙ ap (λ (n : ℕ). high * n) (mul_comm (2 ^ 64) factor) ∙ sym (mul_assoc high factor (2 ^ 64)))

pub product-parts : (value factor : ℕ)
    → (value / 2 ^ 64 * factor + value % 2 ^ 64 * factor / 2 ^ 64) * 2 ^ 64 + value % 2 ^ 64 * factor % 2 ^ 64 ≡ value * factor
product-parts value factor =
    let whole : value / 2 ^ 64 * 2 ^ 64 + value % 2 ^ 64 ≡ value = omega arith in
    let parts = times (value / 2 ^ 64) (value % 2 ^ 64) factor in
    let same : (value / 2 ^ 64 * 2 ^ 64 + value % 2 ^ 64) * factor ≡ value * factor = ap (λ (n : ℕ). n * factor) whole in
    omega (arith, parts, same)
