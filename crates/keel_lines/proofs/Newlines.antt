-- The first newline as a search finds it.
use Rattle.std.proofs.Common.{◌≡◌, ℕ, zero, suc, ◌<◌, ◌==◌, true, false, List, [], ◌∷◌, length, refl, ap, arith}
use Rattle.std.specs.Prelude.{slice_index}
use Rattle.keel_lines.specs.Lines.{length_before}

abbrev IsNewline : List ℕ → ℕ → Type 0
IsNewline bytes k = (slice_index bytes k == 10) ≡ true

other : (byte : ℕ) → ((byte == 10) ≡ true → ⊥) → (byte == 10) ≡ false
other byte not = (elim (byte == 10) as (λ v. (byte == 10) ≡ v → v ≡ false) [ true ↦ λ same. absurd (not same) | false ↦ λ same. refl ]) refl

-- it stands behind bytes that are none
pub at_place : (bytes : List ℕ) (place : ℕ) → place < length bytes → IsNewline bytes place → ((k : ℕ) → k < place → IsNewline bytes k → ⊥) → place ≡ length_before bytes
at_place [] place lt at before = absurd (omega arith)
at_place (byte ∷ bytes) zero lt at before = rw (at) refl
at_place (byte ∷ bytes) (suc place) lt at before =
    let rest = at_place bytes place (omega arith) at (λ k less is. before (suc k) (omega (arith, less)) is) in
    let first = other byte (before 0 (omega arith)) in
    rw (first) (ap suc rest)

-- and where there is none all bytes stand before it
pub nowhere : (bytes : List ℕ) → ((k : ℕ) → k < length bytes → IsNewline bytes k → ⊥) → length bytes ≡ length_before bytes
nowhere [] none = refl
nowhere (byte ∷ bytes) none =
    let rest = nowhere bytes (λ k less is. none (suc k) (omega (arith, less)) is) in
    let first = other byte (none 0 (omega arith)) in
    rw (first) (ap suc rest)
