-- The latest of numbers is the last one.
use Rattle.std.proofs.Common.{◌≡◌, ℕ, zero, suc, ◌+◌, ◌-◌, List, [], ◌∷◌, length, Some, arith}
use Rattle.std.specs.Prelude.{slice_get}
use Rattle.keel_resume.specs.Plans.{latest}

at_end : (numbers : List ℕ) (k n : ℕ) → k + 1 ≡ length numbers → Some n ≡ slice_get numbers k → n ≡ latest numbers
at_end [] k n e h = absurd (omega arith)
at_end (x ∷ []) zero n e h = cc
at_end (x ∷ []) (suc k) n e h = absurd (omega arith)
at_end (x ∷ (y ∷ numbers)) zero n e h = absurd (omega arith)
at_end (x ∷ (y ∷ numbers)) (suc k) n e h = at_end (y ∷ numbers) k n (omega arith) h

pub last_is_latest : (numbers : List ℕ) (n : ℕ) → Some n ≡ slice_get numbers (length numbers - 1) → n ≡ latest numbers
last_is_latest [] n h = absurd cc
last_is_latest (x ∷ numbers) n h = at_end (x ∷ numbers) (length (x ∷ numbers) - 1) n (omega arith) h
