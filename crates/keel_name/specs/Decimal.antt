-- Numbers in decimal with zeros in front up to a number of digits.
use Rattle.std.specs.Prelude.{ℕ, ◌-◌, ◌<◌, ◌≤◌, ◌≢◌, List, ◌++◌, length, replicate, slice_index}
use Rattle.std.specs.Fmt.{decimal}

-- at least so many digits
abbrev pub padded : ℕ → ℕ → List ℕ
padded width number = replicate (width - length (decimal number)) 48 ++ decimal number

-- there are at least so many bytes, and where there are more, no zero is the first
pub record IsFilled (width : ℕ) (bytes : List ℕ) : Type 0 where
  pub least : width ≤ length bytes
  pub first : width < length bytes → slice_index bytes 0 ≢ 48
