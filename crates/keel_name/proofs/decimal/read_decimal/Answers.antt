use Rattle.std.proofs.Common.{◌≡◌, ◌≢◌, ℕ, ◌<◌, ◌^◌, List, Option, Some, None, IfSome, IfNone, sym, ◌∙◌}
use Rattle.std.specs.Fmt.{decimal}
use Rattle.keel_name.specs.Decimal.{padded}
use Rattle.keel_name.proofs.Decimals.{padded_one}
use Rattle.keel_name.proofs.decimal.read_decimal.Goals as goal

found : (ds : List ℕ) (read : Option ℕ) → IfSome read (λ number. ds ≡ padded 1 number) → IfSome read (λ number. number < 2 ^ 64)
    → IfSome read (λ number. ds ≡ decimal number)
found ds None is small = tt
found ds (Some number) is small = is ∙ padded_one number small

none : (ds : List ℕ) (read : Option ℕ) → IfNone read ((number : ℕ) → number < 2 ^ 64 → ds ≢ padded 1 number)
    → IfNone read ((number : ℕ) → number < 2 ^ 64 → ds ≢ decimal number)
none ds None other = λ number small same. other number small (same ∙ sym (padded_one number small))
none ds (Some number) other = tt

pub returns-clause-found : goal.returns-clause-found
returns-clause-found c = found c.args.digits.now c.read_padded.result c.read_padded.ensures.found c.read_padded.ensures.fits

pub returns-clause-none : goal.returns-clause-none
returns-clause-none c = none c.args.digits.now c.read_padded.result c.read_padded.ensures.none
