use Rattle.std.proofs.Common.{◌≡◌, ◌<◌, ◌^◌, ℕ, List, ap, sym, ◌∙◌, arith}
use Rattle.std.specs.Str.Parse.{digits_value}
use Rattle.keel_base.specs.Name.{IsFileNumber, numeral}
use Rattle.keel_name.specs.Decimal.{padded}
use Rattle.keel_name.proofs.Decimals.{value_padded}
use Rattle.keel_name.proofs.reading.file_number.Goals as goal

-- what was read is the number
same_number : (ds : List ℕ) (read number : ℕ) → read < 2 ^ 64 → ds ≡ padded 6 read → IsFileNumber number → ds ≡ numeral number → read ≡ number
same_number ds read number small spelled is same =
    sym (value_padded 6 read small) ∙ ap (digits_value 10) (sym spelled ∙ same) ∙ value_padded 6 number (omega (arith, is.most))

pub returns-in_default-clause-none : goal.returns-in_default-clause-none
returns-in_default-clause-none c = λ number is same.
    let read = same_number c.args.digits.now c.in-Some.number number c.in-Some.ensures.fits c.in-Some.ensures.found is same in
    omega (arith, read, is.most)

pub returns-in_default-2-clause-none : goal.returns-in_default-2-clause-none
returns-in_default-2-clause-none c = λ number is same.
    let read = same_number c.args.digits.now c.in-Some.number number c.in-Some.ensures.fits c.in-Some.ensures.found is same in
    omega (arith, read, is.least)
