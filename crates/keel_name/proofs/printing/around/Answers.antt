use Rattle.std.proofs.Common.{◌≡◌, ◌-◌, ℕ, List, ◌++◌, length, take, replicate, arith, ◌∙◌}
use Rattle.std.specs.Fmt.{decimal}
use Rattle.std.proofs.lemmas.List.{take-replicate, append_assoc}
use Rattle.keel_base.specs.Name.{numeral}
use Rattle.keel_name.proofs.printing.around.Goals as goal

-- the pieces of a number with what stands round it
joined : (before behind digits : List ℕ) (number zeros : ℕ) (first second all : List ℕ) → digits ≡ decimal number → zeros ≡ 6 - length digits
    → first ≡ before ++ take zeros (replicate 6 48) → second ≡ first ++ digits → all ≡ second ++ behind
    → all ≡ before ++ numeral number ++ behind
joined before behind digits number zeros first second all spelled count one two three =
    let filled = take-replicate {X = ℕ} zeros 6 48 (omega arith) in
    rw (three, two, one, filled, count, spelled, append_assoc before (replicate (6 - length (decimal number)) 48) (decimal number))

pub returns : goal.returns
returns c =
    let digits = c.as_bytes.ensures in
    let spelled = digits.value ∙ c.in_ok-digits.ensures.ok in
    let count : c.saturating_sub-zeros.result ≡ 6 - length c.as_bytes.result.now = omega (arith, digits.len, c.saturating_sub-zeros.ensures, c.len.ensures) in
    rw c.in_ok-bytes.ensures at (joined _ _ _ c.args.number _ _ _ _ spelled count c.in_ok-extend.ensures.ok c.in_ok-extend-2.ensures.ok c.in_ok-extend-3.ensures.ok)
