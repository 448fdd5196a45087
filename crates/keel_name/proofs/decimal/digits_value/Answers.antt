use Rattle.std.proofs.Common.{◌≡◌, take, ap, ◌∙◌, arith}
use Rattle.std.specs.Str.Parse.{digits_value}
use Rattle.std.proofs.lemmas.List.{take_all}
use Rattle.std.proofs.lemmas.Str.{digit_value_digit}
use Rattle.keel_name.proofs.Decimals.{no_digit, too_large, one_more}
use Rattle.keel_name.proofs.decimal.digits_value.Goals as goal

pub returns-then-not-is_ascii_digit : goal.returns-then-not-is_ascii_digit
returns-then-not-is_ascii_digit c = λ is.
    no_digit c.args.digits.now c.loop-digit.digit-index c.loop-digit-test.true c.if-not-is_ascii_digit.ensures.cases is.0

pub returns-in_err-checked_mul : goal.returns-in_err-checked_mul
returns-in_err-checked_mul c = rw c.from_residual.ensures (λ is.
    too_large c.args.digits.now c.loop-digit.digit-index c.loop-digit.value c.loop-digit-test.true c.loop-digit.invariant.so_far
    (λ fits. c.in_err-checked_mul.ensures (omega arith)) is.1)

pub returns-in_err-value : goal.returns-in_err-value
returns-in_err-value c =
    let valued = digit_value_digit _ c.if-not-is_ascii_digit.ensures.cases in
    rw c.from_residual-in_err-value.ensures (λ is.
    too_large c.args.digits.now c.loop-digit.digit-index c.loop-digit.value c.loop-digit-test.true c.loop-digit.invariant.so_far
    (λ fits. c.in_err-value.ensures (omega (arith, valued, c.in_ok-checked_mul.ensures, c.from.ensures))) is.1)

pub loop-digit-preserved : goal.loop-digit-preserved
loop-digit-preserved c =
    let digit = c.if-not-is_ascii_digit.ensures.cases in
    let added = c.in_ok-value.ensures in
    let more =
    one_more c.args.digits.now c.loop-digit.digit-index c.loop-digit.value c.in_ok-value.value c.loop-digit-test.true digit c.loop-digit.invariant.digits
    c.loop-digit.invariant.so_far (omega (arith, digit.0, added.1, c.in_ok-checked_mul.ensures.1, c.from.ensures))
    in
    record { digits = more.0; so_far = more.1; fits = omega (arith, added.0, added.1) }

pub returns : goal.returns
returns c =
    let whole : take c.loop-digit.digit-index c.args.digits.now ≡ c.args.digits.now = take_all c.loop-digit.digit-index c.args.digits.now (omega arith) in
    let value = c.loop-digit.invariant.so_far ∙ ap (digits_value 10) whole in
    ((rw whole at c.loop-digit.invariant.digits, omega (arith, value)), value)
