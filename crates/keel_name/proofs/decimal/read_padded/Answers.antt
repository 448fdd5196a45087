use Rattle.std.proofs.Common.{◌≡◌, ◌≢◌, ℕ, ◌<◌, ◌≤◌, ◌^◌, List, Option, Some, None, IfSome, IfNone, ap, arith}
use Rattle.std.proofs.lemmas.Bool.{false≢true}
use Rattle.std.specs.Option.{SomeIff}
use Rattle.std.specs.Str.Parse.{AllDigits, digits_value}
use Rattle.keel_name.specs.Decimal.{padded, IsFilled}
use Rattle.keel_name.proofs.Decimals.{filled-padded, digits_padded, value_padded, filled_padded}
use Rattle.keel_name.proofs.decimal.read_padded.Goals as goal

abbrev Reads : List ℕ → Option ℕ → Type 0
Reads ds read = SomeIff read (AllDigits 10 ds × (digits_value 10 ds < 2 ^ 64)) (digits_value 10 ds)

found : (width : ℕ) (ds : List ℕ) (read : Option ℕ) → 1 ≤ width → IsFilled width ds → Reads ds read → IfSome read (λ number. ds ≡ padded width number)
found width ds None some is reads = tt
found width ds (Some number) some is reads = rw reads.1 (filled-padded width ds some is reads.0.0 reads.0.1)

fits : (ds : List ℕ) (read : Option ℕ) → Reads ds read → IfSome read (λ number. number < 2 ^ 64)
fits ds None reads = tt
fits ds (Some number) reads = omega (arith, reads.0.1, reads.1)

none : (width : ℕ) (ds : List ℕ) (read : Option ℕ) → Reads ds read → IfNone read ((number : ℕ) → number < 2 ^ 64 → ds ≢ padded width number)
none width ds None reads = λ number small same.
    reads (rw same (digits_padded width number small), omega (arith, ap (digits_value 10) same, value_padded width number small))
none width ds (Some number) reads = tt

pub returns-then-is_filled-clause-found : goal.returns-then-is_filled-clause-found
returns-then-is_filled-clause-found c =
    found c.args.width c.args.digits.now c.digits_value.result c.requires (c.is_filled.ensures.0 c.if-is_filled.true) c.digits_value.ensures

pub returns-then-is_filled-clause-fits : goal.returns-then-is_filled-clause-fits
returns-then-is_filled-clause-fits c = fits c.args.digits.now c.digits_value.result c.digits_value.ensures

pub returns-then-is_filled-clause-none : goal.returns-then-is_filled-clause-none
returns-then-is_filled-clause-none c = none c.args.width c.args.digits.now c.digits_value.result c.digits_value.ensures

pub returns-else-is_filled-clause-none : goal.returns-else-is_filled-clause-none
returns-else-is_filled-clause-none c = λ number small same.
    let is : IsFilled c.args.width c.args.digits.now = rw same (filled_padded c.args.width number c.requires small) in
    false≢true (c.if-is_filled.ensures.1 is)
