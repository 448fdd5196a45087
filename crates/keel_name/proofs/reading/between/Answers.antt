use Rattle.std.proofs.Common.{◌≡◌, ℕ, List, ◌++◌, Option, Some, None, IfSome, sym, ap, ◌∙◌}
use Rattle.std.proofs.lemmas.Bool.Decides.{Decides-eqb}
use Rattle.std.proofs.lemmas.List.{append_assoc, append_cancel_left}
use Rattle.std.proofs.lemmas.Slice.Eq.{strip_prefix_is, strip_suffix_is}
use Rattle.keel_base.specs.Name.{IsFileNumber, numeral}
use Rattle.keel_name.proofs.reading.between.Goals as goal

-- with the same bytes before it, what follows is the same
behind_front : (bytes before rest digits behind : List ℕ) → bytes ≡ before ++ rest → bytes ≡ before ++ digits ++ behind → rest ≡ digits ++ behind
behind_front bytes before rest digits behind front same =
    append_cancel_left before rest (digits ++ behind) (sym front ∙ same ∙ append_assoc before digits behind)

spelled : (bytes before rest digits behind : List ℕ) (read : Option ℕ) → bytes ≡ before ++ rest → rest ≡ digits ++ behind
    → IfSome read (λ number. IsFileNumber number × (digits ≡ numeral number))
    → IfSome read (λ number. IsFileNumber number × (bytes ≡ before ++ numeral number ++ behind))
spelled bytes before rest digits behind None front back is = tt
spelled bytes before rest digits behind (Some number) front back is =
    (is.0, front ∙ ap (λ rest. before ++ rest) (back ∙ ap (λ digits. digits ++ behind) is.1) ∙ sym (append_assoc before (numeral number) behind))

pub returns-in_err-rest-clause-none : goal.returns-in_err-rest-clause-none
returns-in_err-rest-clause-none c =
    let other = strip_prefix_is Decides-eqb c.args.bytes.now c.args.before.now None c.in_err-rest.ensures.cases in
    rw c.from_residual.ensures (λ number is same. other (numeral number ++ c.args.behind.now) (same ∙ append_assoc c.args.before.now (numeral number) c.args.behind.now))

pub returns-in_err-digits-clause-none : goal.returns-in_err-digits-clause-none
returns-in_err-digits-clause-none c =
    let front = strip_prefix_is Decides-eqb c.args.bytes.now c.args.before.now (Some c.in_ok-rest.rest) c.in_ok-rest.ensures.cases in
    let other = strip_suffix_is Decides-eqb c.in_ok-rest.rest.now c.args.behind.now None c.in_err-digits.ensures.cases in
    rw c.from_residual-in_err-digits.ensures (λ number is same.
    other (numeral number) (behind_front c.args.bytes.now c.args.before.now c.in_ok-rest.rest.now (numeral number) c.args.behind.now front same))

pub returns-clause-found : goal.returns-clause-found
returns-clause-found c =
    let front = strip_prefix_is Decides-eqb c.args.bytes.now c.args.before.now (Some c.in_ok-rest.rest) c.in_ok-rest.ensures.cases in
    let back = strip_suffix_is Decides-eqb c.in_ok-rest.rest.now c.args.behind.now (Some c.in_ok-digits.digits) c.in_ok-digits.ensures.cases in
    spelled c.args.bytes.now c.args.before.now c.in_ok-rest.rest.now c.in_ok-digits.digits.now c.args.behind.now c.file_number.result front back c.file_number.ensures.found
