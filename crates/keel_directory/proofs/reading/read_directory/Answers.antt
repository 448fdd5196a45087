use Rattle.std.proofs.Common.{ℕ, List, Option, Some, None, Bor, sym, ap, subst, ◌∙◌}
use Rattle.std.specs.Prelude.{option_map}
use Rattle.keel_directory.specs.Answers.{Reads}
use Rattle.keel_directory.proofs.Holding.{handed_on, reads_held, reads_refused, reads_without}
use Rattle.keel_directory.proofs.reading.read_directory.Goals as goal

abbrev shown : Option (Bor (List ℕ)) → Option (List ℕ)
shown bytes = option_map (λ b. b.now) bytes

pub returns-in_err-held-in-Some : goal.returns-in_err-held-in-Some
returns-in_err-held-in-Some c =
    let image = c.args.files.now in
    let e = c.in_err-held-in-Some.field-0.0 in
    subst (Reads image) (sym (handed_on c.from_residual.result e c.from_residual.ensures))
    (reads_refused image c.in-Some.current.now e (sym c.find.ensures ∙ ap shown c.in-Some.is) c.in_err-held-in-Some.ensures)

pub returns-in_ok-held-in-Some : goal.returns-in_ok-held-in-Some
returns-in_ok-held-in-Some c =
    reads_held c.args.files.now c.in-Some.current.now c.in_ok-held-in-Some.field-0 (sym c.find.ensures ∙ ap shown c.in-Some.is) c.in_ok-held-in-Some.ensures

pub returns-in-None-2 : goal.returns-in-None-2
returns-in-None-2 c = reads_without c.args.files.now None (sym c.find.ensures ∙ ap shown c.in-None.is) (sym c.in-None-2.is ∙ c.in_ok-first_used-in-None.ensures)

pub returns-in-Some-2 : goal.returns-in-Some-2
returns-in-Some-2 c =
    reads_without c.args.files.now (Some c.in-Some-2.file) (sym c.find.ensures ∙ ap shown c.in-None.is) (sym c.in-Some-2.is ∙ c.in_ok-first_used-in-None.ensures)
