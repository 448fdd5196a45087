use Rattle.std.proofs.Common.{◌≡◌, ◌∙◌, Err, ap, sym}
use Rattle.std.proofs.KnownBytes.{Keeps-trans}
use Rattle.std.proofs.lemmas.Result.{err_from_is_err_and}
use Rattle.keel_lines.specs.Pieces.{rest_of}
use Rattle.keel_lines.specs.declared.line.LineEnd.TheVariants.{TooLong}
use Rattle.keel_lines.proofs.Lefts.{kept_behind, taken_front, on_err, one_error}
use Rattle.keel_lines.proofs.line.find_end.Goals as goal

pub returns-in_err-fill-clause-err : goal.returns-in_err-fill-clause-err
returns-in_err-fill-clause-err g c =
    on_err c.from_residual.result _
    (Keeps-trans _ _ _ c.parts.invariant.kept (kept_behind c.parts.line (rest_of c.parts.piece) (rest_of c.fill.new.self) _ _ c.fill.ensures.kept))

pub returns-in_err-take_part-clause-err : goal.returns-in_err-take_part-clause-err
returns-in_err-take_part-clause-err g c =
    on_err c.from_residual-in_err-take_part.result _
    (rw (c.in_err-take_part.ensures.line, c.in_err-take_part.ensures.piece)
    (Keeps-trans _ _ _ c.parts.invariant.kept (kept_behind c.parts.line (rest_of c.parts.piece) (rest_of c.fill.new.self) _ _ c.fill.ensures.kept)))

pub returns-in_err-take_part-clause-too_long : goal.returns-in_err-take_part-clause-too_long
returns-in_err-take_part-clause-too_long g c same =
    let p = err_from_is_err_and c.from_residual-in_err-take_part.result c.from_residual-in_err-take_part.ensures.1 in
    let was : c.take_part.result ≡ Err c.in_err-take_part.field-0.0 = c.in_err-take_part.was in
    let error = sym p.2 ∙ one_error c.from_residual-in_err-take_part.result p.0 TooLong p.1 same in
    rw (c.in_err-take_part.ensures.line, c.in_err-take_part.ensures.piece) (c.take_part.ensures.too_long (was ∙ ap Err error))

pub returns-then-branch-clause-taken : goal.returns-then-branch-clause-taken
returns-then-branch-clause-taken g c =
    taken_front _ _ _ _ _
    (Keeps-trans _ _ _ c.parts.invariant.kept (kept_behind c.parts.line (rest_of c.parts.piece) (rest_of c.fill.new.self) _ _ c.fill.ensures.kept))
    (rw c.if-branch.true at c.in_ok-take_part.ensures.ok.same)
