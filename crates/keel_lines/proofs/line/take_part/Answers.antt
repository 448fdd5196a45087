use Rattle.std.proofs.Common.{◌≡◌, ◌∙◌, ap, length, arith}
use Rattle.keel_lines.specs.Lines.{length_before}
use Rattle.keel_lines.specs.Pieces.{rest_of}
use Rattle.keel_lines.proofs.Parts.{too_long, too_much, goes_on}
use Rattle.keel_lines.proofs.line.take_part.Goals as goal

pub returns-then-min-gt-MAX_LINE-clause-too_long : goal.returns-then-min-gt-MAX_LINE-clause-too_long
returns-then-min-gt-MAX_LINE-clause-too_long c same =
    let bytes = rest_of c.args.piece.now in
    let count = c.length_before-count.ensures.length ∙ ap length_before c.rest-rest.ensures.value in
    too_long c.args.line.now bytes c.args.room c.requires.begun.unbroken (omega (arith, c.if-min-gt-MAX_LINE.true, c.min.ensures, c.len.ensures, count))

pub returns-then-len-through-clause-long_input : goal.returns-then-len-through-clause-long_input
returns-then-len-through-clause-long_input c same =
    let bytes = rest_of c.args.piece.now in
    let count = c.length_before-count.ensures.length ∙ ap length_before c.rest-rest.ensures.value in
    let size : length c.rest-rest.result.now ≡ length bytes = ap length c.rest-rest.ensures.value in
    too_much c.args.line.now bytes c.args.room c.requires.begun.unbroken (omega (arith, c.if-min-gt-MAX_LINE.false, c.min.ensures, c.len.ensures, count))
    (omega (arith, c.if-len-through.true, c.len-2.ensures, c.min-through.ensures, count, size))

pub returns-clause-ok : goal.returns-clause-ok
returns-clause-ok c =
    let bytes = rest_of c.args.piece.now in
    let count = c.length_before-count.ensures.length ∙ ap length_before c.rest-rest.ensures.value in
    let size : length c.rest-rest.result.now ≡ length bytes = ap length c.rest-rest.ensures.value in
    rw (c.in_ok-extend.ensures.ok, c.rest-rest.ensures.value, c.skip.ensures)
    (goes_on c.args.line.now bytes c.args.room c.length_before-count.result c.min-through.result count (omega (arith, c.min-through.ensures, size)) c.requires.begun
    c.requires.some
    (omega (arith, c.if-min-gt-MAX_LINE.false, c.min.ensures, c.len.ensures))
    (omega (arith, c.if-len-through.false, c.len-2.ensures)))
