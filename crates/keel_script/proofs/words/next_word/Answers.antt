use Rattle.std.proofs.Common.{length, sym, arith, eqb-true}
use Rattle.std.proofs.lemmas.Bool.{eqb-false}
use Rattle.keel_script.proofs.Splitting.{no_word, some_word}
use Rattle.keel_script.proofs.words.next_word.Goals as goal

pub returns-then-is_empty : goal.returns-then-is_empty
returns-then-is_empty c =
    no_word c.args.line.now c.split_at.result.1.now c.word_start.result c.word_start.ensures.before c.split_at.ensures.back
    (eqb-true (length c.split_at.result.1.now) 0 (sym c.if-is_empty.ensures))

pub returns : goal.returns
returns c =
    let some = eqb-false (length c.split_at.result.1.now) 0 (sym c.if-is_empty.ensures) in
    some_word c.args.line.now c.split_at.result.1.now _ _ c.word_start.result c.word_end.result c.word_start.ensures.before c.word_start.ensures.there
    c.split_at.ensures.back (omega arith) c.word_end.ensures.within c.word_end.ensures.before c.word_end.ensures.there c.split_at-2.ensures.front c.split_at-2.ensures.back
