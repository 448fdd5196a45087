use Rattle.std.proofs.Common.{length, sym, arith, eqb-true}
use Rattle.std.proofs.lemmas.Result.{err_from_is_err_and}
use Rattle.keel_script.proofs.PlainRuns.{plain_front, all_read, none_read}
use Rattle.keel_script.proofs.Spellings.{one_more, shorter}
use Rattle.keel_script.proofs.text.bytes_of.Goals as goal

pub returns-then-is_empty : goal.returns-then-is_empty
returns-then-is_empty c =
    let kept = plain_front c.args.word.now c.bytes.rest.now c.split_at.result.0.now c.split_at.result.1.now c.bytes.bytes c.extend.new.self c.plain_length.result
    c.bytes.invariant c.plain_length.ensures.within c.plain_length.ensures.plain c.split_at.ensures.front c.split_at.ensures.back c.in_ok-extend.ensures.ok in
    all_read c.args.word.now c.split_at.result.1.now c.extend.new.self kept (eqb-true (length c.split_at.result.1.now) 0 (sym c.if-is_empty.ensures))

pub returns-in_err-byte : goal.returns-in_err-byte
returns-in_err-byte c =
    let kept = plain_front c.args.word.now c.bytes.rest.now c.split_at.result.0.now c.split_at.result.1.now c.bytes.bytes c.extend.new.self c.plain_length.result
    c.bytes.invariant c.plain_length.ensures.within c.plain_length.ensures.plain c.split_at.ensures.front c.split_at.ensures.back c.in_ok-extend.ensures.ok in
    let error = err_from_is_err_and c.from_residual-in_err-byte.result c.from_residual-in_err-byte.ensures.1 in
    rw error.1 (rw error.2 (none_read c.in_err-byte.field-0.0 c.args.word.now c.split_at.result.1.now c.extend.new.self kept (sym c.if-is_empty.ensures) c.in_err-byte.ensures))

pub bytes-smaller : goal.bytes-smaller
bytes-smaller c =
    let less = shorter c.split_at.result.1.now c.in_ok-byte.others.now c.in_ok-byte.byte c.in_ok-byte.ensures in
    omega (arith, less, c.split_at.ensures.back_len)

pub bytes-preserved : goal.bytes-preserved
bytes-preserved c =
    let kept = plain_front c.args.word.now c.bytes.rest.now c.split_at.result.0.now c.split_at.result.1.now c.bytes.bytes c.extend.new.self c.plain_length.result
    c.bytes.invariant c.plain_length.ensures.within c.plain_length.ensures.plain c.split_at.ensures.front c.split_at.ensures.back c.in_ok-extend.ensures.ok in
    one_more c.args.word.now c.split_at.result.1.now c.in_ok-byte.others.now _ _ c.in_ok-byte.byte kept c.in_ok-byte.ensures c.in_ok-extend-2.ensures.ok
