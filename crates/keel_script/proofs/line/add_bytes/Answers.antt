use Rattle.std.proofs.Common.{◌++◌}
use Rattle.std.specs.List.{flat_map}
use Rattle.keel_script.specs.Texts.{printed_byte}
use Rattle.keel_script.proofs.PlainRuns.{all_printed, printed_front, printed_more}
use Rattle.keel_script.proofs.line.add_bytes.Goals as goal

pub returns-in_default : goal.returns-in_default
returns-in_default c =
    let whole = c.args.line.now ++ flat_map printed_byte c.args.bytes.now in
    let kept = printed_front c.bytes.line c.bytes.rest.now c.split_at.result.0.now c.split_at.result.1.now c.extend.new.self whole c.plain_length.result
    c.bytes.invariant c.plain_length.ensures.within c.plain_length.ensures.plain c.split_at.ensures.front c.split_at.ensures.back c.in_ok-extend.ensures.ok in
    all_printed c.extend.new.self c.split_at.result.1.now whole kept c.in_default.ensures.cases

pub bytes-preserved : goal.bytes-preserved
bytes-preserved c =
    let whole = c.args.line.now ++ flat_map printed_byte c.args.bytes.now in
    let kept = printed_front c.bytes.line c.bytes.rest.now c.split_at.result.0.now c.split_at.result.1.now c.extend.new.self whole c.plain_length.result
    c.bytes.invariant c.plain_length.ensures.within c.plain_length.ensures.plain c.split_at.ensures.front c.split_at.ensures.back c.in_ok-extend.ensures.ok in
    printed_more c.extend.new.self c.split_at.result.1.now c.in-Some.others.now c.add_byte.new.line whole c.in-Some.byte.now kept c.in-Some.ensures.cases.0 c.in_ok-add_byte.ensures
