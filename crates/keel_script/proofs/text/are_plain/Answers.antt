use Rattle.std.proofs.Common.{◌+◌, ◌&&◌, arith}
use Rattle.keel_script.proofs.PlainEights.{one, and}
use Rattle.keel_script.proofs.text.are_plain.Goals as goal

pub returns : goal.returns
returns c =
    let from = c.args.from in
    let p1 = one c.args.bytes.now from c.is_plain.result c.is_plain.ensures in
    let p2 = and c.args.bytes.now from (from + 1) (from + 2) (c.is_plain.result) c.is_plain-2.result (omega arith) p1 c.is_plain-2.ensures in
    let p3 = and c.args.bytes.now from (from + 2) (from + 3) (c.is_plain.result && c.is_plain-2.result) c.is_plain-3.result (omega arith) p2 c.is_plain-3.ensures in
    let p4 = and c.args.bytes.now from (from + 3) (from + 4) ((c.is_plain.result && c.is_plain-2.result) && c.is_plain-3.result) c.is_plain-4.result (omega arith) p3 c.is_plain-4.ensures in
    let p5 = and c.args.bytes.now from (from + 4) (from + 5) (((c.is_plain.result && c.is_plain-2.result) && c.is_plain-3.result) && c.is_plain-4.result) c.is_plain-5.result (omega arith) p4 c.is_plain-5.ensures in
    let p6 = and c.args.bytes.now from (from + 5) (from + 6) ((((c.is_plain.result && c.is_plain-2.result) && c.is_plain-3.result) && c.is_plain-4.result) && c.is_plain-5.result) c.is_plain-6.result (omega arith) p5 c.is_plain-6.ensures in
    let p7 = and c.args.bytes.now from (from + 6) (from + 7) (((((c.is_plain.result && c.is_plain-2.result) && c.is_plain-3.result) && c.is_plain-4.result) && c.is_plain-5.result) && c.is_plain-6.result) c.is_plain-7.result (omega arith) p6 c.is_plain-7.ensures in
    let p8 = and c.args.bytes.now from (from + 7) (from + 8) ((((((c.is_plain.result && c.is_plain-2.result) && c.is_plain-3.result) && c.is_plain-4.result) && c.is_plain-5.result) && c.is_plain-6.result) && c.is_plain-7.result) c.is_plain-8.result (omega arith) p7 c.is_plain-8.ensures in
    p8
