use Rattle.std.proofs.Common.{ℕ, List, ◌+◌, sym, ap, subst, ◌∙◌, drop}
use Rattle.keel_frag.specs.Reading.{AreRecords}
use Rattle.keel_directory.specs.declared.logs.LogFile.{LogFile}
use Rattle.keel_directory.specs.Replays.{batches_of}
use Rattle.keel_directory.proofs.Sliced.{next_item, none_behind}
use Rattle.keel_directory.proofs.Replaying.{Adds, Refuses, named, adds_none, adds_more, first_refused, rest_refused}
use Rattle.keel_directory.proofs.logs.add_logs.Goals as goal

pub returns-clause-ok : goal.returns-clause-ok
returns-clause-ok c =
    let batches = c.loop-log.batches.items in
    let none = none_behind c.args.logs.now c.loop-log.log-index c.loop-log-test.false in
    c.loop-log.invariant.adds batches (subst (λ (logs : List LogFile). Adds logs batches batches) (sym none) (adds_none batches))

pub loop-log-preserved : goal.loop-log-preserved
loop-log-preserved c =
    let log = c.log-item.result in
    let records = c.in_ok-records.records in
    let rest = drop (c.loop-log.log-index + 1) c.args.logs.now in
    let all = next_item c.args.logs.now c.loop-log.log-index log c.loop-log-test.true c.log-item.is in
    let are = subst (λ (bytes : List ℕ). AreRecords bytes records.all records.end) c.as_slice.ensures c.in_ok-records.ensures in
    let first = c.in-Ok.ensures.ok in
    let here = ap (batches_of log.number) (sym c.as_slice-in-loop-log.ensures) ∙ first.1 in
    record {
      adds = λ after more. c.loop-log.invariant.adds after (subst (λ (logs : List LogFile). Adds logs c.loop-log.batches.items after) (sym all)
          (adds_more log rest records.all records.end first.0 c.loop-log.batches.items c.add_records.new.batches.items after are here first.2 more));
      refused = λ refusal later. c.loop-log.invariant.refused refusal (subst (λ (logs : List LogFile). Refuses logs refusal) (sym all)
          (rest_refused log rest records.all records.end first.0 refusal are here later));
      numbered = λ before. c.in-Ok.ensures.numbered (c.loop-log.invariant.numbered before);
    }

pub returns-in-Err-clause-err : goal.returns-in-Err-clause-err
returns-in-Err-clause-err c =
    let log = c.log-item.result in
    let records = c.in_ok-records.records in
    let rest = drop (c.loop-log.log-index + 1) c.args.logs.now in
    let all = next_item c.args.logs.now c.loop-log.log-index log c.loop-log-test.true c.log-item.is in
    let are = subst (λ (bytes : List ℕ). AreRecords bytes records.all records.end) c.as_slice.ensures c.in_ok-records.ensures in
    named c.in-Err.error
    (λ refusal here. c.loop-log.invariant.refused refusal (subst (λ (logs : List LogFile). Refuses logs refusal) (sym all)
    (first_refused log rest records.all records.end refusal are (ap (batches_of log.number) (sym c.as_slice-in-loop-log.ensures) ∙ here))))
    c.in-Err.ensures.err
