use Rattle.std.proofs.Common.{◌+◌, ◌++◌, drop, get_or, ap, sym, ◌∙◌, arith, append-nil}
use Rattle.keel_machine.specs.Admission.{ops_of}
use Rattle.keel_draft.specs.Drafts.{count_ops}
use Rattle.keel_machine.specs.WritingAfter.{done_each}
use Rattle.keel_core.proofs.Giving.{done_next, first_ticket}
use Rattle.keel_core.proofs.Lists.{none_behind, ops_next, seq_counts}
use Rattle.keel_core.proofs.queue.give_done.Goals as goal

pub seq_behind-last-requires : goal.seq_behind-last-requires
seq_behind-last-requires c = omega (arith, c.loop-index.invariant.numbers, c.requires.numbers)

pub loop-index-preserved : goal.loop-index-preserved
loop-index-preserved c =
    let i = c.loop-index.index in
    let counts = seq_counts c.loop-index.last (ops_of (drop i c.args.batches.now)) in
    let next = ap count_ops (ops_next i c.args.batches.now) in
    record {
      items = done_next _ _ _ _ (drop (i + 1) c.args.tickets.now) (get_or c.args.tickets.now i 0) c.loop-index.last c.seq_behind-last.result i c.args.batches.now
          (first_ticket c.args.tickets.now i c.loop-index-test.true) c.seq_behind-last.ensures c.push_reserved.ensures.items c.loop-index.invariant.items;
      numbers = omega (arith, counts, next, c.seq_behind-last.ensures, c.loop-index.invariant.numbers);
      len = omega (arith, c.push_reserved.ensures.len, c.loop-index.invariant.len);
      room = omega (arith, c.push_reserved.ensures.capacity, c.loop-index.invariant.room);
    }

pub returns-clause-items : goal.returns-clause-items
returns-clause-items c =
    let none = none_behind c.args.tickets.now c.loop-index.index c.loop-index-test.false in
    sym (append-nil c.loop-index.outcomes.items) ∙ ap (λ ts. c.loop-index.outcomes.items ++ done_each c.loop-index.last ts (ops_of (drop c.loop-index.index c.args.batches.now))) (sym none) ∙ c.loop-index.invariant.items
