use Rattle.std.proofs.Common.{◌≡◌, ◌+◌, ◌∷◌, ◌++◌, drop, length, ap, sym, ◌∙◌, arith}
use Rattle.std.proofs.lemmas.List.Elements.{All-drop, All-same, All-head}
use Rattle.keel_base.specs.declared.op.Batch.{Batch}
use Rattle.keel_base.specs.Weight.{AreAdmissible}
use Rattle.keel_batch.specs.Batches.{payloads_behind}
use Rattle.keel_batch.specs.Spelling.{spelling}
use Rattle.keel_frag.specs.Writing.{record_bytes, records_bytes}
use Rattle.keel_machine.specs.Admission.{ops_of}
use Rattle.keel_draft.specs.Drafts.{count_ops}
use Rattle.keel_core.proofs.Batches.{is_batch}
use Rattle.keel_core.proofs.Lists.{next_item, none_behind}
use Rattle.keel_core.proofs.Records.{records_next, records_end}
use Rattle.keel_core.proofs.writing.records_of.Goals as goal

pub encode-requires : goal.encode-requires
encode-requires c =
    let i = c.loop-batch.batch-index in
    let batches = c.args.batches.now in
    let next = next_item batches i c.batch-item.result c.loop-batch-test.true c.batch-item.is in
    let counts = ap (λ l. count_ops (ops_of l)) next in
    let each = All-same (λ (b : Batch). AreAdmissible b.ops) (c.batch-item.result ∷ drop (i + 1) batches) (drop i batches) (sym next)
    (All-drop (λ (b : Batch). AreAdmissible b.ops) i batches c.requires.each) in
    is_batch (c.loop-batch.seq + 1) c.batch-item.result.ops (All-head (λ (b : Batch). AreAdmissible b.ops) c.batch-item.result (drop (i + 1) batches) each)
    (omega arith) (omega (arith, counts, c.loop-batch.invariant.numbers, c.requires.numbers))

pub loop-batch-preserved : goal.loop-batch-preserved
loop-batch-preserved c =
    let i = c.loop-batch.batch-index in
    let batches = c.args.batches.now in
    let size = c.args.size in
    let seq = c.loop-batch.seq in
    let before = c.loop-batch.bytes in
    let ops = c.batch-item.result.ops in
    let rest = drop (i + 1) batches in
    let next = next_item batches i c.batch-item.result c.loop-batch-test.true c.batch-item.is in
    let counts = ap (λ l. count_ops (ops_of l)) next in
    let offset : c.in-Some.offset ≡ size + length before = c.in-Some.ensures.1 ∙ ap (λ n. size + n) c.len.ensures in
    let payload : c.as_slice.result.now ≡ spelling (seq + 1) ops = c.as_slice.ensures ∙ c.in_ok-payload.ensures in
    let made : c.in_ok-record.record ≡ record_bytes (size + length before) (spelling (seq + 1) ops) = c.in_ok-record.ensures.spelled ∙ (λ k. record_bytes (offset k) (payload k)) in
    let now : c.extend.new.self ≡ before ++ c.in_ok-record.record = c.in_ok-extend.ensures.ok ∙ ap (λ l. before ++ l) c.as_slice-in-loop-batch.ensures in
    let more : c.len-in-loop-batch.result ≡ length ops = c.len-in-loop-batch.ensures in
    let total = records_bytes size (payloads_behind c.args.last (ops_of batches)) in
    let whole : before ++ records_bytes (size + length before) (spelling (seq + 1) ops ∷ payloads_behind (seq + length ops) (ops_of rest)) ≡ total =
    ap (λ l. before ++ records_bytes (size + length before) (payloads_behind seq (ops_of l))) (sym next) ∙ c.loop-batch.invariant.bytes in
    record {
      bytes = (λ k. now k ++ records_bytes (size + length (now k)) (payloads_behind (seq + more k) (ops_of rest)))
          ∙ records_next size before c.in_ok-record.record total (spelling (seq + 1) ops) (payloads_behind (seq + length ops) (ops_of rest)) made whole;
      numbers = omega (arith, counts, more, c.loop-batch.invariant.numbers);
    }

pub returns : goal.returns
returns c =
    let none = none_behind c.args.batches.now c.loop-batch.batch-index c.loop-batch-test.false in
    let total = records_bytes c.args.size (payloads_behind c.args.last (ops_of c.args.batches.now)) in
    records_end (c.args.size + length c.loop-batch.bytes) c.loop-batch.bytes total
    (ap (λ l. c.loop-batch.bytes ++ records_bytes (c.args.size + length c.loop-batch.bytes) (payloads_behind c.loop-batch.seq (ops_of l))) (sym none) ∙ c.loop-batch.invariant.bytes)
