use Rattle.std.proofs.Common.{refl, inr}
use Rattle.keel_script.specs.declared.command.Command.TheVariants.{Drain, Flush, ResumeStep, Write}
use Rattle.keel_cli.specs.Jobs.{driven}
use Rattle.keel_cli.specs.Boots.{BootRun, BootCut}
use Rattle.keel_cli.specs.Drains.{DrainRun, DrainCut}
use Rattle.keel_cli.specs.Flushes.{FlushRun, FlushCut}
use Rattle.keel_cli.specs.Puts.{put_batch, del_batch, PutRun, PutCut, QueueRun, QueueCut}
use Rattle.keel_cli.specs.Writes.{WriteRun, WriteCut}
use Rattle.keel_cli.proofs.Carrying.{called, cut_before, error_told, levels_told, resume_told}
use Rattle.keel_cli.proofs.store.answer_on.Goals as goal

pub returns-in-Get-clause-out : goal.returns-in-Get-clause-out
returns-in-Get-clause-out g c s stands borne = rw c.in-Get.is (c.get.ensures.out (driven s c.args.jobs.now) stands borne)

pub returns-in-Scan-clause-out : goal.returns-in-Scan-clause-out
returns-in-Scan-clause-out g c s stands borne = rw c.in-Scan.is (c.scan.ensures.out (driven s c.args.jobs.now) stands borne)

pub returns-in-Write-clause-out : goal.returns-in-Write-clause-out
returns-in-Write-clause-out g c s stands borne =
    let ran = c.write in
    rw c.in-Write.is
    (called c.args.options.now (driven s c.args.jobs.now) Write c.args.core.now ran.new.core ran.new.jobs ran.result c.one-in-Write.result
    (WriteRun (driven s c.args.jobs.now)) (WriteCut (driven s c.args.jobs.now)) stands refl (λ replies next run. run) (λ next cut. inr cut)
    c.one-in-Write.ensures.ok c.one-in-Write.ensures.err (ran.ensures.carried s stands) (ran.ensures.cut s stands))

pub returns-in-Flush-clause-out : goal.returns-in-Flush-clause-out
returns-in-Flush-clause-out g c s stands borne =
    let ran = c.flush in
    rw c.in-Flush.is
    (called c.args.options.now (driven s c.args.jobs.now) Flush c.args.core.now ran.new.core ran.new.jobs ran.result c.one-in-Flush.result
    (FlushRun (driven s c.args.jobs.now)) (FlushCut (driven s c.args.jobs.now)) stands refl (λ replies next run. run) (λ next cut. inr cut)
    c.one-in-Flush.ensures.ok c.one-in-Flush.ensures.err (ran.ensures.carried s stands) (ran.ensures.cut s stands))

pub returns-in-Error-clause-out : goal.returns-in-Error-clause-out
returns-in-Error-clause-out g c s stands borne =
    rw c.in-Error.is (error_told c.args.options.now c.args.core.now (driven s c.args.jobs.now) stands c.error.result (c.error.ensures (driven s c.args.jobs.now) stands))

pub returns-in-Resume-clause-out : goal.returns-in-Resume-clause-out
returns-in-Resume-clause-out g c s stands borne =
    rw c.in-Resume.is (resume_told c.args.options.now c.args.core.now (driven s c.args.jobs.now) stands c.start.new.core c.start.new.jobs c.start.result (c.start.ensures.carried s stands))

pub returns-in-Levels-clause-out : goal.returns-in-Levels-clause-out
returns-in-Levels-clause-out g c s stands borne =
    rw c.in-Levels.is (levels_told c.args.options.now c.args.core.now (driven s c.args.jobs.now) stands c.levels.result c.levels.ensures.turn)

pub returns-in-ResumeStep-clause-out : goal.returns-in-ResumeStep-clause-out
returns-in-ResumeStep-clause-out g c s stands borne =
    let ran = c.resume in
    rw c.in-ResumeStep.is
    (called c.args.options.now (driven s c.args.jobs.now) ResumeStep c.args.core.now ran.new.core ran.new.jobs ran.result c.one-in-ResumeStep.result
    (BootRun (driven s c.args.jobs.now)) (BootCut (driven s c.args.jobs.now)) stands refl (λ replies next run. run) (λ next cut. inr cut)
    c.one-in-ResumeStep.ensures.ok c.one-in-ResumeStep.ensures.err (ran.ensures.carried s stands) (ran.ensures.cut s stands))

pub returns-in-Drain-clause-out : goal.returns-in-Drain-clause-out
returns-in-Drain-clause-out g c s stands borne =
    let ran = c.drain in
    rw c.in-Drain.is
    (called c.args.options.now (driven s c.args.jobs.now) (Drain c.in-Drain.moves) c.args.core.now ran.new.core ran.new.jobs ran.result c.one-in-Drain.result
    (DrainRun c.in-Drain.moves (driven s c.args.jobs.now)) (DrainCut c.in-Drain.moves (driven s c.args.jobs.now)) stands refl (λ replies next run. run) (λ next cut. inr cut)
    c.one-in-Drain.ensures.ok c.one-in-Drain.ensures.err (ran.ensures.carried s stands) (ran.ensures.cut s stands))

pub returns-in_err-put-in-Put-clause-out : goal.returns-in_err-put-in-Put-clause-out
returns-in_err-put-in-Put-clause-out g c s stands borne = cut_before c.args.options.now (driven s c.args.jobs.now) c.args.command.now c.args.core.now c.args.jobs.now c.from_residual.result c.from_residual.ensures.0 stands

pub returns-in_ok-put-in-Put-clause-out : goal.returns-in_ok-put-in-Put-clause-out
returns-in_ok-put-in-Put-clause-out g c s stands borne =
    let batch = put_batch c.in-Put.key c.in-Put.value c.in-Put.sync in
    let ran = c.put_batch in
    let is = c.in_ok-put-in-Put.ensures in
    rw c.in-Put.is
    (called c.args.options.now (driven s c.args.jobs.now) _ c.args.core.now ran.new.core ran.new.jobs ran.result c.one.result
    (PutRun (driven s c.args.jobs.now) batch) (PutCut (driven s c.args.jobs.now) batch) stands refl (λ replies next run. run) (λ next cut. inr cut)
    c.one.ensures.ok c.one.ensures.err (rw is at ran.ensures.carried s stands) (rw is at ran.ensures.cut s stands))

pub returns-in_err-del-in-Del-clause-out : goal.returns-in_err-del-in-Del-clause-out
returns-in_err-del-in-Del-clause-out g c s stands borne = cut_before c.args.options.now (driven s c.args.jobs.now) c.args.command.now c.args.core.now c.args.jobs.now c.from_residual-in_err-del-in-Del.result c.from_residual-in_err-del-in-Del.ensures.0 stands

pub returns-in_ok-del-in-Del-clause-out : goal.returns-in_ok-del-in-Del-clause-out
returns-in_ok-del-in-Del-clause-out g c s stands borne =
    let batch = del_batch c.in-Del.key c.in-Del.sync in
    let ran = c.put_batch-in-Del in
    let is = c.in_ok-del-in-Del.ensures in
    rw c.in-Del.is
    (called c.args.options.now (driven s c.args.jobs.now) _ c.args.core.now ran.new.core ran.new.jobs ran.result c.one-in-Del.result
    (PutRun (driven s c.args.jobs.now) batch) (PutCut (driven s c.args.jobs.now) batch) stands refl (λ replies next run. run) (λ next cut. inr cut)
    c.one-in-Del.ensures.ok c.one-in-Del.ensures.err (rw is at ran.ensures.carried s stands) (rw is at ran.ensures.cut s stands))

pub returns-in_err-put-in-QueuePut-clause-out : goal.returns-in_err-put-in-QueuePut-clause-out
returns-in_err-put-in-QueuePut-clause-out g c s stands borne = cut_before c.args.options.now (driven s c.args.jobs.now) c.args.command.now c.args.core.now c.args.jobs.now c.from_residual-in_err-put-in-QueuePut.result c.from_residual-in_err-put-in-QueuePut.ensures.0 stands

pub returns-in_ok-put-in-QueuePut-clause-out : goal.returns-in_ok-put-in-QueuePut-clause-out
returns-in_ok-put-in-QueuePut-clause-out g c s stands borne =
    let batch = put_batch c.in-QueuePut.key c.in-QueuePut.value c.in-QueuePut.sync in
    let ran = c.queue_batch in
    let is = c.in_ok-put-in-QueuePut.ensures in
    rw c.in-QueuePut.is
    (called c.args.options.now (driven s c.args.jobs.now) _ c.args.core.now ran.new.core c.args.jobs.now ran.result c.one-in-QueuePut.result
    (QueueRun (driven s c.args.jobs.now) batch) (QueueCut (driven s c.args.jobs.now) batch) stands refl (λ replies next run. run) (λ next cut. inr cut)
    c.one-in-QueuePut.ensures.ok c.one-in-QueuePut.ensures.err (rw is at ran.ensures.carried s c.args.jobs.now stands) (rw is at ran.ensures.cut s c.args.jobs.now stands))

pub returns-in_err-del-in-QueueDel-clause-out : goal.returns-in_err-del-in-QueueDel-clause-out
returns-in_err-del-in-QueueDel-clause-out g c s stands borne = cut_before c.args.options.now (driven s c.args.jobs.now) c.args.command.now c.args.core.now c.args.jobs.now c.from_residual-in_err-del-in-QueueDel.result c.from_residual-in_err-del-in-QueueDel.ensures.0 stands

pub returns-in_ok-del-in-QueueDel-clause-out : goal.returns-in_ok-del-in-QueueDel-clause-out
returns-in_ok-del-in-QueueDel-clause-out g c s stands borne =
    let batch = del_batch c.in-QueueDel.key c.in-QueueDel.sync in
    let ran = c.queue_batch-in-QueueDel in
    let is = c.in_ok-del-in-QueueDel.ensures in
    rw c.in-QueueDel.is
    (called c.args.options.now (driven s c.args.jobs.now) _ c.args.core.now ran.new.core c.args.jobs.now ran.result c.one-in-QueueDel.result
    (QueueRun (driven s c.args.jobs.now) batch) (QueueCut (driven s c.args.jobs.now) batch) stands refl (λ replies next run. run) (λ next cut. inr cut)
    c.one-in-QueueDel.ensures.ok c.one-in-QueueDel.ensures.err (rw is at ran.ensures.carried s c.args.jobs.now stands) (rw is at ran.ensures.cut s c.args.jobs.now stands))
