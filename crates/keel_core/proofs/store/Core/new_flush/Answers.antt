use Rattle.std.proofs.Common.{ap, sym, ◌∙◌, arith}
use Rattle.std.specs.Prelude.{slice_get}
use Rattle.keel_flush.specs.Plans.{job_of}
use Rattle.keel_core.specs.Flushes.{next_log}
use Rattle.keel_core.proofs.BootCovers.{entries_many, has_rows}
use Rattle.keel_core.proofs.FlushStarts.{table_of_first}
use Rattle.keel_core.proofs.store.Core.new_flush.Goals as goal

pub returns : goal.returns
returns g c =
    let w = c.self.inside in
    let job = c.in_ok-job.ensures in
    rw (← c.self.view_is) (record {
      draft = job.draft;
      is = table_of_first w.segments.items c.in-Some.oldest.now job.draft (c.in-Some.ensures.value ∙ ap (λ l. slice_get l 0) c.deref.ensures.value)
          (has_rows c.in-Some.oldest.now.mem.rows c.weight.result c.weight.ensures.value c.if-weight-eq0.false) job.is;
      few = omega (arith, c.if-len-ge-MANY_TABLES.false, c.len.ensures, entries_many w.tables.live w.tables.entries w.tables.same);
      job_is = job.job_is ∙ ap (λ n. job_of n job.draft) (c.next_log.ensures ∙ ap next_log (sym c.self.view_is));
    })
