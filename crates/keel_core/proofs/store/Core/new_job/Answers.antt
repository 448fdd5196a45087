use Rattle.std.proofs.Common.{◌≡◌, ◌≢◌, [], refl, sym, ◌∙◌}
use Rattle.keel_resume.specs.Jobs.{Covers}
use Rattle.keel_core.proofs.BootCovers.{has_rows, job_of_more, job_of_none, no_rows}
use Rattle.keel_core.proofs.store.Core.new_job.Goals as goal

pub returns-then-weight-eq0 : goal.returns-then-weight-eq0
returns-then-weight-eq0 g c =
    let none : c.args.self.now.rows ≡ [] = rw (← c.self.view_is) (no_rows c.self.inside.mem.rows (sym c.weight.ensures.value ∙ c.if-weight-eq0.true)) in
    record { closes = none; taken = refl; tables = job_of_none c.args.self.now c.in_ok-job.job none c.in_ok-job.ensures }

pub returns : goal.returns
returns g c =
    let some : c.args.self.now.rows ≢ [] = rw (← c.self.view_is) (has_rows c.self.inside.mem.rows c.weight.result c.weight.ensures.value c.if-weight-eq0.false) in
    let covers : Covers c.args.self.now.rows c.in_ok-job.job c.cover.new.self = rw (← c.self.view_is) c.in_ok-cover.ensures.ok in
    record {
      closes = (some, c.in_ok-closed.ensures);
      taken = refl;
      tables = job_of_more c.args.self.now c.in_ok-job.job c.cover.new.self some c.in_ok-job.ensures covers;
    }
