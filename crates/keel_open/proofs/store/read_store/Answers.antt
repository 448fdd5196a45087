use Rattle.std.proofs.Common.{ℕ, Option, Ok, Err, sym, subst}
use Rattle.keel_disk.specs.Told.{Told}
use Rattle.keel_wal.specs.Replays.{ReplayAnswers}
use Rattle.keel_open.specs.declared.refusal.OpenRefusal.{OpenRefusal}
use Rattle.keel_open.specs.Stores.{StoreTells}
use Rattle.keel_open.proofs.Storing.{logs_refused, store_tells}
use Rattle.keel_open.proofs.store.read_store.Goals as goal

pub returns-in-Ok-replay-clause-store : goal.returns-in-Ok-replay-clause-store
returns-in-Ok-replay-clause-store g c =
    let told = (g.D.Disk.seen c.args.disk.now).told in
    let base = c.in-Ok.base in
    let found = c.in-Ok-replay.found in
    let same = subst (λ (t : Option Told). ReplayAnswers t c.min_log.result c.last_seq.result (Ok found)) c.in-Ok.ensures.quiet.same c.in-Ok-replay.ensures.answers in
    let least = subst (λ (n : ℕ). ReplayAnswers told n c.last_seq.result (Ok found)) c.min_log.ensures same in
    store_tells told base found c.in-Ok.ensures.base (subst (λ (n : ℕ). ReplayAnswers told base.version.min_log n (Ok found)) c.last_seq.ensures least)

pub returns-in-Err-replay-clause-store : goal.returns-in-Err-replay-clause-store
returns-in-Err-replay-clause-store g c =
    let told = (g.D.Disk.seen c.args.disk.now).told in
    let base = c.in-Ok.base in
    let e = c.in-Err-replay.error in
    let same = subst (λ (t : Option Told). ReplayAnswers t c.min_log.result c.last_seq.result (Err e)) c.in-Ok.ensures.quiet.same c.in-Err-replay.ensures.answers in
    let least = subst (λ (n : ℕ). ReplayAnswers told n c.last_seq.result (Err e)) c.min_log.ensures same in
    subst (λ (r : OpenRefusal). StoreTells told (Err r)) (sym c.refusal_for.ensures)
    (logs_refused told base e c.in-Ok.ensures.base (subst (λ (n : ℕ). ReplayAnswers told base.version.min_log n (Err e)) c.last_seq.ensures least))
