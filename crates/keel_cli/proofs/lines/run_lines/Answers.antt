use Rattle.std.proofs.Common.{◌≡◌, ℕ, ◌+◌, List, [], ◌∷◌, ◌++◌, Ok, Err, ap, arith, length, length-append, refl, ◌∙◌}
use Rattle.keel_lines.specs.Calls.{GivesLine, IsFinished, IsHeld}
use Rattle.keel_lines.proofs.Deliveries.{adds_line, ends_lines, holds_lines}
use Rattle.keel_disk.specs.Seen.{Seen}
use Rattle.keel_cli.specs.Jobs.{no_jobs}
use Rattle.keel_cli.specs.Sessions.{Session, driven_in, unopened}
use Rattle.keel_cli.proofs.Carrying.{shows_as, shows_one}
use Rattle.keel_cli.proofs.Running.{run_begins, run_goes_on, run_stops, run_ends}
use Rattle.keel_cli.proofs.Streaming.{rose_later, nothing_given, completes, gets_none, stops_at, takes_few}
use Rattle.keel_cli.proofs.lines.run_lines.Goals as goal

pub lines-init : goal.lines-init
lines-init g c =
    let shows : Seen = g.V.Disk.seen c.args.device in
    let made = c.new-driver.ensures in
    let e = c.new-reader.ensures in
    record {
      lines = [];
      given = nothing_given (g.S.Source.remaining c.args.source) c.new-reader.result e.pending e.passed e.ended e.remaining;
      number_is = refl;
      few = omega arith;
      within = omega (arith, e.passed);
      so_far = λ footing may.
          let first : Session = record { store = unopened footing shows; jobs = no_jobs; options = c.new-driver.result.settings; tick = 0 } in (
            first,
            record { store = rw made.store (record { shut = refl; device = refl; jobs = refl }); options = refl; tick = rw made.tick refl },
            run_begins footing shows (g.K.Sink.held c.args.out.now) first (record { store = refl; jobs = refl; options = made.options; tick = refl }) may,
          );
      later = omega arith;
      read_later = omega (arith, e.faults);
    }

pub returns-in-Ok-None-clause-end : goal.returns-in-Ok-None-clause-end
returns-in-Ok-None-clause-end g c =
    let inv = c.lines.invariant in
    let shows : Seen = g.V.Disk.seen c.args.device in
    let back : Seen = g.V.Disk.seen c.into_device.result in
    let finished : IsFinished c.lines.reader c.next.new.self = c.in-Ok-None.ensures.end (ap Ok c.in-Ok-None.field-0-is) in
    completes (g.S.Source.remaining c.args.source) (g.S.Source.faults c.args.source) (g.K.Sink.held c.args.out.now) (g.K.Sink.faults c.args.out.now) shows inv.lines c.lines.reader c.next.new.self
    inv.given inv.read_later (g.S.Source.remaining c.into_source.result) (g.S.Source.faults c.into_source.result) (g.K.Sink.held c.lines.out) (g.K.Sink.faults c.lines.out) back
    c.into_source.ensures.remaining c.into_source.ensures.faults finished
    (λ footing may.
    let old = inv.so_far footing may in
    run_ends footing shows (g.K.Sink.held c.args.out.now) back may inv.lines (g.K.Sink.held c.lines.out) old.0
    (shows_as c.lines.driver.store (driven_in old.0) back old.1.store c.into_device.ensures) old.2)

pub returns-in-Ok-None-clause-taken : goal.returns-in-Ok-None-clause-taken
returns-in-Ok-None-clause-taken g c =
    let inv = c.lines.invariant in
    let told = g.S.Source.remaining c.args.source in
    let finished : IsFinished c.lines.reader c.next.new.self = c.in-Ok-None.ensures.end (ap Ok c.in-Ok-None.field-0-is) in
    takes_few told (g.S.Source.remaining c.into_source.result) c.next.new.self inv.lines (ends_lines told c.lines.reader c.next.new.self inv.lines inv.given finished) c.next.ensures.few
    c.into_source.ensures.remaining

pub returns-in-Err-clause-taken : goal.returns-in-Err-clause-taken
returns-in-Err-clause-taken g c =
    let inv = c.lines.invariant in
    let told = g.S.Source.remaining c.args.source in
    let held : IsHeld c.lines.reader c.next.new.self = c.in-Err.ensures.err in
    takes_few told (g.S.Source.remaining c.into_source-in-Err.result) c.next.new.self inv.lines (holds_lines told c.lines.reader c.next.new.self inv.lines inv.given held) c.next.ensures.few
    c.into_source-in-Err.ensures.remaining

pub returns-in-Err-run_line-clause-taken : goal.returns-in-Err-run_line-clause-taken
returns-in-Err-run_line-clause-taken g c =
    let inv = c.lines.invariant in
    let told = g.S.Source.remaining c.args.source in
    let line : List ℕ = c.in-Ok-Some.line in
    let gives : GivesLine c.lines.reader c.next.new.self line = rw c.in-Ok-Some.field-0-is at c.in-Ok-Some.ensures.line in
    takes_few told (g.S.Source.remaining c.into_source-in-Err-run_line.result) c.next.new.self (inv.lines ++ line ∷ [])
    (adds_line told c.lines.reader c.next.new.self inv.lines line inv.given gives) c.next.ensures.few c.into_source-in-Err-run_line.ensures.remaining

pub returns-in-Err-clause-end : goal.returns-in-Err-clause-end
returns-in-Err-clause-end g c =
    let inv = c.lines.invariant in
    let shows : Seen = g.V.Disk.seen c.args.device in
    let back : Seen = g.V.Disk.seen c.into_device-in-Err.result in
    let e = c.in-Err.ensures in
    let held : IsHeld c.lines.reader c.next.new.self = e.err in
    rw c.end_behind.ensures
    (gets_none (g.S.Source.remaining c.args.source) (g.S.Source.faults c.args.source) (g.K.Sink.held c.args.out.now) (g.K.Sink.faults c.args.out.now) shows inv.lines c.lines.reader c.next.new.self
    inv.given inv.read_later (g.S.Source.remaining c.into_source-in-Err.result) (g.S.Source.faults c.into_source-in-Err.result) (g.K.Sink.held c.lines.out) (g.K.Sink.faults c.lines.out) back
    c.into_source-in-Err.ensures.remaining c.into_source-in-Err.ensures.faults c.in-Err.error c.lines.number inv.number_is held
    (λ is. e.too_long (ap Err is)) (λ is. e.long_input (ap Err is)) (λ is. e.fault (ap Err is)) (λ is. e.cause (ap Err is))
    (λ footing may.
    let old = inv.so_far footing may in
    run_ends footing shows (g.K.Sink.held c.args.out.now) back may inv.lines (g.K.Sink.held c.lines.out) old.0
    (shows_as c.lines.driver.store (driven_in old.0) back old.1.store c.into_device-in-Err.ensures) old.2))

pub returns-in-Err-run_line-clause-end : goal.returns-in-Err-run_line-clause-end
returns-in-Err-run_line-clause-end g c =
    let inv = c.lines.invariant in
    let shows : Seen = g.V.Disk.seen c.args.device in
    let back : Seen = g.V.Disk.seen c.into_device-in-Err-run_line.result in
    let line : List ℕ = c.in-Ok-Some.line in
    let out = c.run_line.new.out in
    let gives : GivesLine c.lines.reader c.next.new.self line = rw c.in-Ok-Some.field-0-is at c.in-Ok-Some.ensures.line in
    let number : c.lines.number + 1 ≡ length inv.lines + 1 = ap (λ n. n + 1) inv.number_is in
    rw c.end_at.ensures
    (stops_at (g.S.Source.remaining c.args.source) (g.S.Source.faults c.args.source) (g.K.Sink.held c.args.out.now) (g.K.Sink.faults c.args.out.now) shows inv.lines c.lines.reader c.next.new.self
    inv.given inv.read_later (g.S.Source.remaining c.into_source-in-Err-run_line.result) (g.S.Source.faults c.into_source-in-Err-run_line.result) (g.K.Sink.held out) (g.K.Sink.faults out) back
    c.into_source-in-Err-run_line.ensures.remaining c.into_source-in-Err-run_line.ensures.faults c.in-Err-run_line.stop (c.lines.number + 1) line gives
    (λ is. rose_later (g.K.Sink.faults c.args.out.now) (g.K.Sink.faults c.lines.out) (g.K.Sink.faults out) inv.later (c.run_line.ensures.cause (c.in-Err-run_line.is ∙ ap Err is)))
    (λ footing may.
    let old = inv.so_far footing may in
    let next = rw (c.in-Err-run_line.is, c.as_slice.ensures) at c.run_line.ensures.end old.0 old.1 old.2.covered in
    run_stops footing shows (g.K.Sink.held c.args.out.now) back may inv.lines line (c.lines.number + 1) (g.K.Sink.held c.lines.out) (g.K.Sink.held out) old.0 next.0
    (shows_one c.run_line.new.driver.store back next.0.store.device c.into_device-in-Err-run_line.ensures next.1) number c.in-Err-run_line.stop old.2 next.2))

pub lines-preserved : goal.lines-preserved
lines-preserved g c =
    let inv = c.lines.invariant in
    let shows : Seen = g.V.Disk.seen c.args.device in
    let line : List ℕ = c.in-Ok-Some.line in
    let out = c.run_line.new.out in
    let gives : GivesLine c.lines.reader c.next.new.self line = rw c.in-Ok-Some.field-0-is at c.in-Ok-Some.ensures.line in
    record {
      lines = inv.lines ++ line ∷ [];
      given = adds_line (g.S.Source.remaining c.args.source) c.lines.reader c.next.new.self inv.lines line inv.given gives;
      number_is = omega (arith, inv.number_is, length-append inv.lines (line ∷ []));
      few = omega (arith, inv.few, gives.further);
      within = gives.within;
      so_far = λ footing may.
          let old = inv.so_far footing may in
          let next = rw (c.in_default.is, c.as_slice.ensures) at c.run_line.ensures.end old.0 old.1 old.2.covered in (
            next.0,
            next.1,
            run_goes_on footing shows (g.K.Sink.held c.args.out.now) inv.lines line (g.K.Sink.held c.lines.out) (g.K.Sink.held out) old.0 next.0 old.2 next.2,
          );
      later = omega (arith, inv.later, c.run_line.ensures.later);
      read_later = omega (arith, inv.read_later, c.next.ensures.later);
    }
