use Rattle.std.proofs.Common.{◌≡◌, ap, sym, ◌∙◌, arith, subst}
use Rattle.keel_directory.specs.declared.logs.LogFile.{LogFile}
use Rattle.keel_directory.proofs.Placing.{Over, Between, place, put_over, put_between}
use Rattle.keel_directory.proofs.logs.put_log.Goals as goal
use Rattle.keel_directory.proofs.logs.put_log.Goals.{else-place-len-via-then-place-len+else-index-log, else-place-len-via-else-place-len}

pub returns-then-index-log : goal.returns-then-index-log
returns-then-index-log c =
    let logs = c.args.logs.now.items in
    let found = c.index.result.now in
    let is : c.place_of-place.result ≡ place c.args.log logs = c.place_of-place.ensures.place ∙ ap (place c.args.log) c.as_slice.ensures.value in
    subst (Over c.args.log found logs) (sym is) (put_over c.args.log found logs) (omega (arith, c.if-place-len.true)) (ap (λ (l : LogFile). l.number) (sym c.index.ensures) ∙ c.if-index-log.true)

pub returns : goal.returns
returns c =
    let logs = c.args.logs.now.items in
    let is : c.place_of-place.result ≡ place c.args.log logs = c.place_of-place.ensures.place ∙ ap (place c.args.log) c.as_slice.ensures.value in
    c.in_ok-insert.ensures.items
    ∙ elim c.else-place-len.branch [
      | else-place-len-via-then-place-len+else-index-log w ↦
          subst (Between c.args.log w.index.result.now logs) (sym is) (put_between c.args.log w.index.result.now logs)
          (λ lt same. w.if-index-log.false (ap (λ (l : LogFile). l.number) w.index.ensures ∙ same))
      | else-place-len-via-else-place-len w ↦ subst (Between c.args.log c.args.log logs) (sym is) (put_between c.args.log c.args.log logs) (λ lt same. omega (arith, lt, w.if-place-len.false))
    ]
