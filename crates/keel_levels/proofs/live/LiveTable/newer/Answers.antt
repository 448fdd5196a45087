use Rattle.std.proofs.Common.{◌≡◌, Bool, true, false, not, refl, sym, ap, ◌∙◌}
use Rattle.keel_edit.specs.declared.edit.Added.{Added}
use Rattle.keel_levels.specs.Newest.{newest_of_both, has_range, may_be_newer}
use Rattle.keel_levels.proofs.Ranging.{all_older, none_more}
use Rattle.keel_levels.proofs.live.LiveTable.newer.Goals as goal
use Rattle.keel_levels.proofs.live.LiveTable.newer.Goals.{then-not-has_range-via-then-not-has_range, then-not-has_range-via-else-not-has_range+then-not-may_be_newer}

is_not : (b : Bool) → not b ≡ true → b ≡ false
is_not true e = absurd cc
is_not false e = refl

pub returns-then-not-has_range-clause-reads : goal.returns-then-not-has_range-clause-reads
returns-then-not-has_range-clause-reads g c = λ told last_seq file seen readable live.
    let key = c.args.key.now in
    elim c.then-not-has_range.branch [
      | then-not-has_range-via-then-not-has_range w ↦
          let out : has_range c.args.self.now.entry key ≡ false = sym w.if-not-has_range.ensures in
          (live, none_more last_seq file key c.args.found readable.said (ap (λ (entry : Added). has_range entry key) (sym live.entry) ∙ out))
      | then-not-has_range-via-else-not-has_range+then-not-may_be_newer w ↦
          let old : may_be_newer c.args.self.now.entry.last c.args.found ≡ false = sym w.if-not-may_be_newer.ensures in
          (live, all_older last_seq file key c.args.found readable.said (ap (λ (entry : Added). may_be_newer entry.last c.args.found) (sym live.entry) ∙ old))
    ]

pub returns-in-Ok-clause-reads : goal.returns-in-Ok-clause-reads
returns-in-Ok-clause-reads g c = λ told last_seq file seen readable live.
    let r = c.in-Ok.ensures.reads told last_seq file seen readable live in
    (r.0, c.newer_of.ensures ∙ ap (newest_of_both c.args.found) r.1)
