use Rattle.std.proofs.Common.{◌≡◌, ℕ, List, None, replicate, ap, ◌∙◌, arith}
use Rattle.keel_merge.specs.Feeding.{Waiting, MergeState, wanting}
use Rattle.keel_merge.proofs.Refilling.{unfed_may_come, unfed_merges}
use Rattle.keel_merge.proofs.merge.Merge.new.Goals as goal

pub returns-clause-unfed : goal.returns-clause-unfed
returns-clause-unfed c =
    let same : c.lists._place ≡ c.args.count = omega arith in
    ap (λ (l : List Waiting). let s : MergeState = record { lists = l; held = None; last_level = c.args.last_level } in s)
    (c.lists.invariant ∙ ap (λ (n : ℕ). replicate n wanting) same)

pub returns-clause-may_come : goal.returns-clause-may_come
returns-clause-may_come c = unfed_may_come c.args.count c.args.last_level _ (returns-clause-unfed c)

pub returns-clause-merges : goal.returns-clause-merges
returns-clause-merges c = unfed_merges c.args.count c.args.last_level _ (returns-clause-unfed c)
