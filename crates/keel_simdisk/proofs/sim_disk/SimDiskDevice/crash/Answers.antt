use Rattle.std.proofs.Common.{◌≡◌, ◌↔◌, ℕ, Bool, true, false, not, IsTrue, refl, inl, inr}
use Rattle.keel_base.specs.Counts.{raised}
use Rattle.keel_disk.specs.Told.{CountsForged}
use Rattle.keel_simdisk.specs.Crash.{image_left}
use Rattle.keel_simdisk.proofs.sim_disk.SimDiskDevice.crash.Goals as goal

not_counted : (plain : Bool) (P : Type 0) (before : ℕ) → not plain ≡ false → (IsTrue plain ↔ P) → CountsForged P before before
not_counted true P before is same = inl (same.0 refl, refl)
not_counted false P before is same = cc

counted : (plain : Bool) (P : Type 0) (before after : ℕ) → not plain ≡ true → (IsTrue plain ↔ P) → after ≡ raised before → CountsForged P before after
counted true P before after is same more = cc
counted false P before after is same more = inr (λ p. let there : false ≡ true = same.1 p in cc, more)

pub returns-then-not-left-clause-told : goal.returns-then-not-left-clause-told
returns-then-not-left-clause-told c = record {
  count = c.args.pick.dirops;
  image = image_left c.args.pick c.args.self.now.state;
  is_image = c.in_ok-left.ensures.image;
  leaves = c.in_ok-left.ensures.medium;
  last_same = refl;
  forged = counted c.in_ok-left.left.plain _ c.args.self.now.forged c.saturating_add-self.result c.if-not-left.true c.in_ok-left.ensures.plain c.saturating_add-self.ensures;
}

pub returns-else-not-left-clause-told : goal.returns-else-not-left-clause-told
returns-else-not-left-clause-told c = record {
  count = c.args.pick.dirops;
  image = image_left c.args.pick c.args.self.now.state;
  is_image = c.in_ok-left.ensures.image;
  leaves = c.in_ok-left.ensures.medium;
  last_same = refl;
  forged = not_counted c.in_ok-left.left.plain _ c.args.self.now.forged c.if-not-left.false c.in_ok-left.ensures.plain;
}
