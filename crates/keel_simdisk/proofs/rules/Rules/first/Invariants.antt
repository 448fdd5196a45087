use Rattle.std.proofs.Common.{take}
use Rattle.keel_simdisk.specs.Rules.{LooksAtNone}
use Rattle.keel_simdisk.proofs.rules.Rules.first.Given as goal

abbrev pub invariant-loop-place : goal.invariant-loop-place
invariant-loop-place l = LooksAtNone l.call (take l.place l.armed-items)
