use Rattle.std.proofs.Common.{◌≡◌, take, arith}
use Rattle.std.proofs.lemmas.Grind.{common_steps}
use Rattle.keel_disk.specs.Directory.{operated_all}
use Rattle.keel_simdisk.proofs.Waiting.{some_firm}
use Rattle.keel_simdisk.proofs.tree.Tree.settle.Goals as goal

pub invariant_of-self : goal.invariant_of-self
invariant_of-self c =
    let count = c.min-count.result in
    let waiting = c.self.inside.waiting.items in
    let split = some_firm count waiting c.self.inside.firm.items in
    let firm : c.in_ok-firm.firm.items ≡ operated_all (take count waiting) c.self.inside.firm.items = grind (arith, common_steps) in
    cc
