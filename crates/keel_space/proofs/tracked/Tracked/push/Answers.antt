use Rattle.std.proofs.Common.{arith, ◌<◌, ◌^◌, length}
use Rattle.keel_space.proofs.Sums.{sums-most, trash_size-le}
use Rattle.keel_space.proofs.tracked.Tracked.push.Goals as goal

pub overflow_add-self : goal.overflow_add-self
overflow_add-self c =
    let few : length c.args.self.now.files.items < 2 ^ 64 = omega arith in
    omega (arith, sums-most c.args.self.now.files.items c.args.self.now.total c.args.self.now.trash c.requires.sums few)

pub overflow_add-self-2 : goal.overflow_add-self-2
overflow_add-self-2 c =
    let few : length c.args.self.now.files.items < 2 ^ 64 = omega arith in
    omega (arith, sums-most c.args.self.now.files.items c.args.self.now.total c.args.self.now.trash c.requires.sums few, c.trash_size.ensures, trash_size-le (record { name = c.args.name; size = c.args.size }))
