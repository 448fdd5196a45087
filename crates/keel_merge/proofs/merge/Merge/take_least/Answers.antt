use Rattle.std.proofs.Common.{refl, arith}
use Rattle.keel_merge.proofs.Looking.{looked, stands_within, stands_some}
use Rattle.keel_merge.proofs.merge.Merge.take_least.Goals as goal

pub index_mut-requires : goal.index_mut-requires
index_mut-requires c =
    let found = looked c.self.inside.lists.items c.as_slice.result.now c.in_ok-look.field-0 c.in-Some.at c.in_ok-look.ensures c.as_slice.ensures.value c.in-Some.is in
    omega (arith, stands_within c.self.inside.lists.items c.in-Some.at found.0 found.1)

pub take_first-requires : goal.take_first-requires
take_first-requires c =
    let found = looked c.self.inside.lists.items c.as_slice.result.now c.in_ok-look.field-0 c.in-Some.at c.in_ok-look.ensures c.as_slice.ensures.value c.in-Some.is in
    stands_some c.self.inside.lists.items c.in-Some.at found.0 c.index_mut.result.now found.1 c.index_mut.ensures.value

pub returns-in-Some : goal.returns-in-Some
returns-in-Some c =
    let found = looked c.self.inside.lists.items c.as_slice.result.now c.in_ok-look.field-0 c.in-Some.at c.in_ok-look.ensures c.as_slice.ensures.value c.in-Some.is in
    rw (← c.self.view_is) (
      refl,
      record {
        at = c.in-Some.at;
        before = c.index_mut.result.now;
        after = c.take_first.new.self;
        within = stands_within c.self.inside.lists.items c.in-Some.at found.0 found.1;
        stood = c.index_mut.ensures.value;
        least = found.0;
        stands = found.1;
        rows = c.take_first.ensures.rows;
        more = c.take_first.ensures.more;
        new_is = refl;
      },
    )
