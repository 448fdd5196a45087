use Rattle.keel_name.proofs.Ascending.{left_out, put_more}
use Rattle.keel_name.proofs.sorting.insert.Goals as goal

pub returns : goal.returns
returns c =
    put_more c.args.sorted.now.items c.deref.result.now c.deref-2.result.now c.insert.new.self.items c.as_slice.result.now c.place_of-place.result c.args.spelled c.is_at.result
    c.requires.sorted c.requires.named c.deref.ensures.value c.deref-2.ensures.value c.as_slice.ensures c.place_of-place.ensures c.is_at.ensures c.if-is_at.false c.in_ok-insert.ensures.items

pub returns-then-is_at : goal.returns-then-is_at
returns-then-is_at c =
    left_out c.args.sorted.now.items c.deref-2.result.now c.place_of-place.result c.args.spelled.entry c.is_at.result c.requires.sorted c.deref-2.ensures.value c.is_at.ensures c.if-is_at.true
