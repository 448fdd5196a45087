use Rattle.std.proofs.Common.{subst, sym, Some}
use Rattle.keel_region.specs.Order.{AreInOrder, IsNew, IsPutIn}
use Rattle.keel_region.specs.Shown.{IndexShown}
use Rattle.keel_region.specs.Trees.{walk, tree_at}
use Rattle.keel_region.proofs.Indexing.{put_index, put_entries, put_ordered}
use Rattle.keel_region.proofs.index.Index.insert.Goals as goal

pub invariant_of-self : goal.invariant_of-self
invariant_of-self c =
    let bytes = c.args.region.now.bytes in
    let entry = c.args.entry in
    let old = c.self.inside.pool.slots in
    let root = c.self.inside.root in
    let order : AreInOrder bytes (walk (tree_at old root)) = subst (λ (s : IndexShown). AreInOrder bytes s.entries) (sym c.self.view_is) c.requires.order in
    let fresh : IsNew bytes (walk (tree_at old root)) entry = subst (λ (s : IndexShown). IsNew bytes s.entries entry) (sym c.self.view_is) c.requires.fresh in
    put_index bytes old c.insert_below-root.new.pool.slots c.self.inside.pool.spare root entry c.self.invariant order fresh
    c.insert_below-root.new.pool.spare c.insert_below-root.result c.insert_below-root.ensures.spare c.insert_below-root.ensures.length
    c.taken.result c.taken.ensures.nodes c.taken.ensures.count c.taken.ensures.bound
    (c.insert_below-root.ensures.puts (tree_at old root) c.self.invariant.stands c.self.invariant.rooted order fresh)

pub returns-clause-entries : goal.returns-clause-entries
returns-clause-entries c =
    let bytes = c.args.region.now.bytes in
    let entry = c.args.entry in
    let old = c.self.inside.pool.slots in
    let new = c.insert_below-root.new.pool.slots in
    let root = c.self.inside.root in
    let order : AreInOrder bytes (walk (tree_at old root)) = subst (λ (s : IndexShown). AreInOrder bytes s.entries) (sym c.self.view_is) c.requires.order in
    let fresh : IsNew bytes (walk (tree_at old root)) entry = subst (λ (s : IndexShown). IsNew bytes s.entries entry) (sym c.self.view_is) c.requires.fresh in
    subst (λ (s : IndexShown). IsPutIn s.entries (walk (tree_at new (Some c.insert_below-root.result))) entry) c.self.view_is
    (put_entries bytes old new c.self.inside.pool.spare root entry c.self.invariant order fresh
    c.insert_below-root.new.pool.spare c.insert_below-root.result c.insert_below-root.ensures.spare c.insert_below-root.ensures.length
    c.taken.result c.taken.ensures.nodes c.taken.ensures.count c.taken.ensures.bound
    (c.insert_below-root.ensures.puts (tree_at old root) c.self.invariant.stands c.self.invariant.rooted order fresh))

pub returns-clause-order : goal.returns-clause-order
returns-clause-order c =
    let bytes = c.args.region.now.bytes in
    let entry = c.args.entry in
    let old = c.self.inside.pool.slots in
    let new = c.insert_below-root.new.pool.slots in
    let root = c.self.inside.root in
    let order : AreInOrder bytes (walk (tree_at old root)) = subst (λ (s : IndexShown). AreInOrder bytes s.entries) (sym c.self.view_is) c.requires.order in
    let fresh : IsNew bytes (walk (tree_at old root)) entry = subst (λ (s : IndexShown). IsNew bytes s.entries entry) (sym c.self.view_is) c.requires.fresh in
    put_ordered bytes old new c.self.inside.pool.spare root entry c.self.invariant order fresh
    c.insert_below-root.new.pool.spare c.insert_below-root.result c.insert_below-root.ensures.spare c.insert_below-root.ensures.length
    c.taken.result c.taken.ensures.nodes c.taken.ensures.count c.taken.ensures.bound
    (c.insert_below-root.ensures.puts (tree_at old root) c.self.invariant.stands c.self.invariant.rooted order fresh)
