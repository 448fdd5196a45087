use Rattle.std.proofs.Common.{◌≡◌, ℕ, true, false, List, subst, sym, ap, ◌∙◌}
use Rattle.std.specs.Prelude.{find}
use Rattle.std.specs.Cmp.Lexicographic.{texts_ties}
use Rattle.keel_base.specs.Keys.{key_eq}
use Rattle.keel_region.specs.Order.{AreInOrder, has_key}
use Rattle.keel_region.specs.Shown.{IndexShown}
use Rattle.keel_region.specs.Spans.{AreHeld}
use Rattle.keel_region.specs.Trees.{walk, tree_at}
use Rattle.keel_region.proofs.Descending.{found_none, found_one, found_else, failing_held}
use Rattle.keel_region.proofs.index.Index.find.Goals as goal

pub returns-in_err-entry : goal.returns-in_err-entry
returns-in_err-entry c =
    let bytes = c.args.region.now.bytes in
    let key = c.args.key.now in
    let tree = tree_at c.self.inside.pool.slots c.self.inside.root in
    let order : AreInOrder bytes (walk tree) = subst (λ (s : IndexShown). AreInOrder bytes s.entries) (sym c.self.view_is) c.requires.order in
    c.from_residual.ensures
    ∙ sym (found_none bytes key (walk tree) order (sym (c.in_err-entry.ensures tree c.self.invariant.stands c.self.invariant.rooted order)))
    ∙ ap (λ (s : IndexShown). find (has_key bytes key) s.entries) c.self.view_is

pub bytes-requires : goal.bytes-requires
bytes-requires c =
    let bytes = c.args.region.now.bytes in
    let tree = tree_at c.self.inside.pool.slots c.self.inside.root in
    let order : AreInOrder bytes (walk tree) = subst (λ (s : IndexShown). AreInOrder bytes s.entries) (sym c.self.view_is) c.requires.order in
    let held : AreHeld bytes (walk tree) = subst (λ (s : IndexShown). AreHeld bytes s.entries) (sym c.self.view_is) c.requires.held in
    (failing_held bytes c.args.key.now (walk tree) order c.in_ok-entry.entry held (sym (c.in_ok-entry.ensures tree c.self.invariant.stands c.self.invariant.rooted order))).key

pub returns-then-eq : goal.returns-then-eq
returns-then-eq c =
    let bytes = c.args.region.now.bytes in
    let key = c.args.key.now in
    let entry = c.in_ok-entry.entry in
    let tree = tree_at c.self.inside.pool.slots c.self.inside.root in
    let order : AreInOrder bytes (walk tree) = subst (λ (s : IndexShown). AreInOrder bytes s.entries) (sym c.self.view_is) c.requires.order in
    let same : has_key bytes key entry ≡ true = ap (λ (b : List ℕ). key_eq b key) (sym c.bytes.ensures) ∙ sym (texts_ties c.bytes.result.now key) ∙ sym c.eq.ensures ∙ c.if-eq.true in
    sym (found_one bytes key (walk tree) order entry (sym (c.in_ok-entry.ensures tree c.self.invariant.stands c.self.invariant.rooted order)) same)
    ∙ ap (λ (s : IndexShown). find (has_key bytes key) s.entries) c.self.view_is

pub returns-else-eq : goal.returns-else-eq
returns-else-eq c =
    let bytes = c.args.region.now.bytes in
    let key = c.args.key.now in
    let entry = c.in_ok-entry.entry in
    let tree = tree_at c.self.inside.pool.slots c.self.inside.root in
    let order : AreInOrder bytes (walk tree) = subst (λ (s : IndexShown). AreInOrder bytes s.entries) (sym c.self.view_is) c.requires.order in
    let differ : has_key bytes key entry ≡ false = ap (λ (b : List ℕ). key_eq b key) (sym c.bytes.ensures) ∙ sym (texts_ties c.bytes.result.now key) ∙ sym c.eq.ensures ∙ c.if-eq.false in
    sym (found_else bytes key (walk tree) order entry (sym (c.in_ok-entry.ensures tree c.self.invariant.stands c.self.invariant.rooted order)) differ)
    ∙ ap (λ (s : IndexShown). find (has_key bytes key) s.entries) c.self.view_is
