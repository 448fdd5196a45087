use Rattle.std.proofs.Common.{◌≡◌, ◌-◌, ◌∷◌, List, [], Option, sym, ap, subst, ◌∙◌}
use Rattle.std.specs.Iterator.{YieldsFirstBy}
use Rattle.keel_base.specs.declared.row.Row.{Row}
use Rattle.keel_mem.specs.declared.rows.MemRow.{MemRow}
use Rattle.keel_mem.specs.Rest.{rest_of}
use Rattle.keel_mem.specs.RowShown.{row_shown}
use Rattle.keel_mem.specs.Shown.{row_in, rows_in}
use Rattle.keel_mem.proofs.Stepping.{rest_none, rest_there, rest_held, rest_some, rest_step, rest_next}
use Rattle.keel_mem.proofs.rows.MemRowsIterator.next.Goals as goal

pub returns-in_err-first-clause-steps : goal.returns-in_err-first-clause-steps
returns-in_err-first-clause-steps c =
    let bytes = c.self.inside.region.now.bytes in
    let entries = c.self.inside.index.now.entries in
    let none : c.args.self.now ≡ [] = sym c.self.view_is ∙ ap (rows_in bytes) (rest_none bytes entries c.self.inside.next c.self.inside.left c.self.invariant c.in_err-first.was) in
    subst (λ (r : Option MemRow). YieldsFirstBy row_shown (λ (left : List Row). left) c.args.self.now r c.args.self.now) (sym c.from_residual.ensures) (none, none)

pub after-self-inside-requires-clause-there : goal.after-self-inside-requires-clause-there
after-self-inside-requires-clause-there c =
    rest_there c.self.inside.region.now.bytes c.self.inside.index.now.entries c.self.inside.next c.self.inside.left c.self.invariant c.in_ok-first.first c.in_ok-first.was

pub overflow_sub-self : goal.overflow_sub-self
overflow_sub-self c =
    rest_some c.self.inside.region.now.bytes c.self.inside.index.now.entries c.self.inside.next c.self.inside.left c.self.invariant c.in_ok-first.first c.in_ok-first.was

pub bytes-requires : goal.bytes-requires
bytes-requires c =
    (rest_held c.self.inside.region.now.bytes c.self.inside.index.now.entries c.self.inside.next c.self.inside.left c.self.invariant c.in_ok-first.first c.in_ok-first.was).key

pub bytes-requires-2 : goal.bytes-requires-2
bytes-requires-2 c =
    (rest_held c.self.inside.region.now.bytes c.self.inside.index.now.entries c.self.inside.next c.self.inside.left c.self.invariant c.in_ok-first.first c.in_ok-first.was).value

pub invariant_of-self : goal.invariant_of-self
invariant_of-self c =
    rest_next c.self.inside.region.now.bytes c.self.inside.index.now.entries c.self.inside.next c.self.inside.left c.self.invariant c.in_ok-first.first c.in_ok-first.was
    c.after-self-inside.result c.after-self-inside.ensures

pub returns-clause-steps : goal.returns-clause-steps
returns-clause-steps c =
    let bytes = c.self.inside.region.now.bytes in
    let entries = c.self.inside.index.now.entries in
    let first = c.in_ok-first.first in
    let rest = rows_in bytes (rest_of entries (c.self.inside.left - 1)) in
    let shown : row_in bytes first ≡ record { seq = first.seq; kind = first.kind; key = c.bytes.result.now; value = c.bytes-2.result.now } =
    λ i. record { seq = first.seq; kind = first.kind; key = sym c.bytes.ensures i; value = sym c.bytes-2.ensures i } in
    sym c.self.view_is
    ∙ ap (rows_in bytes) (rest_step bytes entries c.self.inside.next c.self.inside.left c.self.invariant first c.in_ok-first.was)
    ∙ ap (λ (row : Row). row ∷ rest) shown
