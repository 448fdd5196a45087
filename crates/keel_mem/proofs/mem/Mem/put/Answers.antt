use Rattle.std.proofs.Common.{◌≡◌, ◌<◌, ℕ, List, [], ◌∷◌, ◌++◌, length, refl, sym, ap, subst, ◌∙◌, arith}
use Rattle.std.specs.Prelude.{All}
use Rattle.keel_base.specs.declared.row.Row.{Row}
use Rattle.keel_region.specs.declared.span.IndexEntry.{IndexEntry}
use Rattle.keel_mem.specs.Shown.{MemShown, rows_by_arrival}
use Rattle.keel_mem.specs.Totals.{first_of}
use Rattle.keel_mem.proofs.Numbering.{entries_below}
use Rattle.keel_mem.proofs.Putting.{IsPlaced, put_row, put_arrives, put_sound}
use Rattle.keel_mem.proofs.mem.Mem.put.Goals as goal

pub insert-requires-clause-fresh : goal.insert-requires-clause-fresh
insert-requires-clause-fresh c =
    let bytes = c.self.inside.region.bytes in
    let entries = c.self.inside.index.entries in
    let below : All (λ row. row.seq < c.args.seq) (rows_by_arrival bytes entries) =
    subst (λ (m : MemShown). All (λ row. row.seq < c.args.seq) m.rows) (sym c.self.view_is) c.requires.above in
    λ k d lt _ same. omega (arith, entries_below bytes entries c.args.seq below k d lt, same)

pub invariant_of-self : goal.invariant_of-self
invariant_of-self c =
    let bytes = c.self.inside.region.bytes in
    let key = c.args.key.now in
    let value = c.args.value.now in
    let old = c.self.inside.index.entries in
    let entry : IndexEntry = record { seq = c.args.seq; kind = c.args.kind; key = c.place-key.result; value = c.place-value.result } in
    let placed : IsPlaced bytes key value entry = record {
      key_start = c.place-key.ensures.start;
      key_length = c.place-key.ensures.length;
      value_start = c.place-value.ensures.start ∙ ap length c.place-key.ensures.bytes;
      value_length = c.place-value.ensures.length;
    } in
    let whole : c.place-value.new.self.bytes ≡ (bytes ++ key) ++ value = c.place-value.ensures.bytes ∙ ap (λ (b : List ℕ). b ++ value) c.place-key.ensures.bytes in
    let arrived : rows_by_arrival bytes old ≡ c.args.self.now.rows = ap (λ (m : MemShown). m.rows) c.self.view_is in
    let below : All (λ row. row.seq < c.args.seq) (rows_by_arrival bytes old) = subst (All (λ (row : Row). row.seq < c.args.seq)) (sym arrived) c.requires.above in
    put_sound bytes key value entry placed old c.insert.new.self.entries c.self.invariant.held c.insert.ensures.entries
    c.self.inside.region c.place-value.new.self c.self.inside.index c.insert.new.self c.self.inside.free_bytes c.self.inside.free_entries c.self.inside.first c.self.inside.last
    c.first_behind-self-inside.result refl refl refl whole (omega (arith, c.place-value.ensures.spare, c.place-key.ensures.spare)) c.insert.ensures.spare c.insert.ensures.order below
    (c.first_behind-self-inside.ensures ∙ ap (λ (rows : List Row). first_of rows c.args.seq) (sym arrived))
    c.self.invariant.total c.self.invariant.room c.self.invariant.places c.self.invariant.limits c.requires.limits c.requires.within c.self.invariant.weight
    (omega (arith, c.requires.bytes, ap (λ (m : MemShown). m.bytes) c.self.view_is))
    (omega (arith, c.requires.entries, ap (λ (m : MemShown). m.entries) c.self.view_is))

pub returns-clause-rows : goal.returns-clause-rows
returns-clause-rows c =
    let bytes = c.self.inside.region.bytes in
    let key = c.args.key.now in
    let value = c.args.value.now in
    let old = c.self.inside.index.entries in
    let entry : IndexEntry = record { seq = c.args.seq; kind = c.args.kind; key = c.place-key.result; value = c.place-value.result } in
    let placed : IsPlaced bytes key value entry = record {
      key_start = c.place-key.ensures.start;
      key_length = c.place-key.ensures.length;
      value_start = c.place-value.ensures.start ∙ ap length c.place-key.ensures.bytes;
      value_length = c.place-value.ensures.length;
    } in
    let whole : c.place-value.new.self.bytes ≡ (bytes ++ key) ++ value = c.place-value.ensures.bytes ∙ ap (λ (b : List ℕ). b ++ value) c.place-key.ensures.bytes in
    let arrived : rows_by_arrival bytes old ≡ c.args.self.now.rows = ap (λ (m : MemShown). m.rows) c.self.view_is in
    let below : All (λ row. row.seq < c.args.seq) (rows_by_arrival bytes old) = subst (All (λ (row : Row). row.seq < c.args.seq)) (sym arrived) c.requires.above in
    ap (λ (b : List ℕ). rows_by_arrival b c.insert.new.self.entries) whole
    ∙ put_arrives bytes key value entry placed old c.insert.new.self.entries c.self.invariant.held c.insert.ensures.entries below
    ∙ ap (λ (rows : List Row). rows ++ put_row entry key value ∷ []) arrived
