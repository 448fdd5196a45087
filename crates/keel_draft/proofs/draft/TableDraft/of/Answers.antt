use Rattle.std.proofs.Common.{◌≡◌, ℕ, List, ◌++◌, length, Ok, ap, append_assoc, subst, sym, ◌∙◌}
use Rattle.keel_mem.specs.Totals.{least_seq, greatest_seq}
use Rattle.keel_table.specs.Building.{piece_bytes, pieces_bytes}
use Rattle.keel_table.specs.Opening.{opened, opened_with}
use Rattle.keel_table.specs.Spelling.{IsTableOf}
use Rattle.keel_draft.proofs.Drafting.{drafted, is_table_for}
use Rattle.keel_draft.proofs.draft.TableDraft.of.Goals as goal

pub invariant_of-result : goal.invariant_of-result
invariant_of-result c =
    let all = c.args.mem.now.rows in
    let h = c.in_ok-builder.ensures in
    let given = c.in_ok-builder.field-0.bytes in
    let pieces = c.in-Ok.pieces in
    let whole : given ++ pieces_bytes pieces ≡ c.extend.new.self =
    sym (c.in_ok-extend.ensures.ok ∙ ap (λ (b : List ℕ). b ++ c.as_slice.result.now) c.in_ok-extend_with.ensures ∙ append_assoc given (piece_bytes pieces.block) c.as_slice.result.now
    ∙ ap (λ (b : List ℕ). given ++ (piece_bytes pieces.block ++ b)) c.as_slice.ensures) in
    let table : IsTableOf (least_seq all) (greatest_seq all) h.rows c.extend.new.self =
    subst (λ (b : List ℕ). IsTableOf (least_seq all) (greatest_seq all) h.rows b) whole (c.in-Ok.ensures.ok (least_seq all) (greatest_seq all) h.rows given h.gathered.building) in
    let opens : opened (length c.extend.new.self) c.extend.new.self ≡ Ok (opened_with c.in-Ok-open_bytes.footer c.in-Ok-open_bytes.entries) =
    subst (λ (b : List ℕ). opened (length b) b ≡ Ok (opened_with c.in-Ok-open_bytes.footer c.in-Ok-open_bytes.entries)) c.as_slice-2.ensures c.in-Ok-open_bytes.ensures.answer in
    drafted all h.rows c.extend.new.self c.in_ok-builder.field-0.least c.in_ok-greatest.greatest c.in-Ok-open_bytes.footer c.in-Ok-open_bytes.entries table opens
    h.gathered.least (c.in_ok-greatest.ensures ∙ c.last_key.ensures ∙ h.gathered.building.key_is)

pub returns : goal.returns
returns c =
    let all = c.args.mem.now.rows in
    let h = c.in_ok-builder.ensures in
    let given = c.in_ok-builder.field-0.bytes in
    let pieces = c.in-Ok.pieces in
    let whole : given ++ pieces_bytes pieces ≡ c.extend.new.self =
    sym (c.in_ok-extend.ensures.ok ∙ ap (λ (b : List ℕ). b ++ c.as_slice.result.now) c.in_ok-extend_with.ensures ∙ append_assoc given (piece_bytes pieces.block) c.as_slice.result.now
    ∙ ap (λ (b : List ℕ). given ++ (piece_bytes pieces.block ++ b)) c.as_slice.ensures) in
    let table : IsTableOf (least_seq all) (greatest_seq all) h.rows c.extend.new.self =
    subst (λ (b : List ℕ). IsTableOf (least_seq all) (greatest_seq all) h.rows b) whole (c.in-Ok.ensures.ok (least_seq all) (greatest_seq all) h.rows given h.gathered.building) in
    let opens : opened (length c.extend.new.self) c.extend.new.self ≡ Ok (opened_with c.in-Ok-open_bytes.footer c.in-Ok-open_bytes.entries) =
    subst (λ (b : List ℕ). opened (length b) b ≡ Ok (opened_with c.in-Ok-open_bytes.footer c.in-Ok-open_bytes.entries)) c.as_slice-2.ensures c.in-Ok-open_bytes.ensures.answer in
    is_table_for all h.rows c.extend.new.self c.in-Ok-open_bytes.footer c.in-Ok-open_bytes.entries h.newest table opens
