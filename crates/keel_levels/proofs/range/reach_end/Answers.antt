use Rattle.std.proofs.Common.{◌≡◌, ◌-◌, ℕ, List, [], ◌∷◌, length, Option, Some, None, sym, ap, refl, ◌∙◌, arith}
use Rattle.std.specs.Prelude.{slice_get}
use Rattle.keel_base.specs.declared.row.Row.{Row}
use Rattle.keel_table.specs.Spelling.{last_key}
use Rattle.keel_levels.specs.Ranges.{ends_range}
use Rattle.keel_levels.proofs.range.reach_end.Goals as goal

abbrev found : Row → Option Row
found row = Some row

row_is : (a b : Row) → found a ≡ found b → a ≡ b
row_is a b e = cc

none : (row : Row) → found row ≡ (let o : Option Row = None in o) → ⊥
none row e = cc

last_behind : (n : ℕ) (key : List ℕ) (first : Row) (rows : List Row) (row : Row) → n ≡ length rows → found row ≡ slice_get (first ∷ rows) n → last_key first.key rows ≡ row.key
last_behind n key first [] row is h = ap (λ (r : Row). r.key) (sym (row_is row first (h ∙ ap (slice_get (first ∷ [])) is)))
last_behind n key first (next ∷ rows) row is h = last_behind (length rows) key next rows row refl (h ∙ ap (slice_get (first ∷ next ∷ rows)) is)

last_is : (before : List ℕ) (rows : List Row) (row : Row) → found row ≡ slice_get rows (length rows - 1) → last_key before rows ≡ row.key
last_is before [] row h = absurd (none row h)
last_is before (first ∷ rows) row h = last_behind (length rows) before first rows row refl (h ∙ ap (slice_get (first ∷ rows)) (omega arith))

pub returns-in-Some : goal.returns-in-Some
returns-in-Some c = λ reach before.
    let to : List ℕ = c.args.to.now in
    let at : last_key before c.args.rows.now ≡ c.as_slice.result.now = last_is before c.args.rows.now c.in-Some.row.now c.in-Some.ensures.value ∙ sym c.as_slice.ensures in
    ap (ends_range to) at ∙ sym c.ends_range.ensures ∙ reach
