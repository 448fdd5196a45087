-- How long a spelling is.
use Rattle.std.proofs.Common.{◌≡◌, ℕ, suc, ◌+◌, ◌*◌, List, [], ◌∷◌, length, refl, sym, ap, ◌∙◌, arith, length-append}
use Rattle.std.specs.Prelude.{sum_by}
use Rattle.std.proofs.lemmas.List.Concat.{length-flat_map}
use Rattle.std.proofs.lemmas.List.Sums.{sum_by-cons}
use Rattle.keel_edit.specs.declared.edit.Added.{Added}
use Rattle.keel_edit.specs.declared.edit.Removed.{Removed}
use Rattle.keel_edit.specs.Spelling.{number, count, removed_bytes, added_bytes, spelling}
use Rattle.keel_edit.specs.Laws.{SpellingLength}

number_length : (n : ℕ) → length (number n) ≡ 8
unfolding number
number_length n = refl

count_length : (n : ℕ) → length (count n) ≡ 4
unfolding count
count_length n = refl

removed_length : (r : Removed) → length (removed_bytes r) ≡ 9
removed_length r = ap suc (number_length r.number)

added_length : (a : Added) → length (added_bytes a) ≡ 49 + length a.least + length a.greatest
added_length a = simp (length-append, number_length, count_length) (omega arith)

goes : (rs : List Removed) → sum_by (λ (r : Removed). length (removed_bytes r)) rs ≡ 9 * length rs
goes [] = refl
goes (r ∷ rs) = omega (arith, sum_by-cons (λ (s : Removed). length (removed_bytes s)) r rs, removed_length r, goes rs)

come : (tables : List Added) → sum_by (λ (a : Added). length (added_bytes a)) tables ≡ sum_by (λ (a : Added). 49 + length a.least + length a.greatest) tables
come [] = refl
come (a ∷ more) =
    sum_by-cons (λ (b : Added). length (added_bytes b)) a more
    ∙ (ap (λ (n : ℕ). n + sum_by (λ (b : Added). length (added_bytes b)) more) (added_length a)
    ∙ (ap (λ (n : ℕ). 49 + length a.least + length a.greatest + n) (come more)
    ∙ sym (sum_by-cons (λ (b : Added). 49 + length b.least + length b.greatest) a more)))

pub spelling_length : SpellingLength
unfolding spelling
spelling_length edit =
    let removed = length-flat_map removed_bytes edit.removed ∙ goes edit.removed in
    let added = length-flat_map added_bytes edit.added ∙ come edit.added in
    simp (length-append, number_length, count_length, removed, added) (omega arith)
