use Rattle.std.proofs.Common.{◌≡◌, ◌∙◌, ℕ, List, Result, Ok, Err, IfOk}
use Rattle.keel_cli.proofs.Listings.{listing_text, scan_text}
use Rattle.keel_cli.proofs.answer.text_of.Goals as goal

same_text : {E : Type 0} (r : Result (List ℕ) E) (a b : List ℕ) → a ≡ b → IfOk r (λ lines. lines ≡ a) → IfOk r (λ lines. lines ≡ b)
same_text (Ok lines) a b same h = h ∙ same
same_text (Err e) a b same h = tt

pub returns-in-Files : goal.returns-in-Files
returns-in-Files c =
    rw c.in-Files.is
    (same_text c.list_text.result _ _ (listing_text c.in-Files.listing) (rw c.as_slice.ensures at c.list_text.ensures))

pub returns-in-Rows : goal.returns-in-Rows
returns-in-Rows c =
    rw c.in-Rows.is
    (same_text c.scan_text.result _ _ (scan_text c.in-Rows.rows) (rw c.as_slice-in-Rows.ensures at c.scan_text.ensures))
