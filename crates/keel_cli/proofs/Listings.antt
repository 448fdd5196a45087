-- The texts of a listing, of a scan and of the levels.
use Rattle.std.proofs.Common.{◌≡◌, ℕ, List, [], ◌∷◌, ◌++◌, length, map, sym, ap, ◌∙◌, append_assoc, append-nil}
use Rattle.std.specs.List.{flat_map}
use Rattle.keel_base.specs.declared.listing.Entry.{Entry}
use Rattle.keel_base.specs.declared.row.Row.{Row}
use Rattle.keel_machine.specs.declared.answers.LevelsView.{LevelsView}
use Rattle.keel_script.specs.declared.reply.Reply.TheVariants as reply
use Rattle.keel_cli.specs.Replies.{file_line, count_line, full_line, level_line, memory_line, row_line, rows_line, text}
use Rattle.keel_cli.specs.Runs.{file_replies, row_replies}
use Rattle.keel_cli.specs.Telling.{level_replies}

file_lines : (front : List Entry) (count : ℕ) → flat_map file_line front ++ count_line count
    ≡ text (map (λ (entry : Entry). reply.FileLine entry.name entry.size) front ++ reply.Files count ∷ [])
unfolding file_line count_line
file_lines [] count = sym (append-nil (full_line (reply.Files count)))
file_lines (entry ∷ front) count = append_assoc (full_line (reply.FileLine entry.name entry.size)) (flat_map file_line front) (count_line count)
    ∙ ap (λ l. full_line (reply.FileLine entry.name entry.size) ++ l) (file_lines front count)

pub listing_text : (listing : List Entry) → flat_map file_line listing ++ count_line (length listing) ≡ text (file_replies listing)
listing_text listing = file_lines listing (length listing)

row_lines : (front : List Row) (count : ℕ) → flat_map row_line front ++ rows_line count ≡ text (map (λ (row : Row). reply.Row row.key row.value) front ++ reply.Rows count ∷ [])
unfolding row_line rows_line
row_lines [] count = sym (append-nil (full_line (reply.Rows count)))
row_lines (row ∷ front) count = append_assoc (full_line (reply.Row row.key row.value)) (flat_map row_line front) (rows_line count)
    ∙ ap (λ l. full_line (reply.Row row.key row.value) ++ l) (row_lines front count)

pub scan_text : (rows : List Row) → flat_map row_line rows ++ rows_line (length rows) ≡ text (row_replies rows)
scan_text rows = row_lines rows (length rows)

-- a further line goes to the end
further : (lines line rest more : List ℕ) → more ≡ lines ++ line → more ++ rest ≡ lines ++ (line ++ rest)
further lines line rest more is = ap (λ (l : List ℕ). l ++ rest) is ∙ append_assoc lines line rest

pub levels_lines : (view : LevelsView) (a b c d e : List ℕ) → a ≡ [] ++ level_line 0 view.level0 → b ≡ a ++ level_line 1 view.level1 → c ≡ b ++ level_line 2 view.level2
    → d ≡ c ++ level_line 3 view.level3 → e ≡ d ++ memory_line view → e ≡ text (level_replies view)
unfolding level_line memory_line
levels_lines view a b c d e first second third fourth last =
    let l1 : List ℕ = level_line 1 view.level1 in
    let l2 : List ℕ = level_line 2 view.level2 in
    let l3 : List ℕ = level_line 3 view.level3 in
    let m : List ℕ = memory_line view in
    let whole : e ++ [] ≡ text (level_replies view) =
    further d m [] e last
    ∙ further c l3 (m ++ []) d fourth
    ∙ further b l2 (l3 ++ (m ++ [])) c third
    ∙ further a l1 (l2 ++ (l3 ++ (m ++ []))) b second
    ∙ ap (λ (l : List ℕ). l ++ (l1 ++ (l2 ++ (l3 ++ (m ++ []))))) first in
    sym (append-nil e) ∙ whole
