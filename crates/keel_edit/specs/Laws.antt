-- What holds of the spellings of edits.
use Rattle.std.specs.Prelude.{◌≡◌, ◌+◌, ◌*◌, length, sum_by}
use Rattle.keel_edit.specs.declared.edit.Added.{Added}
use Rattle.keel_edit.specs.declared.edit.Edit.{Edit}
use Rattle.keel_edit.specs.Spelling.{IsEdit, spelling}

-- no two edits are spelled the same
abbrev pub OneSpelling : Type 0
OneSpelling = (one other : Edit) → IsEdit one → IsEdit other → spelling one ≡ spelling other → one ≡ other

-- 33 bytes, 9 for each table that goes, and 49 and its two keys for each that comes
abbrev pub SpellingLength : Type 0
SpellingLength =
    (edit : Edit)
    → length (spelling edit) ≡ 33 + 9 * length edit.removed + sum_by (λ (a : Added). 49 + length a.least + length a.greatest) edit.added
