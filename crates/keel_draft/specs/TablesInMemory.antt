-- A table whose bytes are all in memory, as a draft.
use Rattle.std.specs.Prelude.{◌≡◌, ℕ, List, [], ◌∷◌}
use Rattle.keel_base.specs.declared.row.Row.{Row}
use Rattle.keel_directory.specs.Sound.{first_key}
use Rattle.keel_directory.specs.TableFiles.{rows_found}
use Rattle.keel_table.specs.declared.index.BlockEntry.{BlockEntry}
use Rattle.keel_table.specs.declared.index.Footer.{Footer}
use Rattle.keel_table.specs.Opening.{block_found}
use Rattle.keel_table.specs.Spelling.{entries_from, footer_of, last_key}
use Rattle.keel_draft.specs.Drafts.{Draft, bytes_in, rows_in}

-- the blocks of entries, the first of which stands behind a key
abbrev pub blocks_at : List ℕ → List ℕ → List BlockEntry → List (List Row)
blocks_at bytes before [] = []
blocks_at bytes before (e ∷ es) = rows_found (block_found before e bytes) ∷ blocks_at bytes e.last es

abbrev pub draft_in : List ℕ → Footer → List BlockEntry → Draft
draft_in bytes footer entries = record { first = footer.first; last = footer.last; blocks = blocks_at bytes [] entries }

-- bytes, footer, entries and keys are those of the draft
pub record HoldsDraft (bytes : List ℕ) (footer : Footer) (entries : List BlockEntry) (least greatest : List ℕ) (draft : Draft) : Type 0 where
  pub bytes_are : bytes ≡ bytes_in draft
  pub footer_is : footer ≡ footer_of draft.first draft.last draft.blocks
  pub entries_are : entries ≡ entries_from 0 draft.blocks
  pub least_is : least ≡ first_key (rows_in draft)
  pub greatest_is : greatest ≡ last_key [] (rows_in draft)
