-- The tables that a job makes of segments.
use Rattle.std.specs.Prelude.{◌≡◌, ℕ, ◌+◌, ◌≤◌, ◌==◌, not, List, [], ◌∷◌, ◌++◌, length, map, filter}
use Rattle.keel_base.specs.declared.limits.TheConstants.{LAST_NUMBER}
use Rattle.keel_base.specs.declared.op.Op.{Op}
use Rattle.keel_base.specs.declared.row.Row.{Row}
use Rattle.keel_base.specs.Rows.{newest, op_rows}
use Rattle.keel_edit.specs.declared.edit.Added.{Added}
use Rattle.keel_table.specs.Spelling.{Ascend, IsTableOf, block_bytes, checked, entries_from, footer_bytes, footer_of, index_bytes, last_key, rows_of, table_bytes}
use Rattle.keel_table.specs.Opening.{opened_with, row_of}
use Rattle.keel_directory.specs.Sound.{first_key}
use Rattle.keel_directory.specs.TableFiles.{TableFile}
use Rattle.keel_mem.specs.Totals.{least_seq, greatest_seq}

-- ---- rows

-- the rows of batches whose ops are numbered from a number on
abbrev pub batch_rows : ℕ → List (List Op) → List Row
batch_rows seq [] = []
batch_rows seq (ops ∷ batches) = op_rows seq ops ++ batch_rows (seq + length ops) batches

-- how many ops these batches have
abbrev pub count_ops : List (List Op) → ℕ
count_ops [] = 0
count_ops (ops ∷ batches) = length ops + count_ops batches

-- the rows rise by key, and are for each key the newest of all
pub record AreNewestOf (all rows : List Row) : Type 0 where
  pub rise : Ascend [] rows
  pub says : (key : List ℕ) → row_of key rows ≡ newest key all

-- ---- tables

-- a table without a number: the least and the greatest sequence number of its segment, and its rows in their blocks
pub record Draft : Type 0 where
  pub first : ℕ
  pub last : ℕ
  pub blocks : List (List Row)

abbrev pub rows_in : Draft → List Row
rows_in draft = rows_of draft.blocks

abbrev pub bytes_in : Draft → List ℕ
bytes_in draft = table_bytes draft.first draft.last draft.blocks

-- what is appended to its file, one piece a call: each block, and then the index with the footer
abbrev pub pieces_in : Draft → List (List ℕ)
pieces_in draft =
    map block_bytes draft.blocks ++ (checked (index_bytes draft.blocks) ++ footer_bytes (footer_of draft.first draft.last draft.blocks)) ∷ []

-- The draft is the table of a segment's batches, which are numbered behind that number.
pub record IsDraftOf (seq : ℕ) (batches : List (List Op)) (draft : Draft) : Type 0 where
  pub first : draft.first ≡ seq + 1
  pub last : draft.last ≡ seq + count_ops batches
  pub newest : AreNewestOf (batch_rows (seq + 1) batches) (rows_in draft)
  pub table : IsTableOf draft.first draft.last (rows_in draft) (bytes_in draft)
  pub blocks : table.blocks ≡ draft.blocks
  pub size : length (bytes_in draft) ≤ LAST_NUMBER

-- the same of segments in order, the first of which begins behind that number
abbrev pub AreDraftsOf : ℕ → List (List (List Op)) → List Draft → Type 0
AreDraftsOf seq [] [] = Unit {0}
AreDraftsOf seq (batches ∷ segments) (draft ∷ drafts) = IsDraftOf seq batches draft × AreDraftsOf (seq + count_ops batches) segments drafts
AreDraftsOf seq _ _ = ⊥

-- The draft is the table of a memtable's rows
pub record IsTableFor (mem_rows : List Row) (draft : Draft) : Type 0 where
  pub first : draft.first ≡ least_seq mem_rows
  pub last : draft.last ≡ greatest_seq mem_rows
  pub newest : AreNewestOf mem_rows (rows_in draft)
  pub table : IsTableOf draft.first draft.last (rows_in draft) (bytes_in draft)
  pub blocks : table.blocks ≡ draft.blocks
  pub size : length (bytes_in draft) ≤ LAST_NUMBER

-- ---- its entry and its file

-- a table on level 0 with that number
abbrev pub added_of : ℕ → Draft → Added
added_of number draft = record {
  level = 0;
  number = number;
  size = length (bytes_in draft);
  rows = length (rows_in draft);
  first = draft.first;
  last = draft.last;
  least = first_key (rows_in draft);
  greatest = last_key [] (rows_in draft);
}

abbrev pub file_of : ℕ → Draft → TableFile
file_of number draft = record {
  entry = added_of number draft;
  bytes = bytes_in draft;
  file = opened_with (footer_of draft.first draft.last draft.blocks) (entries_from 0 draft.blocks);
}

-- the tables of drafts that have numbers
abbrev pub numbered : {A : Type 0} → (ℕ → Draft → A) → List ℕ → List Draft → List A
numbered make [] drafts = []
numbered make (number ∷ numbers) [] = []
numbered make (number ∷ numbers) (draft ∷ drafts) = make number draft ∷ numbered make numbers drafts

-- new tables stand behind the others of level 0
abbrev pub with_new : {A : Type 0} → (A → ℕ) → List A → List A → List A
with_new level tables new = filter (λ table. level table == 0) tables ++ new ++ filter (λ table. not (level table == 0)) tables
