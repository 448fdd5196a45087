-- Why a directory isn't read.
use Rattle.std.specs.Prelude.{ℕ, List}
use Rattle.keel_base.specs.declared.file_name.FileName.{FileName}
use Rattle.keel_table.specs.Opening.{Damage}

pub data Refusal : Type 0 where
  -- there is no CURRENT, and this file is of no new store
  no_current : FileName → Refusal
  -- CURRENT names no manifest; these are its first bytes
  bad_current : List ℕ → Refusal
  -- the manifest has no whole record, or at this place one that isn't an edit or doesn't apply
  damaged_manifest : ℕ → Refusal
  missing_table : ℕ → Refusal
  bad_table : ℕ → Damage → Refusal
  -- a record of that log at this place isn't a batch
  bad_log : ℕ → ℕ → Refusal
  -- in that log a batch begins with another number than the expected one
  log_gap : ℕ → ℕ → ℕ → Refusal
