-- What contracts see of the files that wait to be deleted.
use Rattle.std.specs.Prelude.{◌≡◌, ℕ, List, [], Option, Some, None, All, map}
use Rattle.keel_base.specs.declared.file_name.FileName.{FileName}
use Rattle.keel_base.specs.declared.listing.Entry.{Entry}
use Rattle.keel_space.specs.State.{SpaceState}
use Rattle.keel_space.specs.Tracked.{size_of, AreDistinct}
use Rattle.keel_trash.specs.declared.entry.Retired.{Retired}
use Rattle.keel_trash.specs.Names.{IsTable, IsTrash}

-- three queues, first entries first, and what the deletion of trash has come to
pub record TrashState : Type 0 where
  -- bytes a second, 0 for no bound
  pub rate : ℕ
  -- the share of trash in thousandths of the total
  pub ratio : ℕ
  -- bytes of a cut, 0 for none
  pub chunk : ℕ
  pub purge : List FileName
  pub retire : List Retired
  pub trash : List Entry
  -- the tick of the first cut or removal of trash since that queue was last empty
  pub start : Option ℕ
  -- the bytes that went since, up to 2^128 - 1
  pub taken : ℕ
  -- for how many entries more there is memory
  pub spare : ℕ

-- nothing waits
abbrev pub empty : ℕ → ℕ → ℕ → TrashState
empty rate ratio chunk = record {
  rate = rate;
  ratio = ratio;
  chunk = chunk;
  purge = [];
  retire = [];
  trash = [];
  start = None;
  taken = 0;
  spare = 0;
}

-- a retired table with its size
abbrev pub file_of : Retired → Entry
file_of entry = record { name = entry.name; size = entry.size }

-- Tables and trash files wait under names of their own, tracked with their sizes; what is only purged isn't tracked.
pub record AreQueued (queues : TrashState) (space : SpaceState) : Type 0 where
  pub tables : All (λ entry. IsTable entry.name) queues.retire
  pub trashes : All (λ file. IsTrash file.name) queues.trash
  pub tables_differ : AreDistinct (map file_of queues.retire)
  pub trashes_differ : AreDistinct queues.trash
  pub tables_tracked : All (λ entry. size_of entry.name space.tracked ≡ Some entry.size) queues.retire
  pub trashes_tracked : All (λ file. size_of file.name space.tracked ≡ Some file.size) queues.trash
  pub untracked : All (λ name. size_of name space.tracked ≡ None) queues.purge
