-- The entries of a directory: their names and sizes.
use Rattle.std.proofs.Common.{◌≡◌, ℕ, Bool, true, false, List, [], ◌∷◌, Some, Result, Ok, Err, IfOk, length, map, refl, ◌∙◌, ap, option_map, if◌then◌else◌}
use Rattle.std.proofs.lemmas.List.Elements.{All-nil, All-cons}
use Rattle.keel_base.specs.declared.listing.Entry.{Entry}
use Rattle.keel_base.specs.declared.memory.OutOfMemory.{OutOfMemory}
use Rattle.keel_base.specs.Name.{name_eq, IsName}
use Rattle.keel_disk.specs.declared.state.File.{File}
use Rattle.keel_disk.specs.Directory.{Named, find}
use Rattle.keel_disk.specs.State.{file_at}
use Rattle.keel_disk.specs.Listings.{size_listed}
use Rattle.keel_disk.specs.Sound.{AreOwn}
use Rattle.keel_name.specs.Sorting.{AreNames, HaveSameSizes}
use Rattle.keel_simdisk.specs.Listings.{GivesSizes, entry_in}

-- the names of a directory are names of the store
pub entries_named : (bound : ℕ) (files : List File) (names : Named ℕ) → AreOwn bound names → AreNames (map (entry_in files) names)
entries_named bound files [] own = All-nil (λ (entry : Entry). IsName entry.name)
entries_named bound files (named ∷ names) own =
    All-cons (λ (entry : Entry). IsName entry.name) (entry_in files named) (map (entry_in files) names) own.0.is_name (entries_named bound files names own.1)

-- each has the size of its file
pub entries_sized : (files : List File) (names : Named ℕ) → GivesSizes files names (map (entry_in files) names)
entries_sized files [] name = refl
entries_sized files (named ∷ names) name = each (name_eq named.0 name) (entries_sized files names name)
  where
    each : (here : Bool) → size_listed name (map (entry_in files) names) ≡ option_map (λ number. length (file_at number files).read) (find name names)
        → (if here then Some (length (file_at named.1 files).read) else size_listed name (map (entry_in files) names))
        ≡ option_map (λ number. length (file_at number files).read) (if here then Some named.1 else find name names)
    each true rest = refl
    each false rest = rest

-- what lists these entries gives the sizes
pub listed_sized : (files : List File) (names : Named ℕ) (made seen : List Entry) (result : Result (List Entry) OutOfMemory)
    → made ≡ map (entry_in files) names → seen ≡ made → IfOk result (λ listing. HaveSameSizes listing seen) → IfOk result (GivesSizes files names)
listed_sized files names made seen (Ok listing) made_is seen_is same =
    λ name. same name ∙ ap (size_listed name) (seen_is ∙ made_is) ∙ entries_sized files names name
listed_sized files names made seen (Err refusal) made_is seen_is same = tt
