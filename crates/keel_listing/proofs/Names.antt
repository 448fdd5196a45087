-- Names of the store, in a directory and in its listing.
use Rattle.std.proofs.Common.{◌≡◌, ℕ, true, false, List, [], ◌∷◌, length, take, Some, None, refl, subst, arith, if◌then◌else◌}
use Rattle.std.specs.Prelude.{All}
use Rattle.std.proofs.lemmas.List.{take_all}
use Rattle.std.proofs.lemmas.List.Elements.{All-head, All-tail}
use Rattle.keel_base.specs.declared.file_name.FileName.{FileName}
use Rattle.keel_base.specs.declared.file_name.FileName.TheVariants.{Log}
use Rattle.keel_base.specs.declared.listing.Entry.{Entry}
use Rattle.keel_base.specs.Name.{name_eq, IsName}
use Rattle.keel_base.proofs.Names.{name_eq-true}
use Rattle.keel_disk.specs.declared.state.Operation.{Operation}
use Rattle.keel_disk.specs.Directory.{Named, find, operated_all}
use Rattle.keel_disk.specs.Listings.{size_listed}
use Rattle.keel_disk.specs.Sound.{AreOwn, IsSound}
use Rattle.keel_disk.specs.State.{State, directory_read}
use Rattle.keel_listing.specs.Names.{AreNames}

-- what is listed has a name of the store
pub listed_name : (listing : List Entry) (name : FileName) (size : ℕ) → All (λ (entry : Entry). IsName entry.name) listing → size_listed name listing ≡ Some size → IsName name
listed_name [] name size h e = absurd cc
listed_name (entry ∷ listing) name size h e =
    elim (name_eq entry.name name) as (λ b. name_eq entry.name name ≡ b → (if b then Some entry.size else size_listed name listing) ≡ Some size → IsName name) [
      | true ↦ λ same e. subst IsName (name_eq-true entry.name name same) (All-head (λ (entry : Entry). IsName entry.name) entry listing h)
      | false ↦ λ other e. listed_name listing name size (All-tail (λ (entry : Entry). IsName entry.name) entry listing h) e
    ] refl e

-- no name of a directory is one that isn't a name of the store
pub not_named : (number : ℕ) (directory : Named ℕ) → AreNames directory → (IsName (Log number) → ⊥) → find (Log number) directory ≡ None
not_named number [] h other = refl
not_named number (entry ∷ rest) h other =
    let later = not_named number rest h.1 other in
    elim (name_eq entry.0 (Log number)) as (λ b. name_eq entry.0 (Log number) ≡ b → (if b then Some entry.1 else find (Log number) rest) ≡ None) [
      | true ↦ λ same. absurd (other (subst IsName (name_eq-true entry.0 (Log number) same) h.0))
      | false ↦ λ _. later
    ] refl

own_names : (bound : ℕ) (directory : Named ℕ) → AreOwn bound directory → AreNames directory
own_names bound [] h = tt
own_names bound (entry ∷ rest) h = (h.0.is_name, own_names bound rest h.1)

-- on a device as calls and crashes leave it, all files have names of the store
pub sound_names : (state : State) → IsSound state → AreNames (directory_read state)
sound_names state sound =
    let all : take (length state.waiting) state.waiting ≡ state.waiting = take_all (length state.waiting) state.waiting (omega arith) in
    subst (λ (operations : List Operation). AreNames (operated_all operations state.firm)) all (own_names (length state.files) _ (sound.one_to_one (length state.waiting)))
