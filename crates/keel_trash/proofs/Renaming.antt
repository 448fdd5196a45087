-- Sizes of names behind changes of others.
use Rattle.std.proofs.Common.{◌≡◌, ℕ, true, false, List, [], ◌∷◌, Some, None, All, refl, sym, subst, ◌∙◌}
use Rattle.std.specs.Prelude.{IsSome, if◌then◌else◌, map}
use Rattle.std.proofs.lemmas.Bool.{false≢true}
use Rattle.std.proofs.lemmas.List.Elements.{All-nil, All-cons}
use Rattle.keel_base.specs.declared.file_name.FileName.{FileName}
use Rattle.keel_base.specs.declared.file_name.FileName.TheVariants.{Log, Table, Trash, Manifest, Current, Temp}
use Rattle.keel_base.specs.declared.listing.Entry.{Entry}
use Rattle.keel_base.specs.Name.{name_eq}
use Rattle.keel_base.proofs.Names.{name_eq-same, name_eq-true}
use Rattle.keel_space.specs.Tracked.{size_of, resized, renamed, without}
use Rattle.keel_space.proofs.Files.{none-cons}
use Rattle.keel_trash.specs.declared.entry.Retired.{Retired}
use Rattle.keel_trash.specs.Names.{trash_name, IsTable, IsTrash}
use Rattle.keel_trash.specs.State.{file_of}

pub same_apart : (a b c : FileName) → name_eq a b ≡ true → name_eq b c ≡ false → name_eq a c ≡ false
same_apart a b c same apart = subst (λ (n : FileName). name_eq n c ≡ false) (sym (name_eq-true a b same)) apart

pub others-without : (other name : FileName) (files : List Entry) → name_eq name other ≡ false → size_of other (without name files) ≡ size_of other files
others-without other name [] apart = refl
others-without other name (file ∷ files) apart =
    elim (name_eq file.name name) as (λ same. name_eq file.name name ≡ same → size_of other (if same then files else file ∷ without name files) ≡ size_of other (file ∷ files)) [
      | true ↦ λ same. rw (same_apart file.name name other same apart) refl
      | false ↦ λ differ. elim (name_eq file.name other) as (λ here. (if here then Some file.size else size_of other (without name files)) ≡ (if here then Some file.size else size_of other files)) [
        | true ↦ refl
        | false ↦ others-without other name files apart
      ]
    ] refl

pub others-resized : (other name : FileName) (size : ℕ) (files : List Entry) → name_eq name other ≡ false → size_of other (resized name size files) ≡ size_of other files
others-resized other name size [] apart = refl
others-resized other name size (file ∷ files) apart =
    elim (name_eq file.name name) as (λ same. name_eq file.name name ≡ same → size_of other (if same then record { name = file.name; size = size } ∷ files else file ∷ resized name size files) ≡ size_of other (file ∷ files)) [
      | true ↦ λ same. rw (same_apart file.name name other same apart) refl
      | false ↦ λ differ. elim (name_eq file.name other) as (λ here. (if here then Some file.size else size_of other (resized name size files)) ≡ (if here then Some file.size else size_of other files)) [
        | true ↦ refl
        | false ↦ others-resized other name size files apart
      ]
    ] refl

pub others-renamed : (other from to : FileName) (files : List Entry) → name_eq from other ≡ false → name_eq to other ≡ false
    → size_of other (renamed from to files) ≡ size_of other files
others-renamed other from to [] apart apart_too = refl
others-renamed other from to (file ∷ files) apart apart_too =
    elim (name_eq file.name from) as (λ same. name_eq file.name from ≡ same → size_of other (if same then record { name = to; size = file.size } ∷ files else file ∷ renamed from to files) ≡ size_of other (file ∷ files)) [
      | true ↦ λ same. rw (same_apart file.name from other same apart, apart_too) refl
      | false ↦ λ differ. elim (name_eq file.name other) as (λ here. (if here then Some file.size else size_of other (renamed from to files)) ≡ (if here then Some file.size else size_of other files)) [
        | true ↦ refl
        | false ↦ others-renamed other from to files apart apart_too
      ]
    ] refl

pub size_of-resized : (name : FileName) (size : ℕ) (files : List Entry) → IsSome (size_of name files) → size_of name (resized name size files) ≡ Some size
size_of-resized name size [] some = absurd (false≢true some)
size_of-resized name size (file ∷ files) some =
    elim (name_eq file.name name) as (λ same. name_eq file.name name ≡ same → IsSome (if same then Some file.size else size_of name files)
    → size_of name (if same then record { name = file.name; size = size } ∷ files else file ∷ resized name size files) ≡ Some size) [
      | true ↦ λ same there. rw same refl
      | false ↦ λ differ there. rw differ (size_of-resized name size files there)
    ] refl some

pub size_of-renamed : (from to : FileName) (size : ℕ) (files : List Entry) → size_of from files ≡ Some size → size_of to files ≡ None
    → size_of to (renamed from to files) ≡ Some size
size_of-renamed from to size [] there free = absurd (cc)
size_of-renamed from to size (file ∷ files) there free =
    let parts = none-cons to file files free in
    elim (name_eq file.name from) as (λ same. (if same then Some file.size else size_of from files) ≡ Some size
    → size_of to (if same then record { name = to; size = file.size } ∷ files else file ∷ renamed from to files) ≡ Some size) [
      | true ↦ λ is. rw (name_eq-same to) is
      | false ↦ λ is. rw parts.0 (size_of-renamed from to size files is parts.1)
    ] there

-- a table and a trash file differ
pub kinds_apart : (a b : FileName) → IsTable a → IsTrash b → name_eq a b ≡ false
kinds_apart (Log m) b table trash = absurd table
kinds_apart (Trash m) b table trash = absurd table
kinds_apart (Manifest m) b table trash = absurd table
kinds_apart Current b table trash = absurd table
kinds_apart (Temp m) b table trash = absurd table
kinds_apart (Table m) (Log n) table trash = absurd trash
kinds_apart (Table m) (Table n) table trash = absurd trash
kinds_apart (Table m) (Trash n) table trash = refl
kinds_apart (Table m) (Manifest n) table trash = absurd trash
kinds_apart (Table m) Current table trash = absurd trash
kinds_apart (Table m) (Temp n) table trash = absurd trash

pub trash_is_trash : (name : FileName) → IsTable name → IsTrash (trash_name name)
trash_is_trash (Log n) table = absurd table
trash_is_trash (Table n) table = tt
trash_is_trash (Trash n) table = absurd table
trash_is_trash (Manifest n) table = absurd table
trash_is_trash Current table = absurd table
trash_is_trash (Temp n) table = absurd table

-- a name that no file of a list has differs from each
pub files-apart : (name : FileName) (files : List Entry) → size_of name files ≡ None → All (λ file. name_eq file.name name ≡ false) files
files-apart name [] none = All-nil (λ (file : Entry). name_eq file.name name ≡ false)
files-apart name (file ∷ files) none =
    let parts = none-cons name file files none in
    All-cons (λ (f : Entry). name_eq f.name name ≡ false) file files parts.0 (files-apart name files parts.1)

pub tables-apart : (name : FileName) (entries : List Retired) → size_of name (map file_of entries) ≡ None → All (λ entry. name_eq entry.name name ≡ false) entries
tables-apart name [] none = All-nil (λ (entry : Retired). name_eq entry.name name ≡ false)
tables-apart name (entry ∷ entries) none =
    let parts = none-cons name (file_of entry) (map file_of entries) none in
    All-cons (λ (e : Retired). name_eq e.name name ≡ false) entry entries parts.0 (tables-apart name entries parts.1)

-- an untracked name differs from tracked ones
pub free_apart : (name other : FileName) (size : ℕ) (files : List Entry) → size_of name files ≡ None → size_of other files ≡ Some size → name_eq other name ≡ false
free_apart name other size files none some =
    elim (name_eq other name) as (λ same. name_eq other name ≡ same → same ≡ false) [
      | true ↦ λ same. let clash : None ≡ Some size = sym none ∙ subst (λ (n : FileName). size_of n files ≡ Some size) (name_eq-true other name same) some in absurd (cc)
      | false ↦ λ differ. refl
    ] refl
