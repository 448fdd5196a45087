-- Tracked files by their names.
use Rattle.std.proofs.Common.{◌≡◌, ℕ, zero, suc, true, false, List, [], ◌∷◌, ◌++◌, length, Option, Some, None, take, get_or, refl, sym, ap, subst, ◌∙◌, arith, ◌<◌}
use Rattle.std.specs.Prelude.{IfSome, IfNone, is_some, if◌then◌else◌}
use Rattle.std.specs.List.{slice_set, remove}
use Rattle.std.proofs.lemmas.List.Elements.{All-tail}
use Rattle.std.proofs.lemmas.Bool.{false_from_ne_true, false≢true}
use Rattle.keel_base.specs.declared.file_name.FileName.{FileName}
use Rattle.keel_base.specs.declared.listing.Entry.{Entry}
use Rattle.keel_base.specs.Name.{name_eq}
use Rattle.keel_base.proofs.Names.{name_eq-same, name_eq-true}
use Rattle.keel_space.specs.Places.{IsAt, HaveOther, IsPlaceOf}
use Rattle.keel_space.specs.Tracked.{size_of, AreDistinct, resized, renamed, without}

-- a file at a place is tracked, with its size
pub size_of-at : (name : FileName) (files : List Entry) (place : ℕ) (found : Entry) → IsAt name files place → HaveOther name (take place files)
    → found ≡ get_or files place found → size_of name files ≡ Some found.size
size_of-at name [] place found at others is = absurd at
size_of-at name (file ∷ files) zero found at others is = rw at (ap {A = Entry} (λ e. Some e.size) (sym is))
size_of-at name (file ∷ files) (suc place) found at others is =
    let here : name_eq file.name name ≡ false = others 0 file (omega arith) in
    rw here (size_of-at name files place found at (All-tail (λ e. name_eq e.name name ≡ false) file (take place files) others) is)

-- where no file has the name it isn't tracked
pub size_of-none : (name : FileName) (files : List Entry) → HaveOther name files → size_of name files ≡ None
size_of-none name [] others = refl
size_of-none name (file ∷ files) others =
    let here : name_eq file.name name ≡ false = others 0 file (omega arith) in
    rw here (size_of-none name files (All-tail (λ e. name_eq e.name name ≡ false) file files others))

pub resized-at : (name : FileName) (size : ℕ) (files : List Entry) (place : ℕ) → IsAt name files place → HaveOther name (take place files)
    → slice_set files place (record { name = name; size = size }) ≡ resized name size files
resized-at name size [] place at others = absurd at
resized-at name size (file ∷ files) zero at others =
    let same : file.name ≡ name = name_eq-true file.name name at in
    rw at (ap (λ (n : FileName). (let e : Entry = record { name = n; size = size } in e) ∷ files) (sym same))
resized-at name size (file ∷ files) (suc place) at others =
    let here : name_eq file.name name ≡ false = others 0 file (omega arith) in
    rw here (ap (λ rest. file ∷ rest) (resized-at name size files place at (All-tail (λ e. name_eq e.name name ≡ false) file (take place files) others)))

pub renamed-at : (from to : FileName) (files : List Entry) (place : ℕ) (found : Entry) → IsAt from files place → HaveOther from (take place files)
    → found ≡ get_or files place found → slice_set files place (record { name = to; size = found.size }) ≡ renamed from to files
renamed-at from to [] place found at others is = absurd at
renamed-at from to (file ∷ files) zero found at others is =
    rw at (ap {A = Entry} (λ e. (let it : Entry = record { name = to; size = e.size } in it) ∷ files) is)
renamed-at from to (file ∷ files) (suc place) found at others is =
    let here : name_eq file.name from ≡ false = others 0 file (omega arith) in
    rw here (ap (λ rest. file ∷ rest) (renamed-at from to files place found at (All-tail (λ e. name_eq e.name from ≡ false) file (take place files) others) is))

pub without-at : (name : FileName) (files : List Entry) (place : ℕ) → IsAt name files place → HaveOther name (take place files)
    → remove files place ≡ without name files
without-at name [] place at others = absurd at
without-at name (file ∷ files) zero at others = rw at refl
without-at name (file ∷ files) (suc place) at others =
    let here : name_eq file.name name ≡ false = others 0 file (omega arith) in
    rw here (ap (λ rest. file ∷ rest) (without-at name files place at (All-tail (λ e. name_eq e.name name ≡ false) file (take place files) others)))

-- What isn't tracked stays so where sizes, names and files change.

pub none-cons : (name : FileName) (file : Entry) (files : List Entry) → size_of name (file ∷ files) ≡ None → (name_eq file.name name ≡ false) × (size_of name files ≡ None)
none-cons name file files none =
    elim (name_eq file.name name) as (λ same. (if same then Some file.size else size_of name files) ≡ None → (same ≡ false) × (size_of name files ≡ None)) [
      | true ↦ λ h. absurd (cc)
      | false ↦ λ h. (refl, h)
    ] none

pub none-resized : (other name : FileName) (size : ℕ) (files : List Entry) → size_of other files ≡ None → size_of other (resized name size files) ≡ None
none-resized other name size [] none = refl
none-resized other name size (file ∷ files) none =
    let parts = none-cons other file files none in
    elim (name_eq file.name name) as (λ same. size_of other (if same then record { name = file.name; size = size } ∷ files else file ∷ resized name size files) ≡ None) [
      | true ↦ rw parts.0 parts.1
      | false ↦ rw parts.0 (none-resized other name size files parts.1)
    ]

pub none-without : (other name : FileName) (files : List Entry) → size_of other files ≡ None → size_of other (without name files) ≡ None
none-without other name [] none = refl
none-without other name (file ∷ files) none =
    let parts = none-cons other file files none in
    elim (name_eq file.name name) as (λ same. size_of other (if same then files else file ∷ without name files) ≡ None) [
      | true ↦ parts.1
      | false ↦ rw parts.0 (none-without other name files parts.1)
    ]

pub none-renamed : (other from to : FileName) (files : List Entry) → name_eq to other ≡ false → size_of other files ≡ None → size_of other (renamed from to files) ≡ None
none-renamed other from to [] apart none = refl
none-renamed other from to (file ∷ files) apart none =
    let parts = none-cons other file files none in
    elim (name_eq file.name from) as (λ same. size_of other (if same then record { name = to; size = file.size } ∷ files else file ∷ renamed from to files) ≡ None) [
      | true ↦ rw apart parts.1
      | false ↦ rw parts.0 (none-renamed other from to files apart parts.1)
    ]

none-pushed : (other : FileName) (files : List Entry) (file : Entry) → name_eq file.name other ≡ false → size_of other files ≡ None → size_of other (files ++ file ∷ []) ≡ None
none-pushed other [] file apart none = rw apart refl
none-pushed other (first ∷ files) file apart none =
    let parts = none-cons other first files none in
    rw parts.0 (none-pushed other files file apart parts.1)

-- two names are apart either way
pub apart_back : (a b : FileName) → name_eq a b ≡ false → name_eq b a ≡ false
apart_back a b apart =
    false_from_ne_true (name_eq b a)
    (λ same. false≢true (sym apart ∙ subst (λ (n : FileName). name_eq a n ≡ true) (sym (name_eq-true b a same)) (name_eq-same a)))

-- Names go on to stand once.

pub distinct-resized : (name : FileName) (size : ℕ) (files : List Entry) → AreDistinct files → AreDistinct (resized name size files)
distinct-resized name size [] distinct = tt
distinct-resized name size (file ∷ files) distinct =
    elim (name_eq file.name name) as (λ same. AreDistinct (if same then record { name = file.name; size = size } ∷ files else file ∷ resized name size files)) [
      | true ↦ (distinct.0, distinct.1)
      | false ↦ (none-resized file.name name size files distinct.0, distinct-resized name size files distinct.1)
    ]

pub distinct-without : (name : FileName) (files : List Entry) → AreDistinct files → AreDistinct (without name files)
distinct-without name [] distinct = tt
distinct-without name (file ∷ files) distinct =
    elim (name_eq file.name name) as (λ same. AreDistinct (if same then files else file ∷ without name files)) [
      | true ↦ distinct.1
      | false ↦ (none-without file.name name files distinct.0, distinct-without name files distinct.1)
    ]

pub distinct-renamed : (from to : FileName) (files : List Entry) → size_of to files ≡ None → AreDistinct files → AreDistinct (renamed from to files)
distinct-renamed from to [] none distinct = tt
distinct-renamed from to (file ∷ files) none distinct =
    let parts = none-cons to file files none in
    elim (name_eq file.name from) as (λ same. AreDistinct (if same then record { name = to; size = file.size } ∷ files else file ∷ renamed from to files)) [
      | true ↦ (parts.1, distinct.1)
      | false ↦ (none-renamed file.name from to files (apart_back file.name to parts.0) distinct.0, distinct-renamed from to files parts.1 distinct.1)
    ]

pub distinct-pushed : (files : List Entry) (file : Entry) → size_of file.name files ≡ None → AreDistinct files → AreDistinct (files ++ file ∷ [])
distinct-pushed [] file none distinct = (refl, tt)
distinct-pushed (first ∷ files) file none distinct =
    let parts = none-cons file.name first files none in
    (none-pushed first.name files file (apart_back first.name file.name parts.0) distinct.0, distinct-pushed files file parts.1 distinct.1)

tracked-at : (name : FileName) (files : List Entry) (place : ℕ) → IsAt name files place → HaveOther name (take place files) → is_some (size_of name files) ≡ true
tracked-at name [] place at others = absurd at
tracked-at name (file ∷ files) zero at others = rw at refl
tracked-at name (file ∷ files) (suc place) at others =
    let here : name_eq file.name name ≡ false = others 0 file (omega arith) in
    rw here (tracked-at name files place at (All-tail (λ e. name_eq e.name name ≡ false) file (take place files) others))

-- a search by name tells whether it is tracked
pub found_is_tracked : (name : FileName) (files : List Entry) (place : Option ℕ) → IfSome place (IsAt name files)
    → IfSome place (λ p. HaveOther name (take p files)) → IfNone place (HaveOther name files) → is_some place ≡ is_some (size_of name files)
found_is_tracked name files None at first none = ap is_some (sym (size_of-none name files none))
found_is_tracked name files (Some place) at first none = sym (tracked-at name files place at first)

pub within-at : (name : FileName) (files : List Entry) (place : ℕ) → IsAt name files place → place < length files
within-at name [] place at = absurd at
within-at name (file ∷ files) zero at = omega arith
within-at name (file ∷ files) (suc place) at = omega (arith, within-at name files place at)

-- The same of the place where a name stands.

pub resized-there : (name : FileName) (size : ℕ) (files : List Entry) (place : ℕ) → IsPlaceOf name files place
    → slice_set files place (record { name = name; size = size }) ≡ resized name size files
resized-there name size files place there = resized-at name size files place there.at there.others

pub renamed-there : (from to : FileName) (files : List Entry) (place : ℕ) (found : Entry) → IsPlaceOf from files place → found ≡ get_or files place found
    → slice_set files place (record { name = to; size = found.size }) ≡ renamed from to files
renamed-there from to files place found there is = renamed-at from to files place found there.at there.others is

pub without-there : (name : FileName) (files : List Entry) (place : ℕ) → IsPlaceOf name files place → remove files place ≡ without name files
without-there name files place there = without-at name files place there.at there.others
