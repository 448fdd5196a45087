-- The first file in use, in a listing and in the directory that it lists.
use Rattle.std.proofs.Common.{◌≡◌, ℕ, suc, Bool, true, false, cond, List, [], ◌∷◌, length, Option, Some, None, option_map, refl, sym, ap, subst, ◌∙◌, inl, inr, arith, if◌then◌else◌}
use Rattle.std.specs.Prelude.{All, AllPairs, IsTrue, MatchOption}
use Rattle.std.specs.Prelude.{find as first_where}
use Rattle.std.specs.List.{AllByRecursion}
use Rattle.std.proofs.lemmas.List.Elements.{All-head, All-tail}
use Rattle.keel_base.specs.declared.file_name.FileName.{FileName}
use Rattle.keel_base.specs.declared.file_name.FileName.TheVariants.{Log, Table, Trash, Manifest, Current, Temp}
use Rattle.keel_base.specs.declared.listing.Entry.{Entry}
use Rattle.keel_base.specs.Name.{name_eq, IsName, listed_before}
use Rattle.keel_base.proofs.Names.{name_eq-true, name_eq-same}
use Rattle.keel_name.proofs.Listings.{in_order}
use Rattle.keel_disk.specs.Directory.{Named, find}
use Rattle.keel_disk.specs.Listings.{IsListing, size_listed}
use Rattle.keel_disk.specs.Plain.{image_read}
use Rattle.keel_disk.specs.State.{file_at, file_of, directory_read}
use Rattle.keel_disk.specs.Told.{Told, TellsListing, bytes_of}
use Rattle.keel_listing.specs.Names.{AreNames}
use Rattle.keel_listing.proofs.Names.{listed_name}
use Rattle.keel_listing.proofs.Files.{image_has}
use Rattle.keel_directory.specs.Laws.{AreNamedOnce, NamesUsed}
use Rattle.keel_directory.specs.Reading.{first_used}
use Rattle.keel_directory.specs.Reading.{is_used as is_used_in}
use Rattle.keel_directory.proofs.Those.{first_first}
use Rattle.keel_open.specs.Listed.{is_used_of, is_used, first_listed, IsDirectory, FirstOfListing}

-- ---- in a listing

abbrev Ascends : List Entry → Type 0
Ascends listing = AllPairs (λ earlier later. IsTrue (listed_before earlier.name later.name)) listing

never : (b : Bool) → b ≡ false → b ≡ true → ⊥
never true f t = cc
never false f t = cc

before : (entry : Entry) (rest : List Entry) → All (λ later. IsTrue (listed_before entry.name later.name)) rest → (name : FileName) (size : ℕ) → size_listed name rest ≡ Some size → listed_before entry.name name ≡ true
before entry [] all name size e = absurd cc
before entry (next ∷ rest) all name size e =
    elim (name_eq next.name name) as (λ b. name_eq next.name name ≡ b → (if b then Some next.size else size_listed name rest) ≡ Some size → listed_before entry.name name ≡ true) [
      | true ↦ λ same e. subst (λ (n : FileName). listed_before entry.name n ≡ true) (name_eq-true next.name name same)
          (All-head (λ (later : Entry). IsTrue (listed_before entry.name later.name)) next rest all)
      | false ↦ λ other e. before entry rest (All-tail (λ (later : Entry). IsTrue (listed_before entry.name later.name)) next rest all) name size e
    ] refl e

behind_first : (entry : Entry) (rest : List Entry) → Ascends (entry ∷ rest) → (name : FileName) (size : ℕ) → size_listed name rest ≡ Some size → listed_before entry.name name ≡ true
behind_first entry rest ascends name size e = before entry rest (λ k d lt. ascends 0 (suc k) d (omega arith) (omega arith)) name size e

rest_ascends : (entry : Entry) (rest : List Entry) → Ascends (entry ∷ rest) → Ascends rest
rest_ascends entry rest ascends = λ i j d less within. ascends (suc i) (suc j) d (omega arith) (omega arith)

listed_here : (entry : Entry) (rest : List Entry) → size_listed entry.name (entry ∷ rest) ≡ Some entry.size
listed_here entry rest = rw (name_eq-same entry.name) refl

listed_later : (entry : Entry) (rest : List Entry) → Ascends (entry ∷ rest) → (name : FileName) (size : ℕ) → size_listed name rest ≡ Some size → size_listed name (entry ∷ rest) ≡ Some size
listed_later entry rest ascends name size e =
    let up = behind_first entry rest ascends name size e in
    elim (name_eq entry.name name) as (λ b. name_eq entry.name name ≡ b → (if b then Some entry.size else size_listed name rest) ≡ Some size) [
      | true ↦ λ same. absurd (never (listed_before entry.name entry.name) (in_order.apart entry.name) (subst (λ (n : FileName). listed_before entry.name n ≡ true) (sym (name_eq-true entry.name name same)) up))
      | false ↦ λ other. e
    ] refl

-- none in use is listed before this name
abbrev Earliest : List Entry → FileName → Type 0
Earliest listing name = (other : FileName) (size : ℕ) → size_listed other listing ≡ Some size → is_used_of other size ≡ true → listed_before other name ≡ false

some_size : (a b : ℕ) → (let found : Option ℕ = Some a in found) ≡ Some b → a ≡ b
some_size a b e = cc

at_head : (entry : Entry) (rest : List Entry) → Ascends (entry ∷ rest) → (name : FileName) (size : ℕ) → size_listed name (entry ∷ rest) ≡ Some size → is_used entry ≡ true → Earliest (entry ∷ rest) name → entry.name ≡ name
at_head entry rest ascends name size e used least =
    elim (name_eq entry.name name) as (λ b. name_eq entry.name name ≡ b → (if b then Some entry.size else size_listed name rest) ≡ Some size → entry.name ≡ name) [
      | true ↦ λ same e. name_eq-true entry.name name same
      | false ↦ λ other e. absurd (never (listed_before entry.name name) (least entry.name entry.size (listed_here entry rest) used) (behind_first entry rest ascends name size e))
    ] refl e

in_rest : (entry : Entry) (rest : List Entry) (name : FileName) (size : ℕ) → size_listed name (entry ∷ rest) ≡ Some size → is_used_of name size ≡ true → is_used entry ≡ false → size_listed name rest ≡ Some size
in_rest entry rest name size e used other =
    elim (name_eq entry.name name) as (λ b. name_eq entry.name name ≡ b → (if b then Some entry.size else size_listed name rest) ≡ Some size → size_listed name rest ≡ Some size) [
      | true ↦ λ same e. absurd (never (is_used entry) other
          (subst (λ (s : ℕ). is_used_of entry.name s ≡ true) (sym (some_size entry.size size e)) (subst (λ (n : FileName). is_used_of n size ≡ true) (sym (name_eq-true entry.name name same)) used)))
      | false ↦ λ apart e. e
    ] refl e

first_of : (listing : List Entry) → Ascends listing → (name : FileName) (size : ℕ) → size_listed name listing ≡ Some size → is_used_of name size ≡ true → Earliest listing name → first_listed listing ≡ Some name
first_of [] ascends name size e used least = absurd cc
first_of (entry ∷ rest) ascends name size e used least =
    elim (is_used entry) as (λ b. is_used entry ≡ b → option_map (λ (found : Entry). found.name) (cond b (Some entry) (first_where is_used rest)) ≡ Some name) [
      | true ↦ λ is. ap (λ (n : FileName). Some n) (at_head entry rest ascends name size e is least)
      | false ↦ λ other. first_of rest (rest_ascends entry rest ascends) name size (in_rest entry rest name size e used other) used
          (λ m s there is. least m s (listed_later entry rest ascends m s there) is)
    ] refl

none_of : (listing : List Entry) → Ascends listing → ((name : FileName) (size : ℕ) → size_listed name listing ≡ Some size → is_used_of name size ≡ false) → first_listed listing ≡ None
none_of [] ascends none = refl
none_of (entry ∷ rest) ascends none =
    let head : is_used entry ≡ false = none entry.name entry.size (listed_here entry rest) in
    rw head (none_of rest (rest_ascends entry rest ascends) (λ m s there. none m s (listed_later entry rest ascends m s there)))

-- ---- in a directory

used_by_size : (name : FileName) (bytes : List ℕ) → is_used_in (name, bytes) ≡ is_used_of name (length bytes)
used_by_size (Log n) bytes = refl
used_by_size (Table n) bytes = refl
used_by_size (Trash n) bytes = refl
used_by_size (Manifest n) bytes = refl
used_by_size Current bytes = refl
used_by_size (Temp n) bytes = refl

some_bytes_are : (a b : List ℕ) → (let found : Option (List ℕ) = Some a in found) ≡ Some b → a ≡ b
some_bytes_are a b e = cc

of_found : (P : FileName × List ℕ → Type 0) (image : Named (List ℕ)) → AllByRecursion P image → (name : FileName) (bytes : List ℕ) → find name image ≡ Some bytes → P (name, bytes)
of_found P [] all name bytes e = absurd cc
of_found P (file ∷ image) all name bytes e =
    elim (name_eq file.0 name) as (λ b. name_eq file.0 name ≡ b → (if b then Some file.1 else find name image) ≡ Some bytes → P (name, bytes)) [
      | true ↦ λ same e. subst (λ (b : List ℕ). P (name, b)) (some_bytes_are file.1 bytes e) (subst (λ (n : FileName). P (n, file.1)) (name_eq-true file.0 name same) all.0)
      | false ↦ λ other e. of_found P image all.1 name bytes e
    ] refl e

-- the file of a name that is in use
pub record FoundUsed (image : Named (List ℕ)) (name : FileName) : Type 0 where
  pub bytes : List ℕ
  pub there : find name image ≡ Some bytes
  pub used : is_used_in (name, bytes) ≡ true

found_used : (image : Named (List ℕ)) → AreNamedOnce image → (name : FileName) → NamesUsed image name → FoundUsed image name
found_used [] once name h = absurd h
found_used (file ∷ image) once name (inl h) =
    let same : name_eq file.0 name ≡ true = subst (λ (n : FileName). name_eq file.0 n ≡ true) h.0 (name_eq-same file.0) in
    record { bytes = file.1; there = rw same refl; used = subst (λ (n : FileName). is_used_in (n, file.1) ≡ true) h.0 h.1 }
found_used (file ∷ image) once name (inr h) =
    let found = found_used image once.1 name h in
    record {
      bytes = found.bytes;
      there = elim (name_eq file.0 name) as (λ b. name_eq file.0 name ≡ b → (if b then Some file.1 else find name image) ≡ Some found.bytes) [
        | true ↦ λ same. absurd (let none : find name image ≡ None = subst (λ (n : FileName). find n image ≡ None) (name_eq-true file.0 name same) once.0 in let there = found.there in cc)
        | false ↦ λ other. found.there
      ] refl;
      used = found.used;
    }

named_in : (directory : Named ℕ) → AreNames directory → (name : FileName) (number : ℕ) → find name directory ≡ Some number → IsName name
named_in [] names name number e = absurd cc
named_in (entry ∷ rest) names name number e =
    elim (name_eq entry.0 name) as (λ b. name_eq entry.0 name ≡ b → (if b then Some entry.1 else find name rest) ≡ Some number → IsName name) [
      | true ↦ λ same e. subst IsName (name_eq-true entry.0 name same) names.0
      | false ↦ λ other e. named_in rest names.1 name number e
    ] refl e

mapped : (f : ℕ → List ℕ) (number : Option ℕ) (bytes : List ℕ) → option_map f number ≡ Some bytes → (n : ℕ) × (number ≡ Some n)
mapped f None bytes e = absurd cc
mapped f (Some n) bytes e = (n, refl)

pub name_of_found : (told : Told) (name : FileName) (bytes : List ℕ) → AreNames (directory_read told.state) → find name (image_read told.state) ≡ Some bytes → IsName name
name_of_found told name bytes names e =
    let number = mapped (λ n. (file_at n told.state.files).read) (file_of name told.state) bytes (sym (image_has told name) ∙ e) in
    named_in (directory_read told.state) names name number.0 number.1

-- ---- where the device tells its listing

sized : (bytes : Option (List ℕ)) (size : ℕ) → option_map length bytes ≡ Some size → (all : List ℕ) × (bytes ≡ Some all) × (length all ≡ size)
sized None size e = absurd cc
sized (Some all) size e = (all, refl, cc)

listed_used : (told : Told) (listing : List Entry) → TellsListing (Some told) listing → IsListing listing → (P : Bool → Type 0)
    → AllByRecursion (λ file. P (is_used_in file)) (image_read told.state) → (name : FileName) (size : ℕ) → size_listed name listing ≡ Some size → P (is_used_of name size)
listed_used told listing tells order P all name size e =
    let is = listed_name listing name size order.are_names e in
    let found = sized (bytes_of name told) size (sym (tells name is) ∙ e) in
    subst (λ (s : ℕ). P (is_used_of name s)) found.2
    (subst P (used_by_size name found.0) (of_found (λ file. P (is_used_in file)) (image_read told.state) all name found.0 (image_has told name ∙ found.1)))

-- of the files in use none is listed before that name
abbrev NoneBefore : Named (List ℕ) → FileName → Type 0
NoneBefore image name = AllByRecursion (λ file. is_used_in file ≡ true → listed_before file.0 name ≡ false) image

earliest : (told : Told) (listing : List Entry) → TellsListing (Some told) listing → IsListing listing → (name : FileName) → NoneBefore (image_read told.state) name → Earliest listing name
earliest told listing tells order name all other size there used =
    let is = listed_name listing other size order.are_names there in
    let found = sized (bytes_of other told) size (sym (tells other is) ∙ there) in
    of_found (λ file. is_used_in file ≡ true → listed_before file.0 name ≡ false) (image_read told.state) all other found.0 (image_has told other ∙ found.1)
    (used_by_size other found.0 ∙ subst (λ (n : ℕ). is_used_of other n ≡ true) (sym found.2) used)

by_first : (told : Told) (listing : List Entry) → IsDirectory told.state → TellsListing (Some told) listing → IsListing listing → (found : Option FileName)
    → MatchOption found (AllByRecursion (λ file. is_used_in file ≡ false) (image_read told.state)) (λ name. NamesUsed (image_read told.state) name × NoneBefore (image_read told.state) name)
    → found ≡ first_listed listing
by_first told listing directory tells order None h = sym (none_of listing order.ascends (listed_used told listing tells order (λ b. b ≡ false) h))
by_first told listing directory tells order (Some name) h =
    let found = found_used (image_read told.state) directory.once name h.0 in
    let is = name_of_found told name found.bytes directory.names found.there in
    let size : size_listed name listing ≡ Some (length found.bytes) = tells name is ∙ ap (λ (o : Option (List ℕ)). option_map length o) (sym (image_has told name) ∙ found.there) in
    sym (first_of listing order.ascends name (length found.bytes) size (sym (used_by_size name found.bytes) ∙ found.used) (earliest told listing tells order name h.1))

pub first_of_listing : FirstOfListing
first_of_listing told listing directory tells order = by_first told listing directory tells order (first_used (image_read told.state)) (first_first (image_read told.state))
