-- An image of a booting store's device reads as its older files alone do.
use Rattle.std.proofs.Common.{◌≡◌, ℕ, ◌≤◌, Bool, true, false, List, [], ◌∷◌, length, take, Option, Some, None, refl, sym, ap, subst, ◌∙◌, arith, nat_le, if◌then◌else◌}
use Rattle.std.specs.List.{AllByRecursion}
use Rattle.keel_base.specs.declared.file_name.FileName.{FileName}
use Rattle.keel_base.specs.declared.file_name.FileName.TheVariants.{Current, Temp, Log, Table, Trash, Manifest}
use Rattle.keel_base.specs.Name.{name_eq}
use Rattle.keel_base.proofs.Names.{name_eq-true, name_eq-same}
use Rattle.std.proofs.lemmas.Bool.{leb-true, leb-false}
use Rattle.std.proofs.lemmas.List.{get_or-take}
use Rattle.keel_disk.specs.declared.state.File.{File}
use Rattle.keel_disk.specs.Directory.{Named, find}
use Rattle.keel_disk.specs.State.{file_at, new_file}
use Rattle.keel_disk.specs.Image.{AreImages, IsFileImage}
use Rattle.keel_disk.specs.Plain.{ArePlain, PlainWhere, has_fragments, bytes_read}
use Rattle.keel_disk.specs.Sound.{AreOwn}
use Rattle.keel_directory.specs.Reading.{is_used, first_used, earlier}
use Rattle.keel_directory.specs.declared.logs.LogFile.{LogFile}
use Rattle.keel_directory.specs.Replays.{logs_from, with_log}
use Rattle.keel_recovery.specs.Booting.{below}

some_is_none : {A P : Type 0} (x : A) → Some x ≡ None → P
some_is_none x e = cc

-- what an image has of the older files
abbrev pub kept : ℕ → Named ℕ → Named (List ℕ) → Named (List ℕ)
kept bound [] image = []
kept bound (entry ∷ rest) [] = []
kept bound (entry ∷ rest) (found ∷ image) = if nat_le bound entry.1 then kept bound rest image else found ∷ kept bound rest image

pub images_kept : (bound : ℕ) (files : List File) (d : Named ℕ) (image : Named (List ℕ)) → AreImages files d image → AreImages files (below bound d) (kept bound d image)
images_kept bound files [] [] are = tt
images_kept bound files [] (found ∷ image) are = absurd are
images_kept bound files (entry ∷ rest) [] are = absurd are
images_kept bound files (entry ∷ rest) (found ∷ image) are =
    let later = images_kept bound files rest image are.2 in
    elim (nat_le bound entry.1) as (λ b. AreImages files (if b then below bound rest else entry ∷ below bound rest) (if b then kept bound rest image else found ∷ kept bound rest image)) [
      | true ↦ later
      | false ↦ (are.0, are.1, later)
    ]

pub plain_kept : (bound : ℕ) (files : List File) (d : Named ℕ) (image : Named (List ℕ)) → ArePlain files d image → ArePlain files (below bound d) (kept bound d image)
plain_kept bound files [] [] are = tt
plain_kept bound files [] (found ∷ image) are = absurd are
plain_kept bound files (entry ∷ rest) [] are = absurd are
plain_kept bound files (entry ∷ rest) (found ∷ image) are =
    let later = plain_kept bound files rest image are.1 in
    elim (nat_le bound entry.1) as (λ b. ArePlain files (if b then below bound rest else entry ∷ below bound rest) (if b then kept bound rest image else found ∷ kept bound rest image)) [
      | true ↦ later
      | false ↦ (are.0, later)
    ]

images_of_none : (files others : List File) (image : Named (List ℕ)) → AreImages files [] image → AreImages others [] image
images_of_none files others [] are = tt
images_of_none files others (found ∷ image) are = absurd are

plain_of_none : (files others : List File) (image : Named (List ℕ)) → ArePlain files [] image → ArePlain others [] image
plain_of_none files others [] are = tt
plain_of_none files others (found ∷ image) are = absurd are

-- of files below a bound the first ones are all that there are
pub first_file : (bound number : ℕ) (files : List File) → nat_le bound number ≡ false → file_at number (take bound files) ≡ file_at number files
first_file bound number files older = get_or-take bound files number new_file (leb-false bound number older)

one_image : (bound : ℕ) (files : List File) (entry : FileName × ℕ) (rest : Named ℕ) → ((image : Named (List ℕ)) → AreImages files (below bound rest) image → AreImages (take bound files) (below bound rest) image)
    → (image : Named (List ℕ)) → nat_le bound entry.1 ≡ false → AreImages files (entry ∷ below bound rest) image → AreImages (take bound files) (entry ∷ below bound rest) image
one_image bound files entry rest later [] older are = absurd are
one_image bound files entry rest later (found ∷ image) older are =
    (are.0, subst (λ (file : File). IsFileImage file found.1) (sym (first_file bound entry.1 files older)) are.1, later image are.2)

pub first_images : (bound : ℕ) (files : List File) (d : Named ℕ) (image : Named (List ℕ)) → AreImages files (below bound d) image → AreImages (take bound files) (below bound d) image
first_images bound files [] image are = images_of_none files (take bound files) image are
first_images bound files (entry ∷ rest) image are =
    elim (nat_le bound entry.1) as (λ b. nat_le bound entry.1 ≡ b → AreImages files (if b then below bound rest else entry ∷ below bound rest) image → AreImages (take bound files) (if b then below bound rest else entry ∷ below bound rest) image) [
      | true ↦ λ newer are. first_images bound files rest image are
      | false ↦ λ older are. one_image bound files entry rest (first_images bound files rest) image older are
    ] refl are

one_plain : (bound : ℕ) (files : List File) (entry : FileName × ℕ) (rest : Named ℕ) → ((image : Named (List ℕ)) → ArePlain files (below bound rest) image → ArePlain (take bound files) (below bound rest) image)
    → (image : Named (List ℕ)) → nat_le bound entry.1 ≡ false → ArePlain files (entry ∷ below bound rest) image → ArePlain (take bound files) (entry ∷ below bound rest) image
one_plain bound files entry rest later [] older are = absurd are
one_plain bound files entry rest later (found ∷ image) older are =
    (subst (λ (file : File). PlainWhere (has_fragments entry.0) file.meant found.1) (sym (first_file bound entry.1 files older)) are.0, later image are.1)

pub first_plain : (bound : ℕ) (files : List File) (d : Named ℕ) (image : Named (List ℕ)) → ArePlain files (below bound d) image → ArePlain (take bound files) (below bound d) image
first_plain bound files [] image are = plain_of_none files (take bound files) image are
first_plain bound files (entry ∷ rest) image are =
    elim (nat_le bound entry.1) as (λ b. nat_le bound entry.1 ≡ b → ArePlain files (if b then below bound rest else entry ∷ below bound rest) image → ArePlain (take bound files) (if b then below bound rest else entry ∷ below bound rest) image) [
      | true ↦ λ newer are. first_plain bound files rest image are
      | false ↦ λ older are. one_plain bound files entry rest (first_plain bound files rest) image older are
    ] refl are

pub first_read : (bound : ℕ) (files : List File) (d : Named ℕ) → bytes_read (take bound files) (below bound d) ≡ bytes_read files (below bound d)
first_read bound files [] = refl
first_read bound files (entry ∷ rest) =
    elim (nat_le bound entry.1) as (λ b. nat_le bound entry.1 ≡ b → bytes_read (take bound files) (if b then below bound rest else entry ∷ below bound rest) ≡ bytes_read files (if b then below bound rest else entry ∷ below bound rest)) [
      | true ↦ λ newer. first_read bound files rest
      | false ↦ λ older. λ i. (entry.0, (first_file bound entry.1 files older i).read) ∷ first_read bound files rest i
    ] refl

-- the names of an image are those of its directory
abbrev pub SameNames : Named ℕ → Named (List ℕ) → Type 0
SameNames [] [] = Unit {0}
SameNames (entry ∷ rest) (found ∷ image) = (found.0 ≡ entry.0) × SameNames rest image
SameNames _ _ = ⊥

-- and a file to which nothing was handed has no byte there
abbrev pub AreShown : List File → Named ℕ → Named (List ℕ) → Type 0
AreShown files [] [] = Unit {0}
AreShown files (entry ∷ rest) (found ∷ image) = (found.0 ≡ entry.0) × ((file_at entry.1 files).meant ≡ [] → found.1 ≡ []) × AreShown files rest image
AreShown files _ _ = ⊥

no_bytes : (file : File) (bytes : List ℕ) → IsFileImage file bytes → file.meant ≡ [] → bytes ≡ []
no_bytes file [] image none = refl
no_bytes file (b ∷ bytes) image none =
    let within : length (b ∷ bytes) ≤ 0 = subst (λ (m : List ℕ). length (b ∷ bytes) ≤ length m) none image.no_longer in
    absurd (omega (arith, within))

pub images_shown : (files : List File) (d : Named ℕ) (image : Named (List ℕ)) → AreImages files d image → AreShown files d image
images_shown files [] [] are = tt
images_shown files [] (found ∷ image) are = absurd are
images_shown files (entry ∷ rest) [] are = absurd are
images_shown files (entry ∷ rest) (found ∷ image) are = (are.0, no_bytes (file_at entry.1 files) found.1 are.1, images_shown files rest image are.2)

pub names_of : (files : List File) (d : Named ℕ) (image : Named (List ℕ)) → AreShown files d image → SameNames d image
names_of files [] [] are = tt
names_of files [] (found ∷ image) are = absurd are
names_of files (entry ∷ rest) [] are = absurd are
names_of files (entry ∷ rest) (found ∷ image) are = (are.0, names_of files rest image are.2)

pub shown_kept : (bound : ℕ) (files : List File) (d : Named ℕ) (image : Named (List ℕ)) → AreShown files d image → AreShown files (below bound d) (kept bound d image)
shown_kept bound files [] [] are = tt
shown_kept bound files [] (found ∷ image) are = absurd are
shown_kept bound files (entry ∷ rest) [] are = absurd are
shown_kept bound files (entry ∷ rest) (found ∷ image) are =
    let later = shown_kept bound files rest image are.2 in
    elim (nat_le bound entry.1) as (λ b. AreShown files (if b then below bound rest else entry ∷ below bound rest) (if b then kept bound rest image else found ∷ kept bound rest image)) [
      | true ↦ later
      | false ↦ (are.0, are.1, later)
    ]

pub none_named : (name : FileName) (d : Named ℕ) (image : Named (List ℕ)) → SameNames d image → find name d ≡ None → find name image ≡ None
none_named name [] [] same none = refl
none_named name [] (found ∷ image) same none = absurd same
none_named name (entry ∷ rest) [] same none = absurd same
none_named name (entry ∷ rest) (found ∷ image) same none =
    elim (name_eq entry.0 name) as (λ b. name_eq entry.0 name ≡ b → (if b then Some entry.1 else find name rest) ≡ None → find name (found ∷ image) ≡ None) [
      | true ↦ λ is some. cc
      | false ↦ λ apart later. rw (same.0, apart) (none_named name rest image same.1 later)
    ] refl none

kept_none : (bound : ℕ) (name : FileName) (d : Named ℕ) (image : Named (List ℕ)) → SameNames d image → find name d ≡ None → find name (kept bound d image) ≡ None
kept_none bound name [] image same none = refl
kept_none bound name (entry ∷ rest) [] same none = absurd same
kept_none bound name (entry ∷ rest) (found ∷ image) same none =
    elim (name_eq entry.0 name) as (λ b. name_eq entry.0 name ≡ b → (if b then Some entry.1 else find name rest) ≡ None → find name (if nat_le bound entry.1 then kept bound rest image else found ∷ kept bound rest image) ≡ None) [
      | true ↦ λ is some. cc
      | false ↦ λ apart later.
          let behind = kept_none bound name rest image same.1 later in
          elim (nat_le bound entry.1) as (λ c. find name (if c then kept bound rest image else found ∷ kept bound rest image) ≡ None) [
            | true ↦ behind
            | false ↦ rw (same.0, apart) behind
          ]
    ] refl none

-- what is kept of a name is what the image has of it
pub kept_some : (bound total : ℕ) (name : FileName) (bytes : List ℕ) (d : Named ℕ) (image : Named (List ℕ)) → AreOwn total d → SameNames d image
    → find name (kept bound d image) ≡ Some bytes → find name image ≡ Some bytes
kept_some bound total name bytes [] image own same some = cc
kept_some bound total name bytes (entry ∷ rest) [] own same some = absurd same
kept_some bound total name bytes (entry ∷ rest) (found ∷ image) own same some =
    elim (nat_le bound entry.1) as (λ c. find name (if c then kept bound rest image else found ∷ kept bound rest image) ≡ Some bytes → find name (found ∷ image) ≡ Some bytes) [
      | true ↦ λ later.
          elim (name_eq entry.0 name) as (λ b. name_eq entry.0 name ≡ b → find name (found ∷ image) ≡ Some bytes) [
            | true ↦ λ is.
                let gone : find name (kept bound rest image) ≡ None = kept_none bound name rest image same.1 (subst (λ n. find n rest ≡ None) (name_eq-true entry.0 name is) own.0.once) in
                absurd (some_is_none bytes (sym later ∙ gone))
            | false ↦ λ apart. rw (same.0, apart) (kept_some bound total name bytes rest image own.1 same.1 later)
          ] refl
      | false ↦ λ now.
          elim (name_eq entry.0 name) as (λ b. name_eq entry.0 name ≡ b → find name (found ∷ image) ≡ Some bytes) [
            | true ↦ λ is. rw (same.0, is) (subst (λ (b : Bool). (if b then Some found.1 else find name (kept bound rest image)) ≡ Some bytes) (ap (λ n. name_eq n name) same.0 ∙ is) now)
            | false ↦ λ apart. rw (same.0, apart) (kept_some bound total name bytes rest image own.1 same.1 (subst (λ (b : Bool). (if b then Some found.1 else find name (kept bound rest image)) ≡ Some bytes) (ap (λ n. name_eq n name) same.0 ∙ apart) now))
          ] refl
    ] some

-- a name that is there has bytes
pub some_named : (name : FileName) (file : ℕ) (d : Named ℕ) (image : Named (List ℕ)) → SameNames d image → find name d ≡ Some file → find name image ≡ None → ⊥
some_named name file [] image same some none = cc
some_named name file (entry ∷ rest) [] same some none = absurd same
some_named name file (entry ∷ rest) (found ∷ image) same some none =
    elim (name_eq entry.0 name) as (λ b. name_eq entry.0 name ≡ b → (if b then Some entry.1 else find name rest) ≡ Some file → ⊥) [
      | true ↦ λ is one. some_is_none found.1 (subst (λ (b : Bool). (if b then Some found.1 else find name image) ≡ None) (ap (λ n. name_eq n name) same.0 ∙ is) none)
      | false ↦ λ apart later. some_named name file rest image same.1 later (subst (λ (b : Bool). (if b then Some found.1 else find name image) ≡ None) (ap (λ n. name_eq n name) same.0 ∙ apart) none)
    ] refl some

-- ---- files that no reading needs

-- what is so of each name and its file is so of each entry
pub all_entries : (total : ℕ) (P : FileName → ℕ → Type 0) (d : Named ℕ) → AreOwn total d → ((name : FileName) (file : ℕ) → find name d ≡ Some file → P name file)
    → AllByRecursion (λ (entry : FileName × ℕ). P entry.0 entry.1) d
all_entries total P [] own each = tt
all_entries total P (entry ∷ rest) own each = (
  each entry.0 entry.1 (rw (name_eq-same entry.0) refl),
  all_entries total P rest own.1 (λ name file is.
      each name file
      (elim (name_eq entry.0 name) as (λ b. name_eq entry.0 name ≡ b → (if b then Some entry.1 else find name rest) ≡ Some file) [
        | true ↦ λ same. absurd (some_is_none file (sym is ∙ subst (λ n. find n rest ≡ None) (name_eq-true entry.0 name same) own.0.once))
        | false ↦ λ apart. is
      ] refl)),
)

-- a file that was made since is no trash file, a log of it has no byte, and it is a table only where CURRENT was there
pub record IsUnneeded (bound : ℕ) (tables : Type 0) (files : List File) (name : FileName) (file : ℕ) : Type 0 where
  pub log : (n : ℕ) → name ≡ Log n → bound ≤ file → (file_at file files).meant ≡ []
  pub trash : (n : ℕ) → name ≡ Trash n → bound ≤ file → ⊥
  pub table : (n : ℕ) → name ≡ Table n → bound ≤ file → tables

-- a log without a byte, or a file that is no log, is none of the logs that are read
skipped : (least : ℕ) (name : FileName) (bytes : List ℕ) (logs : List LogFile) → ((n : ℕ) → name ≡ Log n → bytes ≡ []) → with_log least (name, bytes) logs ≡ logs
skipped least (Log n) bytes logs none = rw (none n refl) refl
skipped least (Table n) bytes logs none = refl
skipped least (Trash n) bytes logs none = refl
skipped least (Manifest n) bytes logs none = refl
skipped least Current bytes logs none = refl
skipped least (Temp n) bytes logs none = refl

module _ (bound : ℕ) (tables : Type 0) (files : List File) where
  pub logs_kept : (least : ℕ) (d : Named ℕ) (image : Named (List ℕ)) → AreShown files d image → AllByRecursion (λ (entry : FileName × ℕ). IsUnneeded bound tables files entry.0 entry.1) d
      → logs_from least (kept bound d image) ≡ logs_from least image
  logs_kept least [] [] are each = refl
  logs_kept least [] (found ∷ image) are each = absurd are
  logs_kept least (entry ∷ rest) [] are each = absurd are
  logs_kept least (entry ∷ rest) (found ∷ image) are each =
      let later = logs_kept least rest image are.2 each.1 in
      elim (nat_le bound entry.1) as (λ b. nat_le bound entry.1 ≡ b → logs_from least (if b then kept bound rest image else found ∷ kept bound rest image) ≡ with_log least found (logs_from least image)) [
        | true ↦ λ newer. later ∙ sym (skipped least found.0 found.1 (logs_from least image) (λ n is. are.1 (each.0.log n (sym are.0 ∙ is) (leb-true bound entry.1 newer))))
        | false ↦ λ older. ap (with_log least found) later
      ] refl

  -- a file that was made since is of no new store's use
  not_used : (name : FileName) (file : ℕ) (found : FileName × List ℕ) → found.0 ≡ name → ((file_at file files).meant ≡ [] → found.1 ≡ []) → bound ≤ file → IsUnneeded bound tables files name file → (tables → ⊥) → is_used found ≡ false
  not_used name file (Log n, bytes) is image newer un none = rw (image (un.log n (sym is) newer)) refl
  not_used name file (Table n, bytes) is image newer un none = absurd (none (un.table n (sym is) newer))
  not_used name file (Trash n, bytes) is image newer un none = absurd (un.trash n (sym is) newer)
  not_used name file (Manifest n, bytes) is image newer un none = refl
  not_used name file (Current, bytes) is image newer un none = refl
  not_used name file (Temp n, bytes) is image newer un none = refl

  pub used_kept : (d : Named ℕ) (image : Named (List ℕ)) → AreShown files d image → AllByRecursion (λ (entry : FileName × ℕ). IsUnneeded bound tables files entry.0 entry.1) d → (tables → ⊥)
      → first_used (kept bound d image) ≡ first_used image
  used_kept [] [] are each none = refl
  used_kept [] (found ∷ image) are each none = absurd are
  used_kept (entry ∷ rest) [] are each none = absurd are
  used_kept (entry ∷ rest) (found ∷ image) are each none =
      let later = used_kept rest image are.2 each.1 none in
      elim (nat_le bound entry.1) as (λ b. nat_le bound entry.1 ≡ b → first_used (if b then kept bound rest image else found ∷ kept bound rest image) ≡ first_used (found ∷ image)) [
        | true ↦ λ newer. rw (not_used entry.0 entry.1 found are.0 are.1 (leb-true bound entry.1 newer) each.0 none) later
        | false ↦ λ older. ap (λ (later : Option FileName). if is_used found then earlier found.0 later else later) later
      ] refl
