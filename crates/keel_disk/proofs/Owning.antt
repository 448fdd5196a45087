-- Names and files stay one to one where a name is taken away, given to a new file, or handed on.
use Rattle.std.proofs.Common.{◌≡◌, ℕ, ◌+◌, ◌<◌, ◌≤◌, ◌||◌, Bool, true, false, [], ◌∷◌, Option, Some, None, refl, subst, arith, if◌then◌else◌, eqb, eq-eqb, eqb-true}
use Rattle.keel_base.specs.declared.file_name.FileName.{FileName}
use Rattle.keel_base.specs.Name.{name_eq, IsName}
use Rattle.keel_disk.specs.declared.state.Operation.TheVariants.{Link, Move}
use Rattle.keel_disk.specs.Directory.{Named, find, unlinked, linked, linked_found, operated}
use Rattle.keel_disk.specs.Sound.{has_number, IsOwn, AreOwn}

find-unlinked_none : (name other : FileName) (directory : Named ℕ) → find name directory ≡ None → find name (unlinked other directory) ≡ None
find-unlinked_none name other [] none = none
find-unlinked_none name other (entry ∷ rest) none =
    elim (name_eq entry.0 name) as (λ b. name_eq entry.0 name ≡ b → (if b then Some entry.1 else find name rest) ≡ None → find name (unlinked other (entry ∷ rest)) ≡ None) [
      | true ↦ λ same some. cc
      | false ↦ λ differs later.
          let behind = find-unlinked_none name other rest later in
          elim (name_eq entry.0 other) as (λ b. find name (if b then unlinked other rest else entry ∷ unlinked other rest) ≡ None) [
            | true ↦ behind
            | false ↦ rw differs behind
          ]
    ] refl none

pub find-unlinked_same : (name : FileName) (directory : Named ℕ) → find name (unlinked name directory) ≡ None
find-unlinked_same name [] = refl
find-unlinked_same name (entry ∷ rest) =
    elim (name_eq entry.0 name) as (λ b. name_eq entry.0 name ≡ b → find name (if b then unlinked name rest else entry ∷ unlinked name rest) ≡ None) [
      | true ↦ λ same. find-unlinked_same name rest
      | false ↦ λ differs. rw differs (find-unlinked_same name rest)
    ] refl

pub either_false : (a b : Bool) → (a || b) ≡ false → (a ≡ false) × (b ≡ false)
either_false true b h = cc
either_false false b h = (refl, h)

has_number-unlinked : (number : ℕ) (name : FileName) (directory : Named ℕ) → has_number number directory ≡ false → has_number number (unlinked name directory) ≡ false
has_number-unlinked number name [] none = none
has_number-unlinked number name (entry ∷ rest) none =
    let parts = either_false (eqb entry.1 number) (has_number number rest) none in
    let behind = has_number-unlinked number name rest parts.1 in
    elim (name_eq entry.0 name) as (λ b. has_number number (if b then unlinked name rest else entry ∷ unlinked name rest) ≡ false) [
      | true ↦ behind
      | false ↦ rw parts.0 behind
    ]

pub own-unlinked : (bound : ℕ) (name : FileName) (directory : Named ℕ) → AreOwn bound directory → AreOwn bound (unlinked name directory)
own-unlinked bound name [] own = tt
own-unlinked bound name (entry ∷ rest) own =
    let behind = own-unlinked bound name rest own.1 in
    let one : IsOwn bound entry (unlinked name rest) = record {
      is_name = own.0.is_name;
      exists = own.0.exists;
      own_file = has_number-unlinked entry.1 name rest own.0.own_file;
      once = find-unlinked_none entry.0 name rest own.0.once;
    } in
    elim (name_eq entry.0 name) as (λ b. AreOwn bound (if b then unlinked name rest else entry ∷ unlinked name rest)) [
      | true ↦ behind
      | false ↦ (one, behind)
    ]

pub own-more : (bound more : ℕ) (directory : Named ℕ) → bound ≤ more → AreOwn bound directory → AreOwn more directory
own-more bound more [] le own = tt
own-more bound more (entry ∷ rest) le own = (
  record {
    is_name = own.0.is_name;
    exists = omega (arith, own.0.exists);
    own_file = own.0.own_file;
    once = own.0.once;
  },
  own-more bound more rest le own.1,
)

-- a file with a number past the bound has no name
unnamed : (bound number : ℕ) (directory : Named ℕ) → bound ≤ number → AreOwn bound directory → has_number number directory ≡ false
unnamed bound number [] le own = refl
unnamed bound number (entry ∷ rest) le own =
    elim (eqb entry.1 number) as (λ b. eqb entry.1 number ≡ b → (b || has_number number rest) ≡ false) [
      | true ↦ λ same. absurd (omega (arith, own.0.exists, eqb-true entry.1 number same))
      | false ↦ λ differs. unnamed bound number rest le own.1
    ] refl

own-linked : (bound number : ℕ) (name : FileName) (directory : Named ℕ) → IsName name → number < bound
    → has_number number (unlinked name directory) ≡ false → AreOwn bound directory → AreOwn bound (linked name number directory)
own-linked bound number name directory named below fresh own = (
  record {
    is_name = named;
    exists = below;
    own_file = fresh;
    once = find-unlinked_same name directory;
  },
  own-unlinked bound name directory own,
)

-- a name is that of a new file
pub own-link : (bound : ℕ) (name : FileName) (directory : Named ℕ) → IsName name → AreOwn bound directory → AreOwn (bound + 1) (operated (Link name bound) directory)
own-link bound name directory named own =
    own-linked (bound + 1) bound name directory named (omega arith)
    (has_number-unlinked bound name directory (unnamed bound bound directory (omega arith) own))
    (own-more bound (bound + 1) directory (omega arith) own)

pub has_number-found : (name : FileName) (number : ℕ) (directory : Named ℕ) → find name directory ≡ Some number → has_number number directory ≡ true
has_number-found name number [] found = cc
has_number-found name number (entry ∷ rest) found =
    elim (name_eq entry.0 name) as (λ b. (if b then Some entry.1 else find name rest) ≡ Some number → has_number number (entry ∷ rest) ≡ true) [
      | true ↦ λ here.
          let same : entry.1 ≡ number = cc in
          rw (eq-eqb entry.1 number same)
      | false ↦ λ later. elim (eqb entry.1 number) as (λ b. (b || has_number number rest) ≡ true) [
        | true ↦ refl
        | false ↦ has_number-found name number rest later
      ]
    ] found

-- the file of a name has no other name
alone : (bound : ℕ) (name : FileName) (number : ℕ) (directory : Named ℕ) → AreOwn bound directory → find name directory ≡ Some number
    → has_number number (unlinked name directory) ≡ false
alone bound name number [] own found = cc
alone bound name number (entry ∷ rest) own found =
    elim (name_eq entry.0 name) as (λ b. (if b then Some entry.1 else find name rest) ≡ Some number → has_number number (if b then unlinked name rest else entry ∷ unlinked name rest) ≡ false) [
      | true ↦ λ here.
          let same : entry.1 ≡ number = cc in
          has_number-unlinked number name rest (subst (λ n. has_number n rest ≡ false) same own.0.own_file)
      | false ↦ λ later.
          let there = has_number-found name number rest later in
          let behind = alone bound name number rest own.1 later in
          elim (eqb entry.1 number) as (λ b. eqb entry.1 number ≡ b → (b || has_number number (unlinked name rest)) ≡ false) [
            | true ↦ λ same.
                let here : has_number number rest ≡ false = subst (λ n. has_number n rest ≡ false) (eqb-true entry.1 number same) own.0.own_file in
                cc
            | false ↦ λ differs. behind
          ] refl
    ] found

-- a file is handed on to another name
pub own-move : (bound : ℕ) (from to : FileName) (directory : Named ℕ) → IsName to → AreOwn bound directory → AreOwn bound (operated (Move from to) directory)
own-move bound from to directory named own = moved (find from directory) refl
  where
    below : (entries : Named ℕ) (number : ℕ) → AreOwn bound entries → find from entries ≡ Some number → number < bound
    below [] number own found = cc
    below (entry ∷ rest) number own found =
        elim (name_eq entry.0 from) as (λ b. (if b then Some entry.1 else find from rest) ≡ Some number → number < bound) [
          | true ↦ λ here. let same : entry.1 ≡ number = cc in omega (arith, own.0.exists)
          | false ↦ λ later. below rest number own.1 later
        ] found

    moved : (found : Option ℕ) → find from directory ≡ found → AreOwn bound (linked_found to found (unlinked from directory))
    moved None is = own-unlinked bound from directory own
    moved (Some number) is =
        own-linked bound number to (unlinked from directory) named (below directory number own is)
        (has_number-unlinked number to (unlinked from directory) (alone bound from number directory own is))
        (own-unlinked bound from directory own)
