-- The names of directories: those of files that were there when a job began, and those of files that were made since.
use Rattle.std.proofs.Common.{◌≡◌, ℕ, zero, suc, ◌≤◌, ◌||◌, true, false, List, [], ◌∷◌, Some, None, take, drop, refl, sym, ap, subst, ◌∙◌, nat_le, arith, eq-eqb, if◌then◌else◌}
use Rattle.std.proofs.lemmas.Bool.{le-leb, leb-true}
use Rattle.keel_base.specs.declared.file_name.FileName.{FileName}
use Rattle.keel_base.specs.Name.{name_eq}
use Rattle.keel_base.proofs.Names.{name_eq-true}
use Rattle.keel_disk.specs.declared.state.File.{File}
use Rattle.keel_disk.specs.declared.state.Operation.{Operation}
use Rattle.keel_disk.specs.declared.state.Operation.TheVariants.{Link, Move, Unlink, Shorten}
use Rattle.keel_disk.specs.Directory.{Named, find, unlinked, linked, operated_all}
use Rattle.keel_disk.specs.Sound.{AreOwn}
use Rattle.keel_disk.specs.State.{State as Disk, file_of, files_operated_all, has_waiting_cut}
use Rattle.keel_disk.specs.Steady.{file_behind}
use Rattle.keel_disk.proofs.Operating.{find-unlinked}
use Rattle.keel_disk.proofs.Owning.{find-unlinked_same}
use Rattle.keel_recovery.specs.Booting.{below}

some_none : {A P : Type 0} (x : A) → Some x ≡ None → P
some_none x e = cc

-- what a directory that is not there doesn't lose
pub unlinked_same : {V : Type 0} (name : FileName) (directory : Named V) → find name directory ≡ None → unlinked name directory ≡ directory
unlinked_same name [] none = refl
unlinked_same name (entry ∷ rest) none =
    elim (name_eq entry.0 name) as (λ b. (if b then Some entry.1 else find name rest) ≡ None → (if b then unlinked name rest else entry ∷ unlinked name rest) ≡ entry ∷ rest) [
      | true ↦ λ some. cc
      | false ↦ λ later. ap (λ d. entry ∷ d) (unlinked_same name rest later)
    ] none

pub below_unlinked : (bound : ℕ) (name : FileName) (directory : Named ℕ) → below bound (unlinked name directory) ≡ unlinked name (below bound directory)
below_unlinked bound name [] = refl
below_unlinked bound name (entry ∷ rest) =
    let later = below_unlinked bound name rest in
    elim (name_eq entry.0 name) as (λ b. name_eq entry.0 name ≡ b
    → below bound (if b then unlinked name rest else entry ∷ unlinked name rest) ≡ unlinked name (if nat_le bound entry.1 then below bound rest else entry ∷ below bound rest)) [
      | true ↦ λ same. elim (nat_le bound entry.1) as (λ c. below bound (unlinked name rest) ≡ unlinked name (if c then below bound rest else entry ∷ below bound rest)) [
        | true ↦ later
        | false ↦ rw same later
      ]
      | false ↦ λ differs. elim (nat_le bound entry.1) as (λ c. (if c then below bound (unlinked name rest) else entry ∷ below bound (unlinked name rest)) ≡ unlinked name (if c then below bound rest else entry ∷ below bound rest)) [
        | true ↦ later
        | false ↦ rw differs (ap (λ d. entry ∷ d) later)
      ]
    ] refl

-- the file that a name has is an older one, where the name is among the older ones
pub found_below : (bound : ℕ) (name : FileName) (file : ℕ) (directory : Named ℕ) → find name directory ≡ Some file → nat_le bound file ≡ false → find name (below bound directory) ≡ Some file
found_below bound name file [] found older = cc
found_below bound name file (entry ∷ rest) found older =
    elim (name_eq entry.0 name) as (λ b. name_eq entry.0 name ≡ b → (if b then Some entry.1 else find name rest) ≡ Some file → find name (if nat_le bound entry.1 then below bound rest else entry ∷ below bound rest) ≡ Some file) [
      | true ↦ λ same is.
          let one : entry.1 ≡ file = cc is in
          rw (subst (λ n. nat_le bound n ≡ false) (sym one) older, same) is
      | false ↦ λ differs later.
          let behind = found_below bound name file rest later older in
          elim (nat_le bound entry.1) as (λ c. find name (if c then below bound rest else entry ∷ below bound rest) ≡ Some file) [
            | true ↦ behind
            | false ↦ rw differs behind
          ]
    ] refl found

-- ---- directories that have a further name

-- what is not there is not there without another name
pub absent_without : (name other : FileName) (directory : Named ℕ) → find name directory ≡ None → find name (unlinked other directory) ≡ None
absent_without name other directory none =
    elim (name_eq other name) as (λ b. name_eq other name ≡ b → find name (unlinked other directory) ≡ None) [
      | true ↦ λ same. subst (λ n. find name (unlinked n directory) ≡ None) (sym (name_eq-true other name same)) (find-unlinked_same name directory)
      | false ↦ λ apart. find-unlinked name other directory apart ∙ none
    ] refl

pub below_linked : (bound : ℕ) (name : FileName) (file : ℕ) (directory : Named ℕ) → nat_le bound file ≡ true → below bound (linked name file directory) ≡ unlinked name (below bound directory)
below_linked bound name file directory newer = rw newer (below_unlinked bound name directory)

-- ---- names that are not there

pub none_below : (bound : ℕ) (name : FileName) (directory : Named ℕ) → find name directory ≡ None → find name (below bound directory) ≡ None
none_below bound name [] none = none
none_below bound name (entry ∷ rest) none =
    elim (name_eq entry.0 name) as (λ b. name_eq entry.0 name ≡ b → (if b then Some entry.1 else find name rest) ≡ None → find name (if nat_le bound entry.1 then below bound rest else entry ∷ below bound rest) ≡ None) [
      | true ↦ λ is some. cc
      | false ↦ λ apart later.
          let behind = none_below bound name rest later in
          elim (nat_le bound entry.1) as (λ c. find name (if c then below bound rest else entry ∷ below bound rest) ≡ None) [
            | true ↦ behind
            | false ↦ rw apart behind
          ]
    ] refl none

-- a name that has a newer file is none of the older ones
pub newer_gone : (bound total : ℕ) (name : FileName) (file : ℕ) (directory : Named ℕ) → AreOwn total directory → find name directory ≡ Some file → nat_le bound file ≡ true → find name (below bound directory) ≡ None
newer_gone bound total name file [] own found newer = refl
newer_gone bound total name file (entry ∷ rest) own found newer =
    elim (name_eq entry.0 name) as (λ b. name_eq entry.0 name ≡ b → (if b then Some entry.1 else find name rest) ≡ Some file → find name (if nat_le bound entry.1 then below bound rest else entry ∷ below bound rest) ≡ None) [
      | true ↦ λ same is.
          let one : file ≡ entry.1 = cc is in
          rw (subst (λ n. nat_le bound n ≡ true) one newer) (none_below bound name rest (subst (λ n. find n rest ≡ None) (name_eq-true entry.0 name same) own.0.once))
      | false ↦ λ apart later.
          let behind = newer_gone bound total name file rest own.1 later newer in
          elim (nat_le bound entry.1) as (λ c. find name (if c then below bound rest else entry ∷ below bound rest) ≡ None) [
            | true ↦ behind
            | false ↦ rw apart behind
          ]
    ] refl found

-- no name has a file that isn't there
pub all_below : (total : ℕ) (d : Named ℕ) → AreOwn total d → below total d ≡ d
all_below total [] own = refl
all_below total (entry ∷ rest) own =
    elim (nat_le total entry.1) as (λ b. nat_le total entry.1 ≡ b → (if b then below total rest else entry ∷ below total rest) ≡ entry ∷ rest) [
      | true ↦ λ newer. absurd (omega (arith, own.0.exists, leb-true total entry.1 newer))
      | false ↦ λ older. ap (λ d. entry ∷ d) (all_below total rest own.1)
    ] refl

-- a newer file's name that no older one has changes nothing of the older ones
pub linked_below : (bound : ℕ) (name : FileName) (file : ℕ) (directory : Named ℕ) → bound ≤ file → find name (below bound directory) ≡ None → below bound (linked name file directory) ≡ below bound directory
linked_below bound name file directory newer none =
    below_linked bound name file directory (le-leb bound file newer) ∙ unlinked_same name (below bound directory) none

-- ---- operations without a cut

cut_itself : {P : Type 0} (file size : ℕ) (rest : List Operation) → has_waiting_cut file (Shorten file size ∷ rest) ≡ false → P
cut_itself file size rest none = absurd (never (sym (ap (λ b. b || has_waiting_cut file rest) (eq-eqb file file refl)) ∙ none))
  where
    never : true ≡ false → ⊥
    never e = cc

later_uncut : (operation : Operation) (rest : List Operation) → ((file : ℕ) → has_waiting_cut file (operation ∷ rest) ≡ false) → (file : ℕ) → has_waiting_cut file rest ≡ false
later_uncut (Link name n) rest uncut file = uncut file
later_uncut (Move from to) rest uncut file = uncut file
later_uncut (Unlink name) rest uncut file = uncut file
later_uncut (Shorten other size) rest uncut file = cut_itself other size rest (uncut other)

pub files_uncut : (count : ℕ) (operations : List Operation) (files : List File) → ((file : ℕ) → has_waiting_cut file operations ≡ false) → files_operated_all (take count operations) files ≡ files
files_uncut zero operations files uncut = refl
files_uncut (suc count) [] files uncut = refl
files_uncut (suc count) (Link name n ∷ rest) files uncut = files_uncut count rest files (later_uncut (Link name n) rest uncut)
files_uncut (suc count) (Move from to ∷ rest) files uncut = files_uncut count rest files (later_uncut (Move from to) rest uncut)
files_uncut (suc count) (Unlink name ∷ rest) files uncut = files_uncut count rest files (later_uncut (Unlink name) rest uncut)
files_uncut (suc count) (Shorten other size ∷ rest) files uncut = cut_itself other size rest (uncut other)

-- those behind some are without one, too
pub dropped_uncut : (count : ℕ) (operations : List Operation) → ((file : ℕ) → has_waiting_cut file operations ≡ false) → (file : ℕ) → has_waiting_cut file (drop count operations) ≡ false
dropped_uncut zero operations uncut = uncut
dropped_uncut (suc count) [] uncut = uncut
dropped_uncut (suc count) (operation ∷ rest) uncut = dropped_uncut count rest (later_uncut operation rest uncut)

-- ---- a device where nothing waits

pub take_none : {A : Type 0} (count : ℕ) → take {A = A} count [] ≡ []
take_none zero = refl
take_none (suc count) = refl

-- where nothing waits, all directories are the one that is firm
pub behind_none : (count : ℕ) (name : FileName) (state : Disk) → state.waiting ≡ [] → file_behind count name state ≡ file_of name state
behind_none count name state none =
    ap (λ (ops : List Operation). find name (operated_all (take count ops) state.firm)) none
    ∙ (ap (λ (ops : List Operation). find name (operated_all ops state.firm)) (take_none count) ∙ sym (ap (λ (ops : List Operation). find name (operated_all ops state.firm)) none))
