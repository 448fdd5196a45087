-- What holds of every directory that waiting operations can leave, behind each kind of change of a device.
use Rattle.std.proofs.Common.{◌≡◌, ◌≢◌, inl, inr, ℕ, zero, suc, ◌+◌, ◌<◌, true, false, List, [], ◌∷◌, ◌++◌, length, take, drop, Option, Some, None, refl, sym, ap, subst, ◌∙◌, arith, take_all, take-add, take-append-drop, if◌then◌else◌, eqb, eq-eqb, get_or-set_other}
use Rattle.std.proofs.lemmas.Bool.{cases_lt}
use Rattle.std.proofs.lemmas.List.{length-append, take-append-le, drop_all}
use Rattle.keel_base.specs.declared.file_name.FileName.{FileName}
use Rattle.keel_base.specs.Name.{name_eq}
use Rattle.keel_base.proofs.Names.{name_eq-true}
use Rattle.keel_disk.specs.declared.state.File.{File}
use Rattle.keel_disk.specs.declared.state.Operation.{Operation}
use Rattle.keel_disk.specs.declared.state.Operation.TheVariants.{Link, Move, Unlink, Shorten}
use Rattle.keel_disk.specs.Directory.{Named, find, unlinked, linked, linked_found, operated, operated_all}
use Rattle.keel_disk.specs.State.{State, new_file, shortened, file_at, files_operated, files_operated_all, settled_through, directory_read, has_waiting_cut}
use Rattle.keel_disk.specs.Step.{with_waiting}
use Rattle.keel_disk.specs.Steady.{Always}
use Rattle.keel_disk.specs.Sound.{has_number, AreOwn}
use Rattle.keel_disk.proofs.Directories.{operated_all-append}
use Rattle.keel_disk.proofs.Owning.{either_false, has_number-found}

-- ---- names in a directory

pub find-unlinked : {V : Type 0} (name other : FileName) (directory : Named V) → name_eq other name ≡ false → find name (unlinked other directory) ≡ find name directory
find-unlinked name other [] apart = refl
find-unlinked {V} name other (entry ∷ rest) apart =
    let later = find-unlinked name other rest apart in
    elim (name_eq entry.0 other) as (λ b. name_eq entry.0 other ≡ b
    → find name (if b then unlinked other rest else entry ∷ unlinked other rest) ≡ (if name_eq entry.0 name then Some entry.1 else find name rest)) [
      | true ↦ λ t.
          let none : name_eq entry.0 name ≡ false = subst (λ (n : FileName). name_eq n name ≡ false) (sym (name_eq-true entry.0 other t)) apart in
          rw none later
      | false ↦ λ t. ap (λ (o : Option V). if name_eq entry.0 name then Some entry.1 else o) later
    ] refl

pub find-linked_other : {V : Type 0} (name other : FileName) (value : V) (directory : Named V) → name_eq other name ≡ false → find name (linked other value directory) ≡ find name directory
find-linked_other name other value directory apart = rw apart (find-unlinked name other directory apart)

find-linked_found : (name to : FileName) (file : Option ℕ) (directory : Named ℕ) → name_eq to name ≡ false → find name (linked_found to file directory) ≡ find name directory
find-linked_found name to None directory apart = refl
find-linked_found name to (Some file) directory apart = find-linked_other name to file directory apart

pub find-moved : (name from to : FileName) (directory : Named ℕ) → name_eq from name ≡ false → name_eq to name ≡ false → find name (operated (Move from to) directory) ≡ find name directory
find-moved name from to directory apart other = find-linked_found name to (find from directory) (unlinked from directory) other ∙ find-unlinked name from directory apart

-- ---- every directory

-- one operation more waits
pub always-more : (P : Named ℕ → Type 0) (operation : Operation) (waiting : List Operation) (firm : Named ℕ) → ((directory : Named ℕ) → P directory → P (operated operation directory))
    → ((count : ℕ) → P (operated_all (take count waiting) firm)) → (count : ℕ) → P (operated_all (take count (waiting ++ operation ∷ [])) firm)
always-more P operation waiting firm keeps always count = elim (cases_lt (length waiting) count) [
  | inl more ↦
      let all : take count (waiting ++ operation ∷ []) ≡ waiting ++ operation ∷ [] = take_all count (waiting ++ operation ∷ []) (omega (arith, more, length-append waiting (operation ∷ []))) in
      let whole : P (operated_all waiting firm) = subst (λ operations. P (operated_all operations firm)) (take_all (length waiting) waiting (omega arith)) (always (length waiting)) in
      subst P (sym (ap (λ operations. operated_all operations firm) all ∙ operated_all-append waiting (operation ∷ []) firm)) (keeps (operated_all waiting firm) whole)
  | inr short ↦ subst (λ operations. P (operated_all operations firm)) (sym (take-append-le count waiting (operation ∷ []) short)) (always count)
]

-- some first operations become firm
pub always-settled : (P : Named ℕ → Type 0) (kept : ℕ) (state : State) → Always P state → Always P (settled_through kept state)
always-settled P kept state always = λ count.
    let both : operated_all (take (kept + count) state.waiting) state.firm ≡ operated_all (take count (drop kept state.waiting)) (operated_all (take kept state.waiting) state.firm) =
    ap (λ operations. operated_all operations state.firm) (take-add kept count state.waiting) ∙ operated_all-append (take kept state.waiting) (take count (drop kept state.waiting)) state.firm in
    subst P both (always (kept + count))

-- reads see the directory behind all operations
pub read_always : (P : Named ℕ → Type 0) (state : State) → Always P state → P (directory_read state)
read_always P state always = subst (λ operations. P (operated_all operations state.firm)) (take_all (length state.waiting) state.waiting (omega arith)) (always (length state.waiting))

pub read-settled : (kept : ℕ) (state : State) → directory_read (settled_through kept state) ≡ directory_read state
read-settled kept state =
    sym (operated_all-append (take kept state.waiting) (drop kept state.waiting) state.firm) ∙ ap (λ operations. operated_all operations state.firm) (take-append-drop kept state.waiting)

pub read-more : (operation : Operation) (state : State) → directory_read (with_waiting operation state) ≡ operated operation (directory_read state)
read-more operation state = operated_all-append state.waiting (operation ∷ []) state.firm

-- where all operations are done, the one directory is the one that reads see
pub settled-always : (P : Named ℕ → Type 0) (state : State) → P (directory_read state) → Always P (settled_through (length state.waiting) state)
settled-always P state now = λ count.
    let none : drop (length state.waiting) state.waiting ≡ [] = drop_all (length state.waiting) state.waiting (omega arith) in
    let nothing : take count (drop (length state.waiting) state.waiting) ≡ [] = ap (take count) none ∙ take_all count [] (omega arith) in
    let all : take (length state.waiting) state.waiting ≡ state.waiting = take_all (length state.waiting) state.waiting (omega arith) in
    let is : directory_read state ≡ operated_all (take count (drop (length state.waiting) state.waiting)) (operated_all (take (length state.waiting) state.waiting) state.firm) =
    ap (λ operations. operated_all operations state.firm) (sym all) ∙ ap (λ operations. operated_all operations (operated_all (take (length state.waiting) state.waiting) state.firm)) (sym nothing) in
    subst P is now

-- ---- cuts that wait

pub cut-append : (file : ℕ) (waiting more : List Operation) → has_waiting_cut file waiting ≡ false → has_waiting_cut file more ≡ false → has_waiting_cut file (waiting ++ more) ≡ false
cut-append file [] more none later = later
cut-append file (Shorten other size ∷ waiting) more none later =
    let parts = either_false (eqb other file) (has_waiting_cut file waiting) none in
    rw parts.0 (cut-append file waiting more parts.1 later)
cut-append file (Link name other ∷ waiting) more none later = cut-append file waiting more none later
cut-append file (Move from to ∷ waiting) more none later = cut-append file waiting more none later
cut-append file (Unlink name ∷ waiting) more none later = cut-append file waiting more none later

pub cut-front : (file : ℕ) (front back : List Operation) → has_waiting_cut file (front ++ back) ≡ false → has_waiting_cut file front ≡ false
cut-front file [] back none = refl
cut-front file (Shorten other size ∷ front) back none =
    let parts = either_false (eqb other file) (has_waiting_cut file (front ++ back)) none in
    rw parts.0 (cut-front file front back parts.1)
cut-front file (Link name other ∷ front) back none = cut-front file front back none
cut-front file (Move from to ∷ front) back none = cut-front file front back none
cut-front file (Unlink name ∷ front) back none = cut-front file front back none

pub cut-back : (file : ℕ) (front back : List Operation) → has_waiting_cut file (front ++ back) ≡ false → has_waiting_cut file back ≡ false
cut-back file [] back none = none
cut-back file (Shorten other size ∷ front) back none = cut-back file front back (either_false (eqb other file) (has_waiting_cut file (front ++ back)) none).1
cut-back file (Link name other ∷ front) back none = cut-back file front back none
cut-back file (Move from to ∷ front) back none = cut-back file front back none
cut-back file (Unlink name ∷ front) back none = cut-back file front back none

pub cut-first : (file kept : ℕ) (waiting : List Operation) → has_waiting_cut file waiting ≡ false → has_waiting_cut file (take kept waiting) ≡ false
cut-first file kept waiting none = cut-front file (take kept waiting) (drop kept waiting) (ap (has_waiting_cut file) (take-append-drop kept waiting) ∙ none)

pub cut-rest : (file kept : ℕ) (waiting : List Operation) → has_waiting_cut file waiting ≡ false → has_waiting_cut file (drop kept waiting) ≡ false
cut-rest file kept waiting none = cut-back file (take kept waiting) (drop kept waiting) (ap (has_waiting_cut file) (take-append-drop kept waiting) ∙ none)

-- ---- files

-- a file of which no cut is done stays
pub uncut_file : (file : ℕ) (operations : List Operation) (files : List File) → has_waiting_cut file operations ≡ false → file_at file (files_operated_all operations files) ≡ file_at file files
uncut_file file [] files none = refl
uncut_file file (Shorten other size ∷ rest) files none =
    let parts = either_false (eqb other file) (has_waiting_cut file rest) none in
    let differs : file ≢ other = λ same. absurd (let t = eq-eqb other file (sym same) in cc) in
    uncut_file file rest (files_operated (Shorten other size) files) parts.1
    ∙ get_or-set_other files other file (shortened size (file_at other files)) new_file differs
uncut_file file (Link name other ∷ rest) files none = uncut_file file rest files none
uncut_file file (Move from to ∷ rest) files none = uncut_file file rest files none
uncut_file file (Unlink name ∷ rest) files none = uncut_file file rest files none

-- a new file is one that no number has
pub file_at-created : (file : ℕ) (files : List File) → file_at file (files ++ new_file ∷ []) ≡ file_at file files
file_at-created zero [] = refl
file_at-created (suc file) [] = refl
file_at-created zero (first ∷ files) = refl
file_at-created (suc file) (first ∷ files) = file_at-created file files

-- ---- names one to one

pub one_name : (bound : ℕ) (name other : FileName) (file : ℕ) (directory : Named ℕ) → AreOwn bound directory → find name directory ≡ Some file → find other directory ≡ Some file → name_eq name other ≡ true
one_name bound name other file [] own here there = cc
one_name bound name other file (entry ∷ rest) own here there =
    elim (name_eq entry.0 name) as (λ b. name_eq entry.0 name ≡ b → (if b then Some entry.1 else find name rest) ≡ Some file → name_eq name other ≡ true) [
      | true ↦ λ same is.
          let number : entry.1 ≡ file = cc in
          elim (name_eq entry.0 other) as (λ b. name_eq entry.0 other ≡ b → (if b then Some entry.1 else find other rest) ≡ Some file → name_eq name other ≡ true) [
            | true ↦ λ too _. subst (λ (n : FileName). name_eq n other ≡ true) (name_eq-true entry.0 name same) too
            | false ↦ λ differs later. absurd (let has = has_number-found other file rest later in let none = subst (λ n. has_number n rest ≡ false) number own.0.own_file in cc)
          ] refl there
      | false ↦ λ apart later.
          elim (name_eq entry.0 other) as (λ b. name_eq entry.0 other ≡ b → (if b then Some entry.1 else find other rest) ≡ Some file → name_eq name other ≡ true) [
            | true ↦ λ same is. absurd (let number : entry.1 ≡ file = cc in let has = has_number-found name file rest later in let none = subst (λ n. has_number n rest ≡ false) number own.0.own_file in cc)
            | false ↦ λ differs behind. one_name bound name other file rest own.1 later behind
          ] refl there
    ] refl here

-- so names that differ have files that differ
pub other_file : (bound : ℕ) (name other : FileName) (file number : ℕ) (directory : Named ℕ) → AreOwn bound directory → name_eq other name ≡ false → find name directory ≡ Some file → find other directory ≡ Some number → number ≢ file
other_file bound name other file number directory own apart here there = λ same.
    let e = one_name bound other name number directory own there (here ∙ ap (λ n. Some n) (sym same)) in absurd cc

pub is_below : (bound : ℕ) (name : FileName) (file : ℕ) (directory : Named ℕ) → AreOwn bound directory → find name directory ≡ Some file → file < bound
is_below bound name file [] own here = cc
is_below bound name file (entry ∷ rest) own here =
    elim (name_eq entry.0 name) as (λ b. (if b then Some entry.1 else find name rest) ≡ Some file → file < bound) [
      | true ↦ λ is. let number : entry.1 ≡ file = cc in omega (arith, own.0.exists, number)
      | false ↦ λ later. is_below bound name file rest own.1 later
    ] here
