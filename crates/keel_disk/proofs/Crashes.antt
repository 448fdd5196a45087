-- A crash inside a call leaves what one before the call could leave, or one behind it where it is answered Ok.
-- This is so of every relation between files and images that doesn't depend on what reads give.
use Rattle.std.proofs.Common.{◌≡◌, ◌⊎◌, ℕ, zero, suc, min, ◌+◌, ◌==◌, true, false, List, [], ◌∷◌, ◌++◌, length, take, drop, map, set, get_or, Option, Some, None, MatchOption, Result, Ok, Err, refl, sym, ◌∙◌, ap, ap₂, subst, inl, inr, if◌then◌else◌, take-add, unwrap_or, option_map, option_and_then, IsSomeAnd}
use Rattle.std.proofs.lemmas.List.{map-set}
use Rattle.std.proofs.Math.Seq.{map-set_same}
use Rattle.keel_base.specs.declared.failure.Fault.{Fault}
use Rattle.keel_base.specs.declared.failure.Fault.TheVariants.{Plain}
use Rattle.keel_disk.specs.declared.error.DiskError.{DiskError}
use Rattle.keel_disk.specs.declared.error.DiskError.TheVariants as error
use Rattle.keel_disk.specs.declared.state.File.{File}
use Rattle.keel_disk.specs.declared.state.Operation.{Operation}
use Rattle.keel_disk.specs.declared.state.Operation.TheVariants.{Link, Move, Unlink, Shorten}
use Rattle.keel_disk.specs.declared.change.Change.{Change}
use Rattle.keel_disk.specs.declared.change.Change.TheVariants.{Create, Append, Sync, Rename, Remove, Cut, SyncDir}
use Rattle.keel_disk.specs.Directory.{Named, operated_all}
use Rattle.keel_disk.specs.State.{State, new_file, file_at, file_of, shortened, files_operated, files_operated_all, settled_through, has_waiting_cut}
use Rattle.keel_disk.specs.Step.{done, failed, DiskStep, extended, spoiled, with_file}
use Rattle.keel_disk.proofs.Directories.{operated_all-append}

-- what a crash can leave of a file depends on this
abbrev pub crash_view : File → List ℕ × ℕ
crash_view file = (file.meant, file.firm)

crash_view_at : (number : ℕ) (files : List File) → crash_view (file_at number files) ≡ get_or (map crash_view files) number (crash_view new_file)
crash_view_at number [] = refl
crash_view_at zero (file ∷ files) = refl
crash_view_at (suc number) (file ∷ files) = crash_view_at number files

pub same_at : (number : ℕ) (files others : List File) → map crash_view files ≡ map crash_view others → crash_view (file_at number files) ≡ crash_view (file_at number others)
same_at number files others same =
    crash_view_at number files ∙ ap (λ views. get_or views number (crash_view new_file)) same ∙ sym (crash_view_at number others)

-- what an image shows of files and a directory
abbrev pub Showing : Type 1
Showing = List File → Named ℕ → Named (List ℕ) → Type 0

-- it doesn't depend on what reads give
abbrev pub IsOfCrashes : Showing → Type 0
IsOfCrashes R = (files others : List File) (directory : Named ℕ) (image : Named (List ℕ)) → map crash_view files ≡ map crash_view others → R files directory image → R others directory image

-- it shows so much where some first operations are done
abbrev pub Shows : Showing → State → Named (List ℕ) → Type 0
Shows R state image = (count : ℕ) × (let settled = settled_through count state in R settled.files settled.firm image)

same_operated : (operations : List Operation) (files others : List File) → map crash_view files ≡ map crash_view others
    → map crash_view (files_operated_all operations files) ≡ map crash_view (files_operated_all operations others)
same_operated [] files others same = same
same_operated (Link name number ∷ rest) files others same = same_operated rest files others same
same_operated (Move from to ∷ rest) files others same = same_operated rest files others same
same_operated (Unlink name ∷ rest) files others same = same_operated rest files others same
same_operated (Shorten number size ∷ rest) files others same =
    let cut : List ℕ × ℕ → List ℕ × ℕ = λ v. (take size v.0, min size v.1) in
    same_operated rest (files_operated (Shorten number size) files) (files_operated (Shorten number size) others)
    (map-set crash_view files number (shortened size (file_at number files))
    ∙ ap₂ (λ views v. set views number (cut v)) same (same_at number files others same)
    ∙ sym (map-set crash_view others number (shortened size (file_at number others))))

-- devices whose files differ in what reads give alone
shows_alike : (R : Showing) → IsOfCrashes R → (files others : List File) (firm : Named ℕ) (waiting : List Operation) (image : Named (List ℕ)) → map crash_view files ≡ map crash_view others
    → Shows R (record { files = files; firm = firm; waiting = waiting }) image → Shows R (record { files = others; firm = firm; waiting = waiting }) image
shows_alike R alike files others firm waiting image same (count, shown) =
    (count, alike (files_operated_all (take count waiting) files) (files_operated_all (take count waiting) others) (operated_all (take count waiting) firm) image (same_operated (take count waiting) files others same) shown)

pub files_operated_all-append : (first next : List Operation) (files : List File) → files_operated_all (first ++ next) files ≡ files_operated_all next (files_operated_all first files)
files_operated_all-append [] next files = refl
files_operated_all-append (operation ∷ first) next files = files_operated_all-append first next (files_operated operation files)

-- where some operations became firm, each image was one before
shows_before : (R : Showing) (kept : ℕ) (state : State) (image : Named (List ℕ)) → Shows R (settled_through kept state) image → Shows R state image
shows_before R kept state image (count, shown) =
    let split : take (kept + count) state.waiting ≡ take kept state.waiting ++ take count (drop kept state.waiting) = take-add kept count state.waiting in
    let files : files_operated_all (take (kept + count) state.waiting) state.files ≡ files_operated_all (take count (drop kept state.waiting)) (files_operated_all (take kept state.waiting) state.files) =
    ap (λ operations. files_operated_all operations state.files) split ∙ files_operated_all-append (take kept state.waiting) (take count (drop kept state.waiting)) state.files in
    let firm : operated_all (take (kept + count) state.waiting) state.firm ≡ operated_all (take count (drop kept state.waiting)) (operated_all (take kept state.waiting) state.firm) =
    ap (λ operations. operated_all operations state.firm) split ∙ operated_all-append (take kept state.waiting) (take count (drop kept state.waiting)) state.firm in
    (kept + count, subst (λ d. R (files_operated_all (take (kept + count) state.waiting) state.files) d image) (sym firm) (subst (λ f. R f (operated_all (take count (drop kept state.waiting)) (operated_all (take kept state.waiting) state.firm)) image) (sym files) shown))

-- a call that is done or not
done_or_not : (R : Showing) (kept : ℕ) (change : Change) (state whole after : State) (image : Named (List ℕ)) → done change state ≡ Some whole
    → after ≡ (if kept == 0 then state else unwrap_or (done change state) state) → Shows R after image → Shows R state image ⊎ Shows R whole image
done_or_not R kept change state whole after image ok is shown =
    elim (kept == 0) as (λ b. after ≡ (if b then state else unwrap_or (done change state) state) → Shows R state image ⊎ Shows R whole image) [
      | true ↦ λ none. inl (subst (λ s. Shows R s image) none shown)
      | false ↦ λ all.
          let whole_is : after ≡ whole = all ∙ ap (λ o. unwrap_or o state) ok in
          inr (subst (λ s. Shows R s image) whole_is shown)
    ] is

-- the two files that an append can leave look alike to a crash
append_alike : (R : Showing) → IsOfCrashes R → (number kept : ℕ) (bytes : List ℕ) (state : State) (image : Named (List ℕ))
    → Shows R (with_file number (λ file. spoiled (extended bytes kept file)) state) image → Shows R (with_file number (extended bytes (length bytes)) state) image
append_alike R alike number kept bytes state image =
    let file = file_at number state.files in
    shows_alike R alike (set state.files number (spoiled (extended bytes kept file))) (set state.files number (extended bytes (length bytes) file)) state.firm state.waiting image
    (map-set crash_view state.files number (spoiled (extended bytes kept file)) ∙ sym (map-set crash_view state.files number (extended bytes (length bytes) file)))

spoiled_alike : (R : Showing) → IsOfCrashes R → (number : ℕ) (state : State) (image : Named (List ℕ)) → Shows R (with_file number spoiled state) image → Shows R state image
spoiled_alike R alike number state image =
    shows_alike R alike (set state.files number (spoiled (file_at number state.files))) state.files state.firm state.waiting image
    (map-set_same crash_view state.files number (spoiled (file_at number state.files)) new_file refl)

append_fails : (R : Showing) → IsOfCrashes R → (kept : ℕ) (bytes : List ℕ) (state whole after : State) (image : Named (List ℕ)) (found : Option ℕ)
    → option_and_then (λ number. if has_waiting_cut number state.waiting then None else Some (with_file number (extended bytes (length bytes)) state)) found ≡ Some whole
    → after ≡ unwrap_or (option_map (λ number. with_file number (λ file. spoiled (extended bytes kept file)) state) found) state
    → Shows R after image → Shows R whole image
append_fails R alike kept bytes state whole after image None ok is shown = cc
append_fails R alike kept bytes state whole after image (Some number) ok is shown =
    elim (has_waiting_cut number state.waiting) as (λ b. (if b then None else Some (with_file number (extended bytes (length bytes)) state)) ≡ Some whole → Shows R whole image) [
      | true ↦ λ none. cc
      | false ↦ λ some.
          let whole_is : with_file number (extended bytes (length bytes)) state ≡ whole = cc in
          subst (λ s. Shows R s image) whole_is (append_alike R alike number kept bytes state image (subst (λ s. Shows R s image) is shown))
    ] ok

sync_fails : (R : Showing) → IsOfCrashes R → (state after : State) (image : Named (List ℕ)) (found : Option ℕ)
    → after ≡ unwrap_or (option_map (λ number. with_file number spoiled state) found) state → Shows R after image → Shows R state image
sync_fails R alike state after image None is shown = subst (λ s. Shows R s image) is shown
sync_fails R alike state after image (Some number) is shown = spoiled_alike R alike number state image (subst (λ s. Shows R s image) is shown)

failed_shows : (R : Showing) → IsOfCrashes R → (kept : ℕ) (change : Change) (state whole after : State) (image : Named (List ℕ)) → done change state ≡ Some whole
    → after ≡ failed change kept state → Shows R after image → Shows R state image ⊎ Shows R whole image
failed_shows R alike kept (Create name) state whole after image ok is shown = done_or_not R kept (Create name) state whole after image ok is shown
failed_shows R alike kept (Append name bytes) state whole after image ok is shown = inr (append_fails R alike kept bytes state whole after image (file_of name state) ok is shown)
failed_shows R alike kept (Sync name) state whole after image ok is shown = inl (sync_fails R alike state after image (file_of name state) is shown)
failed_shows R alike kept (Rename from to) state whole after image ok is shown = done_or_not R kept (Rename from to) state whole after image ok is shown
failed_shows R alike kept (Remove name) state whole after image ok is shown = done_or_not R kept (Remove name) state whole after image ok is shown
failed_shows R alike kept (Cut name size) state whole after image ok is shown = done_or_not R kept (Cut name size) state whole after image ok is shown
failed_shows R alike kept SyncDir state whole after image ok is shown = inl (shows_before R kept state image (subst (λ s. Shows R s image) is shown))

fault_shows : (R : Showing) → IsOfCrashes R → (change : Change) (state after : State) (fault : Fault) (image : Named (List ℕ)) (outcome : Option State) → done change state ≡ outcome
    → MatchOption outcome ((fault ≡ Plain) × (after ≡ state)) (λ _. (kept : ℕ) × (after ≡ failed change kept state)) → Shows R after image
    → Shows R state image ⊎ IsSomeAnd outcome (λ whole. Shows R whole image)
fault_shows R alike change state after fault image None is left shown = inl (subst (λ s. Shows R s image) left.1 shown)
fault_shows R alike change state after fault image (Some whole) is left shown = failed_shows R alike left.0 change state whole after image is left.1 shown

step_shows : (R : Showing) → IsOfCrashes R → {T : Type 0} (answer : Result T DiskError) (change : Change) (state after : State) (image : Named (List ℕ)) → DiskStep state change answer after → Shows R after image
    → Shows R state image ⊎ IsSomeAnd (done change state) (λ whole. Shows R whole image)
step_shows R alike (Ok value) change state after image step shown = inr (rw step shown)
step_shows R alike (Err (error.Fault fault)) change state after image step shown = fault_shows R alike change state after fault image (done change state) refl step shown
step_shows R alike (Err error.OutOfMemory) change state after image step shown = inl (subst (λ s. Shows R s image) step shown)

-- what is shown inside a call is shown before it, or behind its Ok
pub mid_shows : (R : Showing) → IsOfCrashes R → (state : State) (change : Change) (image : Named (List ℕ))
    → Shows R state image ⊎ ((answer : Result (Unit {0}) DiskError) × (after : State) × DiskStep state change answer after × Shows R after image)
    → Shows R state image ⊎ IsSomeAnd (done change state) (λ after. Shows R after image)
mid_shows R alike state change image (inl before) = inl before
mid_shows R alike state change image (inr inside) = step_shows R alike inside.0 change state inside.1 image inside.2 inside.3
