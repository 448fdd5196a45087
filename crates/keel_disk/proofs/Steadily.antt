-- Names and files that a call isn't about, behind each of its answers.
use Rattle.std.proofs.Common.{◌≡◌, ◌≢◌, ℕ, ◌||◌, Bool, true, false, List, [], ◌∷◌, length, take, Option, Some, None, Result, Ok, Err, refl, sym, subst, ◌∙◌, eqb, eqb-true, get_or-set_other, get_or-set_same, set}
use Rattle.keel_base.specs.declared.file_name.FileName.{FileName}
use Rattle.keel_disk.specs.declared.error.DiskError.{DiskError}
use Rattle.keel_disk.specs.declared.error.DiskError.TheVariants as error
use Rattle.keel_disk.specs.declared.state.File.{File}
use Rattle.keel_disk.specs.declared.state.Operation.TheVariants.{Link, Move, Unlink, Shorten}
use Rattle.keel_disk.specs.declared.change.Change.{Change}
use Rattle.keel_disk.specs.declared.change.Change.TheVariants.{Create, Append, Sync, Rename, Remove, Cut, SyncDir}
use Rattle.keel_disk.specs.Directory.{Named, find, unlinked, linked, operated}
use Rattle.keel_disk.specs.State.{State, new_file, file_at, settled_through, directory_read, file_of, has_waiting_cut}
use Rattle.keel_disk.specs.Step.{done, failed, DiskStep, extended, spoiled, synced, with_file}
use Rattle.keel_disk.specs.Sound.{AreOwn, IsOneToOne}
use Rattle.keel_disk.specs.Steady.{Always, IsSteady, IsPresent, IsAbsent, IsApart, SteadyStays, PresentStays}
use Rattle.keel_disk.proofs.Operating.{find-unlinked, find-linked_other, find-moved, always-more, always-settled, read_always, read-settled, read-more, settled-always, cut-append, cut-first, cut-rest, uncut_file, file_at-created, other_file, is_below}
use Rattle.keel_disk.proofs.Reaching.{Reaches, reached}

-- ---- directories

-- each operation that the call may add keeps it
abbrev pub KeptBy : (Named ℕ → Type 0) → Change → State → Type 0
KeptBy P (Create name) state = (directory : Named ℕ) → P directory → P (linked name (length state.files) directory)
KeptBy P (Append name bytes) state = Unit {0}
KeptBy P (Sync name) state = Unit {0}
KeptBy P (Rename from to) state = (directory : Named ℕ) → P directory → P (operated (Move from to) directory)
KeptBy P (Remove name) state = (directory : Named ℕ) → P directory → P (unlinked name directory)
KeptBy P (Cut name size) state = Unit {0}
KeptBy P SyncDir state = Unit {0}

always_reaches : (P : Named ℕ → Type 0) (change : Change) (state : State) → KeptBy P change state → Always P state → Reaches (Always P) change state
always_reaches P (Create name) state keeps always = always-more P (Link name (length state.files)) state.waiting state.firm keeps always
always_reaches P (Append name bytes) state keeps always = λ number found uncut. (always, λ kept. always)
always_reaches P (Sync name) state keeps always = λ number found. (always, always)
always_reaches P (Rename from to) state keeps always = always-more P (Move from to) state.waiting state.firm keeps always
always_reaches P (Remove name) state keeps always = always-more P (Unlink name) state.waiting state.firm keeps always
always_reaches P (Cut name size) state keeps always = λ number found. always-more P (Shorten number size) state.waiting state.firm (λ directory h. h) always
always_reaches P SyncDir state keeps always = λ kept. always-settled P kept state always

-- so is every directory behind a call, where each that is added keeps it
pub always_stays : (P : Named ℕ → Type 0) (change : Change) (answer : Result (Unit {0}) DiskError) (state after : State) → KeptBy P change state → Always P state
    → DiskStep state change answer after → Always P after
always_stays P change answer state after keeps always step = reached (Always P) answer change state after always (always_reaches P change state keeps always) step

abbrev Now : (Named ℕ → Type 0) → State → Type 0
Now P state = P (directory_read state)

now_reaches : (P : Named ℕ → Type 0) (change : Change) (state : State) → KeptBy P change state → Now P state → Reaches (Now P) change state
now_reaches P (Create name) state keeps now = subst P (sym (read-more (Link name (length state.files)) state)) (keeps (directory_read state) now)
now_reaches P (Append name bytes) state keeps now = λ number found uncut. (now, λ kept. now)
now_reaches P (Sync name) state keeps now = λ number found. (now, now)
now_reaches P (Rename from to) state keeps now = subst P (sym (read-more (Move from to) state)) (keeps (directory_read state) now)
now_reaches P (Remove name) state keeps now = subst P (sym (read-more (Unlink name) state)) (keeps (directory_read state) now)
now_reaches P (Cut name size) state keeps now = λ number found. subst P (sym (read-more (Shorten number size) state)) now
now_reaches P SyncDir state keeps now = λ kept. subst P (sym (read-settled kept state)) now

pub now_stays : (P : Named ℕ → Type 0) (change : Change) (answer : Result (Unit {0}) DiskError) (state after : State) → KeptBy P change state → P (directory_read state)
    → DiskStep state change answer after → P (directory_read after)
now_stays P change answer state after keeps now step = reached (Now P) answer change state after now (now_reaches P change state keeps now) step

-- what a name has stays where the call isn't about it
abbrev pub Has : FileName → Option ℕ → Named ℕ → Type 0
Has name found directory = find name directory ≡ found

pub apart_keeps : (name : FileName) (found : Option ℕ) (change : Change) (state : State) → IsApart name change → KeptBy (Has name found) change state
apart_keeps name found (Create other) state apart = λ directory h. find-linked_other name other (length state.files) directory apart ∙ h
apart_keeps name found (Append other bytes) state apart = tt
apart_keeps name found (Sync other) state apart = tt
apart_keeps name found (Rename from to) state apart = λ directory h. find-moved name from to directory apart.0 apart.1 ∙ h
apart_keeps name found (Remove other) state apart = λ directory h. find-unlinked name other directory apart ∙ h
apart_keeps name found (Cut other size) state apart = tt
apart_keeps name found SyncDir state apart = tt

pub absent_stays : (name : FileName) (change : Change) (answer : Result (Unit {0}) DiskError) (state after : State) → IsApart name change → IsAbsent name state
    → DiskStep state change answer after → IsAbsent name after
absent_stays name change answer state after apart absent step = always_stays (Has name None) change answer state after (apart_keeps name None change state apart) absent step

-- ---- files

-- the call isn't about this file, as reads see it
abbrev pub IsAside : ℕ → Change → State → Type 0
IsAside file (Create name) state = Unit {0}
IsAside file (Append name bytes) state = (number : ℕ) → file_of name state ≡ Some number → file ≢ number
IsAside file (Sync name) state = (number : ℕ) → file_of name state ≡ Some number → file ≢ number
IsAside file (Rename from to) state = Unit {0}
IsAside file (Remove name) state = Unit {0}
IsAside file (Cut name size) state = (number : ℕ) → file_of name state ≡ Some number → file ≢ number
IsAside file SyncDir state = Unit {0}

-- a file of which no cut waits is this
pub record IsUncut (file : ℕ) (is : File) (state : State) : Type 0 where
  pub file_is : file_at file state.files ≡ is
  pub not_cut : has_waiting_cut file state.waiting ≡ false

other_set : (file number : ℕ) (value : File) (files : List File) → file ≢ number → file_at file (set files number value) ≡ file_at file files
other_set file number value files differs = get_or-set_other files number file value new_file differs

uncut_reaches : (file : ℕ) (is : File) (change : Change) (state : State) → IsAside file change state → IsUncut file is state → Reaches (IsUncut file is) change state
uncut_reaches file is (Create name) state aside h = record {
  file_is = file_at-created file state.files ∙ h.file_is;
  not_cut = cut-append file state.waiting (Link name (length state.files) ∷ []) h.not_cut refl;
}
uncut_reaches file is (Append name bytes) state aside h = λ number found uncut. (
  record { file_is = other_set file number _ state.files (aside number found) ∙ h.file_is; not_cut = h.not_cut },
  λ kept. record { file_is = other_set file number _ state.files (aside number found) ∙ h.file_is; not_cut = h.not_cut },
)
uncut_reaches file is (Sync name) state aside h = λ number found. (
  record { file_is = other_set file number _ state.files (aside number found) ∙ h.file_is; not_cut = h.not_cut },
  record { file_is = other_set file number _ state.files (aside number found) ∙ h.file_is; not_cut = h.not_cut },
)
uncut_reaches file is (Rename from to) state aside h = record { file_is = h.file_is; not_cut = cut-append file state.waiting (Move from to ∷ []) h.not_cut refl }
uncut_reaches file is (Remove name) state aside h = record { file_is = h.file_is; not_cut = cut-append file state.waiting (Unlink name ∷ []) h.not_cut refl }
uncut_reaches file is (Cut name size) state aside h = λ number found. record {
  file_is = other_set file number _ state.files (aside number found) ∙ h.file_is;
  not_cut = cut-append file state.waiting (Shorten number size ∷ []) h.not_cut (other_cut number (eqb number file) refl (aside number found));
}
  where
    other_cut : (number : ℕ) (b : Bool) → eqb number file ≡ b → file ≢ number → (eqb number file || false) ≡ false
    other_cut number true e differs = absurd (differs (sym (eqb-true number file e)))
    other_cut number false e differs = rw e refl
uncut_reaches file is SyncDir state aside h = λ kept. record {
  file_is = uncut_file file (take kept state.waiting) state.files (cut-first file kept state.waiting h.not_cut) ∙ h.file_is;
  not_cut = cut-rest file kept state.waiting h.not_cut;
}

pub uncut_stays : (file : ℕ) (is : File) (change : Change) (answer : Result (Unit {0}) DiskError) (state after : State) → IsAside file change state → IsUncut file is state
    → DiskStep state change answer after → IsUncut file is after
uncut_stays file is change answer state after aside h step = reached (IsUncut file is) answer change state after h (uncut_reaches file is change state aside h) step

-- ---- names with their files

pub read_own : (state : State) → IsOneToOne state → AreOwn (length state.files) (directory_read state)
read_own state one = read_always (AreOwn (length state.files)) state one

-- the file of one name, as reads see it, isn't that of another
pub aside_of : (name : FileName) (file : ℕ) (change : Change) (state : State) → IsOneToOne state → IsApart name change → file_of name state ≡ Some file → IsAside file change state
aside_of name file (Create other) state one apart named = tt
aside_of name file (Append other bytes) state one apart named = λ number found same. other_file (length state.files) name other file number (directory_read state) (read_own state one) apart named found (sym same)
aside_of name file (Sync other) state one apart named = λ number found same. other_file (length state.files) name other file number (directory_read state) (read_own state one) apart named found (sym same)
aside_of name file (Rename from to) state one apart named = tt
aside_of name file (Remove other) state one apart named = tt
aside_of name file (Cut other size) state one apart named = λ number found same. other_file (length state.files) name other file number (directory_read state) (read_own state one) apart named found (sym same)
aside_of name file SyncDir state one apart named = tt

pub steady_read : (name : FileName) (file : ℕ) (state : State) → IsSteady name file state → file_of name state ≡ Some file
steady_read name file state h = read_always (Has name (Some file)) state h.named

pub steady_present : (name : FileName) (file : ℕ) (state : State) → IsSteady name file state → IsPresent name file state
steady_present name file state h = record { named = steady_read name file state h; not_cut = h.not_cut }

pub steady_stays : SteadyStays
steady_stays name file change answer state after one apart h step =
    let uncut = uncut_stays file (file_at file state.files) change answer state after (aside_of name file change state one apart (steady_read name file state h)) (record { file_is = refl; not_cut = h.not_cut }) step in (
      record {
        named = always_stays (Has name (Some file)) change answer state after (apart_keeps name (Some file) change state apart) h.named step;
        not_cut = uncut.not_cut;
      },
      uncut.file_is,
    )

pub present_stays : PresentStays
present_stays name file change answer state after one apart h step =
    let uncut = uncut_stays file (file_at file state.files) change answer state after (aside_of name file change state one apart h.named) (record { file_is = refl; not_cut = h.not_cut }) step in (
      record {
        named = now_stays (Has name (Some file)) change answer state after (apart_keeps name (Some file) change state apart) h.named step;
        not_cut = uncut.not_cut;
      },
      uncut.file_is,
    )

-- ---- the sync of the directory

pub record Firm (name : FileName) (file : ℕ) (state after : State) : Type 0 where
  pub steady : IsSteady name file after
  pub file_same : file_at file after.files ≡ file_at file state.files

-- what was present is steady behind an Ok
pub present_firm : (name : FileName) (file : ℕ) (state after : State) → IsPresent name file state → done SyncDir state ≡ Some after → Firm name file state after
present_firm name file state after h step =
    let is : settled_through (length state.waiting) state ≡ after = cc in
    subst (Firm name file state) is (record {
      steady = record {
        named = settled-always (Has name (Some file)) state h.named;
        not_cut = cut-rest file (length state.waiting) state.waiting h.not_cut;
      };
      file_same = uncut_file file (take (length state.waiting) state.waiting) state.files (cut-first file (length state.waiting) state.waiting h.not_cut);
    })

-- ---- calls on a file that is there

-- what an append to a file leaves
abbrev pub AppendLeaves : ℕ → List ℕ → State → Result (Unit {0}) DiskError → State → Type 0
AppendLeaves file bytes state (Ok value) after = after ≡ with_file file (extended bytes (length bytes)) state
AppendLeaves file bytes state (Err (error.Fault fault)) after = (kept : ℕ) × (after ≡ with_file file (λ f. spoiled (extended bytes kept f)) state)
AppendLeaves file bytes state (Err error.OutOfMemory) after = after ≡ state

pub append_leaves : (name : FileName) (file : ℕ) (bytes : List ℕ) (answer : Result (Unit {0}) DiskError) (state after : State) → IsPresent name file state
    → DiskStep state (Append name bytes) answer after → AppendLeaves file bytes state answer after
append_leaves name file bytes answer state after h step = by answer step
  where
    whole : done (Append name bytes) state ≡ Some (with_file file (extended bytes (length bytes)) state)
    whole = rw (h.named, h.not_cut) refl

    spoilt : (kept : ℕ) → failed (Append name bytes) kept state ≡ with_file file (λ f. spoiled (extended bytes kept f)) state
    spoilt kept = rw h.named refl

    by : (a : Result (Unit {0}) DiskError) → DiskStep state (Append name bytes) a after → AppendLeaves file bytes state a after
    by (Ok value) s = let is : with_file file (extended bytes (length bytes)) state ≡ after = cc in sym is
    by (Err (error.Fault fault)) s =
        let left = rw whole at s in
        (left.0, left.1 ∙ spoilt left.0)
    by (Err error.OutOfMemory) s = s

-- what a sync of a file leaves
abbrev pub SyncLeaves : ℕ → State → Result (Unit {0}) DiskError → State → Type 0
SyncLeaves file state (Ok value) after = after ≡ with_file file synced state
SyncLeaves file state (Err (error.Fault fault)) after = after ≡ with_file file spoiled state
SyncLeaves file state (Err error.OutOfMemory) after = after ≡ state

pub sync_leaves : (name : FileName) (file : ℕ) (answer : Result (Unit {0}) DiskError) (state after : State) → IsPresent name file state
    → DiskStep state (Sync name) answer after → SyncLeaves file state answer after
sync_leaves name file answer state after h step = by answer step
  where
    whole : done (Sync name) state ≡ Some (with_file file synced state)
    whole = rw h.named refl

    spoilt : (kept : ℕ) → failed (Sync name) kept state ≡ with_file file spoiled state
    spoilt kept = rw h.named refl

    by : (a : Result (Unit {0}) DiskError) → DiskStep state (Sync name) a after → SyncLeaves file state a after
    by (Ok value) s = let is : with_file file synced state ≡ after = cc in sym is
    by (Err (error.Fault fault)) s =
        let left = rw whole at s in
        left.1 ∙ spoilt left.0
    by (Err error.OutOfMemory) s = s

-- the file itself is changed, and the name stays
pub steady_changed : (name : FileName) (file : ℕ) (change : File → File) (state : State) → IsSteady name file state → IsSteady name file (with_file file change state)
steady_changed name file change state h = record { named = h.named; not_cut = h.not_cut }

pub file_changed : (name : FileName) (file : ℕ) (change : File → File) (state : State) → IsOneToOne state → IsSteady name file state
    → file_at file (with_file file change state).files ≡ change (file_at file state.files)
file_changed name file change state one h =
    get_or-set_same state.files file (change (file_at file state.files)) new_file (is_below (length state.files) name file (directory_read state) (read_own state one) (steady_read name file state h))
