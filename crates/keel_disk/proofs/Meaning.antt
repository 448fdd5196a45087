-- Reads give what was meant, behind each answer of a call that appends to no spoilt file.
use Rattle.std.proofs.Common.{◌≡◌, ℕ, zero, suc, min, ◌+◌, ◌-◌, ◌<◌, Bool, true, false, List, [], ◌∷◌, ◌++◌, length, take, drop, Option, Some, None, refl, sym, ap, subst, ◌∙◌, arith, if◌then◌else◌, take_all, take-append-drop, inl, inr, eqb, eqb-true, eq-eqb, set, get_or-set_other, get_or-set_same}
use Rattle.std.proofs.lemmas.Bool.{cases_lt}
use Rattle.std.proofs.lemmas.List.{append_assoc, append-nil, length-append, length-take, take-append-le, drop_all}
use Rattle.std.proofs.Math.Seq.{take-append-add}
use Rattle.keel_base.specs.declared.file_name.FileName.{FileName}
use Rattle.keel_base.specs.Name.{name_eq}
use Rattle.keel_base.proofs.Names.{name_eq-true}
use Rattle.keel_disk.specs.declared.state.File.{File}
use Rattle.keel_disk.specs.declared.state.Operation.{Operation}
use Rattle.keel_disk.specs.declared.state.Operation.TheVariants.{Link, Move, Unlink, Shorten}
use Rattle.keel_disk.specs.declared.change.Change.{Change}
use Rattle.keel_disk.specs.declared.change.Change.TheVariants.{Create, Append, Sync, Rename, Remove, Cut, SyncDir}
use Rattle.keel_disk.specs.Directory.{Named, find, unlinked, linked, linked_found, operated}
use Rattle.keel_disk.specs.Image.{AllFirm}
use Rattle.keel_disk.specs.State.{State, new_file, file_at, shortened, files_operated, files_operated_all, settled_through, directory_read, file_of, has_waiting_cut}
use Rattle.keel_disk.specs.Step.{extended, spoiled, synced, cut_read, with_file, with_waiting}
use Rattle.keel_disk.specs.Sound.{IsOneToOne}
use Rattle.keel_disk.specs.Steady.{ReadsAsMeant, SparesSpoilt, AllReadStays, RestReads}
use Rattle.keel_disk.proofs.Directories.{find-linked}
use Rattle.keel_disk.proofs.Operating.{find-unlinked, find-linked_other, read-settled, read-more, file_at-created, is_below}
use Rattle.keel_disk.proofs.Owning.{either_false, find-unlinked_same}
use Rattle.keel_disk.proofs.Reaching.{Reaches, reached}
use Rattle.keel_disk.proofs.Steadily.{read_own}

-- ---- a file behind operations

abbrev operated_file : ℕ → List Operation → File → File
operated_file number [] file = file
operated_file number (Shorten other size ∷ rest) file = operated_file number rest (if eqb other number then shortened size file else file)
operated_file number (Link name other ∷ rest) file = operated_file number rest file
operated_file number (Move from to ∷ rest) file = operated_file number rest file
operated_file number (Unlink name ∷ rest) file = operated_file number rest file

shortened_new : (size : ℕ) → shortened size new_file ≡ new_file
shortened_new size =
    let meant : take size (new_file.meant) ≡ [] = take_all size [] (omega arith) in
    let firm : min size 0 ≡ 0 = omega arith in
    λ i. record { meant = meant i; firm = firm i; spoilt = false; read = [] }

cut_here : (number size : ℕ) (files : List File) → file_at number (set files number (shortened size (file_at number files))) ≡ shortened size (file_at number files)
cut_here number size [] = sym (shortened_new size)
cut_here zero size (file ∷ files) = refl
cut_here (suc number) size (file ∷ files) = cut_here number size files

cut_at : (number other size : ℕ) (files : List File) → file_at number (files_operated (Shorten other size) files) ≡ (if eqb other number then shortened size (file_at number files) else file_at number files)
cut_at number other size files = by (eqb other number) refl
  where
    by : (b : Bool) → eqb other number ≡ b → file_at number (set files other (shortened size (file_at other files))) ≡ (if b then shortened size (file_at number files) else file_at number files)
    by true same = subst (λ (n : ℕ). file_at number (set files n (shortened size (file_at n files))) ≡ shortened size (file_at number files)) (sym (eqb-true other number same)) (cut_here number size files)
    by false differs = get_or-set_other files other number (shortened size (file_at other files)) new_file (λ same. let t = eq-eqb other number (sym same) in absurd cc)

file_operated : (number : ℕ) (operations : List Operation) (files : List File) → file_at number (files_operated_all operations files) ≡ operated_file number operations (file_at number files)
file_operated number [] files = refl
file_operated number (Shorten other size ∷ rest) files = file_operated number rest (files_operated (Shorten other size) files) ∙ ap (operated_file number rest) (cut_at number other size files)
file_operated number (Link name other ∷ rest) files = file_operated number rest files
file_operated number (Move from to ∷ rest) files = file_operated number rest files
file_operated number (Unlink name ∷ rest) files = file_operated number rest files

operated-append : (number : ℕ) (first next : List Operation) (file : File) → operated_file number (first ++ next) file ≡ operated_file number next (operated_file number first file)
operated-append number [] next file = refl
operated-append number (Shorten other size ∷ first) next file = operated-append number first next (if eqb other number then shortened size file else file)
operated-append number (Link name other ∷ first) next file = operated-append number first next file
operated-append number (Move from to ∷ first) next file = operated-append number first next file
operated-append number (Unlink name ∷ first) next file = operated-append number first next file

operated_new : (number : ℕ) (operations : List Operation) → operated_file number operations new_file ≡ new_file
operated_new number [] = refl
operated_new number (Shorten other size ∷ rest) = ap (operated_file number rest) (by (eqb other number)) ∙ operated_new number rest
  where
    by : (b : Bool) → (if b then shortened size new_file else new_file) ≡ new_file
    by true = shortened_new size
    by false = refl
operated_new number (Link name other ∷ rest) = operated_new number rest
operated_new number (Move from to ∷ rest) = operated_new number rest
operated_new number (Unlink name ∷ rest) = operated_new number rest

operated_uncut : (number : ℕ) (operations : List Operation) (file : File) → has_waiting_cut number operations ≡ false → operated_file number operations file ≡ file
operated_uncut number [] file none = refl
operated_uncut number (Shorten other size ∷ rest) file none =
    let parts = either_false (eqb other number) (has_waiting_cut number rest) none in
    ap (λ b. operated_file number rest (if b then shortened size file else file)) parts.0 ∙ operated_uncut number rest file parts.1
operated_uncut number (Link name other ∷ rest) file none = operated_uncut number rest file none
operated_uncut number (Move from to ∷ rest) file none = operated_uncut number rest file none
operated_uncut number (Unlink name ∷ rest) file none = operated_uncut number rest file none

-- a change that cuts leave alone may come first or last
operated_change : (change : File → File) → ((size : ℕ) (file : File) → shortened size (change file) ≡ change (shortened size file))
    → (number : ℕ) (operations : List Operation) (file : File) → operated_file number operations (change file) ≡ change (operated_file number operations file)
operated_change change apart number [] file = refl
operated_change change apart number (Shorten other size ∷ rest) file = ap (operated_file number rest) (by (eqb other number)) ∙ operated_change change apart number rest (if eqb other number then shortened size file else file)
  where
    by : (b : Bool) → (if b then shortened size (change file) else change file) ≡ change (if b then shortened size file else file)
    by true = apart size file
    by false = refl
operated_change change apart number (Link name other ∷ rest) file = operated_change change apart number rest file
operated_change change apart number (Move from to ∷ rest) file = operated_change change apart number rest file
operated_change change apart number (Unlink name ∷ rest) file = operated_change change apart number rest file

synced_apart : (size : ℕ) (file : File) → shortened size (synced file) ≡ synced (shortened size file)
synced_apart size file =
    let long : min size (length file.meant) ≡ length (take size file.meant) = omega (arith, length-take size file.meant) in
    elim file.spoilt as (λ b. shortened size (if b then file else record file { firm = length file.meant })
    ≡ (if b then shortened size file else record (shortened size file) { firm = length (take size file.meant) })) [
      | true ↦ refl
      | false ↦ λ i. record { meant = take size file.meant; firm = long i; spoilt = file.spoilt; read = file.read }
    ]

-- ---- what was meant

new_reads : ReadsAsMeant new_file
new_reads = record { unread = []; read_is = refl; firm_read = omega arith; whole = λ _. refl }

extended_reads : (bytes : List ℕ) (kept : ℕ) (file : File) → file.spoilt ≡ false → ReadsAsMeant file → ReadsAsMeant (spoiled (extended bytes kept file))
extended_reads bytes kept file sound h =
    let none = h.whole sound in
    let all : file.meant ≡ file.read = h.read_is ∙ ap (λ (u : List ℕ). file.read ++ u) none ∙ append-nil file.read in
    record {
      unread = drop kept bytes;
      read_is = ap (λ (b : List ℕ). b ++ bytes) all ∙ ap (λ (b : List ℕ). file.read ++ b) (sym (take-append-drop kept bytes)) ∙ sym (append_assoc file.read (take kept bytes) (drop kept bytes));
      firm_read = omega (arith, h.firm_read, length-append file.read (take kept bytes));
      whole = λ spoilt. cc;
    }

appended_reads : (bytes : List ℕ) (file : File) → file.spoilt ≡ false → ReadsAsMeant file → ReadsAsMeant (extended bytes (length bytes) file)
unfolding extended_reads
appended_reads bytes file sound h =
    let some = extended_reads bytes (length bytes) file sound h in
    record { unread = some.unread; read_is = some.read_is; firm_read = some.firm_read; whole = λ _. drop_all (length bytes) bytes (omega arith) }

spoiled_reads : (file : File) → ReadsAsMeant file → ReadsAsMeant (spoiled file)
spoiled_reads file h = record { unread = h.unread; read_is = h.read_is; firm_read = h.firm_read; whole = λ spoilt. cc }

synced_reads : (file : File) → ReadsAsMeant file → ReadsAsMeant (synced file)
synced_reads file h = by file.spoilt refl
  where
    by : (b : Bool) → file.spoilt ≡ b → ReadsAsMeant (if b then file else record file { firm = length file.meant })
    by true is = h
    by false is =
        let none = h.whole is in
        record {
          unread = h.unread;
          read_is = h.read_is;
          firm_read = omega (arith, ap length h.read_is, length-append file.read h.unread, ap length none);
          whole = h.whole;
        }

cut_reads : (size : ℕ) (file : File) → ReadsAsMeant file → ReadsAsMeant (shortened size (cut_read size file))
cut_reads size file h = elim (cases_lt (length file.read) size) [
  | inl long ↦
      let more = size - length file.read in
      let all : size ≡ length file.read + more = omega (arith, long) in
      let read : take size file.read ≡ file.read = take_all size file.read (omega (arith, long)) in
      let meant : take size file.meant ≡ take size file.read ++ take more h.unread =
      ap (take size) h.read_is ∙ ap (λ (n : ℕ). take n (file.read ++ h.unread)) all ∙ take-append-add file.read h.unread more ∙ ap (λ (r : List ℕ). r ++ take more h.unread) (sym read) in
      record {
        unread = take more h.unread;
        read_is = meant;
        firm_read = omega (arith, h.firm_read, ap length read);
        whole = λ sound. ap (take more) (h.whole sound) ∙ take_all more [] (omega arith);
      }
  | inr short ↦
      let meant : take size file.meant ≡ take size file.read = ap (take size) h.read_is ∙ take-append-le size file.read h.unread short in
      record {
        unread = [];
        read_is = meant ∙ sym (append-nil (take size file.read));
        firm_read = omega (arith, h.firm_read, length-take size file.read, short);
        whole = λ _. refl;
      }
]

-- ---- all files

-- the file of a name reads as meant where all operations are done
abbrev Reads : State → ℕ → Type 0
Reads state file = ReadsAsMeant (operated_file file state.waiting (file_at file state.files))

abbrev EachReads : State → Type 0
EachReads state = (name : FileName) (file : ℕ) → file_of name state ≡ Some file → Reads state file

settled_file : (file : ℕ) (state : State) → file_at file (settled_through (length state.waiting) state).files ≡ operated_file file state.waiting (file_at file state.files)
settled_file file state =
    file_operated file (take (length state.waiting) state.waiting) state.files
    ∙ ap (λ (operations : List Operation). operated_file file operations (file_at file state.files)) (take_all (length state.waiting) state.waiting (omega arith))

-- one file is changed
reads_set : (number : ℕ) (change : File → File) (state : State) → number < length state.files
    → (Reads state number → ReadsAsMeant (operated_file number state.waiting (change (file_at number state.files)))) → EachReads state → EachReads (with_file number change state)
reads_set number change state below keep each = λ name file named.
    elim (eqb number file) as (λ b. eqb number file ≡ b → Reads (with_file number change state) file) [
      | true ↦ λ same.
          let is = eqb-true number file same in
          let here : file_at number (set state.files number (change (file_at number state.files))) ≡ change (file_at number state.files) =
          get_or-set_same state.files number (change (file_at number state.files)) new_file below in
          subst (Reads (with_file number change state)) is
          (subst (λ (f : File). ReadsAsMeant (operated_file number state.waiting f)) (sym here) (keep (subst (Reads state) (sym is) (each name file named))))
      | false ↦ λ differs.
          let there : file_at file (set state.files number (change (file_at number state.files))) ≡ file_at file state.files =
          get_or-set_other state.files number file (change (file_at number state.files)) new_file (λ same. let t = eq-eqb number file (sym same) in absurd cc) in
          subst (λ (f : File). ReadsAsMeant (operated_file file state.waiting f)) (sym there) (each name file named)
    ] refl

-- an operation more that cuts nothing
reads_more : (operation : Operation) (state : State) → ((file : ℕ) (f : File) → operated_file file (operation ∷ []) f ≡ f)
    → ((name : FileName) (file : ℕ) → find name (operated operation (directory_read state)) ≡ Some file → Reads state file) → EachReads (with_waiting operation state)
reads_more operation state whole each = λ name file named.
    subst ReadsAsMeant (sym (operated-append file state.waiting (operation ∷ []) (file_at file state.files) ∙ whole file (operated_file file state.waiting (file_at file state.files))))
    (each name file (ap (find name) (sym (read-more operation state)) ∙ named))

found_unlinked : (name other : FileName) (file : ℕ) (directory : Named ℕ) → find name (unlinked other directory) ≡ Some file → find name directory ≡ Some file
found_unlinked name other file directory found = by (name_eq other name) refl
  where
    by : (b : Bool) → name_eq other name ≡ b → find name directory ≡ Some file
    by true same =
        let gone : find name (unlinked other directory) ≡ None = subst (λ (n : FileName). find name (unlinked n directory) ≡ None) (sym (name_eq-true other name same)) (find-unlinked_same name directory) in
        absurd cc
    by false apart = sym (find-unlinked name other directory apart) ∙ found

-- a name that is given has the new file, and every other name one that had a name
found_linked : (name other : FileName) (number file : ℕ) (directory : Named ℕ) (P : ℕ → Type 0) → P number → (find name directory ≡ Some file → P file) → find name (linked other number directory) ≡ Some file → P file
found_linked name other number file directory P new old found = by (name_eq other name) refl
  where
    by : (b : Bool) → name_eq other name ≡ b → P file
    by true same =
        let here : find name (linked other number directory) ≡ Some number =
        subst (λ (n : FileName). find name (linked n number directory) ≡ Some number) (sym (name_eq-true other name same)) (find-linked name number directory) in
        let is : number ≡ file = cc in
        subst P is new
    by false apart = old (sym (find-linked_other name other number directory apart) ∙ found)

found_moved : (name from to : FileName) (file : ℕ) (directory : Named ℕ) (P : ℕ → Type 0) → ((other : FileName) (n : ℕ) → find other directory ≡ Some n → P n) → find name (operated (Move from to) directory) ≡ Some file → P file
found_moved name from to file directory P each found = by (find from directory) refl found
  where
    by : (moved : Option ℕ) → find from directory ≡ moved → find name (linked_found to moved (unlinked from directory)) ≡ Some file → P file
    by None is there = each name file (found_unlinked name from file directory there)
    by (Some number) is there = found_linked name to number file (unlinked from directory) P (each from number is) (λ behind. each name file (found_unlinked name from file directory behind)) there

new_at : (files : List File) → file_at (length files) files ≡ new_file
new_at [] = refl
new_at (file ∷ files) = new_at files

named_below : (name : FileName) (number : ℕ) (state : State) → IsOneToOne state → file_of name state ≡ Some number → number < length state.files
named_below name number state one found = is_below (length state.files) name number (directory_read state) (read_own state one) found

reads_reach : (change : Change) (state : State) → IsOneToOne state → SparesSpoilt change state → EachReads state → Reaches EachReads change state
reads_reach (Create name) state one spares each = λ other file named.
    let number = length state.files in
    let whole : operated_file file (state.waiting ++ Link name number ∷ []) (file_at file (state.files ++ new_file ∷ [])) ≡ operated_file file state.waiting (file_at file state.files) =
    operated-append file state.waiting (Link name number ∷ []) (file_at file (state.files ++ new_file ∷ [])) ∙ ap (operated_file file state.waiting) (file_at-created file state.files) in
    let new : Reads state number = subst ReadsAsMeant (sym (ap (operated_file number state.waiting) (new_at state.files) ∙ operated_new number state.waiting)) new_reads in
    subst ReadsAsMeant (sym whole)
    (found_linked other name number file (directory_read state) (Reads state) new (each other file)
    (ap (find other) (sym (read-more (Link name number) state)) ∙ named))
reads_reach (Append name bytes) state one spares each = λ number found uncut.
    let below = named_below name number state one found in
    let sound = spares number found in
    let at : (change : File → File) → operated_file number state.waiting (change (file_at number state.files)) ≡ change (file_at number state.files) =
    λ change. operated_uncut number state.waiting (change (file_at number state.files)) uncut in
    let before : Reads state number → ReadsAsMeant (file_at number state.files) = subst ReadsAsMeant (operated_uncut number state.waiting (file_at number state.files) uncut) in (
      reads_set number (extended bytes (length bytes)) state below
          (λ h. subst ReadsAsMeant (sym (at (extended bytes (length bytes)))) (appended_reads bytes (file_at number state.files) sound (before h))) each,
      λ kept. reads_set number (λ file. spoiled (extended bytes kept file)) state below
          (λ h. subst ReadsAsMeant (sym (at (λ file. spoiled (extended bytes kept file)))) (extended_reads bytes kept (file_at number state.files) sound (before h))) each,
    )
reads_reach (Sync name) state one spares each = λ number found.
    let below = named_below name number state one found in
    let file = file_at number state.files in (
      reads_set number synced state below
          (λ h. subst ReadsAsMeant (sym (operated_change synced synced_apart number state.waiting file)) (synced_reads (operated_file number state.waiting file) h)) each,
      reads_set number spoiled state below
          (λ h. subst ReadsAsMeant (sym (operated_change spoiled (λ size f. refl) number state.waiting file)) (spoiled_reads (operated_file number state.waiting file) h)) each,
    )
reads_reach (Rename from to) state one spares each =
    reads_more (Move from to) state (λ file f. refl) (λ name file found. found_moved name from to file (directory_read state) (Reads state) each found)
reads_reach (Remove name) state one spares each =
    reads_more (Unlink name) state (λ file f. refl) (λ other file found. each other file (found_unlinked other name file (directory_read state) found))
reads_reach (Cut name size) state one spares each = λ number found other file named.
    let below = named_below name number state one found in
    let value = cut_read size (file_at number state.files) in
    let longer = state.waiting ++ Shorten number size ∷ [] in
    let named_before : file_of other state ≡ Some file = ap (find other) (sym (read-more (Shorten number size) (with_file number (cut_read size) state))) ∙ named in
    elim (eqb number file) as (λ b. eqb number file ≡ b → ReadsAsMeant (operated_file file longer (file_at file (set state.files number value)))) [
      | true ↦ λ same.
          let is = eqb-true number file same in
          let here : file_at number (set state.files number value) ≡ value = get_or-set_same state.files number value new_file below in
          let own : operated_file number longer (file_at number (set state.files number value)) ≡ shortened size (cut_read size (operated_file number state.waiting (file_at number state.files))) =
          ap (operated_file number longer) here ∙ operated-append number state.waiting (Shorten number size ∷ []) value
          ∙ ap (λ b. if b then shortened size (operated_file number state.waiting value) else operated_file number state.waiting value) (eq-eqb number number refl)
          ∙ ap (shortened size) (operated_change (cut_read size) (λ k f. refl) number state.waiting (file_at number state.files)) in
          subst (λ (n : ℕ). ReadsAsMeant (operated_file n longer (file_at n (set state.files number value)))) is
          (subst ReadsAsMeant (sym own) (cut_reads size (operated_file number state.waiting (file_at number state.files)) (subst (Reads state) (sym is) (each other file named_before))))
      | false ↦ λ differs.
          let there : file_at file (set state.files number value) ≡ file_at file state.files =
          get_or-set_other state.files number file value new_file (λ same. let t = eq-eqb number file (sym same) in absurd cc) in
          let same : operated_file file longer (file_at file (set state.files number value)) ≡ operated_file file state.waiting (file_at file state.files) =
          ap (operated_file file longer) there ∙ operated-append file state.waiting (Shorten number size ∷ []) (file_at file state.files)
          ∙ ap (λ b. if b then shortened size (operated_file file state.waiting (file_at file state.files)) else operated_file file state.waiting (file_at file state.files)) differs in
          subst ReadsAsMeant (sym same) (each other file named_before)
    ] refl
reads_reach SyncDir state one spares each = λ kept name file named.
    let first = take kept state.waiting in
    let rest = drop kept state.waiting in
    let whole : operated_file file rest (file_at file (files_operated_all first state.files)) ≡ operated_file file state.waiting (file_at file state.files) =
    ap (operated_file file rest) (file_operated file first state.files) ∙ sym (operated-append file first rest (file_at file state.files))
    ∙ ap (λ (operations : List Operation). operated_file file operations (file_at file state.files)) (take-append-drop kept state.waiting) in
    subst ReadsAsMeant (sym whole) (each name file (ap (find name) (sym (read-settled kept state)) ∙ named))

pub all_read_stays : AllReadStays
all_read_stays change answer state after one spares h step =
    let before : EachReads state = λ name file named. subst ReadsAsMeant (settled_file file state) (h name file named) in
    let behind : EachReads after = reached EachReads answer change state after before (reads_reach change state one spares before) step in
    λ name file named. subst ReadsAsMeant (sym (settled_file file after)) (behind name file named)

-- ---- at rest

firm_reads : (files : List File) (directory : Named ℕ) (name : FileName) (file : ℕ) → AllFirm files directory → find name directory ≡ Some file → ReadsAsMeant (file_at file files)
firm_reads files [] name file firm found = cc
firm_reads files (entry ∷ rest) name file firm found =
    elim (name_eq entry.0 name) as (λ b. (if b then Some entry.1 else find name rest) ≡ Some file → ReadsAsMeant (file_at file files)) [
      | true ↦ λ here.
          let same : entry.1 ≡ file = cc in
          subst (λ (n : ℕ). ReadsAsMeant (file_at n files)) same (record {
            unread = [];
            read_is = sym firm.0.read ∙ sym (append-nil (file_at entry.1 files).read);
            firm_read = omega (arith, firm.0.whole, ap length firm.0.read);
            whole = λ _. refl;
          })
      | false ↦ λ later. firm_reads files rest name file firm.1 later
    ] found

pub rest_reads : RestReads
rest_reads state rest = λ name file named.
    let none = rest.settled.none_waits in
    let here : find name state.firm ≡ Some file = rw none at named in
    let same : file_at file (settled_through (length state.waiting) state).files ≡ file_at file state.files =
    settled_file file state ∙ ap (λ (operations : List Operation). operated_file file operations (file_at file state.files)) none in
    subst ReadsAsMeant (sym same) (firm_reads state.files state.firm name file rest.settled.firm here)
