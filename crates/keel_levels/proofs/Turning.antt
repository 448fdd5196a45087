-- A walk over tables, one after the other.
use Rattle.std.proofs.Common.{◌≡◌, ℕ, zero, suc, ◌+◌, ◌<◌, List, [], ◌∷◌, ◌++◌, length, get_or, take, Option, None, Result, Err, refl, sym, ap, subst, ◌∙◌, append_assoc, add-one, arith}
use Rattle.std.specs.Prelude.{map}
use Rattle.std.specs.List.{AllByRecursion}
use Rattle.std.proofs.Math.ListN.{set}
use Rattle.std.proofs.lemmas.List.{append-nil}
use Rattle.keel_base.specs.declared.row.Row.{Row}
use Rattle.keel_base.specs.Rows.{newest}
use Rattle.keel_base.proofs.Newest.{newest-append}
use Rattle.keel_disk.specs.Told.{Told}
use Rattle.keel_edit.specs.declared.edit.Added.{Added}
use Rattle.keel_table.specs.declared.fault.TableFault.{TableFault}
use Rattle.keel_table.specs.declared.fault.TableFault.TheVariants as fault
use Rattle.keel_directory.specs.TableFiles.{TableFile, table_rows}
use Rattle.keel_levels.specs.declared.fault.ScanFault.{ScanFault}
use Rattle.keel_levels.specs.declared.fault.ScanFault.TheVariants as scan
use Rattle.keel_levels.specs.declared.live.LiveTable.{LiveTable}
use Rattle.keel_levels.specs.Live.{AreOpened, AreReadable, IsLiveAs, IsReadable, Yields, rows_of, scan_fault, tables_of, entries_of}
use Rattle.keel_levels.specs.Newest.{newest_of_both}

-- the rows of so many first files
abbrev pub rows_to : ℕ → List TableFile → List Row
rows_to zero files = []
rows_to (suc i) [] = []
rows_to (suc i) (file ∷ files) = table_rows file ++ rows_to i files

pub all_rows : (lives : List LiveTable) (files : List TableFile) → AreOpened lives files → rows_to (length lives) files ≡ rows_of files
all_rows [] [] opened = refl
all_rows [] (file ∷ files) opened = absurd opened
all_rows (live ∷ lives) [] opened = absurd opened
all_rows (live ∷ lives) (file ∷ files) opened = ap (λ (rows : List Row). table_rows file ++ rows) (all_rows lives files opened.1)

-- the file of the table at a place
pub record IsAt (lives : List LiveTable) (files : List TableFile) (i : ℕ) (live : LiveTable) (file : TableFile) : Type 0 where
  pub is : IsLiveAs file live
  pub kept : (after : LiveTable) → IsLiveAs file after → AreOpened (set lives i after) files
  pub rows : rows_to (suc i) files ≡ rows_to i files ++ table_rows file
  pub firsts : take (suc i) files ≡ take i files ++ file ∷ []
  pub readable : (told : Told) (last_seq : ℕ) → AllByRecursion (IsReadable told last_seq) files → IsReadable told last_seq file

no_more : (file : TableFile) (files : List TableFile) → rows_to (suc zero) (file ∷ files) ≡ table_rows file
no_more file files = append-nil (table_rows file)

pub at : (lives : List LiveTable) (files : List TableFile) (i : ℕ) (live d : LiveTable) → i < length lives → live ≡ get_or lives i d → AreOpened lives files → (file : TableFile) × IsAt lives files i live file
at [] files i live d lt is opened = absurd (omega (arith, lt))
at (first ∷ lives) [] i live d lt is opened = absurd opened
at (first ∷ lives) (file ∷ files) zero live d lt is opened = (
  file,
  record {
    is = subst (IsLiveAs file) (sym is) opened.0;
    kept = λ after as_file. (as_file, opened.1);
    rows = no_more file files;
    firsts = refl;
    readable = λ told last_seq each. each.0;
  },
)
at (first ∷ lives) (file ∷ files) (suc i) live d lt is opened =
    let rest = at lives files i live d (omega (arith, lt)) is opened.1 in (
      rest.0,
      record {
        is = rest.1.is;
        kept = λ after as_file. (opened.0, rest.1.kept after as_file);
        rows = ap (λ (rows : List Row). table_rows file ++ rows) rest.1.rows ∙ sym (append_assoc (table_rows file) (rows_to i files) (table_rows rest.0));
        firsts = ap (λ (others : List TableFile). file ∷ others) rest.1.firsts;
        readable = λ told last_seq each. rest.1.readable told last_seq each.1;
      },
    )

pub same_tables : (lives : List LiveTable) (i : ℕ) (live after d : LiveTable) → i < length lives → live ≡ get_or lives i d → after.entry ≡ live.entry → tables_of (set lives i after) ≡ tables_of lives
same_tables [] i live after d lt is same = absurd (omega (arith, lt))
same_tables (first ∷ lives) zero live after d lt is same = ap (λ (entry : Added). entry ∷ tables_of lives) (same ∙ ap (λ (l : LiveTable). l.entry) is)
same_tables (first ∷ lives) (suc i) live after d lt is same = ap (λ (entries : List Added). first.entry ∷ entries) (same_tables lives i live after d (omega (arith, lt)) is same)

-- ---- the newest row of a key

-- what was found in so many first tables
pub record FoundIn (key : List ℕ) (i : ℕ) (lives : List LiveTable) (files : List TableFile) (found : Option Row) : Type 0 where
  pub opened : AreOpened lives files
  pub is : found ≡ newest key (rows_to i files)

pub record Turns (key : List ℕ) (i : ℕ) (lives : List LiveTable) (files : List TableFile) (result : Result (Option Row) TableFault) : Type 0 where
  pub opened : AreOpened lives files
  pub says : Yields (λ row. row ≡ newest key (rows_to (i + 1) files)) result

yields_map : (found : Option Row) (one other : Option Row) (result : Result (Option Row) TableFault) → one ≡ other → Yields (λ row. row ≡ one) result → Yields (λ row. row ≡ other) result
yields_map found one other result e h = subst (λ (o : Option Row). Yields (λ (row : Option Row). row ≡ o) result) e h

pub turns : (key : List ℕ) (i : ℕ) (lives : List LiveTable) (live after d : LiveTable) (files : List TableFile) (told : Told) (found : Option Row) (result : Result (Option Row) TableFault)
    → i < length lives → live ≡ get_or lives i d → AreReadable told files → FoundIn key i lives files found
    → ((last_seq : ℕ) (file : TableFile) → IsReadable told last_seq file → IsLiveAs file live → IsLiveAs file after × Yields (λ row. row ≡ newest_of_both found (newest key (table_rows file))) result)
    → Turns key i (set lives i after) files result
turns key i lives live after d files told found result lt is readable along reads =
    let a = at lives files i live d lt is along.opened in
    let r = reads readable.last_seq a.0 (a.1.readable told readable.last_seq readable.each) a.1.is in
    let next : rows_to (i + 1) files ≡ rows_to i files ++ table_rows a.0 = rw add-one a.1.rows in
    let same : newest_of_both found (newest key (table_rows a.0)) ≡ newest key (rows_to (i + 1) files) =
    ap (λ (o : Option Row). newest_of_both o (newest key (table_rows a.0))) along.is ∙ sym (ap (newest key) next ∙ newest-append key (rows_to i files) (table_rows a.0)) in
    record { opened = a.1.kept after r.0; says = yields_map found (newest_of_both found (newest key (table_rows a.0))) (newest key (rows_to (i + 1) files)) result same r.1 }

-- ---- a fault ends the walk

pub ends : {T U : Type 0} (P : T → Type 0) (Q : U → Type 0) (cause : TableFault) → Yields P (Err cause) → Yields Q (Err cause)
ends P Q (fault.Device f) h = tt
ends P Q fault.Absent h = absurd h
ends P Q (fault.BadCheck stored computed) h = absurd h
ends P Q (fault.BadShape place) h = absurd h
ends P Q fault.OutOfMemory h = tt

pub scan_ends : {T U : Type 0} (P : T → Type 0) (Q : U → Type 0) (cause : ScanFault) → Yields P (scan_fault (Err cause)) → Yields Q (scan_fault (Err cause))
scan_ends P Q (scan.Table e) h = ends P Q e.fault h
scan_ends P Q scan.OutOfMemory h = tt

-- ---- tables that aren't open

abbrev pub closed : Added → LiveTable
closed entry = record { entry = entry; table = None }

pub not_open : (entries : List Added) (files : List TableFile) → entries_of files ≡ entries → AreOpened (map closed entries) files
not_open [] [] same = tt
not_open [] (file ∷ files) same = absurd cc
not_open (entry ∷ entries) [] same = absurd cc
not_open (entry ∷ entries) (file ∷ files) same =
    let first : file.entry ≡ entry = cc in
    let rest : entries_of files ≡ entries = cc in
    (record { entry = sym first; open_as = tt }, not_open entries files rest)

pub their_entries : (entries : List Added) → tables_of (map closed entries) ≡ entries
their_entries [] = refl
their_entries (entry ∷ entries) = ap (λ (others : List Added). entry ∷ others) (their_entries entries)

pub all_files : (lives : List LiveTable) (files : List TableFile) → AreOpened lives files → take (length lives) files ≡ files
all_files [] [] opened = refl
all_files [] (file ∷ files) opened = absurd opened
all_files (live ∷ lives) [] opened = absurd opened
all_files (live ∷ lives) (file ∷ files) opened = ap (λ (others : List TableFile). file ∷ others) (all_files lives files opened.1)
