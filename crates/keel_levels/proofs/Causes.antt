-- What reads of a readable table answer.
use Rattle.std.proofs.Common.{◌≡◌, ℕ, ◌≤◌, Bool, true, false, cond, eqb, List, [], length, Option, Some, None, Result, Ok, Err, option_map, sym, ap, subst, ◌∙◌}
use Rattle.std.specs.Prelude.{IfOk, nat_le}
use Rattle.std.proofs.lemmas.Bool.{leb-true}
use Rattle.keel_base.specs.declared.file_name.FileName.{FileName}
use Rattle.keel_base.specs.declared.file_name.FileName.TheVariants.{Table as TableName}
use Rattle.keel_base.specs.declared.row.Row.{Row}
use Rattle.keel_base.specs.Rows.{newest}
use Rattle.keel_disk.specs.State.{file_at, file_of}
use Rattle.keel_disk.specs.Told.{Told, bytes_of}
use Rattle.keel_listing.proofs.Files.{image_has}
use Rattle.keel_edit.specs.declared.edit.Added.{Added}
use Rattle.keel_table.specs.declared.fault.TableFault.{TableFault}
use Rattle.keel_table.specs.declared.fault.TableFault.TheVariants as fault
use Rattle.keel_table.specs.declared.index.BlockEntry.{BlockEntry}
use Rattle.keel_table.specs.declared.table.Table.{Table}
use Rattle.keel_table.specs.Answers.{Answers, Causes, GetAnswers}
use Rattle.keel_table.specs.Laws.{GetGives}
use Rattle.keel_table.specs.Opening.{Covering, Damage, Opened, bad_shape, covering, opened, row_found}
use Rattle.keel_table.specs.Tables.{shown, number_of, entries_of}
use Rattle.keel_table.proofs.Spelled.{needs_ok}
use Rattle.keel_directory.specs.TableFiles.{TableFile, table_rows}
use Rattle.keel_levels.specs.Live.{IsReadable, IsTableAs, Yields}
use Rattle.keel_levels.proofs.Finding.{covered}

-- ---- answers

pub yields_more : {T : Type 0} {P Q : T → Type 0} → ((x : T) → P x → Q x) → (result : Result T TableFault) → Yields P result → Yields Q result
yields_more f (Ok x) h = f x h
yields_more f (Err (fault.Device cause)) h = tt
yields_more f (Err fault.Absent) h = absurd h
yields_more f (Err (fault.BadCheck stored computed)) h = absurd h
yields_more f (Err (fault.BadShape at)) h = absurd h
yields_more f (Err fault.OutOfMemory) h = tt

yields_and : {T : Type 0} {P Q R : T → Type 0} → ((x : T) → P x → Q x → R x) → (result : Result T TableFault) → IfOk result P → Yields Q result → Yields R result
yields_and f (Ok x) p h = f x p h
yields_and f (Err (fault.Device cause)) p h = tt
yields_and f (Err fault.Absent) p h = absurd h
yields_and f (Err (fault.BadCheck stored computed)) p h = absurd h
yields_and f (Err (fault.BadShape at)) p h = absurd h
yields_and f (Err fault.OutOfMemory) p h = tt

same_ok : {B : Type 0} (answer : List ℕ → Result B Damage) (bytes other : List ℕ) (x y : B) → (let b : Option (List ℕ) = Some bytes in b) ≡ Some other → answer bytes ≡ Ok x → answer other ≡ Ok y → x ≡ y
same_ok answer bytes other x y same one two = cc

not_damaged : {B : Type 0} (answer : List ℕ → Result B Damage) (bytes other : List ℕ) (x : B) (damage : Damage) → (let b : Option (List ℕ) = Some bytes in b) ≡ Some other → answer bytes ≡ Ok x → answer other ≡ Err damage → ⊥
not_damaged answer bytes other x damage same one two = cc

not_absent : (name : FileName) (told : Told) (bytes : List ℕ) → bytes_of name told ≡ Some bytes → file_of name told.state ≡ None → ⊥
not_absent name told bytes there none =
    let absent : bytes_of name told ≡ None = ap (λ (number : Option ℕ). option_map (λ n. (file_at n told.state.files).read) number) none in cc

-- of a file that is there what its bytes give is answered
pub by_cause : {A B : Type 0} (view : A → B) (answer : List ℕ → Result B Damage) (name : FileName) (told : Told) (result : Result A TableFault) (bytes : List ℕ) (value : B)
    → bytes_of name told ≡ Some bytes → answer bytes ≡ Ok value → Causes view answer name told result → Yields (λ x. view x ≡ value) result
by_cause view answer name told (Ok x) bytes value there is h = same_ok answer h.0 bytes (view x) value (sym h.1 ∙ there) h.2 is
by_cause view answer name told (Err (fault.Device cause)) bytes value there is h = tt
by_cause view answer name told (Err fault.Absent) bytes value there is h = not_absent name told bytes there h
by_cause view answer name told (Err (fault.BadCheck stored computed)) bytes value there is h = not_damaged answer bytes h.0 value _ (sym there ∙ h.1) is h.2
by_cause view answer name told (Err (fault.BadShape at)) bytes value there is h = not_damaged answer bytes h.0 value _ (sym there ∙ h.1) is h.2
by_cause view answer name told (Err fault.OutOfMemory) bytes value there is h = tt

pub is_there : (told : Told) (last_seq : ℕ) (file : TableFile) → IsReadable told last_seq file → bytes_of (TableName file.entry.number) told ≡ Some file.bytes
is_there told last_seq file readable = sym (image_has told (TableName file.entry.number)) ∙ readable.opens.there

-- ---- opening

sized : (b : Bool) (found : Result Opened Damage) (damage : Damage) (o : Opened) → cond b found (Err damage) ≡ Ok o → found ≡ Ok o
sized true found damage o e = e
sized false found damage o e = absurd cc

long_enough : (size : ℕ) (bytes : List ℕ) (o : Opened) → opened size bytes ≡ Ok o → 52 ≤ size
unfolding opened
long_enough size bytes o e = leb-true 52 size (needs_ok (nat_le 52 size) 0 _ o e).0

pub opens : (told : Told) (last_seq : ℕ) (file : TableFile) (entry : Added) (result : Result Table TableFault) → IsReadable told last_seq file → entry ≡ file.entry
    → (52 ≤ entry.size → Answers shown (opened entry.size) entry.number (Some told) result) → IfOk result (λ table. number_of table ≡ entry.number) → Yields (IsTableAs file) result
opens told last_seq file entry result readable is answers number =
    let found : opened file.entry.size file.bytes ≡ Ok file.file = sized (eqb (length file.bytes) file.entry.size) (opened file.entry.size file.bytes) (bad_shape 0) file.file readable.opens.opens in
    let found_as : opened entry.size file.bytes ≡ Ok file.file = ap (λ (a : Added). opened a.size file.bytes) is ∙ found in
    let there : bytes_of (TableName entry.number) told ≡ Some file.bytes = ap (λ (a : Added). bytes_of (TableName a.number) told) is ∙ is_there told last_seq file readable in
    let shows = by_cause shown (opened entry.size) (TableName entry.number) told result file.bytes file.file there found_as (answers (long_enough entry.size file.bytes file.file found_as)) in
    yields_and {P = λ (table : Table). number_of table ≡ entry.number} {Q = λ (table : Table). shown table ≡ file.file} {R = IsTableAs file}
    (λ table n s. record { number = n ∙ ap (λ (a : Added). a.number) is; shows = s }) result number shows

-- ---- the row of a key

by_covering : (bytes key : List ℕ) (row : Option Row) (c : Option Covering) (number : ℕ) (told : Told) (result : Result (Option Row) TableFault) → bytes_of (TableName number) told ≡ Some bytes → GetGives bytes key row c
    → GetAnswers c key number (Some told) result → Yields (λ r. r ≡ row) result
by_covering bytes key row None number told result there gives answers = subst (Yields (λ (r : Option Row). r ≡ row)) (sym answers) (sym gives)
by_covering bytes key row (Some c) number told result there gives answers = by_cause (λ (r : Option Row). r) (row_found c key) (TableName number) told result bytes row there gives answers

pub gets : (told : Told) (last_seq : ℕ) (file : TableFile) (table : Table) (key : List ℕ) (result : Result (Option Row) TableFault) → IsReadable told last_seq file → IsTableAs file table
    → GetAnswers (covering [] (entries_of table) key) key (number_of table) (Some told) result → Yields (λ row. row ≡ newest key (table_rows file)) result
gets told last_seq file table key result readable is_table answers =
    let entries : entries_of table ≡ file.file.entries = ap (λ (o : Opened). o.entries) is_table.shows in
    let there : bytes_of (TableName (number_of table)) told ≡ Some file.bytes = ap (λ (n : ℕ). bytes_of (TableName n) told) is_table.number ∙ is_there told last_seq file readable in
    let gives : GetGives file.bytes key (newest key (table_rows file)) (covering [] (entries_of table) key) =
    subst (λ (es : List BlockEntry). GetGives file.bytes key (newest key (table_rows file)) (covering [] es key)) (sym entries) (covered file.bytes [] file.file.entries key readable.said.whole) in
    by_covering file.bytes key (newest key (table_rows file)) (covering [] (entries_of table) key) (number_of table) told result there gives answers
