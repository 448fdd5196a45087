-- What several steps of reading answer together.
use Rattle.std.proofs.Common.{◌≡◌, ℕ, ◌≤◌, List, Option, Some, None, Result, Ok, Err, refl, sym, ap, ◌∙◌}
use Rattle.std.proofs.lemmas.Bool.{le-leb}
use Rattle.keel_disk.specs.Told.{Told}
use Rattle.keel_base.specs.declared.file_name.FileName.TheVariants.{Table as TableName}
use Rattle.keel_table.specs.declared.fault.TableFault.{TableFault}
use Rattle.keel_table.specs.declared.fault.TableFault.TheVariants as fault
use Rattle.keel_table.specs.declared.index.BlockEntry.{BlockEntry}
use Rattle.keel_table.specs.declared.index.Footer.{Footer}
use Rattle.keel_table.specs.Opening.{Damage, bad_check, bad_shape, and_then, footer_found, entries_found, Opened, opened_with, opened}
use Rattle.keel_table.specs.Answers.{Finds, Gives, Causes, Answers}

-- a value found in the bytes of a step before
causes_behind : {A B C : Type 0} (view : A → C) (first : List ℕ → Result B Damage) (next : B → Result C Damage) (number : ℕ) (told : Told) (x : B) (result : Result A TableFault)
    → Gives first (TableName number) told (Ok x) → Finds view result (next x) → Causes view (λ bytes. and_then (first bytes) next) (TableName number) told result
causes_behind view first next number told x (Ok value) h k = (h.0, h.1, rw h.2 k)
causes_behind view first next number told x (Err (fault.Device f)) h k = tt
causes_behind view first next number told x (Err fault.Absent) h k = absurd k
causes_behind view first next number told x (Err (fault.BadCheck stored computed)) h k = (h.0, h.1, rw h.2 k)
causes_behind view first next number told x (Err (fault.BadShape at)) h k = (h.0, h.1, rw h.2 k)
causes_behind view first next number told x (Err fault.OutOfMemory) h k = tt

pub found_behind : {A B C : Type 0} (view : A → C) (first : List ℕ → Result B Damage) (next : B → Result C Damage) (number : ℕ) (told : Option Told) (x : B) (result : Result A TableFault)
    → Answers (λ (b : B). b) first number told (Ok x) → Finds view result (next x) → Answers view (λ bytes. and_then (first bytes) next) number told result
found_behind view first next number None x result h k = tt
found_behind view first next number (Some told) x result h k = causes_behind view first next number told x result h k

-- a step that fails is the end
causes_failed : {A B C : Type 0} (view : A → C) (first : List ℕ → Result B Damage) (next : List ℕ → B → Result C Damage) (number : ℕ) (told : Told) (e : TableFault)
    → Causes {A = B} (λ (b : B). b) first (TableName number) told (Err e) → Causes {A = A} view (λ bytes. and_then (first bytes) (next bytes)) (TableName number) told (Err e)
causes_failed view first next number told (fault.Device f) h = tt
causes_failed view first next number told fault.Absent h = h
causes_failed view first next number told (fault.BadCheck stored computed) h = (h.0, h.1, rw h.2 refl)
causes_failed view first next number told (fault.BadShape at) h = (h.0, h.1, rw h.2 refl)
causes_failed view first next number told fault.OutOfMemory h = tt

pub failed_behind : {A B C : Type 0} (view : A → C) (first : List ℕ → Result B Damage) (next : List ℕ → B → Result C Damage) (number : ℕ) (told : Option Told) (e : TableFault)
    → Answers {A = B} (λ (b : B). b) first number told (Err e) → Answers {A = A} view (λ bytes. and_then (first bytes) (next bytes)) number told (Err e)
failed_behind view first next number None e h = tt
failed_behind view first next number (Some told) e h = causes_failed view first next number told e h

-- ---- two reads of one file

abbrev bytes_found : List ℕ → Option (List ℕ)
bytes_found bytes = Some bytes

bytes_are : (x y : List ℕ) → bytes_found x ≡ bytes_found y → x ≡ y
bytes_are x y e = cc

gives_next : {B C : Type 0} (first : List ℕ → Result B Damage) (next : List ℕ → B → Result C Damage) (number : ℕ) (told : Told) (x : B) (found : Result C Damage)
    → Gives first (TableName number) told (Ok x) → Gives (λ bytes. next bytes x) (TableName number) told found → Gives (λ bytes. and_then (first bytes) (next bytes)) (TableName number) told found
gives_next first next number told x found h k =
    let same : h.0 ≡ k.0 = bytes_are h.0 k.0 (sym h.1 ∙ k.1) in
    (h.0, h.1, rw h.2 (ap (λ (bytes : List ℕ). next bytes x) same ∙ k.2))

causes_next : {A B C : Type 0} (view : A → C) (first : List ℕ → Result B Damage) (next : List ℕ → B → Result C Damage) (number : ℕ) (told : Told) (x : B) (result : Result A TableFault)
    → Gives first (TableName number) told (Ok x) → Causes view (λ bytes. next bytes x) (TableName number) told result → Causes view (λ bytes. and_then (first bytes) (next bytes)) (TableName number) told result
causes_next view first next number told x (Ok value) h k = gives_next first next number told x (Ok (view value)) h k
causes_next view first next number told x (Err (fault.Device f)) h k = tt
causes_next view first next number told x (Err fault.Absent) h k = k
causes_next view first next number told x (Err (fault.BadCheck stored computed)) h k = gives_next first next number told x (Err (bad_check stored computed)) h k
causes_next view first next number told x (Err (fault.BadShape at)) h k = gives_next first next number told x (Err (bad_shape at)) h k
causes_next view first next number told x (Err fault.OutOfMemory) h k = tt

pub found_next : {A B C : Type 0} (view : A → C) (first : List ℕ → Result B Damage) (next : List ℕ → B → Result C Damage) (number : ℕ) (told : Option Told) (x : B) (result : Result A TableFault)
    → Answers (λ (b : B). b) first number told (Ok x) → Answers view (λ bytes. next bytes x) number told result → Answers view (λ bytes. and_then (first bytes) (next bytes)) number told result
found_next view first next number None x result h k = tt
found_next view first next number (Some told) x result h k = causes_next view first next number told x result h k

-- ---- opening

opened_ok_in : {A : Type 0} (view : A → Opened) (size number : ℕ) (told : Told) (footer : Footer) (entries : List BlockEntry) (x : A) → 52 ≤ size → view x ≡ opened_with footer entries
    → Gives (footer_found size) (TableName number) told (Ok footer) → Gives (entries_found footer) (TableName number) told (Ok entries) → Gives (opened size) (TableName number) told (Ok (view x))
unfolding opened
opened_ok_in view size number told footer entries x le is h k =
    let same : h.0 ≡ k.0 = bytes_are h.0 k.0 (sym h.1 ∙ k.1) in
    let listed : entries_found footer h.0 ≡ Ok entries = ap (entries_found footer) same ∙ k.2 in
    (h.0, h.1, rw (le-leb 52 size le, h.2, listed) (ap (λ (o : Opened). Ok o) (sym is)))

pub opened_ok : {A : Type 0} (view : A → Opened) (size number : ℕ) (told : Option Told) (footer : Footer) (entries : List BlockEntry) (x : A) → 52 ≤ size → view x ≡ opened_with footer entries
    → Answers (λ (f : Footer). f) (footer_found size) number told (Ok footer) → Answers (λ (es : List BlockEntry). es) (entries_found footer) number told (Ok entries) → Answers view (opened size) number told (Ok x)
opened_ok view size number None footer entries x le is h k = tt
opened_ok view size number (Some told) footer entries x le is h k = opened_ok_in view size number told footer entries x le is h k

no_footer : (size : ℕ) (bytes : List ℕ) (d : Damage) → 52 ≤ size → footer_found size bytes ≡ Err d → opened size bytes ≡ Err d
unfolding opened
no_footer size bytes d le h = rw (le-leb 52 size le, h) refl

no_entries : (size : ℕ) (bytes : List ℕ) (footer : Footer) (d : Damage) → 52 ≤ size → footer_found size bytes ≡ Ok footer → entries_found footer bytes ≡ Err d → opened size bytes ≡ Err d
unfolding opened
no_entries size bytes footer d le h k = rw (le-leb 52 size le, h, k) refl

failed_in : {A : Type 0} (view : A → Opened) (size number : ℕ) (told : Told) (e : TableFault) → 52 ≤ size
    → Causes {A = Footer} (λ (f : Footer). f) (footer_found size) (TableName number) told (Err e) → Causes {A = A} view (opened size) (TableName number) told (Err e)
failed_in view size number told (fault.Device f) le h = tt
failed_in view size number told fault.Absent le h = h
failed_in view size number told (fault.BadCheck stored computed) le h = (h.0, h.1, no_footer size h.0 (bad_check stored computed) le h.2)
failed_in view size number told (fault.BadShape at) le h = (h.0, h.1, no_footer size h.0 (bad_shape at) le h.2)
failed_in view size number told fault.OutOfMemory le h = tt

pub opened_no_footer : {A : Type 0} (view : A → Opened) (size number : ℕ) (told : Option Told) (e : TableFault) → 52 ≤ size
    → Answers {A = Footer} (λ (f : Footer). f) (footer_found size) number told (Err e) → Answers {A = A} view (opened size) number told (Err e)
opened_no_footer view size number None e le h = tt
opened_no_footer view size number (Some told) e le h = failed_in view size number told e le h

damaged_in : (size number : ℕ) (told : Told) (footer : Footer) (d : Damage) → 52 ≤ size → Gives (footer_found size) (TableName number) told (Ok footer)
    → Gives (entries_found footer) (TableName number) told (Err d) → Gives (opened size) (TableName number) told (Err d)
damaged_in size number told footer d le h k =
    let same : h.0 ≡ k.0 = bytes_are h.0 k.0 (sym h.1 ∙ k.1) in
    (h.0, h.1, no_entries size h.0 footer d le h.2 (ap (entries_found footer) same ∙ k.2))

unlisted_in : {A : Type 0} (view : A → Opened) (size number : ℕ) (told : Told) (footer : Footer) (e : TableFault) → 52 ≤ size → Gives (footer_found size) (TableName number) told (Ok footer)
    → Causes {A = List BlockEntry} (λ (es : List BlockEntry). es) (entries_found footer) (TableName number) told (Err e) → Causes {A = A} view (opened size) (TableName number) told (Err e)
unlisted_in view size number told footer (fault.Device f) le h k = tt
unlisted_in view size number told footer fault.Absent le h k = k
unlisted_in view size number told footer (fault.BadCheck stored computed) le h k = damaged_in size number told footer (bad_check stored computed) le h k
unlisted_in view size number told footer (fault.BadShape at) le h k = damaged_in size number told footer (bad_shape at) le h k
unlisted_in view size number told footer fault.OutOfMemory le h k = tt

pub opened_no_entries : {A : Type 0} (view : A → Opened) (size number : ℕ) (told : Option Told) (footer : Footer) (e : TableFault) → 52 ≤ size → Answers (λ (f : Footer). f) (footer_found size) number told (Ok footer)
    → Answers {A = List BlockEntry} (λ (es : List BlockEntry). es) (entries_found footer) number told (Err e) → Answers {A = A} view (opened size) number told (Err e)
opened_no_entries view size number None footer e le h k = tt
opened_no_entries view size number (Some told) footer e le h k = unlisted_in view size number told footer e le h k
