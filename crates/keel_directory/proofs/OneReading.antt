-- A directory has one reading.
use Rattle.std.proofs.Common.{◌≡◌, ℕ, List, [], ◌∷◌, Option, Some, None, Result, Ok, Err, refl, sym, ap, subst, ◌∙◌}
use Rattle.std.specs.FinMap.{same_map, slice_cmp-IsAntisymmetric, nat_cmp-IsAntisymmetric}
use Rattle.std.specs.Cmp.Lexicographic.{nat_list_cmp_total}
use Rattle.keel_base.specs.declared.row.Row.{Row}
use Rattle.keel_base.specs.declared.file_name.FileName.TheVariants.{Manifest, Current}
use Rattle.keel_base.specs.Points.{Point, Values}
use Rattle.keel_base.specs.Rows.{IsMapOf}
use Rattle.keel_name.proofs.Currents.{one_manifest}
use Rattle.keel_frag.specs.declared.record.LogRecord.{LogRecord}
use Rattle.keel_frag.specs.Pieces.{Progress}
use Rattle.keel_frag.specs.Reading.{AreRecords}
use Rattle.keel_frag.proofs.Fronts.{one_reading}
use Rattle.keel_disk.specs.Directory.{Named, find}
use Rattle.keel_edit.specs.declared.edit.Added.{Added}
use Rattle.keel_version.specs.Tables.{Contents}
use Rattle.keel_directory.specs.Refusals.{Refusal}
use Rattle.keel_directory.specs.Manifests.{CurrentIs, ManifestIs, version_of}
use Rattle.keel_directory.specs.TableFiles.{TableFile, open_sized, Opens, AllOpen, TablesGive, refusal_of}
use Rattle.keel_directory.specs.declared.logs.LogFile.{LogFile}
use Rattle.keel_directory.specs.Replays.{ReadLog, AreRead, Replay, LogsAre, logs_from, replay}
use Rattle.keel_directory.specs.Reading.{StoreRead, LogsOf, TablesOf, VersionOf, ManifestOf, FoundBy, Reading, new, held, refused, PointOf, WithCurrent, IsReading, all_rows}

abbrev some : {A : Type 0} → A → Option A
some x = Some x

some_is : {A : Type 0} (x y : A) → some x ≡ some y → x ≡ y
some_is x y e = cc

abbrev ok : {A E : Type 0} → A → Result A E
ok x = Ok x

ok_is : {A E : Type 0} (x y : A) → ok {E = E} x ≡ ok y → x ≡ y
ok_is x y e = cc

-- ---- logs and the manifest

-- bytes have the same records in each reading
records_once : (bytes : List ℕ) (xs ys : List LogRecord) (m n : ℕ) → AreRecords bytes xs m → AreRecords bytes ys n → xs ≡ ys
records_once bytes xs ys m n a b =
    let p : Progress = record { offset = m; done = xs; begun = a.0 } in
    let q : Progress = record { offset = n; done = ys; begun = b.0 } in
    ap (λ (r : Progress). r.done) (one_reading bytes p q a.1 b.1)

log_is : (a b : ReadLog) (us bs : List ReadLog) → a.number ≡ b.number → a.records ≡ b.records → us ≡ bs → a ∷ us ≡ b ∷ bs
log_is a b us bs p q r = λ i. record { number = p i; records = q i } ∷ r i

logs_one : (files : List LogFile) (us bs : List ReadLog) → AreRead files us → AreRead files bs → us ≡ bs
logs_one [] [] [] h k = refl
logs_one [] (a ∷ us) bs h k = absurd h
logs_one [] [] (b ∷ bs) h k = absurd k
logs_one (f ∷ fs) [] bs h k = absurd h
logs_one (f ∷ fs) (a ∷ us) [] h k = absurd k
logs_one (f ∷ fs) (a ∷ us) (b ∷ bs) h k =
    log_is a b us bs (h.0.0 ∙ sym k.0.0) (records_once f.bytes a.records b.records h.0.1.0 k.0.1.0 h.0.1.1 k.0.1.1) (logs_one fs us bs h.1 k.1)

replay_one : (image : Named (List ℕ)) (least last : ℕ) (a b : Result Replay Refusal) → LogsAre image least last a → LogsAre image least last b → a ≡ b
replay_one image least last a b h k =
    let same = logs_one (logs_from least image) h.0 k.0 h.1 k.1 in
    h.2 ∙ ap (replay last) same ∙ sym k.2

version_one : (file : Option (List ℕ)) (a b : Result Contents Refusal) → ManifestIs file a → ManifestIs file b → a ≡ b
version_one None a b h k = h ∙ sym k
version_one (Some bytes) a b h k = h.3 ∙ ap version_of (records_once bytes h.0 k.0 h.1 k.1 h.2 k.2) ∙ sym k.3

abbrev refuse : {A : Type 0} → Refusal → Result A Refusal
refuse r = Err r

current_one : (bytes : List ℕ) (a b : Result ℕ Refusal) → CurrentIs bytes a → CurrentIs bytes b → a ≡ b
current_one bytes (Ok m) (Ok n) h k = ap (λ (x : ℕ). ok x) (one_manifest bytes m n h k)
current_one bytes (Ok m) (Err r) h k = absurd (k.0 m h)
current_one bytes (Err r) (Ok n) h k = absurd (h.0 n k)
current_one bytes (Err r) (Err s) h k = ap (λ (x : Refusal). refuse x) (h.1 ∙ sym k.1)

-- ---- tables

file_is : (t u : TableFile) → t.entry ≡ u.entry → t.bytes ≡ u.bytes → t.file ≡ u.file → t ≡ u
file_is t u p q r = λ i. record { entry = p i; bytes = q i; file = r i }

opens_one : (image : Named (List ℕ)) (table : Added) (t u : TableFile) → Opens image table t → Opens image table u → t ≡ u
opens_one image table t u h k =
    let b : t.bytes ≡ u.bytes = some_is t.bytes u.bytes (sym h.there ∙ k.there) in
    let f : t.file ≡ u.file = ok_is t.file u.file (sym h.opens ∙ ap (open_sized table.size) b ∙ k.opens) in
    file_is t u (h.entry ∙ sym k.entry) b f

cons_is : (t u : TableFile) (ts us : List TableFile) → t ≡ u → ts ≡ us → t ∷ ts ≡ u ∷ us
cons_is t u ts us p q = cc

all_open_one : (image : Named (List ℕ)) (tables : List Added) (ts us : List TableFile) → AllOpen image tables ts → AllOpen image tables us → ts ≡ us
all_open_one image [] [] [] h k = refl
all_open_one image [] (t ∷ ts) us h k = absurd h
all_open_one image [] [] (u ∷ us) h k = absurd k
all_open_one image (a ∷ as_) [] us h k = absurd h
all_open_one image (a ∷ as_) (t ∷ ts) [] h k = absurd k
all_open_one image (a ∷ as_) (t ∷ ts) (u ∷ us) h k = cons_is t u ts us (opens_one image a t u h.0 k.0) (all_open_one image as_ ts us h.1 k.1)

tables_one : (first : Option Refusal) (image : Named (List ℕ)) (tables : List Added) (a b : Result (List TableFile) Refusal)
    → TablesGive first image tables a → TablesGive first image tables b → a ≡ b
tables_one (Some r) image tables a b h k = h ∙ sym k
tables_one None image tables (Err r) b h k = absurd h
tables_one None image tables (Ok ts) (Err r) h k = absurd k
tables_one None image tables (Ok ts) (Ok us) h k = ap (λ (x : List TableFile). ok x) (all_open_one image tables ts us h k)

-- ---- the parts one behind the other

logs_of_one : (image : Named (List ℕ)) (m : ℕ) (v : Contents) (tables : List TableFile) (logs : Result Replay Refusal) (a b : Result StoreRead Refusal)
    → LogsOf image m v tables logs a → LogsOf image m v tables logs b → a ≡ b
logs_of_one image m v tables (Ok logs) a b h k = h ∙ sym k
logs_of_one image m v tables (Err r) a b h k = h ∙ sym k

tables_of_one : (image : Named (List ℕ)) (m : ℕ) (v : Contents) (tables : Result (List TableFile) Refusal) (a b : Result StoreRead Refusal)
    → TablesOf image m v tables a → TablesOf image m v tables b → a ≡ b
tables_of_one image m v (Err r) a b h k = h ∙ sym k
tables_of_one image m v (Ok tables) a b h k =
    let same = replay_one image v.min_log v.last_seq h.0 k.0 h.1 k.1 in
    logs_of_one image m v tables k.0 a b (subst (λ (x : Result Replay Refusal). LogsOf image m v tables x a) same h.2) k.2

version_of_one : (image : Named (List ℕ)) (m : ℕ) (v : Result Contents Refusal) (a b : Result StoreRead Refusal) → VersionOf image m v a → VersionOf image m v b → a ≡ b
version_of_one image m (Err r) a b h k = h ∙ sym k
version_of_one image m (Ok v) a b h k =
    let same = tables_one (refusal_of image v.tables) image v.tables h.0 k.0 h.1 k.1 in
    tables_of_one image m v k.0 a b (subst (λ (x : Result (List TableFile) Refusal). TablesOf image m v x a) same h.2) k.2

manifest_of_one : (image : Named (List ℕ)) (m : Result ℕ Refusal) (a b : Result StoreRead Refusal) → ManifestOf image m a → ManifestOf image m b → a ≡ b
manifest_of_one image (Err r) a b h k = h ∙ sym k
manifest_of_one image (Ok m) a b h k =
    let same = version_one (find (Manifest m) image) h.0 k.0 h.1 k.1 in
    version_of_one image m k.0 a b (subst (λ (x : Result Contents Refusal). VersionOf image m x a) same h.2) k.2

found_one : (image : Named (List ℕ)) (current : List ℕ) (a b : Result StoreRead Refusal) → FoundBy image current a → FoundBy image current b → a ≡ b
found_one image current a b h k =
    let same = current_one current h.0 k.0 h.1 k.1 in
    manifest_of_one image k.0 a b (subst (λ (x : Result ℕ Refusal). ManifestOf image x a) same h.2) k.2

-- ---- the point

map_one : (rows : List Row) (m n : Values) → IsMapOf rows m → IsMapOf rows n → m ≡ n
map_one rows m n h k = same_map nat_list_cmp_total (slice_cmp-IsAntisymmetric nat_cmp-IsAntisymmetric) m n (λ key. h key ∙ sym (k key))

held_is : (f g : StoreRead) (p q : Point) → f ≡ g → p.values ≡ q.values → p.seq ≡ q.seq → held f p ≡ held g q
held_is f g p q e v s = λ i. held (e i) (record { values = v i; seq = s i })

point_one : (answer : Result StoreRead Refusal) (a b : Reading) → PointOf answer a → PointOf answer b → a ≡ b
point_one (Ok found) new b h k = absurd h
point_one (Ok found) (refused r) b h k = absurd h
point_one (Ok found) (held f p) new h k = absurd k
point_one (Ok found) (held f p) (refused r) h k = absurd k
point_one (Ok found) (held f p) (held g q) h k =
    held_is f g p q (h.0 ∙ sym k.0) (map_one (all_rows found) p.values q.values h.1 k.1) (h.2 ∙ sym k.2)
point_one (Err e) new b h k = absurd h
point_one (Err e) (held f p) b h k = absurd h
point_one (Err e) (refused r) new h k = absurd k
point_one (Err e) (refused r) (held g q) h k = absurd k
point_one (Err e) (refused r) (refused s) h k = ap refused (h ∙ sym k)

with_one : (image : Named (List ℕ)) (current : Option (List ℕ)) (a b : Reading) → WithCurrent image current a → WithCurrent image current b → a ≡ b
with_one image None a b h k = h ∙ sym k
with_one image (Some current) a b h k =
    let same = found_one image current h.0 k.0 h.1 k.1 in
    point_one k.0 a b (subst (λ (x : Result StoreRead Refusal). PointOf x a) same h.2) k.2

pub reading_one : (image : Named (List ℕ)) (a b : Reading) → IsReading image a → IsReading image b → a ≡ b
unfolding IsReading
reading_one image a b h k = with_one image (find Current image) a b h k
