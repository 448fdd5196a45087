-- Files that a reading doesn't need.
use Rattle.std.proofs.Common.{◌≡◌, ℕ, Bool, false, List, [], ◌∷◌, Option, Some, None, Result, Ok, Err, refl, sym, ap, subst, ◌∙◌}
use Rattle.std.specs.Prelude.{is_some, is_none}
use Rattle.std.specs.List.{AllByRecursion}
use Rattle.keel_base.specs.declared.file_name.FileName.{FileName}
use Rattle.keel_base.specs.declared.file_name.FileName.TheVariants.{Manifest, Current}
use Rattle.keel_base.specs.Points.{Point}
use Rattle.keel_disk.specs.Directory.{Named, find}
use Rattle.keel_edit.specs.declared.edit.Added.{Added}
use Rattle.keel_version.specs.Tables.{Contents}
use Rattle.keel_directory.specs.Refusals.{Refusal}
use Rattle.keel_directory.specs.Manifests.{ManifestIs}
use Rattle.keel_directory.specs.TableFiles.{TableFile, AllOpen, TablesGive, TablesAre, refusal_of, least, bytes_of, damage_in, damage_of}
use Rattle.keel_directory.specs.declared.logs.LogFile.{LogFile}
use Rattle.keel_directory.specs.Replays.{AreRead, Replay, logs_from}
use Rattle.keel_directory.specs.Reading.{StoreRead, LogsOf, TablesOf, VersionOf, ManifestOf, FoundBy, new, held, PointOf, WithCurrent, IsReading, first_used, without_current}
use Rattle.keel_directory.specs.Laws.{SameNeeded}

abbrev found : StoreRead → Result StoreRead Refusal
found f = Ok f

abbrev refuse : Refusal → Result StoreRead Refusal
refuse r = Err r

differ : (f : StoreRead) (r : Refusal) → found f ≡ refuse r → ⊥
differ f r e = cc

found_is : (f g : StoreRead) → found f ≡ found g → f ≡ g
found_is f g e = cc

-- ---- what the parts are

record Parts (f : StoreRead) (m : ℕ) (v : Contents) : Type 0 where
  manifest : f.manifest ≡ m
  version : f.version ≡ v

logs_said : (a : Named (List ℕ)) (m : ℕ) (v : Contents) (ts : List TableFile) (logs : Result Replay Refusal) (f : StoreRead) → LogsOf a m v ts logs (Ok f) → Parts f m v
logs_said a m v ts (Ok logs) f h =
    let e = found_is f (record { manifest = m; version = v; tables = ts; replay = logs }) h in
    record { manifest = ap (λ (g : StoreRead). g.manifest) e; version = ap (λ (g : StoreRead). g.version) e }
logs_said a m v ts (Err r) f h = absurd (differ f r h)

tables_said : (a : Named (List ℕ)) (m : ℕ) (v : Contents) (ts : Result (List TableFile) Refusal) (f : StoreRead) → TablesOf a m v ts (Ok f) → Parts f m v
tables_said a m v (Ok ts) f h = logs_said a m v ts h.0 f h.2
tables_said a m v (Err r) f h = absurd (differ f r h)

-- ---- the parts in another directory

least_none : (finds : Added → Bool) (ts : List Added) → AllByRecursion (λ t. finds t ≡ false) ts → least finds ts ≡ None
least_none finds [] h = refl
least_none finds (t ∷ ts) h = rw h.0 (least_none finds ts h.1)

none_missing : (b : Named (List ℕ)) (ts : List Added) (cs : List TableFile) → AllOpen b ts cs → AllByRecursion (λ t. is_none (bytes_of b t) ≡ false) ts
none_missing b [] cs h = tt
none_missing b (t ∷ ts) [] h = absurd h
none_missing b (t ∷ ts) (c ∷ cs) h = (ap is_none h.0.there, none_missing b ts cs h.1)

none_damaged : (b : Named (List ℕ)) (ts : List Added) (cs : List TableFile) → AllOpen b ts cs → AllByRecursion (λ t. is_some (damage_in t.size (bytes_of b t)) ≡ false) ts
none_damaged b [] cs h = tt
none_damaged b (t ∷ ts) [] h = absurd h
none_damaged b (t ∷ ts) (c ∷ cs) h =
    (ap (λ (o : Option (List ℕ)). is_some (damage_in t.size o)) h.0.there ∙ ap (λ o. is_some (damage_of o)) h.0.opens, none_damaged b ts cs h.1)

none_refused : (b : Named (List ℕ)) (ts : List Added) (cs : List TableFile) → AllOpen b ts cs → refusal_of b ts ≡ None
none_refused b ts cs h =
    rw (least_none (λ t. is_none (bytes_of b t)) ts (none_missing b ts cs h), least_none (λ t. is_some (damage_in t.size (bytes_of b t))) ts (none_damaged b ts cs h)) refl

open_moves : (a b : Named (List ℕ)) (ts : List Added) (cs : List TableFile) → AllByRecursion (λ t. bytes_of a t ≡ bytes_of b t) ts → AllOpen a ts cs → AllOpen b ts cs
open_moves a b [] [] same h = tt
open_moves a b [] (c ∷ cs) same h = absurd h
open_moves a b (t ∷ ts) [] same h = absurd h
open_moves a b (t ∷ ts) (c ∷ cs) same h =
    (record { entry = h.0.entry; there = sym same.0 ∙ h.0.there; opens = h.0.opens }, open_moves a b ts cs same.1 h.1)

abbrev opened : List TableFile → Result (List TableFile) Refusal
opened cs = Ok cs

abbrev shut : Refusal → Result (List TableFile) Refusal
shut r = Err r

no_refusal : (cs : List TableFile) (r : Refusal) → opened cs ≡ shut r → ⊥
no_refusal cs r e = cc

all_open : (first : Option Refusal) (a : Named (List ℕ)) (ts : List Added) (cs : List TableFile) → TablesGive first a ts (Ok cs) → AllOpen a ts cs
all_open None a ts cs h = h
all_open (Some r) a ts cs h = absurd (no_refusal cs r h)

tables_move : (a b : Named (List ℕ)) (ts : List Added) (cs : List TableFile) → AllByRecursion (λ t. bytes_of a t ≡ bytes_of b t) ts → TablesAre a ts (Ok cs) → TablesAre b ts (Ok cs)
tables_move a b ts cs same h =
    let moved = open_moves a b ts cs same (all_open (refusal_of a ts) a ts cs h) in
    subst (λ (first : Option Refusal). TablesGive first b ts (Ok cs)) (sym (none_refused b ts cs moved)) moved

logs_move : (a b : Named (List ℕ)) (m : ℕ) (v : Contents) (ts : List TableFile) (logs : Result Replay Refusal) (f : StoreRead) → LogsOf a m v ts logs (Ok f) → LogsOf b m v ts logs (Ok f)
logs_move a b m v ts (Ok logs) f h = h
logs_move a b m v ts (Err r) f h = h

record Same (a b : Named (List ℕ)) (v : Contents) : Type 0 where
  tables : AllByRecursion (λ t. bytes_of a t ≡ bytes_of b t) v.tables
  logs : logs_from v.min_log a ≡ logs_from v.min_log b

version_moves : (a b : Named (List ℕ)) (m : ℕ) (v : Contents) (ts : Result (List TableFile) Refusal) (f : StoreRead) → Same a b v → TablesAre a v.tables ts → TablesOf a m v ts (Ok f) → VersionOf b m (Ok v) (Ok f)
version_moves a b m v (Err r) f same t h = absurd (differ f r h)
version_moves a b m v (Ok ts) f same t h = (
  Ok ts,
  tables_move a b v.tables ts same.tables t,
  (h.0, (h.1.0, subst (λ (files : List LogFile). AreRead files h.1.0) same.logs h.1.1, h.1.2), logs_move a b m v ts h.0 f h.2),
)

manifest_moves : (a b : Named (List ℕ)) (m : ℕ) (v : Result Contents Refusal) (f : StoreRead) → SameNeeded f a b → ManifestIs (find (Manifest m) a) v → VersionOf a m v (Ok f) → ManifestOf b (Ok m) (Ok f)
manifest_moves a b m (Err r) f same w h = absurd (differ f r h)
manifest_moves a b m (Ok v) f same w h =
    let p = tables_said a m v h.0 f h.2 in
    let file : find (Manifest m) a ≡ find (Manifest m) b = subst (λ (n : ℕ). find (Manifest n) a ≡ find (Manifest n) b) p.manifest same.manifest in
    let kept : Same a b v = subst (λ (u : Contents). Same a b u) p.version (record { tables = same.tables; logs = same.logs }) in
    (Ok v, subst (λ (o : Option (List ℕ)). ManifestIs o (Ok v)) file w, version_moves a b m v h.0 f kept h.1 h.2)

found_moves : (a b : Named (List ℕ)) (m : Result ℕ Refusal) (f : StoreRead) → SameNeeded f a b → ManifestOf a m (Ok f) → ManifestOf b m (Ok f)
found_moves a b (Err r) f same h = absurd (differ f r h)
found_moves a b (Ok m) f same h = manifest_moves a b m h.0 f same h.1 h.2

not_held : (o : Option FileName) (f : StoreRead) (p : Point) → held f p ≡ without_current o → ⊥
not_held None f p e = cc
not_held (Some n) f p e = cc

point_moves : (a b : Named (List ℕ)) (current : List ℕ) (answer : Result StoreRead Refusal) (f : StoreRead) (p : Point) → SameNeeded f a b → FoundBy a current answer → PointOf answer (held f p) → FoundBy b current answer
point_moves a b current (Err r) f p same h k = absurd k
point_moves a b current (Ok g) f p same h k =
    (h.0, h.1, found_moves a b h.0 g (subst (λ (x : StoreRead). SameNeeded x a b) k.0 same) h.2)

with_moves : (a b : Named (List ℕ)) (o : Option (List ℕ)) (f : StoreRead) (p : Point) → SameNeeded f a b → WithCurrent a o (held f p) → WithCurrent b o (held f p)
with_moves a b None f p same h = absurd (not_held (first_used a) f p h)
with_moves a b (Some current) f p same h = (h.0, point_moves a b current h.0 f p same h.1 h.2, h.2)

pub unneeded : (a b : Named (List ℕ)) (f : StoreRead) (p : Point) → IsReading a (held f p) → SameNeeded f a b → IsReading b (held f p)
unfolding IsReading
unneeded a b f p h same =
    subst (λ (o : Option (List ℕ)). WithCurrent b o (held f p)) same.current (with_moves a b (find Current a) f p same h)

pub new_read : (image : Named (List ℕ)) → find Current image ≡ None → first_used image ≡ None → IsReading image new
unfolding IsReading
new_read image absent unused = rw (absent, unused) refl
