-- The reading of a store, made up of its parts.
use Rattle.std.proofs.Common.{◌≡◌, ℕ, Bool, true, false, List, [], ◌∷◌, length, Option, Some, None, Result, Ok, Err, refl, ap, subst, arith}
use Rattle.std.specs.Prelude.{MatchOption}
use Rattle.std.proofs.lemmas.Bool.{ne_eqb}
use Rattle.std.specs.List.{AllByRecursion}
use Rattle.keel_base.specs.declared.file_name.FileName.{FileName}
use Rattle.keel_base.specs.declared.file_name.FileName.TheVariants.{Log, Table, Trash, Manifest, Current, Temp}
use Rattle.keel_base.specs.Name.{listed_before}
use Rattle.keel_disk.specs.Directory.{Named}
use Rattle.keel_disk.specs.Plain.{image_read}
use Rattle.keel_disk.specs.Told.{Told}
use Rattle.keel_directory.specs.declared.logs.LogFile.{LogFile}
use Rattle.keel_directory.specs.Laws.{NamesUsed}
use Rattle.keel_directory.specs.Reading.{IsReading, first_used, is_used, refused}
use Rattle.keel_directory.specs.Refusals.{Refusal, bad_log, log_gap}
use Rattle.keel_directory.specs.Replays.{Replay, ReadLog, AreRead, LogsAre, LogsGive, logs_from, replay}
use Rattle.keel_directory.proofs.Those.{first_first}
use Rattle.keel_version.specs.Tables.{Contents}
use Rattle.keel_wal.specs.declared.reading.Replayed.{Replayed}
use Rattle.keel_wal.specs.declared.reading.ReplayError.{ReplayError}
use Rattle.keel_wal.specs.declared.reading.ReplayError.TheVariants as logs
use Rattle.keel_wal.specs.Replays.{ReplayAnswers, replay_of}
use Rattle.keel_open.specs.declared.base.BaseFound.{BaseFound}
use Rattle.keel_open.specs.declared.store.StoreFound.{StoreFound}
use Rattle.keel_open.specs.Bases.{IsNewStore, HoldsBy, BaseTells}
use Rattle.keel_open.specs.Stores.{refusal_of_logs, IsReadBy, StoreTells}
use Rattle.keel_open.proofs.Joining.{logs_complete, new_is_new}

-- ---- a new store's logs

never : (b : Bool) → b ≡ false → b ≡ true → ⊥
never true f t = cc
never false f t = cc

has_byte : (n b : ℕ) (bytes : List ℕ) → is_used (Log n, b ∷ bytes) ≡ true
has_byte n b bytes = rw (ne_eqb (length (b ∷ bytes)) 0 (λ e. omega (arith, e))) refl

no_logs : (image : Named (List ℕ)) → AllByRecursion (λ file. is_used file ≡ false) image → logs_from 0 image ≡ []
no_logs [] h = refl
no_logs ((Log n, []) ∷ image) h = no_logs image h.1
no_logs ((Log n, b ∷ bytes) ∷ image) h = absurd (never (is_used (Log n, b ∷ bytes)) h.0 (has_byte n b bytes))
no_logs ((Table n, bytes) ∷ image) h = absurd (let used = h.0 in cc)
no_logs ((Trash n, bytes) ∷ image) h = absurd (let used = h.0 in cc)
no_logs ((Manifest n, bytes) ∷ image) h = no_logs image h.1
no_logs ((Current, bytes) ∷ image) h = no_logs image h.1
no_logs ((Temp n, bytes) ∷ image) h = no_logs image h.1

all_unused : (image : Named (List ℕ)) (found : Option FileName) → found ≡ None
    → MatchOption found (AllByRecursion (λ file. is_used file ≡ false) image) (λ name. NamesUsed image name × AllByRecursion (λ file. is_used file ≡ true → listed_before file.0 name ≡ false) image)
    → AllByRecursion (λ file. is_used file ≡ false) image
all_unused image None e h = h
all_unused image (Some name) e h = absurd cc

abbrev pub Nothing : Result Replay Refusal → Type 0
Nothing answer = answer ≡ Ok (record { batches = []; last = 0 })

gives_nothing : (answer : Result Replay Refusal) (read : List ReadLog) → AreRead [] read → answer ≡ replay 0 read → Nothing answer
gives_nothing answer [] h e = e
gives_nothing answer (log ∷ read) h e = absurd h

new_gives_nothing : (image : Named (List ℕ)) (base : BaseFound) (answer : Result Replay Refusal) → IsNewStore image base → LogsAre image base.version.min_log base.version.last_seq answer → Nothing answer
new_gives_nothing image base answer new h =
    let none = no_logs image (all_unused image (first_used image) new.none_used (first_first image)) in
    let at_nothing = subst (λ (v : Contents). LogsAre image v.min_log v.last_seq answer) new.version h in
    let read = subst (λ (files : List LogFile). LogsGive files 0 answer) none at_nothing in
    gives_nothing answer read.0 read.1 read.2

-- ---- refusals

refused_with : (image : Named (List ℕ)) (base : BaseFound) (manifest : Option ℕ) (r : Refusal) → HoldsBy image manifest base → LogsAre image base.version.min_log base.version.last_seq (Err r) → IsReading image (refused r)
refused_with image base None r holds h = absurd (let nothing = new_gives_nothing image base (Err r) holds h in cc)
refused_with image base (Some number) r holds h = logs_complete image number base (Err r) holds h

pub logs_refused : (told : Option Told) (base : BaseFound) (e : ReplayError) → BaseTells told (Ok base) → ReplayAnswers told base.version.min_log base.version.last_seq (Err e) → StoreTells told (Err (refusal_of_logs e))
logs_refused None base e holds h = tt
logs_refused (Some told) base (logs.Device fault) holds h = λ directory. tt
logs_refused (Some told) base (logs.BadLog log at) holds h = λ directory.
    refused_with (image_read told.state) base base.manifest (bad_log log at) (holds directory) (h (record { names = directory.names; once = directory.once }))
logs_refused (Some told) base (logs.LogGap log expected found) holds h = λ directory.
    refused_with (image_read told.state) base base.manifest (log_gap log expected found) (holds directory) (h (record { names = directory.names; once = directory.once }))
logs_refused (Some told) base logs.OutOfMemory holds h = λ directory. tt

-- ---- what is found

abbrev pub store_of : BaseFound → Replayed → StoreFound
store_of base found = record {
  version = base.version;
  batches = found.batches;
  logs = found.logs;
  last_seq = found.last_seq;
  next_file = base.next_file;
  manifest = base.manifest;
  edits = base.edits;
  listing = base.listing;
}

abbrev batches_of : Result Replay Refusal → Replay → Replay
batches_of (Ok replay) other = replay
batches_of (Err refusal) other = other

read_with : (image : Named (List ℕ)) (base : BaseFound) (found : Replayed) (manifest : Option ℕ) → HoldsBy image manifest base → LogsAre image base.version.min_log base.version.last_seq (Ok (replay_of found))
    → IsReadBy image manifest (store_of base found)
read_with image base found None holds h =
    let nothing = new_gives_nothing image base (Ok (replay_of found)) holds h in
    let same = ap (λ (answer : Result Replay Refusal). batches_of answer (replay_of found)) nothing in
    record { base = holds; reads = new_is_new image base holds; batches = ap (λ (r : Replay). r.batches) same; last = ap (λ (r : Replay). r.last) same }
read_with image base found (Some number) holds h = record { base = holds; store = logs_complete image number base (Ok (replay_of found)) holds h }

pub store_tells : (told : Option Told) (base : BaseFound) (found : Replayed) → BaseTells told (Ok base) → ReplayAnswers told base.version.min_log base.version.last_seq (Ok found) → StoreTells told (Ok (store_of base found))
store_tells None base found holds h = tt
store_tells (Some told) base found holds h = λ directory.
    read_with (image_read told.state) base found base.manifest (holds directory) (h (record { names = directory.names; once = directory.once })).0
