-- What a directory holds short of its logs, part by part.
use Rattle.std.proofs.Common.{◌≡◌, ℕ, List, Option, Some, None, Ok, Err, refl, sym, ap, subst, ◌∙◌}
use Rattle.keel_base.specs.declared.file_name.FileName.{FileName}
use Rattle.keel_base.specs.declared.file_name.FileName.TheVariants.{Current, Manifest}
use Rattle.keel_base.specs.declared.listing.Entry.{Entry}
use Rattle.keel_disk.specs.Directory.{Named, find}
use Rattle.keel_disk.specs.Listings.{IsListing}
use Rattle.keel_disk.specs.Plain.{image_read}
use Rattle.keel_disk.specs.Told.{Told, TellsListing, bytes_of}
use Rattle.keel_listing.proofs.Files.{image_has}
use Rattle.keel_directory.specs.Manifests.{CurrentIs, ManifestIs}
use Rattle.keel_directory.specs.Reading.{IsReading, WithCurrent, FoundBy, first_used, refused, without_current}
use Rattle.keel_directory.specs.Refusals.{Refusal, no_current}
use Rattle.keel_directory.specs.TableFiles.{TablesAre, TablesGive, refusal_of}
use Rattle.keel_version.specs.Tables.{Contents, nothing}
use Rattle.keel_open.specs.declared.manifest.EditsFound.{EditsFound}
use Rattle.keel_open.specs.declared.refusal.OpenRefusal.{OpenRefusal}
use Rattle.keel_open.specs.declared.refusal.OpenRefusal.TheVariants as refusal
use Rattle.keel_open.specs.Bases.{NamesManifestIn, BaseTells}
use Rattle.keel_open.specs.Listed.{first_listed}
use Rattle.keel_open.specs.Manifests.{CurrentAnswers, CurrentTells, AreEditsOf, EditsAnswer, EditsTell}
use Rattle.keel_open.specs.Refusals.{Names}
use Rattle.keel_open.specs.TableAnswers.{TablesTell}
use Rattle.keel_open.proofs.Naming.{names_map}
use Rattle.keel_open.proofs.Using.{first_of_listing}

abbrev Refuses : Named (List ℕ) → OpenRefusal → Type 0
Refuses image e = Names e (λ refusal. IsReading image (refused refusal))

pub refused_by : (image : Named (List ℕ)) (current : List ℕ) (r : Refusal) → find Current image ≡ Some current → FoundBy image current (Err r) → IsReading image (refused r)
unfolding IsReading
refused_by image current r there found = subst (λ (bytes : Option (List ℕ)). WithCurrent image bytes (refused r)) (sym there) (Err r, found, refl)

-- ---- CURRENT

named_in : (image : Named (List ℕ)) (number : ℕ) (bytes : Option (List ℕ)) → find Current image ≡ bytes → CurrentAnswers bytes (Ok (Some number)) → NamesManifestIn image number
named_in image number None e h = absurd h
named_in image number (Some current) e h = record { current = current; there = e; names = h }

current_found : (told : Told) (number : ℕ) → CurrentTells (Some told) (Ok (Some number)) → NamesManifestIn (image_read told.state) number
current_found told number h = named_in (image_read told.state) number (bytes_of Current told) (image_has told Current) h

none_named : (bytes : Option (List ℕ)) → CurrentAnswers bytes (Ok None) → bytes ≡ None
none_named None h = refl
none_named (Some current) h = absurd h

refused_in : (image : Named (List ℕ)) (e : OpenRefusal) (bytes : Option (List ℕ)) → find Current image ≡ bytes → CurrentAnswers bytes (Err e) → Refuses image e
refused_in image e None there h = names_map e (λ r. ⊥) (λ r. IsReading image (refused r)) (λ r never. absurd never) h
refused_in image e (Some current) there h =
    names_map e (λ r. CurrentIs current (Err r)) (λ r. IsReading image (refused r)) (λ r is. refused_by image current r there (Err r, is, refl)) h

pub current_tells : (told : Option Told) (e : OpenRefusal) → CurrentTells told (Err e) → BaseTells told (Err e)
current_tells None e h = tt
current_tells (Some told) e h = λ directory. refused_in (image_read told.state) e (bytes_of Current told) (image_has told Current) h

-- ---- without CURRENT

no_current_read : (image : Named (List ℕ)) (file : FileName) → find Current image ≡ None → first_used image ≡ Some file → IsReading image (refused (no_current file))
unfolding IsReading
no_current_read image file none used =
    subst (λ (bytes : Option (List ℕ)). WithCurrent image bytes (refused (no_current file))) (sym none) (sym (ap without_current used))

pub used_tells : (told : Option Told) (listing : List Entry) (file : FileName) → IsListing listing → TellsListing told listing → CurrentTells told (Ok None) → Some file ≡ first_listed listing → BaseTells told (Err (refusal.NoCurrent file))
used_tells None listing file order tells none e = tt
used_tells (Some told) listing file order tells none e = λ directory.
    no_current_read (image_read told.state) file (image_has told Current ∙ none_named (bytes_of Current told) none) (first_of_listing told listing directory tells order ∙ sym e)

pub new_tells : (told : Option Told) (listing : List Entry) (version : Contents) (next : ℕ) (found : List Entry) → IsListing listing → TellsListing told listing → CurrentTells told (Ok None) → None ≡ first_listed listing → version ≡ nothing
    → BaseTells told (Ok (record { version = version; manifest = None; edits = 0; next_file = next; listing = found }))
new_tells None listing version next found order tells none e same = tt
new_tells (Some told) listing version next found order tells none e same = λ directory. record {
  no_current = image_has told Current ∙ none_named (bytes_of Current told) none;
  none_used = first_of_listing told listing directory tells order ∙ sym e;
  version = same;
  edits = refl;
}

-- ---- the manifest

pub edits_refused : (told : Option Told) (number : ℕ) (e : OpenRefusal) → CurrentTells told (Ok (Some number)) → EditsTell told number (Err e) → BaseTells told (Err e)
edits_refused None number e current h = tt
edits_refused (Some told) number e current h = λ directory.
    let image = image_read told.state in
    let names = current_found told number current in
    names_map e (λ r. ManifestIs (bytes_of (Manifest number) told) (Err r)) (λ r. IsReading image (refused r))
    (λ r is. refused_by image names.current r names.there
    (Ok number, names.names, (Err r, subst (λ (bytes : Option (List ℕ)). ManifestIs bytes (Err r)) (sym (image_has told (Manifest number))) is, refl))) (is_refused (bytes_of (Manifest number) told) e h)
  where
    is_refused : (bytes : Option (List ℕ)) (e : OpenRefusal) → EditsAnswer bytes (Err e) → Names e (λ r. ManifestIs bytes (Err r))
    is_refused None e h = h
    is_refused (Some bytes) e h = h

-- the bytes of a manifest that was read
record HasEdits (bytes : Option (List ℕ)) (found : EditsFound) : Type 0 where
  all : List ℕ
  there : bytes ≡ Some all
  edits : AreEditsOf all found

has_edits : (bytes : Option (List ℕ)) (found : EditsFound) → EditsAnswer bytes (Ok found) → HasEdits bytes found
has_edits None found h = absurd h
has_edits (Some bytes) found h = record { all = bytes; there = refl; edits = h }

gives_version : (bytes : Option (List ℕ)) (found : EditsFound) → HasEdits bytes found → ManifestIs bytes (Ok found.version)
gives_version bytes found h = subst (λ (o : Option (List ℕ)). ManifestIs o (Ok found.version)) (sym h.there) (h.edits.all, h.edits.end, h.edits.records, sym h.edits.version)

-- ---- the tables

tables_are : (image : Named (List ℕ)) (version : Contents) (r : Refusal) → refusal_of image version.tables ≡ Some r → TablesAre image version.tables (Err r)
tables_are image version r e = subst (λ (o : Option Refusal). TablesGive o image version.tables (Err r)) (sym e) refl

pub tables_refused : (told : Option Told) (number : ℕ) (found : EditsFound) (e : OpenRefusal) → CurrentTells told (Ok (Some number)) → EditsTell told number (Ok found) → TablesTell told found.version.tables (Err e) → BaseTells told (Err e)
tables_refused None number found e current edits h = tt
tables_refused (Some told) number found e current edits h = λ directory.
    let image = image_read told.state in
    let names = current_found told number current in
    let version = subst (λ (bytes : Option (List ℕ)). ManifestIs bytes (Ok found.version)) (sym (image_has told (Manifest number)))
    (gives_version (bytes_of (Manifest number) told) found (has_edits (bytes_of (Manifest number) told) found edits)) in
    names_map e (λ r. refusal_of image found.version.tables ≡ Some r) (λ r. IsReading image (refused r))
    (λ r is. refused_by image names.current r names.there (Ok number, names.names, (Ok found.version, version, (Err r, tables_are image found.version r is, refl)))) h

pub base_tells : (told : Option Told) (number : ℕ) (edits : EditsFound) (next : ℕ) (listing : List Entry) → CurrentTells told (Ok (Some number)) → EditsTell told number (Ok edits) → TablesTell told edits.version.tables (Ok tt)
    → BaseTells told (Ok (record { version = edits.version; manifest = Some number; edits = edits.count; next_file = next; listing = listing }))
base_tells None number edits next listing current given tables = tt
base_tells (Some told) number edits next listing current given tables = λ directory.
    let has = has_edits (bytes_of (Manifest number) told) edits given in
    record {
      names = current_found told number current;
      bytes = has.all;
      there = image_has told (Manifest number) ∙ has.there;
      edits = has.edits;
      tables = tables;
    }
