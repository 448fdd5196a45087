-- What a listing says, where the device tells it.
use Rattle.std.proofs.Common.{◌≡◌, ℕ, List, length, Option, Some, None, Ok, option_map, refl, sym, ◌∙◌}
use Rattle.keel_base.specs.declared.file_name.FileName.{FileName}
use Rattle.keel_base.specs.declared.file_name.FileName.TheVariants.{Log}
use Rattle.keel_base.specs.declared.listing.Entry.{Entry}
use Rattle.keel_base.specs.Name.{IsName}
use Rattle.keel_disk.specs.Directory.{find}
use Rattle.keel_disk.specs.Listings.{IsListing, size_listed}
use Rattle.keel_disk.specs.Plain.{image_read}
use Rattle.keel_disk.specs.Told.{Told, TellsListing, TellsSize, bytes_of}
use Rattle.keel_listing.specs.declared.logs.ListedLog.{ListedLog}
use Rattle.keel_listing.specs.Logs.{IsNextLog}
use Rattle.keel_listing.proofs.Files.{image_has}
use Rattle.keel_listing.proofs.Names.{listed_name}

pub listed_none : (told : Told) (listing : List Entry) → TellsListing (Some told) listing → (name : FileName) → IsName name → size_listed name listing ≡ None → find name (image_read told.state) ≡ None
listed_none told listing tells name is e = image_has told name ∙ absent (bytes_of name told) (sym (tells name is) ∙ e)
  where
    absent : (bytes : Option (List ℕ)) → option_map length bytes ≡ None → bytes ≡ None
    absent None e = refl
    absent (Some bytes) e = absurd cc

pub listed_some : (told : Told) (listing : List Entry) → TellsListing (Some told) listing → (name : FileName) → IsName name → (size : ℕ) → size_listed name listing ≡ Some size
    → (bytes : List ℕ) × (find name (image_read told.state) ≡ Some bytes)
listed_some told listing tells name is size e =
    let h = there (bytes_of name told) (sym (tells name is) ∙ e) in
    (h.0, image_has told name ∙ h.1)
  where
    there : (bytes : Option (List ℕ)) → option_map length bytes ≡ Some size → (all : List ℕ) × (bytes ≡ Some all)
    there None e = absurd cc
    there (Some bytes) e = (bytes, refl)

-- ---- the next log

pub log_is_name : (listing : List Entry) (least : ℕ) (log : ListedLog) → IsListing listing → IsNextLog listing least log → IsName (Log log.number)
log_is_name listing least log order next = listed_name listing (Log log.number) log.size order.are_names next.listed

pub tells_size : (told : Option Told) (listing : List Entry) (least : ℕ) (log : ListedLog) → TellsListing told listing → IsListing listing → IsNextLog listing least log → TellsSize (Log log.number) told (Ok log.size)
tells_size None listing least log tells order next = tt
tells_size (Some told) listing least log tells order next = sym (tells (Log log.number) (log_is_name listing least log order next)) ∙ next.listed
