-- What a directory shows of a device, behind so many operations.
use Rattle.std.specs.Prelude.{option_map, unwrap_or}
use Rattle.std.proofs.Common.{◌≡◌, ℕ, Bool, true, false, if◌then◌else◌, List, [], ◌∷◌, ◌++◌, length, take, Option, Some, None, refl, sym, ap, subst, ◌∙◌, arith, take_all}
use Rattle.std.proofs.lemmas.List.{length-append, take_at}
use Rattle.keel_base.specs.declared.file_name.FileName.{FileName}
use Rattle.keel_base.specs.declared.file_name.FileName.TheVariants.{Log}
use Rattle.keel_base.specs.Name.{name_eq}
use Rattle.keel_disk.specs.declared.state.File.{File}
use Rattle.keel_disk.specs.Directory.{Named, find, operated_all}
use Rattle.keel_disk.specs.State.{State, file_at, settled_through, directory_read, has_waiting_cut}
use Rattle.keel_disk.specs.Image.{IsFileImage, AreImages}
use Rattle.keel_disk.specs.Plain.{has_fragments, PlainWhere, ArePlain, bytes_read, image_read}
use Rattle.keel_disk.specs.Sound.{AreOwn, IsOneToOne}
use Rattle.keel_disk.specs.Steady.{file_behind, ReadsAsMeant, AllRead}
use Rattle.keel_disk.proofs.Imaging.{IsFileFound, IsFound, image_found, read_found}
use Rattle.keel_disk.proofs.Operating.{read_always, uncut_file, cut-first}
use Rattle.keel_directory.specs.Laws.{AreNamedOnce}
use Rattle.keel_frag.specs.Images.{IsImage, IsPlain}
use Rattle.keel_frag.proofs.Plainness.{fronts_are_plain}
use Rattle.keel_recovery.proofs.Emptying.{IsEmpty, empty_operated, read_operated}
use Rattle.keel_recovery.proofs.LogFiles.{log_bytes}

-- these bytes are a plain image of those meant, so many of them firm
pub record IsShown (meant : List ℕ) (firm : ℕ) (bytes : List ℕ) : Type 0 where
  pub is_image : IsImage firm meant bytes
  pub plain : IsPlain meant bytes

-- the directory has the name with bytes of its file
pub record HasShown (fragments : Bool) (file : File) (firm : ℕ) (found : Option (List ℕ)) : Type 0 where
  pub bytes : List ℕ
  pub there : found ≡ Some bytes
  pub is_image : IsImage firm file.meant bytes
  pub plain : fragments ≡ true → IsPlain file.meant bytes

-- How a directory shows a device: of each name that no cut of its file waits for, an image by what is firm; and no byte of
-- a log whose file is meant to hold none.
pub record Showing (firm_of : File → ℕ) (count : ℕ) (state : State) (image : Named (List ℕ)) : Type 0 where
  pub once : AreNamedOnce image
  pub named : (name : FileName) (file : ℕ) → file_behind count name state ≡ Some file → has_waiting_cut file state.waiting ≡ false
      → HasShown (has_fragments name) (file_at file state.files) (firm_of (file_at file state.files)) (find name image)
  pub empty : (number : ℕ) → ((file : ℕ) → file_behind count (Log number) state ≡ Some file → IsEmpty (file_at file state.files)) → log_bytes number image ≡ []

-- ---- names that stand once

find_image : (files : List File) (name : FileName) (directory : Named ℕ) (image : Named (List ℕ)) → AreImages files directory image → find name directory ≡ None → find name image ≡ None
find_image files name [] [] images none = refl
find_image files name [] (_ ∷ _) images none = absurd images
find_image files name (_ ∷ _) [] images none = absurd images
find_image files name (entry ∷ rest) (found ∷ image) images none =
    by (name_eq entry.0 name) refl none (find_image files name rest image images.2)
  where
    by : (t : Bool) → name_eq entry.0 name ≡ t → (if t then Some entry.1 else find name rest) ≡ None → (find name rest ≡ None → find name image ≡ None) → find name (found ∷ image) ≡ None
    by true is none later = cc
    by false is none later = rw (ap (λ (n : FileName). name_eq n name) images.0 ∙ is) (later none)

image_once : (bound : ℕ) (files : List File) (directory : Named ℕ) (image : Named (List ℕ)) → AreOwn bound directory → AreImages files directory image → AreNamedOnce image
image_once bound files [] [] own images = tt
image_once bound files [] (_ ∷ _) own images = absurd images
image_once bound files (_ ∷ _) [] own images = absurd images
image_once bound files (entry ∷ rest) (found ∷ image) own images =
    (subst (λ (n : FileName). find n image ≡ None) (sym images.0) (find_image files entry.0 rest image images.2 own.0.once), image_once bound files rest image own.1 images.2)

pub read_once : (bound : ℕ) (files : List File) (directory : Named ℕ) → AreOwn bound directory → AreNamedOnce (bytes_read files directory)
read_once bound files [] own = tt
read_once bound files (entry ∷ rest) own =
    (read_found files entry.0 rest ∙ ap (option_map (λ n. (file_at n files).read)) own.0.once, read_once bound files rest own.1)

-- ---- an image

no_bytes : (file : File) (bytes : List ℕ) → file.meant ≡ [] → IsFileImage file bytes → bytes ≡ []
no_bytes file [] none image = refl
no_bytes file (byte ∷ bytes) none image = absurd (omega (arith, image.no_longer, ap length none))

found_empty : (files : List File) (number : ℕ) (of : Option ℕ) (bytes : Option (List ℕ)) → ((file : ℕ) → of ≡ Some file → (file_at file files).meant ≡ []) → IsFound files (Log number) of bytes → unwrap_or bytes [] ≡ []
found_empty files number None None none found = refl
found_empty files number None (Some bytes) none found = absurd found
found_empty files number (Some file) None none found = absurd found
found_empty files number (Some file) (Some bytes) none found = no_bytes (file_at file files) bytes (none file refl) found.is_image

plain_where : (fragments : Bool) (meant bytes : List ℕ) → PlainWhere fragments meant bytes → fragments ≡ true → IsPlain meant bytes
plain_where true meant bytes h is = h
plain_where false meant bytes h is = cc

found_named : (files : List File) (name : FileName) (file : ℕ) (of : Option ℕ) (bytes : Option (List ℕ)) → of ≡ Some file → IsFound files name of bytes
    → HasShown (has_fragments name) (file_at file files) (file_at file files).firm bytes
found_named files name file None bytes is found = cc
found_named files name file (Some other) None is found = absurd found
found_named files name file (Some other) (Some bytes) is found =
    let same : other ≡ file = cc in
    let here : IsFileFound name (file_at file files) bytes = subst (λ (n : ℕ). IsFileFound name (file_at n files) bytes) same found in
    record {
      bytes = bytes;
      there = refl;
      is_image = record { least = here.is_image.no_shorter; most = here.is_image.no_longer; agrees = here.is_image.agrees };
      plain = plain_where (has_fragments name) (file_at file files).meant bytes here.plain;
    }

pub image_shows : (count : ℕ) (state : State) (image : Named (List ℕ)) → IsOneToOne state
    → AreImages (settled_through count state).files (settled_through count state).firm image → ArePlain (settled_through count state).files (settled_through count state).firm image
    → Showing (λ file. file.firm) count state image
image_shows count state image one_to_one images plain =
    let settled = settled_through count state in
    let found : (name : FileName) → IsFound settled.files name (file_behind count name state) (find name image) = λ name. image_found settled.files settled.firm image name images plain in
    record {
      once = image_once (length state.files) settled.files settled.firm image (one_to_one count) images;
      named = λ name file is uncut.
          let same : file_at file settled.files ≡ file_at file state.files = uncut_file file (take count state.waiting) state.files (cut-first file count state.waiting uncut) in
          subst (λ (f : File). HasShown (has_fragments name) f f.firm (find name image)) same (found_named settled.files name file (file_behind count name state) (find name image) is (found name));
      empty = λ number none. found_empty settled.files number (file_behind count (Log number) state) (find (Log number) image)
          (λ file is. empty_operated file (take count state.waiting) state.files (none file is)) (found (Log number));
    }

-- ---- what reads give

read_is_image : (meant read unread : List ℕ) → meant ≡ read ++ unread → IsShown meant (length read) read
read_is_image meant read unread e = record {
  is_image = record {
    least = omega arith;
    most = omega (arith, ap length e, length-append read unread);
    agrees = take_all (length read) read (omega arith) ∙ sym (ap (take (length read)) e ∙ take_at read unread (length read) refl);
  };
  plain = fronts_are_plain meant read unread e;
}

no_unread : (read unread : List ℕ) → [] ≡ read ++ unread → read ≡ []
no_unread [] unread e = refl
no_unread (byte ∷ read) unread e = absurd (omega (arith, ap length e))

-- all operations done, the directory is the one that is read
all_done : (name : FileName) (state : State) → file_behind (length state.waiting) name state ≡ find name (directory_read state)
all_done name state = ap (λ operations. find name (operated_all operations state.firm)) (take_all (length state.waiting) state.waiting (omega arith))

uncut_reads : (name : FileName) (file : ℕ) (state : State) → AllRead state → find name (directory_read state) ≡ Some file → has_waiting_cut file state.waiting ≡ false → ReadsAsMeant (file_at file state.files)
uncut_reads name file state read is uncut =
    let same : file_at file (settled_through (length state.waiting) state).files ≡ file_at file state.files =
    uncut_file file (take (length state.waiting) state.waiting) state.files (cut-first file (length state.waiting) state.waiting uncut) in
    subst ReadsAsMeant same (read name file is)

empty_reads : (name : FileName) (file : ℕ) (state : State) → AllRead state → find name (directory_read state) ≡ Some file → IsEmpty (file_at file state.files) → (file_at file state.files).read ≡ []
empty_reads name file state read named empty =
    let h = read name file named in
    let none : (file_at file (settled_through (length state.waiting) state).files).meant ≡ [] = empty_operated file (take (length state.waiting) state.waiting) state.files empty in
    sym (read_operated file (take (length state.waiting) state.waiting) state.files) ∙ no_unread (file_at file (settled_through (length state.waiting) state).files).read h.unread (sym none ∙ h.read_is)

pub read_shows : (state : State) → IsOneToOne state → AllRead state → Showing (λ file. length file.read) (length state.waiting) state (image_read state)
read_shows state one_to_one read =
    let found : (name : FileName) → find name (image_read state) ≡ option_map (λ n. (file_at n state.files).read) (find name (directory_read state)) = λ name. read_found state.files name (directory_read state) in
    record {
      once = read_once (length state.files) state.files (directory_read state) (read_always (AreOwn (length state.files)) state one_to_one);
      named = λ name file is uncut.
          let here : find name (directory_read state) ≡ Some file = sym (all_done name state) ∙ is in
          let reads = uncut_reads name file state read here uncut in
          let shown = read_is_image (file_at file state.files).meant (file_at file state.files).read reads.unread reads.read_is in
          record {
            bytes = (file_at file state.files).read;
            there = found name ∙ ap (option_map (λ n. (file_at n state.files).read)) here;
            is_image = shown.is_image;
            plain = λ fragments. shown.plain;
          };
      empty = λ number none. of_empty number (find (Log number) (directory_read state)) refl (found (Log number)) (λ file is. none file (all_done (Log number) state ∙ is));
    }
  where
    of_empty : (number : ℕ) (named : Option ℕ) → find (Log number) (directory_read state) ≡ named
        → find (Log number) (image_read state) ≡ option_map (λ n. (file_at n state.files).read) (find (Log number) (directory_read state))
        → ((file : ℕ) → find (Log number) (directory_read state) ≡ Some file → IsEmpty (file_at file state.files)) → log_bytes number (image_read state) ≡ []
    of_empty number None is found empty = ap (λ b. unwrap_or b []) (found ∙ ap (option_map (λ n. (file_at n state.files).read)) is)
    of_empty number (Some file) is found empty = ap (λ b. unwrap_or b []) (found ∙ ap (option_map (λ n. (file_at n state.files).read)) is) ∙ empty_reads (Log number) file state read is (empty file is)
