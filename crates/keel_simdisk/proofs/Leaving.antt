-- What a crash leaves, file by file.
use Rattle.std.proofs.Common.{◌≡◌, ◌↔◌, ℕ, ◌+◌, ◌-◌, ◌%◌, ◌<◌, ◌≤◌, min, List, [], ◌∷◌, ◌++◌, length, take, refl, sym, ◌∙◌, ap, ap₂, subst, arith, length-take, length-append, All, add-zero, inl, inr}
use Rattle.std.proofs.lemmas.Bool.{cases_lt}
use Rattle.std.proofs.lemmas.List.{take_all, take-append-le, take-take}
use Rattle.std.proofs.lemmas.List.Elements.{All-append, All-take, All-map}
use Rattle.std.proofs.lemmas.List.FromFn.{map-range_with_len_more, length-map-range_with_len}
use Rattle.std.specs.List.{range_with_len}
use Rattle.keel_base.specs.declared.file_name.FileName.{FileName}
use Rattle.keel_disk.specs.declared.rule.Pick.{Pick}
use Rattle.keel_disk.specs.declared.state.File.{File}
use Rattle.keel_disk.specs.Directory.{Named}
use Rattle.keel_disk.specs.State.{State, file_at, settled_through}
use Rattle.keel_disk.specs.Image.{IsFileImage, AreImages, firm_file, image_files, image_names, restarted}
use Rattle.keel_disk.specs.Sound.{IsFile, IsSound, IsAtRest}
use Rattle.keel_disk.proofs.Resting.{crash_rests}
use Rattle.keel_disk.proofs.SoundFiles.{is_file_at}
use Rattle.keel_disk.proofs.SoundSteps.{sound-settled}
use Rattle.keel_disk.specs.Plain.{has_fragments, PlainWhere, ArePlain}
use Rattle.keel_simdisk.specs.Crash.{garbage, bytes_left, image_of, image_left, IsImageLeft}

-- ---- the bytes of one file

-- one byte of garbage more
pub garbage_more : (seed count : ℕ) → garbage seed (count + 1) ≡ garbage seed count ++ ((seed + count) % 256) ∷ []
garbage_more seed count = map-range_with_len_more (λ i. (seed + i) % 256) 0 count count (omega arith)

pub next_value : (seed i : ℕ) → ((seed + i) % 256 + 1) % 256 ≡ (seed + (i + 1)) % 256
next_value seed i = omega arith

-- where fewer bytes are there, all of them are kept
take_past : (n m : ℕ) (bytes : List ℕ) → length bytes ≤ n → length bytes ≤ m → take n bytes ≡ take m bytes
take_past n m bytes all same = take_all n bytes all ∙ sym (take_all m bytes same)

pub left_whole : (pick : Pick) (file : File) (kept count : ℕ) (bytes : List ℕ) → file.firm ≤ length file.meant → kept ≡ file.firm + min pick.keep (length file.meant - file.firm)
    → count ≡ min pick.garbage (length file.meant - kept) → bytes ≡ take kept file.meant ++ garbage pick.seed count → bytes ≡ bytes_left pick file
left_whole pick file kept count bytes within kept_is count_is is =
    let asked = file.firm + pick.keep in
    let front : take kept file.meant ≡ take asked file.meant = same in
    let number : count ≡ min pick.garbage (length file.meant - asked) = omega arith in
    is ∙ ap₂ (λ (xs : List ℕ) n. xs ++ garbage pick.seed n) front number
  where
    same : take kept file.meant ≡ take (file.firm + pick.keep) file.meant
    same = elim (cases_lt (file.firm + pick.keep) (length file.meant)) [
      | inl some ↦
          let here : kept ≡ file.firm + pick.keep = omega arith in
          ap (λ n. take n file.meant) here
      | inr past ↦ take_past kept (file.firm + pick.keep) file.meant (omega arith) (omega arith)
    ]

-- ---- the files of a directory

-- one name more
pub image_of-push : (pick : Pick) (files : List File) (directory : Named ℕ) (entry : FileName × ℕ)
    → image_of pick files (directory ++ entry ∷ []) ≡ image_of pick files directory ++ (entry.0, bytes_left pick (file_at entry.1 files)) ∷ []
image_of-push pick files [] entry = refl
image_of-push pick files (first ∷ directory) entry =
    ap (λ (image : Named (List ℕ)). (first.0, bytes_left pick (file_at first.1 files)) ∷ image) (image_of-push pick files directory entry)

image_files-push : (image : Named (List ℕ)) (name : FileName) (bytes : List ℕ) → image_files (image ++ (name, bytes) ∷ []) ≡ image_files image ++ firm_file bytes ∷ []
image_files-push [] name bytes = refl
image_files-push (entry ∷ rest) name bytes = ap (λ (l : List File). firm_file entry.1 ∷ l) (image_files-push rest name bytes)

image_names-push : (first : ℕ) (image : Named (List ℕ)) (name : FileName) (bytes : List ℕ) → image_names first (image ++ (name, bytes) ∷ []) ≡ image_names first image ++ (name, first + length image) ∷ []
image_names-push first [] name bytes = ap (λ n. (name, n) ∷ []) (sym (add-zero first))
image_names-push first (entry ∷ rest) name bytes =
    let next : (first + 1) + length rest ≡ first + length (entry ∷ rest) = omega arith in
    ap (λ (l : Named ℕ). (entry.0, first) ∷ l) (image_names-push (first + 1) rest name bytes ∙ ap (λ n. image_names (first + 1) rest ++ (name, n) ∷ []) next)

length-image_files : (image : Named (List ℕ)) → length (image_files image) ≡ length image
length-image_files [] = refl
length-image_files (_ ∷ image) = omega (arith, length-image_files image)

pub files_more : (pick : Pick) (files : List File) (directory : Named ℕ) (entry : FileName × ℕ) (made next : List File) (file : File) (bytes : List ℕ)
    → made ≡ image_files (image_of pick files directory) → next ≡ made ++ file ∷ [] → file ≡ firm_file bytes → bytes ≡ bytes_left pick (file_at entry.1 files)
    → next ≡ image_files (image_of pick files (directory ++ entry ∷ []))
files_more pick files directory entry made next file bytes had pushed is left =
    pushed ∙ ap₂ (λ (l : List File) f. l ++ f ∷ []) had (is ∙ ap firm_file left)
    ∙ sym (image_files-push (image_of pick files directory) entry.0 (bytes_left pick (file_at entry.1 files)))
    ∙ ap image_files (sym (image_of-push pick files directory entry))

pub names_more : (pick : Pick) (files : List File) (directory : Named ℕ) (entry : FileName × ℕ) (made : List File) (names next : Named ℕ) (number : ℕ)
    → made ≡ image_files (image_of pick files directory) → names ≡ image_names 0 (image_of pick files directory) → number ≡ length made → next ≡ names ++ (entry.0, number) ∷ []
    → next ≡ image_names 0 (image_of pick files (directory ++ entry ∷ []))
names_more pick files directory entry made names next number had names_are number_is pushed =
    let image = image_of pick files directory in
    let count : number ≡ 0 + length image = number_is ∙ ap length had ∙ length-image_files image ∙ omega arith in
    pushed ∙ ap₂ (λ (l : Named ℕ) n. l ++ (entry.0, n) ∷ []) names_are count
    ∙ sym (image_names-push 0 image entry.0 (bytes_left pick (file_at entry.1 files)))
    ∙ ap (image_names 0) (sym (image_of-push pick files directory entry))

plain-push : (pick : Pick) (files : List File) (directory : Named ℕ) (entry : FileName × ℕ)
    → ArePlain files (directory ++ entry ∷ []) (image_of pick files (directory ++ entry ∷ []))
    ↔ (ArePlain files directory (image_of pick files directory) × PlainWhere (has_fragments entry.0) (file_at entry.1 files).meant (bytes_left pick (file_at entry.1 files)))
plain-push pick files [] entry = (λ plain. (tt, plain.0), λ both. (both.1, tt))
plain-push pick files (first ∷ directory) entry =
    let behind = plain-push pick files directory entry in
    (λ plain. let rest = behind.0 plain.1 in ((plain.0, rest.0), rest.1), λ both. (both.0.0, behind.1 (both.0.1, both.1)))

pub plain_more : (pick : Pick) (files : List File) (directory : Named ℕ) (entry : FileName × ℕ) (Before Here After : Type 0) (meant found bytes : List ℕ)
    → (Before ↔ ArePlain files directory (image_of pick files directory)) → bytes ≡ bytes_left pick (file_at entry.1 files)
    → meant ≡ (file_at entry.1 files).meant → found ≡ bytes → (Here ↔ PlainWhere (has_fragments entry.0) meant found) → (After ↔ (Before × Here))
    → After ↔ ArePlain files (directory ++ entry ∷ []) (image_of pick files (directory ++ entry ∷ []))
plain_more pick files directory entry Before Here After meant found bytes had left meant_is found_is here after =
    let file = file_at entry.1 files in
    let push = plain-push pick files directory entry in
    let goal : Here ↔ PlainWhere (has_fragments entry.0) file.meant (bytes_left pick file) =
    subst (λ (m : List ℕ). Here ↔ PlainWhere (has_fragments entry.0) m (bytes_left pick file)) meant_is
    (subst (λ (b : List ℕ). Here ↔ PlainWhere (has_fragments entry.0) meant b) (found_is ∙ left) here) in (
      λ a. let parts = after.0 a in push.1 (had.0 parts.0, goal.0 parts.1),
      λ plain. let parts = push.0 plain in after.1 (had.1 parts.0, goal.1 parts.1),
    )

-- ---- an image

left_is_image : (pick : Pick) (file : File) → IsFile file → IsFileImage file (bytes_left pick file)
left_is_image pick file is =
    let kept = file.firm + pick.keep in
    let count = min pick.garbage (length file.meant - kept) in
    let front : length (take kept file.meant) ≡ min kept (length file.meant) = length-take kept file.meant in
    let behind : length (garbage pick.seed count) ≡ count = length-map-range_with_len (λ i. (pick.seed + i) % 256) 0 count in
    let whole : length (bytes_left pick file) ≡ length (take kept file.meant) + length (garbage pick.seed count) = length-append (take kept file.meant) (garbage pick.seed count) in
    record {
      no_shorter = omega (arith, whole, front, is.firm_is_meant);
      no_longer = omega (arith, whole, front, behind);
      agrees = take-append-le file.firm (take kept file.meant) (garbage pick.seed count) (omega (arith, front, is.firm_is_meant)) ∙ take-take file.firm kept file.meant (omega arith);
      in_range = All-append (λ byte. byte < 256) (take kept file.meant) (garbage pick.seed count) (All-take (λ byte. byte < 256) kept file.meant is.meant_are)
          (All-map (λ byte. byte < 256) (λ i. (pick.seed + i) % 256) (range_with_len 0 count) (λ k d lt. omega arith));
    }

are_images : (pick : Pick) (files : List File) (directory : Named ℕ) → All IsFile files → AreImages files directory (image_of pick files directory)
are_images pick files [] all = tt
are_images pick files (entry ∷ directory) all = (refl, left_is_image pick (file_at entry.1 files) (is_file_at entry.1 files all), are_images pick files directory all)

-- what is left is an image with so many operations done
pub left_is : (pick : Pick) (state : State) → IsSound state → IsImageLeft pick state
left_is pick state sound = let settled = settled_through pick.dirops state in are_images pick settled.files settled.firm (sound-settled pick.dirops state sound).files

pub left_rests : (pick : Pick) (state : State) → IsSound state → IsAtRest (restarted (image_left pick state))
left_rests pick state sound = crash_rests state (image_left pick state) sound (pick.dirops, left_is pick state sound)
