-- The device of a store of which a job makes its calls stands for its story.
use Rattle.std.proofs.Common.{◌≡◌, ℕ, ◌≤◌, Bool, true, false, List, [], ◌∷◌, ◌++◌, length, take, Option, Some, None, Result, Ok, Err, refl, sym, ap, subst, ◌∙◌, inl, inr, nat_le, if◌then◌else◌}
use Rattle.std.specs.List.{AllByRecursion}
use Rattle.std.proofs.lemmas.Bool.{leb-true, le-leb}
use Rattle.std.proofs.Math.Seq.{take-length}
use Rattle.keel_base.specs.declared.file_name.FileName.{FileName}
use Rattle.keel_base.specs.declared.file_name.FileName.TheVariants.{Current}
use Rattle.keel_disk.specs.declared.state.File.{File}
use Rattle.keel_disk.specs.declared.state.Operation.{Operation}
use Rattle.keel_disk.specs.Directory.{Named, find, operated_all}
use Rattle.keel_disk.specs.State.{State, file_at, files_operated_all, directory_read}
use Rattle.keel_disk.specs.Steady.{ReadsAsMeant}
use Rattle.keel_disk.specs.Image.{AreImages}
use Rattle.keel_disk.specs.Plain.{ArePlain, PlainImage, bytes_read, image_read}
use Rattle.keel_disk.specs.Sound.{AreOwn, IsOneToOne}
use Rattle.keel_disk.specs.Standing.{ReadsIn}
use Rattle.keel_directory.specs.Reading.{Reading, StoreRead, new, held, refused, IsReading, WithCurrent, first_used, without_current, PointOf}
use Rattle.keel_directory.specs.Refusals.{Refusal}
use Rattle.keel_directory.specs.Sound.{IsSoundReading}
use Rattle.keel_directory.specs.Standing.{ReadsAs, StandsRead}
use Rattle.keel_directory.proofs.Needed.{new_read}
use Rattle.keel_directory.specs.TableFiles.{TableFile}
use Rattle.keel_machine.specs.States.{Story}
use Rattle.keel_machine.specs.Resuming.{cleared_story}
use Rattle.keel_recovery.specs.Booting.{below, IsMovedIn, IsOldIn, IsRoll, IsBooting}
use Rattle.keel_recovery.proofs.BootNames.{files_uncut, none_below, found_below}
use Rattle.keel_recovery.proofs.BootImages.{kept, first_images, first_plain, first_read, AreShown, images_shown, shown_kept, none_named, some_named, images_kept, plain_kept, names_of, kept_some, all_entries, IsUnneeded, logs_kept, used_kept}
use Rattle.keel_recovery.proofs.BootReading.{held_over}

differ : {P : Type 0} → true ≡ false → P
differ e = cc

-- ---- one image

new_unused : (used : Option FileName) → new ≡ without_current used → used ≡ None
new_unused None is = refl
new_unused (Some name) is = cc

no_point : (answer : Result StoreRead Refusal) → PointOf answer new → ⊥
no_point (Ok found) is = is
no_point (Err refusal) is = is

-- a directory that is read as a new store's has no CURRENT and no file in use
new_where : (current : Option (List ℕ)) (used : Option FileName) (image : Named (List ℕ)) → first_used image ≡ used → WithCurrent image current new → (current ≡ None) × (used ≡ None)
new_where None used image at is = (refl, new_unused used (is ∙ ap without_current at))
new_where (Some current) used image at is = absurd (no_point is.0 is.2)

new_none : (image : Named (List ℕ)) → IsReading image new → (find Current image ≡ None) × (first_used image ≡ None)
unfolding IsReading
new_none image is = new_where (find Current image) (first_used image) image refl is

module _ (bound total : ℕ) (tables : Type 0) (files : List File) (d : Named ℕ) (image : Named (List ℕ)) (own : AreOwn total d) (are : AreShown files d image)
    (each : AllByRecursion (λ (entry : FileName × ℕ). IsUnneeded bound tables files entry.0 entry.1) d) where
  more : (name : FileName) (bytes : List ℕ) → find name (kept bound d image) ≡ Some bytes → find name image ≡ Some bytes
  more name bytes is = kept_some bound total name bytes d image own (names_of files d image are) is

  -- what the older files are read as, all of them are
  reads_over : (reading : Reading) → IsSoundReading reading → IsReading (kept bound d image) reading → (find Current (kept bound d image) ≡ None → (find Current image ≡ None) × (tables → ⊥))
      → IsReading image reading
  reads_over (held f point) sound is bare = held_over (kept bound d image) image more f point (logs_kept bound tables files f.version.min_log d image are each) is
  reads_over new sound is bare =
      let none = new_none (kept bound d image) is in
      let at = bare none.0 in
      new_read image at.0 (sym (used_kept bound tables files d image are each at.1) ∙ none.1)
  reads_over (refused refusal) sound is bare = absurd sound

-- ---- the directory without newer files

kept_read : (bound : ℕ) (files : List File) (d : Named ℕ) → kept bound d (bytes_read files d) ≡ bytes_read files (below bound d)
kept_read bound files [] = refl
kept_read bound files (entry ∷ rest) =
    let later = kept_read bound files rest in
    elim (nat_le bound entry.1) as (λ b. (if b then kept bound rest (bytes_read files rest) else (entry.0, (file_at entry.1 files).read) ∷ kept bound rest (bytes_read files rest)) ≡ bytes_read files (if b then below bound rest else entry ∷ below bound rest)) [
      | true ↦ later
      | false ↦ ap (λ image. (entry.0, (file_at entry.1 files).read) ∷ image) later
    ]

-- ---- every image

module _ (bound : ℕ) (old : State) (levels : List TableFile) (story : Story) (next_file : ℕ) (state : State) (one : IsOneToOne state) (booting : IsBooting bound old levels story next_file state) where
  abbrev directory : ℕ → Named ℕ
  directory count = operated_all (take count state.waiting) state.firm

  abbrev directory_then : ℕ → Named ℕ
  directory_then before = operated_all (take before old.waiting) old.firm

  pub same_files : (count : ℕ) → files_operated_all (take count state.waiting) state.files ≡ state.files
  same_files count = files_uncut count state.waiting state.files booting.uncut

  -- the directory that the device had isn't a new store's
  abbrev Bare : ℕ → Type 0
  Bare before = find Current (directory_then before) ≡ None → ⊥

  unneeded_each : (count before : ℕ) → AllByRecursion (λ (entry : FileName × ℕ). IsUnneeded bound (Bare before) state.files entry.0 entry.1) (directory count)
  unneeded_each count before = all_entries (length state.files) (IsUnneeded bound (Bare before) state.files) (directory count) (one count) (λ name file is. record {
    log = λ n is_log newer. booting.logs_empty count n file (subst (λ m. find m (directory count) ≡ Some file) is_log is) newer;
    trash = λ n is_trash newer. booting.no_trash count n file (subst (λ m. find m (directory count) ≡ Some file) is_trash is) newer;
    table = λ n is_table newer none. booting.no_table before none count n file (subst (λ m. find m (directory count) ≡ Some file) is_table is) newer;
  })

  -- CURRENT isn't one of the files that were made since
  abbrev pub IsOlder : Option ℕ → Type 0
  IsOlder None = Unit {0}
  IsOlder (Some file) = nat_le bound file ≡ false

  is_newer : Option ℕ → Bool
  is_newer None = false
  is_newer (Some file) = nat_le bound file

  newer_file : (current : Option ℕ) → is_newer current ≡ true → (file : ℕ) × (current ≡ Some file) × (bound ≤ file)
  unfolding is_newer
  newer_file None newer = cc
  newer_file (Some file) newer = (file, refl, leb-true bound file newer)

  older_one : (current : Option ℕ) → is_newer current ≡ false → IsOlder current
  unfolding is_newer
  older_one None older = tt
  older_one (Some file) older = older

  not_moved : (d : Named ℕ) → IsOlder (find Current d) → IsMovedIn bound d → ⊥
  not_moved d older moved =
      let is : IsOlder (Some moved.file) = subst IsOlder moved.current older in
      differ (sym (le-leb bound moved.file moved.newer) ∙ is)

  -- an image of which that is so reads as its older files
  module _ (count : ℕ) (is : IsOldIn bound old (directory count)) (older : IsOlder (find Current (directory count))) where
    abbrev before : ℕ
    before = is.before

    bare_where : (image : Named (List ℕ)) (current : Option ℕ) → find Current (directory count) ≡ current → IsOlder current → AreShown state.files (directory count) image
        → find Current (kept bound (directory count) image) ≡ None → (find Current image ≡ None) × (Bare before → ⊥)
    bare_where image None at older are none = (
      none_named Current (directory count) image (names_of state.files (directory count) image are) at,
      λ bare. bare (subst (λ d. find Current d ≡ None) is.same (none_below bound Current (directory count) at)),
    )
    bare_where image (Some file) at older are none =
        absurd (some_named Current file (below bound (directory count)) (kept bound (directory count) image)
        (names_of state.files (below bound (directory count)) (kept bound (directory count) image) (shown_kept bound state.files (directory count) image are))
        (found_below bound Current file (directory count) at older) none)

    pub old_reading : (image : Named (List ℕ)) → AreShown state.files (directory count) image → (reading : Reading) → IsSoundReading reading → IsReading (kept bound (directory count) image) reading → IsReading image reading
    old_reading image are reading sound is =
        reads_over bound (length state.files) (Bare before) state.files (directory count) image (one count) are (unneeded_each count before) reading sound is
        (bare_where image (find Current (directory count)) refl older are)

    pub old_reads : (image : Named (List ℕ)) (least : ℕ) → AreShown state.files (directory count) image → ReadsIn ReadsAs story.start story.log story.limbo least (kept bound (directory count) image)
        → ReadsIn ReadsAs story.start story.log story.limbo least image
    old_reads image least are reads = (
      reads.0,
      record {
        reading = reads.1.reading;
        is_read = old_reading image are reads.1.reading reads.1.sound reads.1.is_read;
        sound = reads.1.sound;
        has = reads.1.has;
      },
      reads.2,
    )

    files_then : files_operated_all (take before old.waiting) old.files ≡ take bound state.files
    files_then = files_uncut before old.waiting old.files booting.old_uncut ∙ booting.first

    pub old_image : (image : Named (List ℕ)) → AreImages state.files (directory count) image → ArePlain state.files (directory count) image → ReadsIn ReadsAs story.start story.log story.limbo story.floor image
    old_image image are plain =
        let own = kept bound (directory count) image in
        let kept_are : AreImages (take bound state.files) (directory_then before) own =
        subst (λ d. AreImages (take bound state.files) d own) is.same (first_images bound state.files (directory count) own (images_kept bound state.files (directory count) image are)) in
        let kept_plain : ArePlain (take bound state.files) (directory_then before) own =
        subst (λ d. ArePlain (take bound state.files) d own) is.same (first_plain bound state.files (directory count) own (plain_kept bound state.files (directory count) image plain)) in
        old_reads image story.floor (images_shown state.files (directory count) image are) (booting.stands.images own (
          before,
          (
            subst (λ (files : List File). AreImages files (directory_then before) own) (sym files_then) kept_are,
            subst (λ (files : List File). ArePlain files (directory_then before) own) (sym files_then) kept_plain,
          ),
        ))

  -- ---- the device

  module _ (rolls_read : (count : ℕ) (image : Named (List ℕ)) → AreImages state.files (directory count) image → ArePlain state.files (directory count) image → IsRoll count (cleared_story story) next_file state
      → ReadsIn ReadsAs story.start story.log story.limbo story.floor image) where
    by_current : (count : ℕ) (image : Named (List ℕ)) (current : Option ℕ) → find Current (directory count) ≡ current → AreImages state.files (directory count) image → ArePlain state.files (directory count) image
        → ReadsIn ReadsAs story.start story.log story.limbo story.floor image
    by_current count image current at are plain =
        elim (is_newer current) as (λ b. is_newer current ≡ b → ReadsIn ReadsAs story.start story.log story.limbo story.floor image) [
          | true ↦ λ newer.
              let file = newer_file current newer in
              rolls_read count image are plain (booting.rolls count file.0 (at ∙ file.1) file.2)
          | false ↦ λ older.
              let not = subst IsOlder (sym at) (older_one current older) in
              elim (booting.shows count) [
                | inl moved ↦ absurd (not_moved (directory count) not moved)
                | inr is ↦ old_image count is not image are plain
              ]
        ] refl

    pub images_read : (image : Named (List ℕ)) → PlainImage state image → ReadsIn ReadsAs story.start story.log story.limbo story.floor image
    images_read image (count, (are, plain)) =
        by_current count image (find Current (directory count)) refl
        (subst (λ files. AreImages files (directory count) image) (same_files count) are)
        (subst (λ files. ArePlain files (directory count) image) (same_files count) plain)

-- ---- the directory as it is read

no_front : (front back : List ℕ) → front ++ back ≡ [] → front ≡ []
no_front [] back none = refl
no_front (x ∷ front) back none = cc

none_read : (file : File) → ReadsAsMeant file → file.meant ≡ [] → file.read ≡ []
none_read file read none = no_front file.read read.unread (sym read.read_is ∙ none)

reads_are : (files : List File) (d : Named ℕ) → AllByRecursion (λ (entry : FileName × ℕ). ReadsAsMeant (file_at entry.1 files)) d → AreShown files d (bytes_read files d)
reads_are files [] each = tt
reads_are files (entry ∷ rest) each = (refl, none_read (file_at entry.1 files) each.0, reads_are files rest each.1)

module _ (bound : ℕ) (old : State) (levels : List TableFile) (story : Story) (next_file : ℕ) (state : State) (one : IsOneToOne state) (booting : IsBooting bound old levels story next_file state) where
  abbrev all_done : Named ℕ
  all_done = operated_all (take (length state.waiting) state.waiting) state.firm

  whole : all_done ≡ directory_read state
  whole = ap (λ (ops : List Operation). operated_all ops state.firm) (take-length state.waiting)

  read_files : AreShown state.files all_done (bytes_read state.files all_done)
  read_files =
      let files = same_files bound old levels story next_file state one booting (length state.waiting) in
      reads_are state.files all_done
      (all_entries (length state.files) (λ name file. ReadsAsMeant (file_at file state.files)) all_done (one (length state.waiting))
      (λ name file is. subst (λ fs. ReadsAsMeant (file_at file fs)) files (booting.read name file (subst (λ d. find name d ≡ Some file) whole is))))

  -- what is read is what the device read then
  module _ (same : below bound (directory_read state) ≡ directory_read old) (older : IsOlder bound old levels story next_file state one booting (find Current all_done)) where
    as_then : IsOldIn bound old all_done
    as_then = record {
      before = length old.waiting;
      same = ap (below bound) whole ∙ (same ∙ sym (ap (λ (ops : List Operation). operated_all ops old.firm) (take-length old.waiting)));
    }

    read_then : kept bound all_done (bytes_read state.files all_done) ≡ image_read old
    read_then =
        kept_read bound state.files all_done
        ∙ (sym (first_read bound state.files all_done)
        ∙ (ap (λ (files : List File). bytes_read files (below bound all_done)) (sym booting.first)
        ∙ ap (bytes_read old.files) (ap (below bound) whole ∙ same)))

    -- so its reading is the one of then
    pub reading_now : (reading : Reading) → IsSoundReading reading → IsReading (image_read old) reading → IsReading (image_read state) reading
    reading_now reading sound is =
        subst (λ d. IsReading (bytes_read state.files d) reading) whole
        (old_reading bound old levels story next_file state one booting (length state.waiting) as_then older (bytes_read state.files all_done) read_files reading sound
        (subst (λ image. IsReading image reading) (sym read_then) is))

    old_now : ReadsIn ReadsAs story.start story.log story.limbo (length story.log) (image_read state)
    old_now =
        subst (λ d. ReadsIn ReadsAs story.start story.log story.limbo (length story.log) (bytes_read state.files d)) whole
        (old_reads bound old levels story next_file state one booting (length state.waiting) as_then older (bytes_read state.files all_done) (length story.log) read_files
        (subst (λ image. ReadsIn ReadsAs story.start story.log story.limbo (length story.log) image) (sym read_then) booting.stands.now))

  -- the directory as it is read has CURRENT moved, or its reading is the one of then
  pub by_reading : {P : Type 0} → ((file : ℕ) → find Current all_done ≡ Some file → bound ≤ file → P)
      → (((reading : Reading) → IsSoundReading reading → IsReading (image_read old) reading → IsReading (image_read state) reading) → P) → P
  by_reading {P} moved_one then_one = at (find Current all_done) refl
    where
      at : (current : Option ℕ) → find Current all_done ≡ current → P
      at current is =
          elim (is_newer bound old levels story next_file state one booting current)
          as (λ b. is_newer bound old levels story next_file state one booting current ≡ b → P) [
            | true ↦ λ newer.
                let file = newer_file bound old levels story next_file state one booting current newer in
                moved_one file.0 (is ∙ file.1) file.2
            | false ↦ λ older.
                let not = subst (IsOlder bound old levels story next_file state one booting) (sym is) (older_one bound old levels story next_file state one booting current older) in
                elim booting.shows_read [
                  | inl moved ↦ absurd (not_moved bound old levels story next_file state one booting all_done not (subst (IsMovedIn bound) (sym whole) moved))
                  | inr same ↦ then_one (reading_now same not)
                ]
          ] refl

  module _ (rolls_now : IsRoll (length state.waiting) (cleared_story story) next_file state → ReadsIn ReadsAs story.start story.log story.limbo (length story.log) (image_read state)) where
    at_read : (current : Option ℕ) → find Current all_done ≡ current → ReadsIn ReadsAs story.start story.log story.limbo (length story.log) (image_read state)
    at_read current at =
        elim (is_newer bound old levels story next_file state one booting current)
        as (λ b. is_newer bound old levels story next_file state one booting current ≡ b → ReadsIn ReadsAs story.start story.log story.limbo (length story.log) (image_read state)) [
          | true ↦ λ newer.
              let file = newer_file bound old levels story next_file state one booting current newer in
              rolls_now (booting.rolls (length state.waiting) file.0 (at ∙ file.1) file.2)
          | false ↦ λ older.
              let not = subst (IsOlder bound old levels story next_file state one booting) (sym at) (older_one bound old levels story next_file state one booting current older) in
              elim booting.shows_read [
                | inl moved ↦ absurd (not_moved bound old levels story next_file state one booting all_done not (subst (IsMovedIn bound) (sym whole) moved))
                | inr same ↦ old_now same not
              ]
        ] refl

    pub stands : ((count : ℕ) (image : Named (List ℕ)) → AreImages state.files (operated_all (take count state.waiting) state.firm) image → ArePlain state.files (operated_all (take count state.waiting) state.firm) image
        → IsRoll count (cleared_story story) next_file state → ReadsIn ReadsAs story.start story.log story.limbo story.floor image) → StandsRead state story.start story.log story.limbo story.floor
    stands rolls_read = record {
      images = images_read bound old levels story next_file state one booting rolls_read;
      now = at_read (find Current all_done) refl;
    }
