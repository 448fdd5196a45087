-- A device at rest that stands for a story is one that was left with it.
use Rattle.std.specs.Prelude.{All}
use Rattle.std.proofs.Common.{◌≡◌, ℕ, ◌≤◌, length, List, [], ◌∷◌, None, option_map, inl, inr, refl, sym, ap, subst, ◌∙◌, arith}
use Rattle.std.proofs.lemmas.List.{get_or_past}
use Rattle.std.proofs.lemmas.List.Elements.{All-get_or}
use Rattle.std.proofs.lemmas.Bool.{cases_lt}
use Rattle.keel_base.specs.declared.file_name.FileName.TheVariants.{Current}
use Rattle.keel_directory.specs.Reading.{Reading, IsReading, new, held, refused}
use Rattle.keel_disk.specs.declared.state.File.{File}
use Rattle.keel_disk.specs.Directory.{Named, find}
use Rattle.keel_disk.specs.Plain.{bytes_read, image_read}
use Rattle.keel_disk.specs.Sound.{IsFile, IsAtRest}
use Rattle.keel_disk.specs.State.{State, new_file, file_at, directory_read}
use Rattle.keel_disk.specs.Steady.{file_behind}
use Rattle.keel_disk.proofs.Imaging.{read_found}
use Rattle.keel_disk.proofs.Meaning.{rest_reads}
use Rattle.keel_machine.specs.Opening.{tables_in}
use Rattle.keel_machine.specs.States.{Story}
use Rattle.keel_recovery.specs.Leaving.{IsLeft}
use Rattle.keel_recovery.specs.Readings.{AreLimited, ReadsWithin, batches_read}
use Rattle.keel_recovery.specs.Standing.{Stands}
use Rattle.keel_recovery.proofs.BootNames.{behind_none}
use Rattle.keel_recovery.proofs.BootOpened.{levels_open, old_tables}
use Rattle.keel_recovery.proofs.Found.{held_gives, none_held, replays}
use Rattle.keel_recovery.proofs.Limits.{ImageSmall, logs_within}
use Rattle.keel_recovery.proofs.NoCuts.{no_cuts_rest}
use Rattle.keel_recovery.proofs.Payloads.{AreSmall, small_of}

-- ---- the bytes that reads give

small_file : (files : List File) → All IsFile files → (n : ℕ) → AreSmall (file_at n files).read
small_file files sound n = elim (cases_lt n (length files)) [
  | inl within ↦ small_of (file_at n files).read (All-get_or IsFile files n new_file within sound).read_are
  | inr over ↦ subst (λ (f : File). AreSmall f.read) (sym (get_or_past files n new_file over)) tt
]

-- the files of an image that reads give hold bytes
small_image : (files : List File) (directory : Named ℕ) → All IsFile files → ImageSmall (bytes_read files directory)
small_image files [] sound = tt
small_image files (entry ∷ rest) sound = (small_file files sound entry.1, small_image files rest sound)

-- ---- what it is read as

limited : (image : Named (List ℕ)) → ImageSmall image → (reading : Reading) → IsReading image reading → AreLimited reading
limited image small new is = tt
limited image small (refused refusal) is = tt
limited image small (held f point) is =
    let gives = held_gives image f point is in
    let r = replays image f.version.min_log f.version.last_seq f.replay gives.logs in
    logs_within f.version.min_log f.version.last_seq f.replay.last image r.logs f.replay.batches small r.are r.all r.runs

-- without CURRENT it is a new store at most
none_read : (image : Named (List ℕ)) → find Current image ≡ None → (reading : Reading) → IsReading image reading → batches_read reading ≡ []
none_read image none new is = refl
none_read image none (refused refusal) is = refl
none_read image none (held f point) is = absurd (none_held image f point none is)

module _ (state : State) (rest : IsAtRest state) where
  no_current : (count : ℕ) → file_behind count Current state ≡ None → find Current (image_read state) ≡ None
  no_current count none =
      let here : find Current (directory_read state) ≡ None = sym (behind_none count Current state rest.settled.none_waits) ∙ none in
      read_found state.files Current (directory_read state) ∙ ap (option_map (λ n. (file_at n state.files).read)) here

  reads_within : ReadsWithin state
  reads_within = record {
    limits = limited (image_read state) (small_image state.files (directory_read state) rest.sound.files);
    bare = λ count none. none_read (image_read state) (no_current count none);
  }

pub rest_left : (state : State) (story : Story) → IsAtRest state → story.floor ≤ length story.log → Stands state story → IsLeft state story
rest_left state story rest within stands = record {
  one_to_one = rest.sound.one_to_one;
  cuts = λ file above. no_cuts_rest state rest file;
  uncut = no_cuts_rest state rest;
  read = rest_reads state rest;
  floor_within = within;
  stands = stands;
  listed = λ count file name is. record { name = name; file = file; named = sym (behind_none count name state rest.settled.none_waits) ∙ is; high = omega arith };
  within = reads_within state rest;
  steady = λ reading is. old_tables state rest (tables_in reading) (levels_open (image_read state) reading is);
}
