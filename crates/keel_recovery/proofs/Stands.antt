-- A device stands for the story that it keeps.
use Rattle.std.proofs.Common.{◌≡◌, inl, inr, ⊎_elim, ℕ, ◌-◌, ◌≤◌, Bool, true, false, if◌then◌else◌, unwrap_or, List, [], ◌∷◌, length, map, take, Some, Ok, refl, sym, ap, subst, ◌∙◌, arith, take_all}
use Rattle.keel_base.specs.declared.file_name.FileName.{FileName}
use Rattle.keel_base.specs.declared.file_name.FileName.TheVariants.{Log, Table, Manifest, Current}
use Rattle.keel_base.specs.Name.{IsName, name_eq}
use Rattle.keel_base.proofs.Names.{name_eq-true}
use Rattle.keel_disk.specs.declared.state.File.{File}
use Rattle.keel_disk.specs.Directory.{Named, find}
use Rattle.keel_disk.specs.State.{State, file_at, settled_through, has_waiting_cut}
use Rattle.keel_disk.specs.Plain.{image_read}
use Rattle.keel_disk.specs.Sound.{AreOwn, IsOneToOne}
use Rattle.keel_disk.specs.Steady.{AllRead, file_behind, IsHeld}
use Rattle.keel_directory.specs.Manifests.{ManifestIs}
use Rattle.keel_edit.specs.declared.edit.Edit.{Edit}
use Rattle.keel_edit.specs.Spelling.{spelling}
use Rattle.keel_frag.specs.Images.{IsImage, IsPlain}
use Rattle.keel_frag.specs.Writing.{records_bytes}
use Rattle.keel_machine.specs.States.{Story}
use Rattle.keel_name.specs.Current.{current_of}
use Rattle.keel_recovery.specs.Chains.{Chained, payloads, size_of_first, HoldsRecords, HoldsBatches, IsWholeLog, AreChained}
use Rattle.keel_recovery.specs.Keeping.{HoldStory}
use Rattle.keel_recovery.specs.Laws.{WayReads, WayIsRead, KeepingStands}
use Rattle.keel_recovery.specs.Roots.{Way, IsWay, Goes, IsRoot, AreRoots}
use Rattle.keel_recovery.specs.Standing.{ReadsIn}
use Rattle.keel_recovery.proofs.LogFiles.{log_bytes}
use Rattle.keel_recovery.proofs.Onward.{rising, from_zero, onward}
use Rattle.keel_recovery.proofs.OpenTables.{firm_open}
use Rattle.keel_recovery.proofs.Rooting.{ShowsRoot, root_reads}
use Rattle.keel_recovery.proofs.Seeing.{SeenLog, AreSeen}
use Rattle.keel_recovery.proofs.Showing.{Showing, image_shows, read_shows}
use Rattle.keel_recovery.proofs.TornManifest.{torn_version}

-- names that a directory has are names of the store
pub own_name : (bound file : ℕ) (name : FileName) (directory : Named ℕ) → AreOwn bound directory → find name directory ≡ Some file → IsName name
own_name bound file name [] own e = cc
own_name bound file name (entry ∷ rest) own e = by (name_eq entry.0 name) refl e (own_name bound file name rest own.1)
  where
    by : (t : Bool) → name_eq entry.0 name ≡ t → (if t then Some entry.1 else find name rest) ≡ Some file → (find name rest ≡ Some file → IsName name) → IsName name
    by true is e later = subst IsName (name_eq-true entry.0 name is) own.0.is_name
    by false is e later = later e

-- what a directory shows of a way: a root, with the logs behind it
pub record ShowsWay (mark : ℕ) (way : Way) (next_file : ℕ) (logs : List Chained) (story : Story) (state : State) (image : Named (List ℕ)) : Type 0 where
  pub edits : List Edit
  pub root : IsRoot edits logs story next_file state
  pub shown : ShowsRoot mark way.manifest next_file edits logs story state root image

module _ (firm_of : File → ℕ) (count mark floor published : ℕ) (state : State) (image : Named (List ℕ)) (shows : Showing firm_of count state image)
    (marked : (before : ℕ) (payloads : List (List ℕ)) (file : File) → HoldsRecords (floor - before) (published - before) payloads file → size_of_first (mark - before) payloads ≤ firm_of file)
    (whole_is : (file : File) (bytes : List ℕ) → IsHeld file bytes → firm_of file ≡ length bytes)
    (way_firm : (way : Way) → IsWay way state → size_of_first way.firm (map spelling way.edits) ≤ firm_of (file_at way.file state.files)) where
  -- a file that is firm in whole is found so
  held_found : (name : FileName) (file : ℕ) (bytes : List ℕ) → file_behind count name state ≡ Some file → has_waiting_cut file state.waiting ≡ false → IsHeld (file_at file state.files) bytes → find name image ≡ Some bytes
  held_found name file bytes named uncut held =
      let f = file_at file state.files in
      let found = shows.named name file named uncut in
      let size : firm_of f ≡ length bytes = whole_is f bytes held in
      let long : length found.bytes ≡ length bytes = omega (arith, size, found.is_image.least, found.is_image.most, ap length held.meant) in
      found.there
      ∙ ap (λ (b : List ℕ). Some b) (sym (take_all (firm_of f) found.bytes (omega (arith, long, size))) ∙ found.is_image.agrees ∙ take_all (firm_of f) f.meant (omega (arith, size, ap length held.meant)) ∙ held.meant)

  seen_log : (log : Chained) → HoldsBatches floor published log state → SeenLog mark log (log_bytes log.number image)
  seen_log log h =
      let f = file_at h.file state.files in
      let found = shows.named (Log log.number) h.file (h.steady.named count) h.steady.not_cut in
      let here : found.bytes ≡ log_bytes log.number image = ap (λ b. unwrap_or b []) (sym found.there) in
      record {
        firm = firm_of f;
        is_image = subst (λ (b : List ℕ). IsImage (firm_of f) (records_bytes 0 (payloads log)) b) here (subst (λ (m : List ℕ). IsImage (firm_of f) m found.bytes) h.holds.meant_is found.is_image);
        plain = subst (λ (b : List ℕ). IsPlain (records_bytes 0 (payloads log)) b) here (subst (λ (m : List ℕ). IsPlain m found.bytes) h.holds.meant_is (found.plain refl));
        enough = marked log.before (payloads log) f h.holds;
      }

  whole_log : (log : Chained) → HoldsBatches floor published log state → IsWholeLog log state → log_bytes log.number image ≡ records_bytes 0 (payloads log)
  whole_log log h whole =
      let same : whole.file ≡ h.file = let e = sym (whole.steady.named 0) ∙ h.steady.named 0 in cc in
      ap (λ b. unwrap_or b []) (held_found (Log log.number) whole.file (file_at whole.file state.files).meant (whole.steady.named count) whole.steady.not_cut whole.firm)
      ∙ ap (λ (n : ℕ). (file_at n state.files).meant) same ∙ h.holds.meant_is

  all_seen : (logs : List Chained) → AreChained floor published logs state → AreSeen mark logs image
  all_seen [] h = tt
  all_seen (log ∷ logs) h = (seen_log log h.0, ⊎_elim (λ none. inl none) (λ whole. inr (whole_log log h.0 whole)) h.2, all_seen logs h.3)

  pub way_shown : (way : Way) (place next_file : ℕ) (logs : List Chained) (story : Story) → IsOneToOne state → IsWay way state → Goes count way state → AreRoots way logs story next_file state
      → HoldStory place logs story state → floor ≡ story.floor → published ≡ length story.log → mark ≤ length story.log → ShowsWay mark way next_file logs story state image
  way_shown way place next_file logs story one_to_one is goes roots stored floor_is published_is within =
      let f = file_at way.file state.files in
      let found = shows.named (Manifest way.manifest) way.file goes.manifest is.not_cut in
      let torn = torn_version way.firm (firm_of f) way.edits found.bytes is.some is.within is.are_edits (way_firm way is)
      (subst (λ (m : List ℕ). IsImage (firm_of f) m found.bytes) is.meant_is found.is_image) (subst (λ (m : List ℕ). IsPlain m found.bytes) is.meant_is (found.plain refl)) in
      let root = roots torn.count torn.enough torn.within in
      let chained : AreChained floor published logs state = subst (λ (n : ℕ). AreChained floor n logs state) (sym published_is) (subst (λ (n : ℕ). AreChained n (length story.log) logs state) (sym floor_is) stored.chained) in
      record {
        edits = take torn.count way.edits;
        root = root;
        shown = record {
          current = held_found Current goes.current (current_of way.manifest) goes.named goes.not_cut goes.says;
          numbered = own_name (length state.files) way.file (Manifest way.manifest) (settled_through count state).firm (one_to_one count) goes.manifest;
          version = subst (λ o. ManifestIs o (Ok root.version)) (sym found.there) (torn.gives root.version root.is_version);
          tables = firm_open state image root.version.tables root.tables (λ table file h. held_found (Table table.number) h.file file.bytes (h.steady.named count) h.steady.not_cut h.held) root.firm;
          once = shows.once;
          on = onward root.version.min_log mark root.place story image within root.published logs place 0 stored.in_turn stored.limits stored.batches_are (all_seen logs chained)
              (rising floor published 0 logs state chained (from_zero logs)) root.begins;
          others = λ n low out. shows.empty n (λ file named. root.others count n file low out named);
        };
      }

shown_reads : (mark : ℕ) (way : Way) (next_file : ℕ) (logs : List Chained) (story : Story) (state : State) (image : Named (List ℕ)) → ShowsWay mark way next_file logs story state image → ReadsIn story mark image
shown_reads mark way next_file logs story state image h = root_reads mark way.manifest next_file h.edits logs story state h.root image h.shown

pub way_reads : WayReads
way_reads way place next_file count logs story state image one_to_one is goes roots stored plain =
    shown_reads story.floor way next_file logs story state image
    (way_shown (λ file. file.firm) count story.floor story.floor (length story.log) state image (image_shows count state image one_to_one plain.0 plain.1)
    (λ before payloads file h. h.firm_to) (λ file bytes h. h.firm) (λ way h. h.firm_to) way place next_file logs story one_to_one is goes roots stored refl refl stored.floor_within)

-- where CURRENT as read names a way, the directory that reads see shows a root of it
pub way_seen : (way : Way) (place next_file : ℕ) (logs : List Chained) (story : Story) (state : State) → IsOneToOne state → AllRead state → IsWay way state → Goes (length state.waiting) way state → AreRoots way logs story next_file state
    → HoldStory place logs story state → ShowsWay (length story.log) way next_file logs story state (image_read state)
way_seen way place next_file logs story state one_to_one read is goes roots stored =
    way_shown (λ file. length file.read) (length state.waiting) (length story.log) story.floor (length story.log) state (image_read state) (read_shows state one_to_one read)
    (λ before payloads file h. h.read_to) (λ file bytes h. ap length h.read) (λ way h. h.read_to) way place next_file logs story one_to_one is goes roots stored refl refl (omega arith)

pub way_is_read : WayIsRead
way_is_read way place next_file logs story state one_to_one read is goes roots stored =
    shown_reads (length story.log) way next_file logs story state (image_read state) (way_seen way place next_file logs story state one_to_one read is goes roots stored)

pub keeping_stands : KeepingStands
keeping_stands ways place logs levels story next_file state one_to_one keeps = record {
  images = λ image plain.
      let going = keeps.go plain.0 in
      way_reads going.0 place next_file plain.0 logs story state image one_to_one going.2 going.3 (keeps.roots going.0 going.1) keeps.stored plain.1;
  now =
      let going = keeps.go (length state.waiting) in
      way_is_read going.0 place next_file logs story state one_to_one keeps.read going.2 going.3 (keeps.roots going.0 going.1) keeps.stored;
}
