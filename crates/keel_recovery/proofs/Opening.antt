-- What an opening finds of a device that was left.
use Rattle.std.specs.Prelude.{All}
use Rattle.std.specs.List.{AllByRecursion, flat_map}
use Rattle.std.specs.FinMap.{get-empty}
use Rattle.std.proofs.Common.{◌≡◌, ℕ, ◌+◌, ◌<◌, ◌≤◌, Bool, true, false, if◌then◌else◌, List, [], ◌∷◌, ◌++◌, length, Some, option_map, refl, sym, ap, subst, ◌∙◌, arith}
use Rattle.std.proofs.lemmas.List.{append-nil}
use Rattle.keel_base.specs.declared.file_name.FileName.{FileName}
use Rattle.keel_base.specs.declared.listing.Entry.{Entry}
use Rattle.keel_base.specs.declared.op.Op.{Op}
use Rattle.keel_base.specs.declared.row.Row.{Row}
use Rattle.keel_base.specs.Keys.{key_cmp}
use Rattle.keel_base.specs.Listings.{size_listed}
use Rattle.keel_base.specs.Name.{IsName, name_eq}
use Rattle.keel_base.proofs.Names.{name_eq-true}
use Rattle.keel_base.specs.Points.{Point, origin}
use Rattle.keel_base.specs.Rows.{IsMapOf}
use Rattle.keel_batch.specs.Batches.{AreBatches}
use Rattle.keel_directory.specs.Reading.{StoreRead}
use Rattle.keel_directory.specs.Replays.{replayed_rows}
use Rattle.keel_directory.specs.Sound.{AllAgree, AreLayered, IsAsSaid, IsSoundly}
use Rattle.keel_directory.specs.TableFiles.{table_rows}
use Rattle.keel_disk.specs.Directory.{Named}
use Rattle.keel_disk.specs.Sound.{IsOneToOne}
use Rattle.keel_disk.specs.State.{file_at, directory_read}
use Rattle.keel_disk.specs.Steady.{file_behind}
use Rattle.keel_disk.specs.Told.{Told, TellsListing}
use Rattle.keel_disk.proofs.Steadily.{read_own}
use Rattle.keel_edit.specs.Spelling.{IsAdded}
use Rattle.keel_machine.specs.Opening.{Found, GoesOnWith, story_opened, ops_replayed, replayed_segments}
use Rattle.keel_machine.specs.Reads.{segment_rows}
use Rattle.keel_machine.specs.Resuming.{batches_in}
use Rattle.keel_machine.specs.States.{Story, entries_in, point_of}
use Rattle.keel_open.specs.NextFiles.{number_in, IsOverAll}
use Rattle.keel_recovery.specs.BootCalls.{BootFacts, joined}
use Rattle.keel_recovery.specs.Readings.{AreListed}
use Rattle.keel_recovery.proofs.Bearing.{segment_rows_are}
use Rattle.keel_recovery.proofs.Found.{HeldGives, replays, front_agrees}
use Rattle.keel_recovery.proofs.Limits.{runs_on}
use Rattle.keel_recovery.proofs.Rows.{ops_found}
use Rattle.keel_recovery.proofs.Stands.{own_name}
use Rattle.keel_draft.specs.Drafts.{batch_rows, count_ops}
use Rattle.keel_version.specs.Tables.{AreLevels, IsWithin, nothing}

-- ---- the numbers of names

listed : (name : FileName) (size next : ℕ) (listing : List Entry) → IsOverAll next listing → size_listed name listing ≡ Some size → number_in name < next
listed name size next [] over is = cc
listed name size next (entry ∷ rest) over is = by (name_eq entry.name name) refl is (listed name size next rest over.1)
  where
    by : (b : Bool) → name_eq entry.name name ≡ b → (if b then Some entry.size else size_listed name rest) ≡ Some size → (size_listed name rest ≡ Some size → number_in name < next) → number_in name < next
    by true same is later = subst (λ (n : FileName). number_in n < next) (name_eq-true entry.name name same) over.0
    by false differs is later = later is

-- where the listing is over all names that reads see, the number is over those of each directory
pub all_drawn : (told : Told) (listing : List Entry) (next : ℕ) → IsOneToOne told.state → AreListed told.state → IsOverAll next listing → TellsListing (Some told) listing → (count file : ℕ) (name : FileName)
    → file_behind count name told.state ≡ Some file → number_in name < next
all_drawn told listing next one are over tells count file name is =
    let high = are count file name is in
    let is_name : IsName high.name = own_name (length told.state.files) high.file high.name (directory_read told.state) (read_own told.state one) high.named in
    let size : size_listed high.name listing ≡ Some (length (file_at high.file told.state.files).read) =
    tells high.name is_name ∙ ap (λ o. option_map length (option_map (λ n. (file_at n told.state.files).read) o)) high.named in
    omega (arith, high.high, listed high.name (length (file_at high.file told.state.files).read) next listing over size)

-- ---- what was replayed

joined_one : (ops : List (List Op)) (logs : List ℕ) → joined (batches_in (replayed_segments ops logs)) ≡ ops
joined_one [] logs = refl
joined_one (first ∷ ops) logs = append-nil (first ∷ ops)

some_each : (ops : List (List Op)) (logs : List ℕ) → AllByRecursion (λ (batches : List (List Op)). 1 ≤ length batches) (batches_in (replayed_segments ops logs))
some_each [] logs = tt
some_each (first ∷ ops) logs = (omega arith, tt)

-- the point that the story leads to is the one that was found
pub point_is : (goes : Bool) (story : Story) (joined : ℕ) (point : Point) → GoesOnWith goes story joined point → point_of (story_opened goes joined point story) ≡ point
point_is true story joined point h = sym h.point_is
point_is false story joined point h = refl

-- ---- what is held

module _ (image : Named (List ℕ)) (found : Found) (story : Story) (order : AreLevels found.store.version.tables) (within : IsWithin found.store.version)
    (tables : entries_in found.levels ≡ found.store.version.tables) (seq : found.point.seq ≡ found.store.last_seq) (point : point_of story ≡ found.point) where
  abbrev ops : List (List Op)
  ops = ops_replayed found.store.batches.items

  abbrev segments : List (List (List Op))
  segments = batches_in (replayed_segments ops found.store.logs.items)

  abbrev Facts : Type 0
  Facts = BootFacts found.levels segments found.store.version.last_seq story

  entries_added : All IsAdded (entries_in found.levels)
  entries_added = subst (All IsAdded) (sym tables) within.tables

  entries_order : AreLevels (entries_in found.levels)
  entries_order = subst AreLevels (sym tables) order

  pub held_facts : (f : StoreRead) → found.levels ≡ f.tables → f.version ≡ found.store.version → f.replay.batches ≡ found.store.batches.items → f.replay.last ≡ found.store.last_seq
      → IsSoundly f → AreBatches f.version.last_seq (ops_found f.replay.batches) → HeldGives image f found.point → Facts
  held_facts f levels version batches last sound limits gives =
      let r = replays image f.version.min_log f.version.last_seq f.replay gives.logs in
      let run = runs_on f.version.last_seq f.replay.last f.replay.batches r.runs in
      let last_is : f.version.last_seq ≡ found.store.version.last_seq = ap (λ v. v.last_seq) version in
      let ops_are : ops_found f.replay.batches ≡ ops = ap ops_found batches in
      let joined_are : ops ≡ joined segments = sym (joined_one ops found.store.logs.items) in
      let rows : replayed_rows f.replay.batches ≡ segment_rows found.store.version.last_seq segments =
      run.rows ∙ (λ i. batch_rows (last_is i + 1) ((ops_are ∙ joined_are) i)) ∙ sym (segment_rows_are found.store.version.last_seq segments) in
      record {
        said = subst (λ ts. AllByRecursion (IsAsSaid found.store.version.last_seq) ts) (sym levels) (subst (λ (n : ℕ). AllByRecursion (IsAsSaid n) f.tables) last_is sound.said);
        agree = subst (λ ts. AllAgree (flat_map table_rows ts)) (sym levels) (front_agrees (flat_map table_rows f.tables) (replayed_rows f.replay.batches) sound.agree);
        layered = subst (λ ts. AllByRecursion (λ upper. AllByRecursion (AreLayered upper) ts) ts) (sym levels) sound.layered;
        entries = entries_added;
        order = entries_order;
        limits = subst (AreBatches found.store.version.last_seq) (ops_are ∙ joined_are) (subst (λ (n : ℕ). AreBatches n (ops_found f.replay.batches)) last_is limits);
        each_some = some_each ops found.store.logs.items;
        in_known = omega (arith, within.last_seq);
        map = subst (λ (p : Point). IsMapOf (flat_map table_rows found.levels ++ segment_rows found.store.version.last_seq segments) p.values) (sym point)
            (subst (λ (l : List Row). IsMapOf l found.point.values) (λ i. flat_map table_rows ((sym levels) i) ++ rows i) gives.map);
        seq = omega (arith, run.ends, last_is, last, seq, ap (λ (p : Point). p.seq) point, ap count_ops (ops_are ∙ joined_are));
      }

  pub new_facts : found.levels ≡ [] → found.store.version ≡ nothing → found.store.batches.items ≡ [] → found.point ≡ origin → Facts
  new_facts levels version none at =
      let no_ops : ops ≡ [] = ap ops_replayed none in
      let no_segments : segments ≡ [] = ap (λ l. batches_in (replayed_segments l found.store.logs.items)) no_ops in
      let zero_seq : found.store.version.last_seq ≡ 0 = ap (λ v. v.last_seq) version in
      record {
        said = subst (λ ts. AllByRecursion (IsAsSaid found.store.version.last_seq) ts) (sym levels) tt;
        agree = subst (λ ts. AllAgree (flat_map table_rows ts)) (sym levels) tt;
        layered = subst (λ ts. AllByRecursion (λ upper. AllByRecursion (AreLayered upper) ts) ts) (sym levels) tt;
        entries = entries_added;
        order = entries_order;
        limits = subst (λ l. AreBatches found.store.version.last_seq (joined l)) (sym no_segments) tt;
        each_some = some_each ops found.store.logs.items;
        in_known = omega (arith, within.last_seq);
        map = subst (λ (p : Point). IsMapOf (flat_map table_rows found.levels ++ segment_rows found.store.version.last_seq segments) p.values) (sym (point ∙ at))
            (subst (λ (l : List Row). IsMapOf l origin.values) (λ i. flat_map table_rows ((sym levels) i) ++ segment_rows found.store.version.last_seq ((sym no_segments) i)) (λ key. get-empty key_cmp key));
        seq = omega (arith, zero_seq, ap (λ l. count_ops (joined l)) no_segments, ap (λ (p : Point). p.seq) (point ∙ at));
      }
