-- A directory that shows a root and the logs behind it reads as a prefix of the story.
use Rattle.std.specs.List.{flat_map}
use Rattle.std.proofs.Common.{◌≡◌, ℕ, ◌+◌, ◌≤◌, false, List, [], ◌++◌, length, take, drop, Some, Ok, refl, sym, ap, subst, ◌∙◌, arith, append_assoc, take-add, take-append-drop}
use Rattle.std.proofs.lemmas.List.{length-append, length-drop, take-append-le}
use Rattle.keel_base.specs.declared.file_name.FileName.TheVariants.{Manifest, Current}
use Rattle.keel_base.specs.declared.op.Op.{Op}
use Rattle.keel_base.specs.declared.row.Row.{Row}
use Rattle.keel_base.specs.Name.{IsFileNumber}
use Rattle.keel_base.specs.Points.{Point, fold_batches}
use Rattle.keel_base.specs.Rows.{IsMapOf}
use Rattle.keel_disk.specs.Directory.{Named, find}
use Rattle.keel_disk.specs.State.{State}
use Rattle.keel_directory.specs.Laws.{AreNamedOnce}
use Rattle.keel_directory.specs.Manifests.{ManifestIs}
use Rattle.keel_directory.specs.Reading.{StoreRead, IsReading, WithCurrent, held, all_rows}
use Rattle.keel_directory.specs.Replays.{AreRead, LogsAre, logs_from}
use Rattle.keel_directory.specs.Sound.{AllAgree}
use Rattle.keel_directory.specs.TableFiles.{AllOpen, TableFile, table_rows}
use Rattle.keel_edit.specs.declared.edit.Edit.{Edit}
use Rattle.keel_batch.specs.Batches.{AreBatches}
use Rattle.keel_machine.specs.States.{Story}
use Rattle.keel_name.specs.Current.{current_of}
use Rattle.keel_recovery.specs.Chains.{Chained, FollowOn, is_chained, batches_of}
use Rattle.keel_recovery.specs.Readings.{AreLimited, batches_read}
use Rattle.keel_recovery.specs.Roots.{IsRoot, point_at}
use Rattle.keel_recovery.specs.Standing.{ReadsIn}
use Rattle.keel_recovery.proofs.LogFiles.{log_bytes, files_of, logs_are}
use Rattle.keel_recovery.proofs.Numbering.{batches_take, folded_append, seq_folded}
use Rattle.keel_recovery.proofs.Onward.{all_of, Onward}
use Rattle.keel_recovery.proofs.OpenTables.{open_are, said_known}
use Rattle.keel_recovery.proofs.Rows.{AreKnown, map_folds, rows_agree}
use Rattle.keel_recovery.proofs.Seeing.{numbers_of, GivesFrom, all_give}
use Rattle.keel_recovery.proofs.TornLog.{ReadsSo}
use Rattle.keel_draft.specs.Drafts.{count_ops, batch_rows}

-- what a directory has of a root and of the logs behind it
pub record ShowsRoot (mark manifest next_file : ℕ) (edits : List Edit) (logs : List Chained) (story : Story) (state : State) (root : IsRoot edits logs story next_file state) (image : Named (List ℕ)) : Type 0 where
  pub current : find Current image ≡ Some (current_of manifest)
  pub numbered : IsFileNumber manifest
  pub version : ManifestIs (find (Manifest manifest) image) (Ok root.version)
  pub tables : AllOpen image root.version.tables root.tables
  pub once : AreNamedOnce image
  pub on : Onward root.version.min_log mark root.place logs story image
  pub others : (n : ℕ) → root.version.min_log ≤ n → is_chained n logs ≡ false → log_bytes n image ≡ []

-- The reading of such a directory has these tables, and its batches are the first of the story's behind a place, within their limits.
pub record RootRead (place : ℕ) (tables : List TableFile) (story : Story) (image : Named (List ℕ)) : Type 0 where
  pub found : StoreRead
  pub point : Point
  pub is_read : IsReading image (held found point)
  pub tables_are : found.tables ≡ tables
  pub limits : AreLimited (held found point)
  pub more : List (List Op)
  pub batches_are : drop place (all_of story) ≡ batches_read (held found point) ++ more

-- the replay of so many batches
read_so : (last : ℕ) (image : Named (List ℕ)) (least : ℕ) (written : List (List Op)) (numbers : List ℕ) → logs_from least image ≡ files_of numbers image
    → (so : ReadsSo last written (files_of numbers image)) → LogsAre image least last (Ok (record { batches = so.batches; last = last + count_ops written }))
read_so last image least written numbers files so =
    (so.reads, subst (λ fs. AreRead fs so.reads) (sym files) so.are, sym (rw (so.all, so.runs.runs) refl))

module _ (mark manifest next_file : ℕ) (edits : List Edit) (logs : List Chained) (story : Story) (state : State) (root : IsRoot edits logs story next_file state) (image : Named (List ℕ))
    (shows : ShowsRoot mark manifest next_file edits logs story state root image) where
  given : GivesFrom mark root.place root.version.last_seq (batches_of shows.on.rest) (files_of (numbers_of shows.on.rest) image)
  given =
      let on = shows.on in
      all_give mark root.place root.version.last_seq on.rest image (subst (λ (n : ℕ). FollowOn root.place n on.rest) (sym root.ends) on.follow)
      (subst (λ (n : ℕ). AreBatches n (batches_of on.rest)) (sym root.ends) on.limits) on.seen on.enough

  abbrev found : StoreRead
  found = record {
    manifest = manifest;
    version = root.version;
    tables = root.tables;
    replay = record { batches = given.reads.batches; last = root.version.last_seq + count_ops (take given.count (batches_of shows.on.rest)) };
  }

  abbrev point : Point
  point = fold_batches (point_at root.place story) (take given.count (batches_of shows.on.rest))

  rows_are : flat_map table_rows root.tables ++ batch_rows ((point_at root.place story).seq + 1) (take given.count (batches_of shows.on.rest)) ≡ all_rows found
  rows_are =
      ap (λ (n : ℕ). flat_map table_rows root.tables ++ batch_rows (n + 1) (take given.count (batches_of shows.on.rest))) (sym root.ends)
      ∙ ap (λ (l : List Row). flat_map table_rows root.tables ++ l) (sym given.reads.runs.rows)

  known : AreKnown (point_at root.place story).seq (flat_map table_rows root.tables)
  known = subst (λ (n : ℕ). AreKnown n (flat_map table_rows root.tables)) root.ends (said_known root.version.last_seq root.tables root.say.said)

  is_map : IsMapOf (all_rows found) point.values
  is_map = subst (λ (l : List Row). IsMapOf l point.values) rows_are
      (map_folds (flat_map table_rows root.tables) (point_at root.place story) (take given.count (batches_of shows.on.rest)) root.say.map known)

  agree : AllAgree (all_rows found)
  agree = subst AllAgree rows_are (rows_agree (point_at root.place story).seq (flat_map table_rows root.tables) (take given.count (batches_of shows.on.rest)) known root.say.agree)

  logs_read : LogsAre image root.version.min_log root.version.last_seq (Ok found.replay)
  logs_read =
      read_so root.version.last_seq image root.version.min_log (take given.count (batches_of shows.on.rest)) (numbers_of shows.on.rest)
      (logs_are root.version.min_log (numbers_of shows.on.rest) image shows.once shows.on.rise (λ n low out. shows.others n low (shows.on.chained n low out))) given.reads

  is_read : IsReading image (held found point)
  unfolding IsReading
  is_read =
      subst (λ current. WithCurrent image current (held found point)) (sym shows.current) (
        Ok found,
        (Ok manifest, (refl, shows.numbered), (Ok root.version, shows.version, (Ok root.tables, open_are image root.version.tables root.tables shows.tables, (Ok found.replay, logs_read, refl)))),
        (refl, is_map, seq_folded (point_at root.place story) (take given.count (batches_of shows.on.rest)) ∙ ap (λ (n : ℕ). n + count_ops (take given.count (batches_of shows.on.rest))) (sym root.ends)),
      )

  -- the batches that are read are the first of those behind the root's place
  pub root_read : RootRead root.place root.tables story image
  root_read =
      let on = shows.on in
      let batches = batches_of on.rest in
      let count = given.count in
      record {
        found = found;
        point = point;
        is_read = is_read;
        tables_are = refl;
        limits = subst (AreBatches root.version.last_seq) (sym given.reads.runs.ops) (batches_take count root.version.last_seq batches (subst (λ (n : ℕ). AreBatches n batches) (sym root.ends) on.limits));
        more = drop count batches ++ on.more;
        batches_are =
            on.batches_are ∙ (ap (λ (l : List (List Op)). l ++ on.more) (sym (take-append-drop count batches)) ∙ append_assoc (take count batches) (drop count batches) on.more)
            ∙ ap (λ (l : List (List Op)). l ++ (drop count batches ++ on.more)) (sym given.reads.runs.ops);
      }

  pub root_reads : ReadsIn story mark image
  root_reads =
      let on = shows.on in
      let all = all_of story in
      let written = take given.count (batches_of on.rest) in
      let rest : take given.count (drop root.place all) ≡ written = ap (take given.count) on.batches_are ∙ take-append-le given.count (batches_of on.rest) on.more given.within in
      let first : take (root.place + given.count) all ≡ take root.place all ++ written = take-add root.place given.count all ∙ ap (λ (l : List (List Op)). take root.place all ++ l) rest in (
        point,
        record {
          reading = held found point;
          is_read = is_read;
          sound = record { said = root.say.said; agree = agree; layered = root.say.layered };
          has = refl;
        },
        record {
          count = root.place + given.count;
          enough = given.enough;
          within = omega (arith, given.within, root.published, ap length on.batches_are, length-append (batches_of on.rest) on.more, length-drop root.place all, length-append story.log story.limbo);
          point_is = sym (folded_append story.start (take root.place all) written) ∙ ap (fold_batches story.start) (sym first);
        },
      )
