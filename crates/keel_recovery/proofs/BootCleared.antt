-- The last call of a boot, answered Ok: CURRENT names the new manifest for good, and the store's tables have all batches.
use Rattle.std.proofs.Common.{◌≡◌, ℕ, ◌+◌, ◌≤◌, List, [], ◌∷◌, length, option_map, ◌-◌, take, drop, Option, Some, None, unwrap_or, refl, sym, ap, subst, ◌∙◌, inl, inr, arith, append-nil}
use Rattle.std.proofs.lemmas.Bool.{le-leb}
use Rattle.keel_base.specs.declared.file_name.FileName.TheVariants.{Current, Log, Manifest}
use Rattle.keel_base.specs.Points.{Point}
use Rattle.keel_disk.specs.declared.change.Change.TheVariants.{SyncDir}
use Rattle.keel_disk.specs.declared.state.File.{File}
use Rattle.keel_disk.specs.Directory.{find}
use Rattle.keel_disk.specs.Sound.{IsOneToOne}
use Rattle.keel_disk.specs.State.{State as Disk, file_at, new_file, settled_through}
use Rattle.keel_disk.specs.Step.{DiskStep}
use Rattle.keel_disk.specs.Steady.{IsGoing, file_behind}
use Rattle.keel_disk.proofs.Staying.{one_stays}
use Rattle.keel_disk.proofs.Steadily.{steady_stays}
use Rattle.keel_disk.proofs.Settling.{settled_twice}
use Rattle.keel_edit.specs.Spelling.{spelling}
use Rattle.keel_frag.specs.Writing.{record_bytes, records_bytes}
use Rattle.keel_name.specs.Current.{current_of}
use Rattle.keel_directory.specs.TableFiles.{TableFile}
use Rattle.keel_machine.specs.Outside.{as_answer}
use Rattle.keel_machine.specs.Resuming.{act_done, cleared_story}
use Rattle.keel_machine.specs.States.{State, Story, Resumption, new_log, point_of}
use Rattle.keel_manifest.specs.declared.manifest.Progress.TheVariants.{Firm}
use Rattle.keel_manifest.specs.declared.roll.RollCall.TheVariants.{SyncDirectory}
use Rattle.keel_manifest.specs.State.{ManifestState}
use Rattle.keel_resume.specs.Plans.{Job, Rolls, edit_of}
use Rattle.keel_version.specs.Tables.{Contents, nothing}
use Rattle.keel_recovery.specs.Booting.{IsBooting}
use Rattle.keel_recovery.specs.BootCalls.{AreAllFixed, AreFixed, AreNewLogs, AreRising, BootKept, HasMadeSo, IsFixedLog, IsMade}
use Rattle.keel_recovery.specs.BootRoll.{Gives, contents_behind, levels_behind}
use Rattle.keel_recovery.specs.BootTurns.{IsCleared}
use Rattle.keel_recovery.specs.Calls.{AllReach, CanGrow}
use Rattle.keel_recovery.specs.Chains.{Chained, HoldsRecords, size_of_first}
use Rattle.keel_recovery.specs.Flushes.{HasFlush}
use Rattle.keel_recovery.specs.Keeping.{Keeps, HoldStory}
use Rattle.keel_recovery.specs.Roots.{AllGo, AllRoots, Goes, IsRoot, IsWay, Say, Way, first_from, point_at, version_behind, BeginsAt}
use Rattle.keel_recovery.proofs.BootLast.{settled_boot}
use Rattle.keel_recovery.proofs.BootMoved.{made_way}
use Rattle.keel_recovery.proofs.BootNames.{behind_none, take_none}
use Rattle.keel_recovery.proofs.BootRollTurns.{each_apart}
use Rattle.keel_recovery.proofs.BootRooted.{point_whole, roll_root, tables_firm}
use Rattle.keel_recovery.proofs.BootSteps.{all_fixed_stay, made_stays, sync_dir_done}

dropped_whole : {A : Type 0} (xs : List A) → drop (length xs) xs ≡ []
dropped_whole [] = refl
dropped_whole (x ∷ xs) = dropped_whole xs

some_one : {A : Type 0} {x y : A} → Some x ≡ Some y → x ≡ y
some_one e = cc

-- the log of a story whose batches are all in tables
abbrev empty_log : ℕ → Story → Chained
empty_log number story = record { number = number; before = length story.log; last = (point_of story).seq; batches = [] }

begins_there : (log : ℕ) (story : Story) → BeginsAt (length story.log) (first_from log (empty_log log story ∷ [])) story
begins_there log story = rw (le-leb log log (omega arith)) refl

no_record : (count : ℕ) → size_of_first count [] ≡ 0
unfolding records_bytes
no_record count = ap (λ (p : List (List ℕ)). length (records_bytes 0 p)) (take_none count)

new_holds : (lasting shown : ℕ) (file : File) → file ≡ new_file → HoldsRecords lasting shown [] file
unfolding records_bytes
new_holds lasting shown file is = record {
  meant_is = ap (λ (f : File). f.meant) is;
  firm_to = omega (arith, no_record lasting);
  read_to = omega (arith, no_record shown);
}

module _ (bound : ℕ) (old : Disk) (levels : List TableFile) (story : Story) (next : ℕ) (job : Job) (state : Disk) (booting : IsBooting bound old levels story next state)
    (parts : AreAllFixed bound job next state) (rising : AreRising job.progress.tables next) (last_is : job.last_seq ≡ (point_of story).seq) (gives : Gives levels story job parts.log next) (none_waits : state.waiting ≡ [])
    (m : ℕ) (manifest : IsMade bound (Manifest m) (record_bytes 0 (spelling (edit_of job next))) state) (current : IsMade bound Current (current_of m) state) where
  abbrev way : Way
  way = record { manifest = m; file = manifest.file; edits = edit_of job next ∷ []; firm = 1 }

  abbrev all_in : Story
  all_in = cleared_story story

  abbrev log : Chained
  log = empty_log parts.log all_in

  all_whole : point_at (length story.log) all_in ≡ point_of story
  all_whole = point_whole all_in (record { none_in_limbo = refl; all_stay = refl })

  one_of : (count : ℕ) → 1 ≤ count → count ≤ 1 → 1 ≡ count
  one_of count least most = omega (arith, least, most)

  is_way : IsWay way state
  is_way = made_way bound m (edit_of job next) state gives.is_edit manifest

  goes : (count : ℕ) → Goes count way state
  goes count = record {
    current = current.file;
    named = behind_none count Current state none_waits ∙ current.present.named;
    says = current.held;
    not_cut = current.present.not_cut;
    manifest = behind_none count (Manifest m) state none_waits ∙ manifest.present.named;
  }

  go : AllGo (way ∷ []) state
  go count = (way, inl refl, is_way, goes count)

  root : IsRoot (edit_of job next ∷ []) (log ∷ []) all_in next state
  root = roll_root bound old levels story next job state booting parts rising last_is gives (log ∷ []) (begins_there parts.log all_in)

  roots : AllRoots (way ∷ []) (log ∷ []) all_in next state
  roots other (inl is) = subst (λ (w : Way). (count : ℕ) → w.firm ≤ count → count ≤ length w.edits → IsRoot (take count w.edits) (log ∷ []) all_in next state) (sym is)
      (λ count least most. subst (λ n. IsRoot (take n (edit_of job next ∷ [])) (log ∷ []) all_in next state) (one_of count least most) root)
  roots other (inr is) = absurd is

  stored : HoldStory (length story.log) (log ∷ []) all_in state
  stored = record {
    in_turn = (refl, sym (ap (λ (p : Point). p.seq) all_whole), tt);
    batches_are = ap (drop (length story.log)) (append-nil story.log) ∙ dropped_whole story.log;
    limits = tt;
    place_within = omega arith;
    floor_within = omega arith;
    chained = (
      record { file = parts.log_fixed.file; steady = parts.log_fixed.steady; holds = new_holds (length story.log - length story.log) (length story.log - length story.log) (file_at parts.log_fixed.file state.files) parts.log_fixed.is_new },
      tt,
      inl tt,
      tt,
    );
  }

  pub keeps_cleared : Keeps (way ∷ []) (length story.log) (log ∷ []) (levels_behind levels job) all_in next state
  keeps_cleared = record {
    go = go;
    roots = roots;
    live = record {
      firm = tables_firm bound old levels story next job state booting parts rising last_is gives;
      say = subst (λ (p : Point). Say p.seq (levels_behind levels job) p) (sym all_whole) (subst (λ n. Say n (levels_behind levels job) (point_of story)) last_is gives.say);
    };
    stored = stored;
    drawn = booting.drawn;
    read = booting.read;
  }

  pub grows_cleared : CanGrow [] log 0 state
  grows_cleared = record {
    whole = tt;
    going = record {
      file = parts.log_fixed.file;
      steady = parts.log_fixed.steady;
      going = subst IsGoing (sym parts.log_fixed.is_new) (record { not_spoilt = refl; read = refl });
      size_is = ap (λ (f : File). length f.meant) parts.log_fixed.is_new;
    };
  }

  -- the manifest is ready for an edit, and says the levels
  pub flushes_cleared : (shown : ManifestState) → shown.in_use ≡ Some (record { number = m; edits = 1; progress = Firm (length (record_bytes 0 (spelling (edit_of job next)))) })
      → HasFlush way (levels_behind levels job) job.last_seq (log ∷ []) None None next shown state
  flushes_cleared shown used = record {
    in_use = record {
      version = contents_behind levels job parts.log next;
      is_version = gives.version;
      tables = refl;
      last = refl;
      min_log = omega arith;
      next = omega arith;
      order = gives.order;
      each = gives.each;
    };
    most = parts.most;
    goes = record {
      size = length (record_bytes 0 (spelling (edit_of job next)));
      opened = record {
        steady = record { named = λ count. behind_none count (Manifest m) state none_waits ∙ manifest.present.named; not_cut = manifest.present.not_cut };
        going = record { not_spoilt = manifest.clean; read = manifest.held.read ∙ sym manifest.held.meant };
        size_is = ap length manifest.held.meant;
      };
      firm = refl;
      known = record { edits = 1; in_use = used };
    };
  }

  min_log_is : (count : ℕ) (version : Contents) → 1 ≡ count → version_behind nothing (take count (edit_of job next ∷ [])) ≡ Some version → version.min_log ≤ parts.log
  min_log_is count version is some =
      let same = some_one (sym gives.version ∙ subst (λ n. version_behind nothing (take n (edit_of job next ∷ [])) ≡ Some version) (sym is) some) in
      omega (arith, ap (λ (v : Contents). v.min_log) same)

  pub reach_cleared : AllReach (way ∷ []) parts.log
  reach_cleared other count version (inl is) least most some =
      subst (λ (w : Way). w.firm ≤ count → count ≤ length w.edits → version_behind nothing (take count w.edits) ≡ Some version → version.min_log ≤ parts.log) (sym is)
      (λ least most some. min_log_is count version (one_of count least most) some) least most some
  reach_cleared other count version (inr is) least most some = absurd is

-- ---- the turn

module _ (s : State) (running : Resumption) (state after : Disk) (one : IsOneToOne state) (kept : BootKept s state) (made : HasMadeSo kept.bound s running.job state)
    (parts : AreAllFixed kept.bound running.job s.numbers.next_file state) (gives : Gives s.levels s.story running.job parts.log s.numbers.next_file)
    (m : ℕ) (manifest : IsMade kept.bound (Manifest m) (record_bytes 0 (spelling (edit_of running.job s.numbers.next_file))) state) (current : IsMade kept.bound Current (current_of m) state)
    (manifest_is : running.job.progress.manifest ≡ Some m) (step : DiskStep state SyncDir (as_answer None) after) where
  abbrev next : ℕ
  next = s.numbers.next_file

  one_after : IsOneToOne after
  one_after = one_stays SyncDir (as_answer None) state after tt one step

  is : after ≡ settled_through (length state.waiting) state
  is = sync_dir_done state after step

  none_waits : after.waiting ≡ []
  none_waits = ap (λ (d : Disk). d.waiting) is ∙ dropped_whole state.waiting

  booting : IsBooting kept.bound kept.old s.levels s.story next after
  booting = settled_boot kept.bound kept.old s.levels s.story next state after one kept.booting None step (length state.waiting) is

  later : (count n : ℕ) → file_behind count (Log n) after ≡ file_behind (length state.waiting + count) (Log n) state
  later count n = ap (file_behind count (Log n)) is ∙ ap (λ (d : Disk). find (Log n) d.firm) (settled_twice (length state.waiting) count state)

  logs_after : AreNewLogs kept.bound parts.log after
  logs_after count n file over there = parts.logs (length state.waiting + count) n file over (sym (later count n) ∙ there)

  fixed_after : AreFixed kept.bound running.job.progress.tables running.job.drafts after
  fixed_after = all_fixed_stay state after SyncDir (as_answer None) one step kept.bound running.job.progress.tables running.job.drafts (each_apart SyncDir running.job.progress.tables (λ n. tt)) parts.fixed

  log_after : IsFixedLog kept.bound parts.log after
  log_after =
      let stays = steady_stays (Log parts.log) parts.log_fixed.file SyncDir (as_answer None) state after one tt parts.log_fixed.steady step in
      record { file = parts.log_fixed.file; steady = stays.0; newer = parts.log_fixed.newer; is_new = stays.1 ∙ parts.log_fixed.is_new }

  abbrev parts_after : AreAllFixed kept.bound running.job next after
  parts_after = record { fixed = fixed_after; log = parts.log; log_is = parts.log_is; log_fixed = log_after; logs = logs_after; log_drawn = parts.log_drawn; most = parts.most }

  manifest_after : IsMade kept.bound (Manifest m) (record_bytes 0 (spelling (edit_of running.job next))) after
  manifest_after = made_stays state after SyncDir (as_answer None) one step kept.bound (Manifest m) (record_bytes 0 (spelling (edit_of running.job next))) tt manifest

  current_after : IsMade kept.bound Current (current_of m) after
  current_after = made_stays state after SyncDir (as_answer None) one step kept.bound Current (current_of m) tt current

  abbrev all_in_tables : Story
  all_in_tables = cleared_story s.story

  pub clears : IsCleared (act_done (Rolls SyncDirectory) running [] s) after
  clears = record {
    way = way kept.bound kept.old s.levels s.story next running.job after booting parts_after made.rising made.last_is gives none_waits m manifest_after current_after;
    log = parts.log;
    log_is = ap (option_map new_log) parts.log_is;
    keeps = keeps_cleared kept.bound kept.old s.levels s.story next running.job after booting parts_after made.rising made.last_is gives none_waits m manifest_after current_after;
    uncut = booting.uncut;
    listed = booting.listed;
    grows = grows_cleared kept.bound kept.old s.levels s.story next running.job after booting parts_after made.rising made.last_is gives none_waits m manifest_after current_after;
    reach = reach_cleared kept.bound kept.old s.levels s.story next running.job after booting parts_after made.rising made.last_is gives none_waits m manifest_after current_after;
    flushes = subst (λ (n : ℕ). HasFlush (way kept.bound kept.old s.levels s.story next running.job after booting parts_after made.rising made.last_is gives none_waits m manifest_after current_after)
        (levels_behind s.levels running.job) n (empty_log parts.log all_in_tables ∷ []) None None next (act_done (Rolls SyncDirectory) running [] s).numbers.manifest after) made.last_is
        (flushes_cleared kept.bound kept.old s.levels s.story next running.job after booting parts_after made.rising made.last_is gives none_waits m manifest_after current_after
        (act_done (Rolls SyncDirectory) running [] s).numbers.manifest
        (ap (λ (number : ℕ). Some (record { number = number; edits = 1; progress = Firm (length (record_bytes 0 (spelling (edit_of running.job next)))) })) (ap (λ (o : Option ℕ). unwrap_or o 0) manifest_is)));
  }
