-- A boot goes on behind its move: CURRENT may name the new manifest then, which leads to the story.
use Rattle.std.proofs.Common.{◌≡◌, ℕ, ◌≤◌, false, List, [], ◌∷◌, length, map, take, Some, None, Result, refl, sym, ap, subst, ◌∙◌, inl, inr, arith, ⊎_elim, append-nil}
use Rattle.keel_base.specs.declared.failure.Fault.{Fault}
use Rattle.keel_base.specs.declared.file_name.FileName.TheVariants.{Current, Log, Table, Manifest, Temp}
use Rattle.keel_disk.specs.declared.change.Change.{Change}
use Rattle.keel_disk.specs.declared.change.Change.TheVariants.{Rename}
use Rattle.keel_disk.specs.declared.error.DiskError.{DiskError}
use Rattle.keel_disk.specs.declared.state.File.{File}
use Rattle.keel_disk.specs.declared.state.Operation.TheVariants.{Move}
use Rattle.keel_disk.specs.Directory.{find, operated_all}
use Rattle.keel_disk.specs.State.{State as Disk, directory_read, file_of, has_waiting_cut}
use Rattle.keel_disk.specs.Step.{DiskStep}
use Rattle.keel_disk.specs.Steady.{IsApart, IsHeld, file_behind}
use Rattle.keel_disk.specs.Sound.{IsOneToOne}
use Rattle.keel_disk.proofs.Directories.{operated_all-append}
use Rattle.keel_disk.proofs.Operating.{cut-append, find-moved}
use Rattle.keel_disk.proofs.Steadily.{steady_stays}
use Rattle.keel_directory.specs.TableFiles.{TableFile}
use Rattle.keel_edit.specs.declared.edit.Added.{Added}
use Rattle.keel_edit.specs.declared.edit.Edit.{Edit}
use Rattle.keel_edit.specs.Spelling.{spelling, IsEdit}
use Rattle.keel_frag.specs.Writing.{record_bytes, records_bytes}
use Rattle.keel_name.specs.Current.{current_of}
use Rattle.keel_machine.specs.Outside.{as_answer}
use Rattle.keel_machine.specs.Resuming.{act_done, act_failed, cleared_story}
use Rattle.keel_machine.specs.States.{State, Story, Resumption}
use Rattle.keel_manifest.specs.declared.roll.RollCall.{RollCall}
use Rattle.keel_manifest.specs.declared.roll.RollCall.TheVariants.{Rename as RenameCall, SyncDirectory}
use Rattle.keel_resume.specs.Plans.{Act, Rolls, edit_of, failure_of, left_of, moved}
use Rattle.keel_recovery.specs.Booting.{IsBooting, IsRoll}
use Rattle.keel_recovery.specs.BootCalls.{AreAllFixed, AreNewLogs, BootKept, HasMadeSo, IsMade, IsUnmoved}
use Rattle.keel_recovery.specs.BootRoll.{Gives}
use Rattle.keel_recovery.specs.Chains.{OthersEmpty}
use Rattle.keel_recovery.specs.Roots.{AreFirmTables, IsRoot, IsWay}
use Rattle.keel_recovery.proofs.BootMaking.{left_moved, is_over}
use Rattle.keel_recovery.proofs.BootMoving.{renamed, rename_done, rename_failed, moved_dir, dir_behind, found_before, current_moved, current_of_read}
use Rattle.keel_recovery.proofs.BootMoveTurn.{kept_moved, renamed_step}
use Rattle.keel_recovery.proofs.BootRollTurns.{parts_stay}
use Rattle.keel_recovery.proofs.BootRooted.{roll_root}

-- the bytes of one record
one_record : (payload : List ℕ) → records_bytes 0 (payload ∷ []) ≡ record_bytes 0 payload
unfolding records_bytes
one_record payload = append-nil (record_bytes 0 payload)

-- a manifest that was made is a way of one edit
pub made_way : (bound manifest : ℕ) (edit : Edit) (state : Disk) → IsEdit edit → (held : IsMade bound (Manifest manifest) (record_bytes 0 (spelling edit)) state)
    → IsWay (record { manifest = manifest; file = held.file; edits = edit ∷ []; firm = 1 }) state
made_way bound manifest edit state is held = record {
  some = omega arith;
  within = omega arith;
  are_edits = (is, tt);
  meant_is = held.held.meant ∙ sym (one_record (spelling edit));
  firm_to = omega (arith, ap length (one_record (spelling edit)), held.held.firm);
  read_to = omega (arith, ap length (one_record (spelling edit)), ap length held.held.read);
  not_cut = held.present.not_cut;
}

pub firm_stay : (state after : Disk) (change : Change) (answer : Result (Unit {0}) DiskError) → IsOneToOne state → DiskStep state change answer after → ((n : ℕ) → IsApart (Table n) change)
    → (tables : List Added) (found : List TableFile) → AreFirmTables state tables found → AreFirmTables after tables found
firm_stay state after change answer one step apart [] [] are = tt
firm_stay state after change answer one step apart [] (table ∷ found) are = absurd are
firm_stay state after change answer one step apart (entry ∷ tables) [] are = absurd are
firm_stay state after change answer one step apart (entry ∷ tables) (table ∷ found) are =
    let stays = steady_stays (Table entry.number) are.0.file change answer state after one (apart entry.number) are.0.steady step in (
      record { entry = are.0.entry; file = are.0.file; steady = stays.0; held = subst (λ (f : File). IsHeld f table.bytes) (sym stays.1) are.0.held; opens = are.0.opens },
      firm_stay state after change answer one step apart tables found are.1,
    )

-- a root stays one, where its tables are firm and other logs have no byte
pub root_stays : (edits : List Edit) (story : Story) (next : ℕ) (state after : Disk) (root : IsRoot edits [] story next state) → AreFirmTables after root.version.tables root.tables → OthersEmpty root.version.min_log [] after
    → IsRoot edits [] story next after
root_stays edits story next state after root firm others = record {
  version = root.version;
  is_version = root.is_version;
  place = root.place;
  published = root.published;
  ends = root.ends;
  tables = root.tables;
  firm = firm;
  say = root.say;
  begins = root.begins;
  others = others;
  log_drawn = root.log_drawn;
  drawn = root.drawn;
}

module _ (s : State) (running : Resumption) (state after : Disk) (one : IsOneToOne state) (kept : BootKept s state) (made : HasMadeSo kept.bound s running.job state)
    (parts : AreAllFixed kept.bound running.job s.numbers.next_file state) (gives : Gives s.levels s.story running.job parts.log s.numbers.next_file)
    (m : ℕ) (manifest_is : running.job.progress.manifest ≡ Some m) (manifest : IsMade kept.bound (Manifest m) (record_bytes 0 (spelling (edit_of running.job s.numbers.next_file))) state)
    (temporary : IsMade kept.bound (Temp m) (current_of m) state) (unmoved : IsUnmoved kept.bound state) where
  abbrev next : ℕ
  next = s.numbers.next_file

  abbrev there : Disk
  there = renamed m state

  held_temp : (file : ℕ) × (file_of (Temp m) state ≡ Some file) × (kept.bound ≤ file)
  held_temp = (temporary.file, temporary.present.named, temporary.newer)

  held_manifest : (file : ℕ) × (file_of (Manifest m) state ≡ Some file)
  held_manifest = (manifest.file, manifest.present.named)

  step_there : DiskStep state (Rename (Temp m) Current) (as_answer None) there
  step_there = renamed_step kept.bound kept.old s.levels s.story next state one kept.booting unmoved m held_temp held_manifest

  logs_there : AreNewLogs kept.bound parts.log there
  logs_there count n file over is = let before = found_before m state count file (Log n) refl refl is in parts.logs before.0 n file over before.1

  abbrev all_in : Story
  all_in = cleared_story s.story

  root : IsRoot (edit_of running.job next ∷ []) [] all_in next state
  root = roll_root kept.bound kept.old s.levels s.story next running.job state kept.booting parts made.rising made.last_is gives [] refl

  root_there : IsRoot (edit_of running.job next ∷ []) [] all_in next there
  root_there = root_stays (edit_of running.job next ∷ []) all_in next state there root
      (firm_stay state there (Rename (Temp m) Current) (as_answer None) one step_there (λ n. (refl, refl)) root.version.tables root.tables root.firm)
      (λ count n file over other is. let before = found_before m state count file (Log n) refl refl is in root.others before.0 n file over other before.1)

  abbrev manifest_there : IsMade kept.bound (Manifest m) (record_bytes 0 (spelling (edit_of running.job next))) there
  manifest_there = record {
    file = manifest.file;
    present = record {
      named = ap (find (Manifest m)) (operated_all-append state.waiting (Move (Temp m) Current ∷ []) state.firm) ∙ (find-moved (Manifest m) (Temp m) Current (directory_read state) refl refl ∙ manifest.present.named);
      not_cut = cut-append manifest.file state.waiting (Move (Temp m) Current ∷ []) manifest.present.not_cut refl;
    };
    newer = manifest.newer;
    held = manifest.held;
    clean = manifest.clean;
  }

  temp_uncut : has_waiting_cut temporary.file there.waiting ≡ false
  temp_uncut = cut-append temporary.file state.waiting (Move (Temp m) Current ∷ []) temporary.present.not_cut refl

  all_moved : (count : ℕ) → operated_all (take count there.waiting) state.firm ≡ moved_dir m state → IsRoll count all_in next there
  all_moved count is = record {
    way = record { manifest = m; file = manifest_there.file; edits = edit_of running.job next ∷ []; firm = 1 };
    is_way = made_way kept.bound m (edit_of running.job next) there gives.is_edit manifest_there;
    goes = record {
      current = temporary.file;
      named = ap (find Current) is ∙ current_moved m state temporary.file temporary.present.named;
      says = temporary.held;
      not_cut = temp_uncut;
      manifest = ap (find (Manifest m)) is ∙ (find-moved (Manifest m) (Temp m) Current (directory_read state) refl refl ∙ manifest.present.named);
    };
    one = refl;
    root = root_there;
  }

  rolls_there : (count current : ℕ) → file_behind count Current there ≡ Some current → kept.bound ≤ current → IsRoll count all_in next there
  rolls_there count current is newer =
      ⊎_elim (λ same. absurd (unmoved count current (subst (λ d. find Current d ≡ Some current) same is) newer)) (λ all. all_moved count all) (dir_behind m state count)

  booting_there : IsBooting kept.bound kept.old s.levels s.story next there
  booting_there = kept_moved kept.bound kept.old s.levels s.story next state one kept.booting unmoved m held_temp held_manifest kept.numbered rolls_there

  -- CURRENT as read is the new file
  current_there : IsMade kept.bound Current (current_of m) there
  current_there = record {
    file = temporary.file;
    present = record { named = current_of_read m state temporary.file temporary.present.named; not_cut = temp_uncut };
    newer = temporary.newer;
    held = temporary.held;
    clean = temporary.clean;
  }

  pub move_on : (next_act : Act) (behind : List Act) (rolls : List RollCall) → left_of running.job ≡ Rolls RenameCall ∷ map Rolls (SyncDirectory ∷ rolls) → DiskStep state (Rename (Temp m) Current) (as_answer None) after
      → BootKept (act_done (Rolls RenameCall) running (next_act ∷ behind) s) after
  move_on next_act behind rolls left step =
      subst (BootKept (act_done (Rolls RenameCall) running (next_act ∷ behind) s)) (sym (rename_done m state after temporary.file temporary.present.named step)) (record {
        bound = kept.bound;
        booting = booting_there;
        old = kept.old;
        floor_within = kept.floor_within;
        numbered = kept.numbered;
        bare = kept.bare;
        facts = kept.facts;
        runs = record {
          tables = record { are = made.tables.are; some = made.tables.some; few = made.tables.few };
          live_is = made.live_is;
          unstarted = made.unstarted;
          last_is = made.last_is;
          rising = made.rising;
          over = made.over;
          stage = inr (inr (inr (record {
            parts = parts_stay kept.bound next next running.job (moved next (Rolls RenameCall) running.job) state there (Rename (Temp m) Current) (as_answer None) one step_there ((λ n. (refl, refl)), (λ n. (refl, refl)))
                (omega arith) parts.most refl refl refl parts logs_there;
            rolls = SyncDirectory ∷ rolls;
            left_is = left_moved next (Rolls RenameCall) (map Rolls (SyncDirectory ∷ rolls)) running.job left;
            made = (m, manifest_is, manifest_there, current_there);
          })));
        };
        none_active = kept.none_active;
        waits = kept.waits;
        no_group = kept.no_group;
        no_flush = kept.no_flush;
      })

  moved_over : (fault : Fault) → BootKept (act_failed (Rolls RenameCall) running.job (failure_of (Rolls RenameCall) fault) s) there
  moved_over fault = record {
    bound = kept.bound;
    booting = booting_there;
    old = kept.old;
    floor_within = kept.floor_within;
    numbered = kept.numbered;
    bare = kept.bare;
    facts = kept.facts;
    runs = tt;
    none_active = kept.none_active;
    waits = kept.waits;
    no_group = kept.no_group;
    no_flush = kept.no_flush;
  }

  pub move_failed : (fault : Fault) → DiskStep state (Rename (Temp m) Current) (as_answer (Some fault)) after → BootKept (act_failed (Rolls RenameCall) running.job (failure_of (Rolls RenameCall) fault) s) after
  move_failed fault step =
      elim (rename_failed m state after temporary.file fault temporary.present.named step) [
        | inl same ↦ subst (BootKept (act_failed (Rolls RenameCall) running.job (failure_of (Rolls RenameCall) fault) s)) (sym same)
            (is_over s state state kept next _ (failure_of (Rolls RenameCall) fault) (omega arith) (record { booting = kept.booting; unmoved = unmoved }))
        | inr moved_ ↦ subst (BootKept (act_failed (Rolls RenameCall) running.job (failure_of (Rolls RenameCall) fault) s)) (sym moved_) (moved_over fault)
      ]
