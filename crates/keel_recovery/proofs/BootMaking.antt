-- The calls of a boot that make its tables and its log.
use Rattle.std.proofs.Common.{◌≡◌, ℕ, zero, suc, ◌≤◌, List, [], ◌∷◌, ◌++◌, map, drop, Some, None, ap, ◌∙◌, arith, append_assoc, add-one}
use Rattle.std.specs.List.{flat_map}
use Rattle.keel_base.specs.declared.failure.Failure.{Failure}
use Rattle.keel_disk.specs.State.{State as Disk}
use Rattle.keel_machine.specs.Resuming.{with_numbers, with_resumption}
use Rattle.keel_manifest.specs.State.{ManifestState}
use Rattle.keel_machine.specs.States.{State, Resumption}
use Rattle.keel_machine.specs.WritingAfter.{noted}
use Rattle.keel_draft.specs.Drafts.{Draft, pieces_in}
use Rattle.keel_resume.proofs.Steps.{handed_made}
use Rattle.keel_resume.specs.Plans.{Job, Act, MakeTable, AddPiece, SyncTable, left_of, log_acts, moved, plan_of, roll_acts, table_acts}
use Rattle.keel_recovery.specs.BootCalls.{BootKept, HasMadeSo}
use Rattle.keel_recovery.proofs.BootKeeps.{KeptOn}

pub some_none : {A P : Type 0} (x : A) → Some x ≡ None → P
some_none x e = cc

pub not_empty : {A P : Type 0} (xs : List A) (x : A) → xs ++ x ∷ [] ≡ [] → P
not_empty [] x none = cc
not_empty (y ∷ xs) x none = cc

-- ---- plans

dropped_more : {A : Type 0} (count : ℕ) (xs : List A) (x : A) (rest : List A) → drop count xs ≡ x ∷ rest → drop (suc count) xs ≡ rest
dropped_more zero xs x rest is = ap (drop 1) is
dropped_more (suc count) [] x rest is = cc
dropped_more (suc count) (y ∷ xs) x rest is = dropped_more count xs x rest is

-- the calls behind one that was made
pub left_moved : (next : ℕ) (act : Act) (later : List Act) (job : Job) → left_of job ≡ act ∷ later → left_of (moved next act job) ≡ later
left_moved next act later job left = rw (add-one, handed_made next act job.progress) (dropped_more job.progress.made (plan_of job.drafts) act later left)

-- the calls of a table, before those of the rest
pub plan_cons : (draft : Draft) (rest : List Draft) → plan_of (draft ∷ rest) ≡ MakeTable ∷ (map AddPiece (pieces_in draft) ++ SyncTable ∷ plan_of rest)
plan_cons draft rest =
    ap (λ (l : List Act). MakeTable ∷ l)
    (append_assoc (map AddPiece (pieces_in draft) ++ SyncTable ∷ []) (flat_map table_acts rest) (log_acts ++ roll_acts)
    ∙ append_assoc (map AddPiece (pieces_in draft)) (SyncTable ∷ []) (flat_map table_acts rest ++ (log_acts ++ roll_acts)))

-- ---- a boot goes on, or is over

module _ (s : State) (state after : Disk) (kept : BootKept s state) where
  -- with what it has made then
  pub goes_on : (next : ℕ) (manifest : ManifestState) (running : Resumption) → s.numbers.next_file ≤ next → KeptOn kept.bound kept.old s.levels s.story next after
      → HasMadeSo kept.bound (with_resumption (Some running) (with_numbers next manifest s)) running.job after → BootKept (with_resumption (Some running) (with_numbers next manifest s)) after
  goes_on next manifest running more on made = record {
    bound = kept.bound;
    booting = on.booting;
    old = kept.old;
    numbered = omega (arith, kept.numbered, more);
    floor_within = kept.floor_within;
    bare = kept.bare;
    facts = kept.facts;
    runs = made;
    none_active = kept.none_active;
    waits = kept.waits;
    no_group = kept.no_group;
    no_flush = kept.no_flush;
  }

  -- behind a failure
  pub is_over : (next : ℕ) (manifest : ManifestState) (failure : Failure) → s.numbers.next_file ≤ next → KeptOn kept.bound kept.old s.levels s.story next after → BootKept (noted failure (with_resumption None (with_numbers next manifest s))) after
  is_over next manifest failure more on = record {
    bound = kept.bound;
    booting = on.booting;
    old = kept.old;
    numbered = omega (arith, kept.numbered, more);
    floor_within = kept.floor_within;
    bare = kept.bare;
    facts = kept.facts;
    runs = tt;
    none_active = kept.none_active;
    waits = kept.waits;
    no_group = kept.no_group;
    no_flush = kept.no_flush;
  }
