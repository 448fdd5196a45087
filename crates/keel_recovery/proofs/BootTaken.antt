-- A device that a job begins with: nothing was made since.
use Rattle.std.proofs.Common.{◌≡◌, ℕ, ◌≤◌, ◌<◌, List, [], ◌∷◌, ◌++◌, length, Option, Some, None, refl, sym, ap, subst, ◌∙◌, inl, inr, arith, append-nil, take_all}
use Rattle.std.specs.List.{AllByRecursion}
use Rattle.keel_base.specs.declared.file_name.FileName.{FileName}
use Rattle.keel_base.specs.declared.file_name.FileName.TheVariants.{Current, Log, Table, Trash}
use Rattle.keel_disk.specs.Directory.{Named, find}
use Rattle.keel_disk.specs.State.{State as Disk, directory_read, settled_through}
use Rattle.keel_disk.specs.Steady.{CutsExist, file_behind}
use Rattle.keel_disk.specs.Sound.{IsOneToOne}
use Rattle.keel_disk.proofs.Operating.{is_below}
use Rattle.keel_disk.proofs.Steadily.{read_own}
use Rattle.keel_directory.specs.TableFiles.{TableFile}
use Rattle.keel_draft.specs.Drafts.{Draft}
use Rattle.keel_edit.specs.declared.edit.Added.{Added}
use Rattle.keel_machine.specs.Resuming.{AreTables, all_closed, closed_of, job_begun, taken_over}
use Rattle.keel_machine.specs.States.{State, Active, Resumption, Segment, Segments, Story, entries_in, no_batches}
use Rattle.keel_open.specs.NextFiles.{number_in}
use Rattle.keel_recovery.specs.Booting.{IsBooting, IsOldTable}
use Rattle.keel_recovery.specs.BootCalls.{AreOver, BootKept, IsUnmoved, RunsSo}
use Rattle.keel_recovery.specs.Leaving.{IsLeft}
use Rattle.keel_recovery.proofs.BootNames.{all_below, none_below}
use Rattle.keel_recovery.proofs.Left.{boot_left, older_still}

some_none : {A P : Type 0} (x : A) → Some x ≡ None → P
some_none x e = cc

-- no name has a file beyond those that there are
none_newer : {P : Type 0} (state : Disk) → IsOneToOne state → (count file : ℕ) (name : FileName) → file_behind count name state ≡ Some file → length state.files ≤ file → P
none_newer state one count file name is newer = absurd (omega (arith, newer, is_below (length state.files) name file (settled_through count state).firm (one count) is))

pub taken_unmoved : (state : Disk) → IsOneToOne state → IsUnmoved (length state.files) state
taken_unmoved state one count current is newer = none_newer state one count current Current is newer

-- a device that may be left is one that a job may begin with
pub just_taken : (levels : List TableFile) (story : Story) (next_file : ℕ) (state : Disk) → IsLeft state story → AllByRecursion (IsOldTable (length state.files) state) levels
    → ((count file : ℕ) (name : FileName) → file_behind count name state ≡ Some file → number_in name < next_file) → IsBooting (length state.files) state levels story next_file state
just_taken levels story next_file state left tables drawn =
    let one = left.one_to_one in
    record {
      within = omega arith;
      first = sym (take_all (length state.files) state.files (omega arith));
      stands = left.stands;
      old_uncut = left.uncut;
      uncut = left.uncut;
      shows = λ count. inr (record { before = count; same = all_below (length state.files) (settled_through count state).firm (one count) });
      shows_read = inr (all_below (length state.files) (directory_read state) (read_own state one));
      no_table = λ before none count n file is newer. none_newer state one count file (Table n) is newer;
      no_trash = λ count n file is newer. none_newer state one count file (Trash n) is newer;
      logs_empty = λ count n file is newer. none_newer state one count file (Log n) is newer;
      rolls = λ count current is newer. none_newer state one count current Current is newer;
      tables = tables;
      drawn = drawn;
      read = left.read;
      listed = left.listed;
      read_within = left.within;
      read_steady = left.steady;
    }

-- ---- a job begins anew

-- a directory without CURRENT is one that an older job began with
bare_then : (s : State) (state : Disk) (kept : BootKept s state) (count : ℕ) → file_behind count Current state ≡ None → s.segments.immutable ≡ []
bare_then s state kept count none = elim (kept.booting.shows count) [
  | inl moved ↦ some_none moved.file (sym moved.current ∙ none)
  | inr is ↦ kept.bare is.before (subst (λ (d : Named ℕ). find Current d ≡ None) is.same (none_below kept.bound Current (settled_through count state).firm none))
]

-- where no job runs, the next one begins with the device as it is
pub rebased : (s : State) (state : Disk) → IsOneToOne state → CutsExist state → BootKept s state → s.jobs.resume.running ≡ None → BootKept s state
rebased s state one cuts kept idle = record {
  bound = length state.files;
  old = state;
  booting = just_taken s.levels s.story s.numbers.next_file state (boot_left state s one cuts kept)
      (older_still kept.bound (length state.files) state s.levels kept.booting.within kept.booting.tables) kept.booting.drawn;
  floor_within = kept.floor_within;
  numbered = kept.numbered;
  bare = bare_then s state kept;
  facts = kept.facts;
  runs = subst (λ (r : Option Resumption). RunsSo (length state.files) s r state) (sym idle) tt;
  none_active = kept.none_active;
  waits = kept.waits;
  no_group = kept.no_group;
  no_flush = kept.no_flush;
}

over_none : (live : List Added) → AreOver live []
over_none [] = tt
over_none (table ∷ live) = (tt, over_none live)

-- one that begins has made nothing
pub job_begins : (s : State) (state : Disk) (drafts : List Draft) → (kept : BootKept s state) → IsUnmoved kept.bound state → AreTables s drafts → BootKept (job_begun drafts s) state
job_begins s state drafts kept unmoved are = record {
  bound = kept.bound;
  old = kept.old;
  booting = kept.booting;
  floor_within = kept.floor_within;
  numbered = kept.numbered;
  bare = kept.bare;
  facts = kept.facts;
  runs = record {
    tables = record { are = are.are; some = are.some; few = are.few };
    live_is = refl;
    unstarted = refl;
    last_is = refl;
    rising = tt;
    over = over_none (entries_in s.levels);
    stage = inl (record { done = []; rest = drafts; drafts_are = refl; made = tt; left_is = refl; unmoved = unmoved });
  };
  none_active = kept.none_active;
  waits = kept.waits;
  no_group = kept.no_group;
  no_flush = kept.no_flush;
}

-- what has no active segment is taken over already
pub taken_same : (s : State) → s.segments.active ≡ no_batches → taken_over s ≡ s
taken_same s none = ap (λ (segments : Segments). record s { segments = segments }) same
  where
    same : all_closed s.segments ≡ s.segments
    same =
        ap (λ (active : Active). record { immutable = s.segments.immutable ++ closed_of active; active = no_batches }) none
        ∙ (ap (λ (immutable : List Segment). record { immutable = immutable; active = no_batches }) (append-nil s.segments.immutable)
        ∙ ap (λ (active : Active). record { immutable = s.segments.immutable; active = active }) (sym none))

pub begins_anew : (s : State) (state : Disk) (drafts : List Draft) → IsOneToOne state → CutsExist state → BootKept s state → s.jobs.resume.running ≡ None → AreTables (taken_over s) drafts → BootKept (job_begun drafts (taken_over s)) state
unfolding rebased
begins_anew s state drafts one cuts kept idle are =
    let same = taken_same s kept.none_active in
    subst (λ (t : State). BootKept (job_begun drafts t) state) (sym same)
    (job_begins s state drafts (rebased s state one cuts kept idle) (taken_unmoved state one) (subst (λ (t : State). AreTables t drafts) same are))
