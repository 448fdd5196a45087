-- What a covered device gives, and calls that leave it covered.
use Rattle.std.proofs.Common.{◌≡◌, inl, inr, ℕ, ◌||◌, Bool, true, false, List, Option, Some, None, refl, sym, subst}
use Rattle.keel_base.specs.declared.failure.Fault.{Fault}
use Rattle.keel_disk.specs.declared.change.Change.{Change}
use Rattle.keel_disk.specs.State.{State as Disk}
use Rattle.keel_disk.specs.Step.{DiskStep}
use Rattle.keel_disk.specs.Told.{Told, Changes}
use Rattle.keel_disk.specs.Seen.{Calls, Seen}
use Rattle.keel_machine.specs.declared.answers.Outcome.{Outcome}
use Rattle.keel_machine.specs.Crash.{has_story}
use Rattle.keel_machine.specs.Outside.{as_answer}
use Rattle.keel_machine.specs.States.{State, Footing, Known, Unknown, Phase, Shut, Booting, Open, Closing, Mode, is_open, is_left, unopened, Resumption, with_device}
use Rattle.keel_recovery.specs.BootCalls.{BootKept, RunsSo}
use Rattle.keel_recovery.specs.Machine.{RestsIn, StandsIn, KeptBy, IsCoveredBy, IsCovered, CoveredStands, StartsCovered}
use Rattle.keel_recovery.specs.Standing.{Stands}
use Rattle.keel_recovery.proofs.Kept.{open_stands, booting_store_stands}

-- ---- what a covered device gives

kept_by_stands : (phase : Phase) (left : Bool) (told : Told) (s : State) → (is_open phase || left) ≡ true → KeptBy phase left told.state s → Stands told.state s.story
kept_by_stands Shut false told s begun h = cc
kept_by_stands Shut true told s begun h = h.stands
kept_by_stands Booting left told s begun h = booting_store_stands told.state s h
kept_by_stands Closing left told s begun h = h.left.stands
kept_by_stands Open left told s begun h = open_stands told.state s h

stands_by : (f : Footing) (told : Option Told) (s : State) → f ≡ Known → has_story s.mode ≡ true → IsCoveredBy f s.mode told s → StandsIn told s.story
stands_by Unknown told s known begun h = cc
stands_by Known None s known begun h = h
stands_by Known (Some told) s known begun h = kept_by_stands s.mode.phase (is_left s.mode.left) told s begun h

pub covered_stands : CoveredStands
covered_stands s known begun h = stands_by s.footing s.device.told s known begun h

starts_by : (f : Footing) (told : Option Told) (s : State) → (f ≡ Known → RestsIn told) → IsCoveredBy f unopened told s
starts_by Unknown told s rests = tt
starts_by Known None s rests = rests refl
starts_by Known (Some told) s rests = rests refl

pub starts_covered : StartsCovered
starts_covered s mode rests = subst (λ (m : Mode). IsCoveredBy s.footing m s.device.told s) (sym mode) (starts_by s.footing s.device.told s rests)

-- ---- calls that leave the device

-- what is kept of a store that is open, by its phase
abbrev pub OpenBy : Footing → Option Told → State → Type 0
OpenBy Unknown told s = Unit {0}
OpenBy Known None s = ⊥
OpenBy Known (Some told) s = KeptBy s.mode.phase (is_left s.mode.left) told.state s

pub covered_by : (s : State) → IsCovered s → OpenBy s.footing s.device.told s
covered_by s h = as_open s.footing s.device.told s h
  where
    as_open : (f : Footing) (told : Option Told) (s : State) → IsCoveredBy f s.mode told s → OpenBy f told s
    as_open Unknown told s h = tt
    as_open Known None s h = h
    as_open Known (Some told) s h = h

of_open : (f : Footing) (told : Option Told) (s : State) → OpenBy f told s → IsCoveredBy f s.mode told s
of_open Unknown told s h = tt
of_open Known None s h = h
of_open Known (Some told) s h = h

-- where the store is as open before and behind
pub open_covered : (s next : State) → next.footing ≡ s.footing → OpenBy s.footing next.device.told next → IsCovered next
open_covered s next footing h = of_open next.footing next.device.told next (subst (λ (f : Footing). OpenBy f next.device.told next) (sym footing) h)

kept_by : (f : Footing) (told : Option Told) (s next : State) → ((state : Disk) → KeptBy s.mode.phase (is_left s.mode.left) state s → KeptBy next.mode.phase (is_left next.mode.left) state next) → OpenBy f told s → OpenBy f told next
kept_by Unknown told s next keep h = tt
kept_by Known None s next keep h = h
kept_by Known (Some told) s next keep h = keep told.state h

pub quiet_keeps : (s next : State) → next.footing ≡ s.footing → next.device.told ≡ s.device.told
    → ((state : Disk) → KeptBy s.mode.phase (is_left s.mode.left) state s → KeptBy next.mode.phase (is_left next.mode.left) state next) → IsCovered s → IsCovered next
quiet_keeps s next footing same keep h =
    let told : OpenBy s.footing s.device.told next = kept_by s.footing s.device.told s next keep (covered_by s h) in
    open_covered s next footing (subst (λ (t : Option Told). OpenBy s.footing t next) (sym same) told)

runs_same : (bound : ℕ) (state : Disk) (s : State) (device : Seen) (outcomes : List (ℕ × Outcome)) (running : Option Resumption) → RunsSo bound s running state
    → RunsSo bound (with_device device (record s { writing = record s.writing { outcomes = outcomes } })) running state
runs_same bound state s device outcomes None r = r
runs_same bound state s device outcomes (Some running) r =
    record { tables = record { are = r.tables.are; some = r.tables.some; few = r.tables.few }; live_is = r.live_is; unstarted = r.unstarted; last_is = r.last_is; rising = r.rising; over = r.over; stage = r.stage }

pub same_boot : (state : Disk) (s : State) (device : Seen) (outcomes : List (ℕ × Outcome)) → BootKept s state → BootKept (with_device device (record s { writing = record s.writing { outcomes = outcomes } })) state
same_boot state s device outcomes k = record {
  bound = k.bound;
  booting = k.booting;
  old = k.old;
  floor_within = k.floor_within;
  facts = k.facts;
  runs = runs_same k.bound state s device outcomes s.jobs.resume.running k.runs;
  none_active = k.none_active;
  waits = k.waits;
  no_group = k.no_group;
  no_flush = k.no_flush;
  numbered = k.numbered;
  bare = k.bare;
}

-- what is about the device that is told, and about the outcomes, changes nothing of what is kept
same_kept : (phase : Phase) (left : Bool) (state : Disk) (s : State) (device : Seen) (outcomes : List (ℕ × Outcome)) → KeptBy phase left state s
    → KeptBy phase left state (with_device device (record s { writing = record s.writing { outcomes = outcomes } }))
same_kept Shut false state s device outcomes h = h
same_kept Shut true state s device outcomes h = h
same_kept Booting left state s device outcomes h = record { one_to_one = h.one_to_one; cuts = h.cuts; kept = same_boot state s device outcomes h.kept; none_waits = h.none_waits }
same_kept Closing left state s device outcomes h = record {
  left = h.left;
  bears = record { tables = h.bears.tables; said = h.bears.said; says = h.bears.says };
  none_waits = h.none_waits;
  no_group = h.no_group;
  no_boot = h.no_boot;
  unstarted = h.unstarted;
}
same_kept Open left state s device outcomes (inl h) = inl (record {
  one_to_one = h.one_to_one;
  cuts = h.cuts;
  uncut = h.uncut;
  listed = h.listed;
  numbered = h.numbered;
  none_boots = h.none_boots;
  calm = λ started. let calm = h.calm started in record { no_group = calm.no_group; no_flush = calm.no_flush; stopped = calm.stopped };
  waits = h.waits;
  stored = h.stored;
})
same_kept Open left state s device outcomes (inr h) = inr (record { one_to_one = h.one_to_one; cuts = h.cuts; kept = same_boot state s device outcomes h.kept; stopped = h.stopped })

pub same_keeps : (s : State) (device : Seen) (outcomes : List (ℕ × Outcome)) → device.told ≡ s.device.told → IsCovered s → IsCovered (with_device device (record s { writing = record s.writing { outcomes = outcomes } }))
same_keeps s device outcomes same h =
    quiet_keeps s (with_device device (record s { writing = record s.writing { outcomes = outcomes } })) refl same
    (λ state kept. same_kept s.mode.phase (is_left s.mode.left) state s device outcomes kept) h

pub as_it_is : (s : State) (device : Seen) → device.told ≡ s.device.told → IsCovered s → IsCovered (with_device device s)
as_it_is s device same h = same_keeps s device s.writing.outcomes same h

-- another device is told, of which no less is kept
pub told_keeps : (s : State) (device : Seen) → ((f : Footing) → OpenBy f s.device.told s → OpenBy f device.told s) → IsCovered s → IsCovered (with_device device s)
told_keeps s device on h =
    open_covered s (with_device device s) refl
    (kept_by s.footing device.told s (with_device device s) (λ state kept. same_kept s.mode.phase (is_left s.mode.left) state s device s.writing.outcomes kept) (on s.footing (covered_by s h)))

-- ---- calls that change it

pub called_by : (f : Footing) (before after : Option Told) (change : Change) (failed : Option Fault) (s next : State)
    → ((state behind : Disk) → KeptBy s.mode.phase (is_left s.mode.left) state s → DiskStep state change (as_answer failed) behind → KeptBy next.mode.phase (is_left next.mode.left) behind next)
    → Changes change before (as_answer failed) after → OpenBy f before s → OpenBy f after next
called_by Unknown before after change failed s next keep c h = tt
called_by Known None None change failed s next keep c h = h
called_by Known None (Some after) change failed s next keep c h = absurd c
called_by Known (Some before) None change failed s next keep c h = absurd c
called_by Known (Some before) (Some after) change None s next keep c h = keep before.state after.state h c.0
called_by Known (Some before) (Some after) change (Some fault) s next keep c h = keep before.state after.state h c.0

pub call_keeps : (s next : State) (change : Change) (failed : Option Fault) → Calls s.device change (as_answer failed) next.device → next.footing ≡ s.footing
    → ((before behind : Disk) → KeptBy s.mode.phase (is_left s.mode.left) before s → DiskStep before change (as_answer failed) behind → KeptBy next.mode.phase (is_left next.mode.left) behind next)
    → IsCovered s → IsCovered next
call_keeps s next change failed calls footing keep h =
    open_covered s next footing (called_by s.footing s.device.told next.device.told change failed s next keep calls.step (covered_by s h))
