-- Closing a store, and handing its device back.
use Rattle.std.proofs.Common.{◌≡◌, inl, inr, Bool, true, Option, Some, None, refl, sym, subst}
use Rattle.keel_disk.specs.Seen.{Seen}
use Rattle.keel_disk.specs.State.{State as Disk}
use Rattle.keel_disk.specs.Told.{Told}
use Rattle.keel_machine.specs.Closing.{close_after}
use Rattle.keel_machine.specs.Opening.{finished}
use Rattle.keel_machine.specs.States.{State, Footing, Known, Unknown, Phase, Shut, Booting, Open, Closing, is_open, is_left, with_device}
use Rattle.keel_recovery.specs.Leaving.{IsLeft}
use Rattle.keel_recovery.specs.Machine.{IsClosedStore, IsCovered, IsCoveredBy, KeptBy}
use Rattle.keel_recovery.proofs.Bearing.{bears_by}
use Rattle.keel_recovery.proofs.Left.{boot_left, kept_left}

-- an open store's device may be left as it is
phase_left : (phase : Phase) (left : Bool) (state : Disk) (s : State) → is_open phase ≡ true → KeptBy phase left state s → IsLeft state s.story
phase_left Shut left state s opens h = cc
phase_left Booting left state s opens h = boot_left state s h.one_to_one h.cuts h.kept
phase_left Open left state s opens (inl h) = kept_left state s h
phase_left Open left state s opens (inr h) = boot_left state s h.one_to_one h.cuts h.kept
phase_left Closing left state s opens h = h.left

closed_store : (phase : Phase) (left : Bool) (state : Disk) (s : State) (device : Seen) → is_open phase ≡ true → KeptBy phase left state s → IsClosedStore state (with_device device (close_after s))
closed_store phase left state s device opens h =
    let bears = bears_by phase left state s opens h in
    record {
      left = phase_left phase left state s opens h;
      bears = record { tables = bears.tables; said = bears.said; says = bears.says };
      none_waits = refl;
      no_group = refl;
      no_boot = refl;
      unstarted = refl;
    }

-- ---- the turns

module _ (s : State) (device : Seen) (opens : is_open s.mode.phase ≡ true) where
  closed_by : (f : Footing) (o : Option Told) → IsCoveredBy f s.mode o s → IsCoveredBy f (close_after s).mode o (with_device device (close_after s))
  closed_by Unknown o h = tt
  closed_by Known None h = h
  closed_by Known (Some told) h = closed_store s.mode.phase (is_left s.mode.left) told.state s device opens h

  pub close_keeps : device.told ≡ s.device.told → IsCovered s → IsCovered (with_device device (close_after s))
  close_keeps same h = subst (λ (o : Option Told). IsCoveredBy s.footing (close_after s).mode o (with_device device (close_after s))) (sym same) (closed_by s.footing s.device.told h)

  finished_by : (f : Footing) (o : Option Told) → IsCoveredBy f s.mode o s → IsCoveredBy f (finished s).mode o (with_device device (finished s))
  finished_by Unknown o h = tt
  finished_by Known None h = h
  finished_by Known (Some told) h = phase_left s.mode.phase (is_left s.mode.left) told.state s opens h

  pub finish_keeps : device.told ≡ s.device.told → IsCovered s → IsCovered (with_device device (finished s))
  finish_keeps same h = subst (λ (o : Option Told). IsCoveredBy s.footing (finished s).mode o (with_device device (finished s))) (sym same) (finished_by s.footing s.device.told h)
