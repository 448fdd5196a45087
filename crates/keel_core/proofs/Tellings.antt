-- What a store tells of itself, and what is arranged on its device.
use Rattle.std.proofs.Common.{◌≡◌, ◌≢◌, ℕ, ◌==◌, cond, length, Bool, true, false, List, ◌∷◌, Option, Result, IfOk, refl, sym, ap, ◌∙◌, eq-eqb, eqb-true}
use Rattle.keel_base.specs.declared.failure.Failure.{Failure}
use Rattle.keel_base.specs.declared.memory.OutOfMemory.{OutOfMemory}
use Rattle.keel_disk.specs.declared.rule.Arranged.TheVariants as arranged
use Rattle.keel_disk.specs.declared.rule.Rule.{Rule}
use Rattle.keel_disk.specs.Seen.{IsArranged}
use Rattle.keel_disk.specs.Told.{Arranges}
use Rattle.keel_edit.specs.declared.edit.Added.{Added}
use Rattle.keel_levels.specs.Live.{tables_of}
use Rattle.keel_machine.specs.declared.answers.LevelsView.{LevelsView}
use Rattle.keel_machine.specs.Telling.{level_view, on_level}
use Rattle.keel_machine.specs.Turns.{Arranging, TellingError, TellingLevels}
use Rattle.keel_mem.specs.Totals.{weight_of}
use Rattle.keel_core.specs.Views.{CoreView, TakesTurn}
use Rattle.keel_core.proofs.Admitting.{same_stands, turns_by_story}
use Rattle.keel_core.proofs.Segmenting.{active_weighs, as_many}

-- the failure that stands
pub error_told : (view : CoreView) (told : Option Failure) → told ≡ view.handler.standing → TakesTurn view (TellingError told) view
error_told view told is = turns_by_story view view (TellingError told) (λ beyond fits. ((is ∙ fits.handled.standing, refl), same_stands view beyond fits))

-- what the levels and the memory hold
abbrev pub levels_of : CoreView → List Added → LevelsView
levels_of view tables = record {
  level0 = level_view 0 tables;
  level1 = level_view 1 tables;
  level2 = level_view 2 tables;
  level3 = level_view 3 tables;
  active = weight_of view.rows;
  immutables = length view.immutable;
  waiting = length view.waiting;
}

pub levels_told : (view : CoreView) (told : LevelsView) → told ≡ levels_of view (tables_of view.levels) → TakesTurn view (TellingLevels told) view
levels_told view told is = turns_by_story view view (TellingLevels told) (λ beyond fits. (
  (
    is
        ∙ (λ i. record (levels_of view (fits.tables i)) {
          active = sym (active_weighs beyond.in_tables view.immutable beyond.immutable view.rows beyond.active _ fits.segments) i;
          immutables = sym (as_many beyond.in_tables view.immutable beyond.immutable view.rows beyond.active _ fits.segments) i;
        }),
    refl,
  ),
  same_stands view beyond fits,
))

pub arranged_goes : (view new : CoreView) (rule : Rule) (answer : Result Bool OutOfMemory) → IfOk answer (λ done. done ≡ view.device.simulated)
    → Arranges view.device.told answer new.device.told → IsArranged (arranged.Armed rule) view.device answer new.device → new ≡ record view { device = new.device }
    → TakesTurn view (Arranging rule answer) new
arranged_goes view new rule answer done told rest same = turns_by_story view new (Arranging rule answer) (λ beyond fits. (
  record { done = done; told = told; rest = rest },
  rw same (record {
    beyond = beyond;
    state_is = refl;
    fits = record {
      story = fits.story;
      segments = fits.segments;
      tables = fits.tables;
      opened = fits.opened;
      leads = fits.leads;
      handled = fits.handled;
      flushes = fits.flushes;
    };
  }),
))

-- ---- the tables of a level

-- of a table and those behind it
pub on_this : (level : ℕ) (table : Added) (tables : List Added) → table.level ≡ level → on_level level (table ∷ tables) ≡ table ∷ on_level level tables
on_this level table tables is = ap (λ (b : Bool). cond b (table ∷ on_level level tables) (on_level level tables)) (eq-eqb table.level level is)

pub on_other : (level : ℕ) (table : Added) (tables : List Added) → table.level ≢ level → on_level level (table ∷ tables) ≡ on_level level tables
on_other level table tables other =
    elim (table.level == level) as (λ b. (table.level == level) ≡ b → cond b (table ∷ on_level level tables) (on_level level tables) ≡ on_level level tables) [
      | true ↦ λ e. absurd (other (eqb-true table.level level e))
      | false ↦ λ e. refl
    ] refl
