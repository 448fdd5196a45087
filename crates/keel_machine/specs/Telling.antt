-- What a store tells of itself, and what a driver arranges on its device.
use Rattle.std.specs.Prelude.{◌≡◌, ℕ, ◌+◌, ◌==◌, Bool, List, [], ◌∷◌, length, filter, nat_le, Result, IfOk, if◌then◌else◌}
use Rattle.keel_base.specs.declared.memory.OutOfMemory.{OutOfMemory}
use Rattle.keel_disk.specs.declared.rule.Arranged.TheVariants as arranged
use Rattle.keel_disk.specs.declared.rule.Rule.{Rule}
use Rattle.keel_disk.specs.Seen.{IsArranged, Seen}
use Rattle.keel_disk.specs.Told.{Arranges}
use Rattle.keel_edit.specs.declared.edit.Added.{Added}
use Rattle.keel_machine.specs.declared.answers.LevelView.{LevelView}
use Rattle.keel_machine.specs.declared.answers.LevelsView.{LevelsView}
use Rattle.keel_machine.specs.Admission.{active_weight}
use Rattle.keel_machine.specs.States.{State, entries_in}

-- ---- levels

abbrev pub on_level : ℕ → List Added → List Added
on_level level tables = filter (λ (table : Added). table.level == level) tables

abbrev pub sizes_of : List Added → ℕ
sizes_of [] = 0
sizes_of (table ∷ tables) = table.size + sizes_of tables

-- a count as it is told: it stands still at 2^32 - 1
abbrev pub told_count : ℕ → ℕ
told_count count = if nat_le count 4294967295 then count else 4294967295

abbrev pub level_view : ℕ → List Added → LevelView
level_view level tables = record { files = told_count (length (on_level level tables)); bytes = sizes_of (on_level level tables) }

abbrev pub levels_view : State → LevelsView
levels_view s = record {
  level0 = level_view 0 (entries_in s.levels);
  level1 = level_view 1 (entries_in s.levels);
  level2 = level_view 2 (entries_in s.levels);
  level3 = level_view 3 (entries_in s.levels);
  active = active_weight s;
  immutables = length s.segments.immutable;
  waiting = length s.writing.waiting;
}

-- ---- what is arranged

-- How calls are to fail, or how much the device holds, is noted where it can be arranged. The room may change, and nothing else.
pub record ArrangeAnswers (s : State) (rule : Rule) (answer : Result Bool OutOfMemory) (device : Seen) : Type 0 where
  pub done : IfOk answer (λ done. done ≡ s.device.simulated)
  pub told : Arranges s.device.told answer device.told
  pub rest : IsArranged (arranged.Armed rule) s.device answer device
