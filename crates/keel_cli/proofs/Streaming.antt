-- The ends of a run over lines as they are given.
use Rattle.std.proofs.Common.{◌≡◌, ℕ, ◌+◌, ◌≤◌, false, Option, None, List, [], ◌∷◌, ◌++◌, length, ap, sym, subst, arith}
use Rattle.std.proofs.KnownBytes.{prepend_known-nil}
use Rattle.std.specs.Io.KnownBytes.{IsAtEnd}
use Rattle.keel_base.specs.Counts.{Rose}
use Rattle.keel_lines.specs.declared.line.LineEnd.{LineEnd}
use Rattle.keel_lines.specs.declared.line.LineEnd.TheVariants as line_end
use Rattle.keel_lines.specs.Calls.{LinesView, GivesLine, HoldsFew, IsFinished, IsHeld, PassesLine, PassesInput, IsCut, left}
use Rattle.keel_lines.specs.Delivered.{Delivered}
use Rattle.keel_lines.specs.Inputs.{AreTaken, TakesFew}
use Rattle.keel_lines.proofs.Deliveries.{begins, adds_line, few_taken, holds_lines}
use Rattle.keel_disk.specs.Seen.{Seen}
use Rattle.keel_cli.specs.declared.lines.LineStop.{LineStop}
use Rattle.keel_cli.specs.declared.lines.LineStop.TheVariants.{Unwritten}
use Rattle.keel_cli.specs.declared.top.End.TheVariants.{Completed}
use Rattle.keel_cli.specs.Ends.{Ends, LinesRuns, OfInput, stop_at, end_at, end_behind, outside}
use Rattle.keel_cli.proofs.Endings.{first_given, all_given, given_before_long, given_within, given_taken, ends_at, ends_behind}

pub rose_later : (first before now : ℕ) → first ≤ before → Rose before now → Rose first now
rose_later first before now later rose = omega (arith, later, rose)

-- a reader that was just made has given nothing
pub nothing_given : (told : Option (List ℕ)) (view : LinesView) → view.pending ≡ [] → view.passed ≡ 0 → view.ended ≡ false → view.remaining ≡ told → Delivered told view []
nothing_given told view pending passed ended remaining =
    let whole : left view ≡ told = rw (pending, prepend_known-nil) remaining in
    subst (λ (o : Option (List ℕ)). Delivered o view []) whole (begins view passed ended)

-- what a reader that gave these lines has taken
pub takes_few : (told left_behind : Option (List ℕ)) (view : LinesView) (lines : List (List ℕ)) → Delivered told view lines → HoldsFew view → left_behind ≡ view.remaining
    → TakesFew told left_behind
takes_few told left_behind view lines given few is = subst (TakesFew told) (sym is) (few_taken told view lines given few)

module _ (told : Option (List ℕ)) (read_faults : ℕ) (held : Option (List ℕ)) (write_faults : ℕ) (handed_in : Seen) (lines : List (List ℕ)) (old new : LinesView)
    (given : Delivered told old lines) (later_read : read_faults ≤ old.faults) (left_behind : Option (List ℕ)) (faults_behind : ℕ) (holds : Option (List ℕ)) (writes_behind : ℕ) (handed_back : Seen)
    (left_is : left_behind ≡ new.remaining) (faults_is : faults_behind ≡ new.faults) where
  pub completes : IsFinished old new → LinesRuns None handed_in held lines handed_back holds
      → Ends Completed (outside told read_faults held write_faults handed_in) (outside left_behind faults_behind holds writes_behind handed_back)
  completes finished runs = (record { lines = lines; of_input = all_given told old lines new given finished; runs = runs }, subst IsAtEnd (sym left_is) finished.at_end)

  pub gets_none : (error : LineEnd) (count : ℕ) → count ≡ length lines → IsHeld old new → (error ≡ line_end.TooLong → PassesLine new) → (error ≡ line_end.LongInput → PassesInput new)
      → (error ≡ line_end.Fault → IsCut new) → (error ≡ line_end.Fault → Rose old.faults new.faults) → LinesRuns None handed_in held lines handed_back holds
      → Ends (end_behind error count) (outside told read_faults held write_faults handed_in) (outside left_behind faults_behind holds writes_behind handed_back)
  gets_none error count count_is is_held long input fault cause runs =
      let still = holds_lines told old new lines given is_held in
      let more = is_held.open_behind in
      ends_behind error count (outside told read_faults held write_faults handed_in) (outside left_behind faults_behind holds writes_behind handed_back)
      (λ is. record { lines = lines; of_input = given_before_long told new lines (count + 1) still more (long is) (ap (λ n. n + 1) count_is); runs = runs })
      (λ is. record { lines = lines; of_input = given_within told new lines still more (input is); runs = runs })
      (λ is. (
        subst (Rose read_faults) (sym faults_is) (rose_later read_faults old.faults new.faults later_read (cause is)),
        record {
          lines = lines;
          of_input = subst (λ (o : Option (List ℕ)). OfInput told (λ (bytes : List ℕ). AreTaken o bytes lines)) (sym left_is) (given_taken told new lines still more (fault is));
          runs = runs;
        },
      ))
      (record { lines = lines; of_input = first_given told new lines still; runs = runs })

  pub stops_at : (stop : LineStop) (number : ℕ) (line : List ℕ) → GivesLine old new line → (stop ≡ Unwritten → Rose write_faults writes_behind)
      → LinesRuns (stop_at stop number) handed_in held (lines ++ line ∷ []) handed_back holds
      → Ends (end_at stop number) (outside told read_faults held write_faults handed_in) (outside left_behind faults_behind holds writes_behind handed_back)
  stops_at stop number line gives rose runs =
      let still = adds_line told old new lines line given gives in
      ends_at stop number (outside told read_faults held write_faults handed_in) (outside left_behind faults_behind holds writes_behind handed_back)
      (record { lines = lines ++ line ∷ []; of_input = first_given told new (lines ++ line ∷ []) still; runs = runs }) rose
