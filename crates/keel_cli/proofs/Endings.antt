-- From the end of the lines to the end of the run.
use Rattle.std.proofs.Common.{◌≡◌, ◌↔◌, ℕ, ◌+◌, false, Option, None, Some, List, ◌∷◌, length, ap, refl, sym, subst, inl, inr, arith}
use Rattle.keel_base.specs.Counts.{Rose}
use Rattle.keel_lines.specs.declared.line.LineEnd.{LineEnd}
use Rattle.keel_lines.specs.declared.line.LineEnd.TheVariants as line_end
use Rattle.keel_lines.specs.Calls.{LinesView, IsFinished, PassesLine, PassesInput, IsCut}
use Rattle.keel_lines.specs.Delivered.{Delivered}
use Rattle.keel_lines.specs.Inputs.{AreFirst, AreAll, AreBeforeLong, AreWithin, AreTaken}
use Rattle.keel_lines.proofs.Deliveries.{are_first, are_all, long_is_next, whole_within, whole_taken}
use Rattle.keel_disk.specs.Seen.{Seen}
use Rattle.keel_cli.specs.declared.lines.LineStop.{LineStop}
use Rattle.keel_cli.specs.declared.lines.LineStop.TheVariants.{Refused, Unwritten, NoMemory}
use Rattle.keel_cli.specs.declared.top.End.{End}
use Rattle.keel_cli.specs.declared.top.End.TheVariants.{Completed, Usage, NotACommand, LongLine, LongInput, ReadFault, WriteFault, OutOfMemory}
use Rattle.keel_cli.specs.Ends.{Outside, Ends, Reads, OfInput, LinesRuns, stop_at, StaysOrRunsOut, end_at, end_behind, status_of}

-- ---- which lines of the input were given

with_input : (told : Option (List ℕ)) (P Q : List ℕ → Type 0) → ((input : List ℕ) → told ≡ Some input → P input → Q input) → OfInput told P → OfInput told Q
with_input None P Q more is = tt
with_input (Some input) P Q more is = more input refl is

every_input : (told : Option (List ℕ)) (Q : List ℕ → Type 0) → ((input : List ℕ) → told ≡ Some input → Q input) → OfInput told Q
every_input None Q each = tt
every_input (Some input) Q each = each input refl

module _ (told : Option (List ℕ)) (view : LinesView) (lines : List (List ℕ)) where
  delivered_of : Delivered told view lines → (input : List ℕ) → told ≡ Some input → Delivered (Some input) view lines
  delivered_of given input is = subst (λ (o : Option (List ℕ)). Delivered o view lines) is given

  pub first_given : Delivered told view lines → OfInput told (λ input. AreFirst input lines)
  first_given given = every_input told (λ input. AreFirst input lines) (λ input is. are_first input view lines (delivered_of given input is))

  pub all_given : (new : LinesView) → Delivered told view lines → IsFinished view new → OfInput told (λ input. AreAll input lines)
  all_given new given finished = every_input told (λ input. AreAll input lines) (λ input is. are_all input view new lines (delivered_of given input is) finished)

  pub given_before_long : (number : ℕ) → Delivered told view lines → view.ended ≡ false → PassesLine view → number ≡ length lines + 1 → OfInput told (λ input. AreBeforeLong number input lines)
  given_before_long number given more long is = every_input told (λ input. AreBeforeLong number input lines)
      (λ input same. subst (λ n. AreBeforeLong n input lines) (sym is) (long_is_next input view lines (delivered_of given input same) more long))

  pub given_within : Delivered told view lines → view.ended ≡ false → PassesInput view → OfInput told (λ input. AreWithin input lines)
  given_within given more long = every_input told (λ input. AreWithin input lines) (λ input same. whole_within input view lines (delivered_of given input same) more long)

  pub given_taken : Delivered told view lines → view.ended ≡ false → IsCut view → OfInput told (λ input. AreTaken view.remaining input lines)
  given_taken given more cut = every_input told (λ input. AreTaken view.remaining input lines) (λ input same. whole_taken input view lines (delivered_of given input same) more cut)

-- the end of a run that stops at the last of the lines given
pub ends_at : (stop : LineStop) (line : ℕ) (before after : Outside) → Reads (stop_at stop line) AreFirst before after
    → (stop ≡ Unwritten → Rose before.write_faults after.write_faults) → Ends (end_at stop line) before after
ends_at Refused line before after reads rose = reads
ends_at Unwritten line before after reads rose = (rose refl, (line, reads))
ends_at NoMemory line before after reads rose = inr (line, reads)

-- the end of a run that gets no further line
pub ends_behind : (error : LineEnd) (count : ℕ) (before after : Outside)
    → (error ≡ line_end.TooLong → Reads None (AreBeforeLong (count + 1)) before after)
    → (error ≡ line_end.LongInput → Reads None AreWithin before after)
    → (error ≡ line_end.Fault → Rose before.read_faults after.read_faults × Reads None (AreTaken after.left) before after)
    → Reads None AreFirst before after → Ends (end_behind error count) before after
ends_behind line_end.TooLong count before after long input fault first = long refl
ends_behind line_end.LongInput count before after long input fault first = input refl
ends_behind line_end.Fault count before after long input fault first = fault refl
ends_behind line_end.OutOfMemory count before after long input fault first = inl first

-- ---- where memory is wanting for the text of a refusal

stops_short : (line : ℕ) (before after : Seen) (held holds : Option (List ℕ)) (lines : List (List ℕ))
    → LinesRuns (stop_at Refused line) before held lines after holds → LinesRuns (stop_at NoMemory line) before held lines after holds
stops_short line before after held holds lines runs footing may =
    let run = runs footing may in
    let stops = run.ends in
    record {
      first = run.first;
      begins = run.begins;
      last = run.last;
      ends = record {
        before = stops.before;
        line = stops.line;
        behind = stops.behind;
        lines_are = stops.lines_are;
        number_is = stops.number_is;
        mid = stops.mid;
        holds_mid = stops.holds_mid;
        progress = stops.progress;
        stops = (inl stops.stops.1, stops.stops.2);
      };
      device = run.device;
      recovers = run.recovers;
      inside = (run.inside.0, tt);
      claim = run.claim;
      reads = run.reads;
    }

runs_out : (line : ℕ) (before after : Outside) → Reads (stop_at Refused line) AreFirst before after → Ends OutOfMemory before after
runs_out line before after reads =
    inr (line, record { lines = reads.lines; of_input = reads.of_input; runs = stops_short line before.device after.device before.held after.held reads.lines reads.runs })

-- the lines before one that is too long are the first
first_of : (number : ℕ) (input : List ℕ) (lines : List (List ℕ)) → AreBeforeLong number input lines → AreFirst input lines
first_of number input lines long = record { front = long.front; is_front = long.is_front; more = long.line ∷ long.more; lines_are = long.lines_are }

long_runs_out : (line : ℕ) (before after : Outside) → Reads None (AreBeforeLong line) before after → Ends OutOfMemory before after
long_runs_out line before after reads = inl (record {
  lines = reads.lines;
  of_input = with_input before.left (λ input. AreBeforeLong line input reads.lines) (λ input. AreFirst input reads.lines) (λ input same. first_of line input reads.lines) reads.of_input;
  runs = reads.runs;
})

pub Ends-told : (end told : End) (before after : Outside) → Ends end before after → StaysOrRunsOut end told → Ends told before after
Ends-told Completed told before after ends same = rw same ends
Ends-told Usage told before after ends same = rw same ends
Ends-told (NotACommand line) told before after ends (inl same) = rw same ends
Ends-told (NotACommand line) told before after ends (inr same) = rw same (runs_out line before after ends)
Ends-told (LongLine line) told before after ends (inl same) = rw same ends
Ends-told (LongLine line) told before after ends (inr same) = rw same (long_runs_out line before after ends)
Ends-told LongInput told before after ends same = rw same ends
Ends-told ReadFault told before after ends same = rw same ends
Ends-told WriteFault told before after ends same = rw same ends
Ends-told OutOfMemory told before after ends same = rw same ends

-- status 2 is told of wrong words alone
pub usage_told : (end told : End) → StaysOrRunsOut end told → (status_of told ≡ 2) ↔ (end ≡ Usage)
usage_told Completed told same = (λ two. absurd (omega (arith, ap status_of same, two)), λ usage. cc)
usage_told Usage told same = (λ two. refl, λ usage. ap status_of same)
usage_told (NotACommand line) told (inl same) = (λ two. absurd (omega (arith, ap status_of same, two)), λ usage. cc)
usage_told (NotACommand line) told (inr same) = (λ two. absurd (omega (arith, ap status_of same, two)), λ usage. cc)
usage_told (LongLine line) told (inl same) = (λ two. absurd (omega (arith, ap status_of same, two)), λ usage. cc)
usage_told (LongLine line) told (inr same) = (λ two. absurd (omega (arith, ap status_of same, two)), λ usage. cc)
usage_told LongInput told same = (λ two. absurd (omega (arith, ap status_of same, two)), λ usage. cc)
usage_told ReadFault told same = (λ two. absurd (omega (arith, ap status_of same, two)), λ usage. cc)
usage_told WriteFault told same = (λ two. absurd (omega (arith, ap status_of same, two)), λ usage. cc)
usage_told OutOfMemory told same = (λ two. absurd (omega (arith, ap status_of same, two)), λ usage. cc)
