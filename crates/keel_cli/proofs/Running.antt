-- How far a run over lines has come, on each footing.
use Rattle.std.proofs.Common.{◌≡◌, ℕ, ◌+◌, Option, None, List, [], ◌∷◌, ◌++◌, length, refl}
use Rattle.keel_disk.specs.Seen.{Seen}
use Rattle.keel_machine.specs.States.{Footing}
use Rattle.keel_recovery.specs.Machine.{IsCovered}
use Rattle.keel_cli.specs.declared.lines.LineStop.{LineStop}
use Rattle.keel_cli.specs.Ends.{LinesRun, stop_at}
use Rattle.keel_cli.specs.LineEnds.{Progress, Stops, StopsAt}
use Rattle.keel_cli.specs.Sessions.{Session, Begins, MayBegin}
use Rattle.keel_cli.proofs.GoingOn.{Appends-none, Progress-append}
use Rattle.keel_cli.proofs.Keeping.{progressed}
use Rattle.keel_cli.proofs.Recovering.{first_covered, recovers, safe_inside, claims, reads, turns_keep}

-- from a beginning on this footing, these lines were carried out
pub record RunsSoFar (footing : Footing) (handed_in : Seen) (held : Option (List ℕ)) (lines : List (List ℕ)) (holds : Option (List ℕ)) (now : Session) : Type 0 where
  pub first : Session
  pub begins : Begins footing handed_in first
  pub progress : Progress first held lines now holds
  pub covered : IsCovered now.store

module _ (footing : Footing) (handed_in : Seen) (held : Option (List ℕ)) where
  pub run_begins : (first : Session) → Begins footing handed_in first → MayBegin footing handed_in.told → RunsSoFar footing handed_in held [] held first
  run_begins first begins may = record {
    first = first;
    begins = begins;
    progress = record { commands = []; replies = []; read = refl; run = (refl, refl); written = Appends-none held };
    covered = first_covered footing handed_in first begins may;
  }

  pub run_goes_on : (lines : List (List ℕ)) (line : List ℕ) (between holds : Option (List ℕ)) (now new : Session) → RunsSoFar footing handed_in held lines between now
      → Progress now between (line ∷ []) new holds → RunsSoFar footing handed_in held (lines ++ line ∷ []) holds new
  run_goes_on lines line between holds now new runs ends = record {
    first = runs.first;
    begins = runs.begins;
    progress = Progress-append runs.first now new held between holds lines (line ∷ []) runs.progress ends;
    covered = progressed IsCovered turns_keep now new between holds (line ∷ []) ends runs.covered;
  }

  -- the run ends on this device, behind the lines or at a stop at one more
  module _ (handed_back : Seen) (may : MayBegin footing handed_in.told) where
    pub run_stops : (lines : List (List ℕ)) (line : List ℕ) (number : ℕ) (between holds : Option (List ℕ)) (now new : Session) → handed_back ≡ new.store.device → number ≡ length lines + 1
        → (stop : LineStop) → RunsSoFar footing handed_in held lines between now → Stops stop now between line new holds
        → LinesRun (stop_at stop number) footing handed_in held (lines ++ line ∷ []) handed_back holds
    run_stops lines line number between holds now new device number_is stop runs ends =
        let stops : StopsAt stop runs.first held (lines ++ line ∷ []) number new holds = record {
          before = lines;
          line = line;
          behind = [];
          lines_are = refl;
          number_is = number_is;
          mid = now;
          holds_mid = between;
          progress = runs.progress;
          stops = ends;
        } in
        record {
          first = runs.first;
          begins = runs.begins;
          last = new;
          ends = stops;
          device = device;
          recovers = recovers (stop_at stop number) footing handed_in runs.first new held holds (lines ++ line ∷ []) may runs.begins stops;
          inside = safe_inside (stop_at stop number) footing handed_in runs.first new held holds (lines ++ line ∷ []) may runs.begins stops;
          claim = claims (stop_at stop number) footing handed_in runs.first new held holds (lines ++ line ∷ []) may runs.begins stops;
          reads = reads (stop_at stop number) footing handed_in runs.first new held holds (lines ++ line ∷ []) may runs.begins stops;
        }

    pub run_ends : (lines : List (List ℕ)) (holds : Option (List ℕ)) (now : Session) → handed_back ≡ now.store.device
        → RunsSoFar footing handed_in held lines holds now → LinesRun None footing handed_in held lines handed_back holds
    run_ends lines holds now device runs = record {
      first = runs.first;
      begins = runs.begins;
      last = now;
      ends = runs.progress;
      device = device;
      recovers = recovers None footing handed_in runs.first now held holds lines may runs.begins runs.progress;
      inside = safe_inside None footing handed_in runs.first now held holds lines may runs.begins runs.progress;
      claim = claims None footing handed_in runs.first now held holds lines may runs.begins runs.progress;
      reads = reads None footing handed_in runs.first now held holds lines may runs.begins runs.progress;
    }
