-- What the device of a run's last state stands for.
use Rattle.std.proofs.Common.{◌≡◌, ℕ, Option, List, refl, sym, subst, inl, ⊎_elim, arith}
use Rattle.keel_disk.specs.Told.{Told}
use Rattle.keel_disk.specs.Seen.{Seen}
use Rattle.keel_machine.specs.States.{State, Footing, Known, Unknown}
use Rattle.keel_recovery.specs.Machine.{RestsIn, IsCovered, IsCounted, forged_of}
use Rattle.keel_recovery.proofs.Forging.{footing_stays}
use Rattle.keel_recovery.specs.BootTurns.{BootCallKeeps}
use Rattle.keel_recovery.specs.Machine.{TurnKeeps}
use Rattle.keel_recovery.proofs.BootAll.{boot_call_keeps}
use Rattle.keel_recovery.proofs.BootSaysAll.{roll_gives}
use Rattle.keel_recovery.proofs.Covered.{covered_stands, starts_covered}
use Rattle.keel_recovery.proofs.Machine.{turn_keeps}
use Rattle.keel_recovery.proofs.Opened.{opening_boots}
use Rattle.keel_cli.specs.declared.lines.StopPlace.{StopPlace}
use Rattle.keel_cli.specs.LineEnds.{LinesEnd}
use Rattle.keel_cli.specs.Sessions.{Session, Begins, MayBegin, unopened}
use Rattle.keel_cli.specs.Standing.{NoneForged, Recovers, TurnIsSafe}
use Rattle.keel_recovery.proofs.SafeFlushes.{flushes_are_safe}
use Rattle.keel_recovery.proofs.SafeResumes.{resumes_are_safe}
use Rattle.keel_recovery.proofs.SafeSteps.{steps_are_safe}
use Rattle.keel_cli.specs.Inside.{EachEnd}
use Rattle.keel_cli.proofs.Keeping.{lines_end}
use Rattle.keel_cli.specs.Answers.{answered_in}
use Rattle.keel_cli.specs.Claim.{NothingLost}
use Rattle.keel_cli.specs.ReadClaim.{ReadsRight}
use Rattle.keel_cli.proofs.Claiming.{nothing_lost}
use Rattle.keel_cli.proofs.Showing.{reads_right}
use Rattle.keel_cli.proofs.Each.{each_end}

-- every turn keeps a device covered
boots_keep : BootCallKeeps
boots_keep = boot_call_keeps roll_gives

pub turns_keep : TurnKeeps
turns_keep = turn_keeps opening_boots boots_keep

rests_where : (footing : Footing) (told : Option Told) → MayBegin footing told → footing ≡ Known → RestsIn told
rests_where Known told may is = may
rests_where Unknown told may is = cc

pub first_covered : (footing : Footing) (handed_in : Seen) (first : Session) → Begins footing handed_in first → MayBegin footing handed_in.told → IsCovered first.store
first_covered footing handed_in first begins may =
    subst IsCovered (sym begins.store) (starts_covered (unopened footing handed_in) refl (rests_where footing handed_in.told may))

first_counted : (footing : Footing) (handed_in : Seen) → footing ≡ Known → IsCounted (forged_of handed_in.told) (unopened footing handed_in)
first_counted footing handed_in known = record { least = omega arith; risen = inl known }

still_known : (handed_in : Option Told) (last : State) → NoneForged handed_in last.device.told → IsCounted (forged_of handed_in) last → last.footing ≡ Known
still_known handed_in last none counted = ⊎_elim (λ known. known) (λ more. absurd (omega (arith, more, none.same))) counted.risen

pub recovers : (stop : Option StopPlace) (footing : Footing) (handed_in : Seen) (first last : Session) (held holds : Option (List ℕ)) (lines : List (List ℕ))
    → MayBegin footing handed_in.told → Begins footing handed_in first → LinesEnd stop first held lines last holds → Recovers footing handed_in.told last.store
recovers stop footing handed_in first last held holds lines may begins ends =
    let covered : IsCovered last.store = lines_end IsCovered turns_keep stop first last held holds lines ends (first_covered footing handed_in first begins may) in
    let count = forged_of handed_in.told in
    record {
      known = λ known none.
          let counted : IsCounted count first.store = subst (IsCounted count) (sym begins.store) (first_counted footing handed_in known) in
          still_known handed_in.told last.store none
          (lines_end (IsCounted count) (λ old new event may_call turn. footing_stays count old new event none.counts turn) stop first last held holds lines ends counted);
      stands = λ known begun. covered_stands last.store known begun covered;
    }

-- a crash inside any of its calls leaves a prefix of the story
pub safe_inside : (stop : Option StopPlace) (footing : Footing) (handed_in : Seen) (first last : Session) (held holds : Option (List ℕ)) (lines : List (List ℕ))
    → MayBegin footing handed_in.told → Begins footing handed_in first → (ends : LinesEnd stop first held lines last holds) → EachEnd TurnIsSafe stop first held lines last holds ends
safe_inside stop footing handed_in first last held holds lines may begins ends =
    each_end IsCovered turns_keep TurnIsSafe (λ old new held made opened turn covered. steps_are_safe old new held made opened turn covered)
    (λ old new drafts held made opened turn covered. resumes_are_safe boots_keep old new drafts held made opened turn covered)
    (λ old new draft held made turn covered. flushes_are_safe old new draft held made turn covered)
    stop first last held holds lines ends (first_covered footing handed_in first begins may)

-- no opening is behind a synced write that was acknowledged
pub claims : (stop : Option StopPlace) (footing : Footing) (handed_in : Seen) (first last : Session) (held holds : Option (List ℕ)) (lines : List (List ℕ))
    → MayBegin footing handed_in.told → Begins footing handed_in first → (ends : LinesEnd stop first held lines last holds)
    → footing ≡ Known → NoneForged handed_in.told last.store.device.told → NothingLost (answered_in stop first held lines last holds ends)
claims stop footing handed_in first last held holds lines may begins ends known none =
    nothing_lost stop footing handed_in first last held holds lines begins ends
    ((recovers stop footing handed_in first last held holds lines may begins ends).known known none)

-- reads show the last write of a key that was acknowledged
pub reads : (stop : Option StopPlace) (footing : Footing) (handed_in : Seen) (first last : Session) (held holds : Option (List ℕ)) (lines : List (List ℕ))
    → MayBegin footing handed_in.told → Begins footing handed_in first → (ends : LinesEnd stop first held lines last holds)
    → footing ≡ Known → NoneForged handed_in.told last.store.device.told → ReadsRight (answered_in stop first held lines last holds ends)
reads stop footing handed_in first last held holds lines may begins ends known none =
    reads_right turns_keep stop footing handed_in first last held holds lines begins (first_covered footing handed_in first begins may) ends
    ((recovers stop footing handed_in first last held holds lines may begins ends).known known none)
