-- The names that a boot gives are names of the store.
use Rattle.std.proofs.Common.{◌≡◌, ℕ, ◌^◌, ◌<◌, Bool, true, false, List, [], ◌∷◌, ◌++◌, length, map, Option, Some, unwrap_or, option_map, refl, sym, ap, subst, ◌∙◌, arith, ⊎_elim}
use Rattle.std.specs.Prelude.{◌&&◌, nat_le}
use Rattle.std.proofs.lemmas.Bool.{leb-false}
use Rattle.keel_base.specs.declared.failure.Counter.TheVariants.{FileNumber}
use Rattle.keel_base.specs.declared.file_name.FileName.TheVariants.{Manifest}
use Rattle.keel_base.specs.Name.{IsFileNumber}
use Rattle.keel_disk.specs.State.{State as Disk, directory_read}
use Rattle.keel_disk.specs.Sound.{IsOneToOne}
use Rattle.keel_disk.proofs.Staying.{GivesNames}
use Rattle.keel_disk.proofs.Steadily.{read_own}
use Rattle.keel_machine.specs.declared.steps.ResumeStep.TheVariants as step
use Rattle.keel_machine.specs.Resuming.{Makes, cancelled, rests_of, resume_ready, is_file_spent, acts_of, draws_next}
use Rattle.keel_machine.specs.States.{State, Resumption}
use Rattle.keel_machine.specs.Tests.{first_some, when, differing}
use Rattle.keel_machine.proofs.FirstTests.{none_when, none_of}
use Rattle.keel_manifest.specs.declared.roll.RollCall.{RollCall}
use Rattle.keel_manifest.specs.declared.roll.RollCall.TheVariants as rolls
use Rattle.keel_draft.specs.Drafts.{Draft}
use Rattle.keel_resume.specs.Plans.{Act, MakeTable, AddPiece, SyncTable, MakeLog, SyncLogName, Rolls, Job, left_of, plan_of, draws, change_of}
use Rattle.keel_recovery.specs.BootCalls.{BootKept, HasMadeSo, RunsSo, AtTables, InTable, AtLogName, AtRoll, IsMade, RollMade}
use Rattle.keel_recovery.proofs.ResumeCalls.{files_ready}
use Rattle.keel_recovery.proofs.Stands.{own_name}

pub file_left : (s : State) (drafts : List Draft) (held : Option ℕ) (running : Resumption) (act : Act) (later : List Act) → Makes s drafts held running act later → draws act ≡ true → s.numbers.next_file < 2 ^ 56
file_left s drafts held running act later makes drawn =
    let at = resume_ready drafts s in
    let spent : is_file_spent at ≡ false = none_when (is_file_spent at) (step.Spent FileNumber) (none_of (option_map (cancelled s) (differing held s.jobs.resume.number) ∷ first_some (rests_of s.jobs.resume.running s) ∷ when (is_file_spent at) (step.Spent FileNumber) ∷ []) makes.no_rest).1.1.0 in
    let acts : draws_next (acts_of at.jobs.resume.running) ≡ true =
    ap (λ (r : Option Resumption). draws_next (acts_of r)) makes.running_is ∙ ap draws_next makes.next ∙ drawn in
    let over : (true && nat_le (2 ^ 56) at.numbers.next_file) ≡ false = subst (λ (b : Bool). (b && nat_le (2 ^ 56) at.numbers.next_file) ≡ false) acts spent in
    omega (arith, leb-false (2 ^ 56) at.numbers.next_file over, ap (λ n. n.next_file) (files_ready s.jobs.resume.running drafts s))

-- the temporary file has the number of the manifest that was made
temp_named : (bound : ℕ) (s : State) (job : Job) (state : Disk) (later : List Act) → IsOneToOne state → HasMadeSo bound s job state → left_of job ≡ Rolls rolls.MakeTemporary ∷ later
    → IsFileNumber (unwrap_or job.progress.manifest 0)
temp_named bound s job state later one has next =
    ⊎_elim at_tables (λ rest. ⊎_elim in_table (λ more. ⊎_elim at_log_name at_roll more) rest) has.stage
  where
    tables_first : (rest : List Draft) → plan_of rest ≡ Rolls rolls.MakeTemporary ∷ later → ⊥
    tables_first [] e = cc
    tables_first (draft ∷ rest) e = cc

    at_tables : AtTables bound job state → IsFileNumber (unwrap_or job.progress.manifest 0)
    at_tables h = absurd (tables_first h.rest (sym h.left_is ∙ next))

    pieces_first : (todo : List (List ℕ)) (rest : List Draft) → map AddPiece todo ++ SyncTable ∷ plan_of rest ≡ Rolls rolls.MakeTemporary ∷ later → ⊥
    pieces_first [] rest e = cc
    pieces_first (piece ∷ todo) rest e = cc

    in_table : InTable bound job state → IsFileNumber (unwrap_or job.progress.manifest 0)
    in_table h = absurd (pieces_first h.todo h.rest (sym h.left_is ∙ next))

    at_log_name : AtLogName bound job s.numbers.next_file state → IsFileNumber (unwrap_or job.progress.manifest 0)
    at_log_name h = let e = sym h.left_is ∙ next in cc

    at_manifest : (manifest : ℕ) (bytes : List ℕ) → job.progress.manifest ≡ Some manifest → IsMade bound (Manifest manifest) bytes state → IsFileNumber (unwrap_or job.progress.manifest 0)
    at_manifest manifest bytes is made =
        subst (λ (o : Option ℕ). IsFileNumber (unwrap_or o 0)) (sym is)
        (own_name (length state.files) made.file (Manifest manifest) (directory_read state) (read_own state one) made.present.named)

    by_calls : (next_file : ℕ) (calls : List RollCall) → map Rolls calls ≡ Rolls rolls.MakeTemporary ∷ later → RollMade bound job next_file state calls → IsFileNumber (unwrap_or job.progress.manifest 0)
    by_calls next_file [] e made = absurd made
    by_calls next_file (rolls.MakeManifest ∷ calls) e made = cc
    by_calls next_file (rolls.AppendEdit ∷ calls) e made = cc
    by_calls next_file (rolls.SyncManifest ∷ calls) e made = cc
    by_calls next_file (rolls.MakeTemporary ∷ calls) e made = at_manifest made.0 _ made.1 made.3
    by_calls next_file (rolls.AppendName ∷ calls) e made = cc
    by_calls next_file (rolls.SyncTemporary ∷ calls) e made = cc
    by_calls next_file (rolls.Rename ∷ calls) e made = cc
    by_calls next_file (rolls.SyncDirectory ∷ calls) e made = cc

    at_roll : AtRoll bound job s.numbers.next_file state → IsFileNumber (unwrap_or job.progress.manifest 0)
    at_roll h = by_calls s.numbers.next_file h.rolls (sym h.left_is ∙ next) h.made

pub gives_names : (s : State) (drafts : List Draft) (held : Option ℕ) (running : Resumption) (act : Act) (later : List Act) (state : Disk) → Makes s drafts held running act later → BootKept (resume_ready drafts s) state → IsOneToOne state
    → GivesNames (change_of running.job s.numbers.next_file act)
gives_names s drafts held running MakeTable later state makes kept one =
    record { least = omega (arith, kept.numbered, ap (λ n. n.next_file) (files_ready s.jobs.resume.running drafts s)); most = omega (arith, file_left s drafts held running MakeTable later makes refl) }
gives_names s drafts held running (AddPiece bytes) later state makes kept one = tt
gives_names s drafts held running SyncTable later state makes kept one = tt
gives_names s drafts held running MakeLog later state makes kept one =
    record { least = omega (arith, kept.numbered, ap (λ n. n.next_file) (files_ready s.jobs.resume.running drafts s)); most = omega (arith, file_left s drafts held running MakeLog later makes refl) }
gives_names s drafts held running SyncLogName later state makes kept one = tt
gives_names s drafts held running (Rolls rolls.MakeManifest) later state makes kept one =
    record { least = omega (arith, kept.numbered, ap (λ n. n.next_file) (files_ready s.jobs.resume.running drafts s)); most = omega (arith, file_left s drafts held running (Rolls rolls.MakeManifest) later makes refl) }
gives_names s drafts held running (Rolls rolls.AppendEdit) later state makes kept one = tt
gives_names s drafts held running (Rolls rolls.SyncManifest) later state makes kept one = tt
gives_names s drafts held running (Rolls rolls.MakeTemporary) later state makes kept one =
    temp_named kept.bound (resume_ready drafts s) running.job state later one (subst (λ (r : Option Resumption). RunsSo kept.bound (resume_ready drafts s) r state) makes.running_is kept.runs) makes.next
gives_names s drafts held running (Rolls rolls.AppendName) later state makes kept one = tt
gives_names s drafts held running (Rolls rolls.SyncTemporary) later state makes kept one = tt
gives_names s drafts held running (Rolls rolls.Rename) later state makes kept one = tt
gives_names s drafts held running (Rolls rolls.SyncDirectory) later state makes kept one = tt
