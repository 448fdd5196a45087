-- The steps of a drain, from one core to the next.
use Rattle.std.proofs.Common.{◌≡◌, ℕ, ◌+◌, ◌<◌, ◌≤◌, suc, List, [], ◌∷◌, Option, Some, Result, Ok, Err, refl, subst, inl, inr}
use Rattle.std.specs.Prelude.{IfOk, IsErr, OnErr}
use Rattle.keel_base.specs.declared.memory.OutOfMemory.{OutOfMemory as no_memory}
use Rattle.keel_machine.specs.declared.steps.JobStep.{JobStep}
use Rattle.keel_machine.specs.declared.steps.JobStep.TheVariants as job_steps
use Rattle.keel_machine.specs.declared.steps.ResumeStep.{ResumeStep}
use Rattle.keel_machine.specs.declared.steps.ResumeStep.TheVariants as boot_steps
use Rattle.keel_machine.specs.declared.steps.WriteStep.{WriteStep}
use Rattle.keel_machine.specs.declared.steps.WriteStep.TheVariants as steps
use Rattle.keel_machine.specs.States.{State}
use Rattle.keel_machine.specs.Turns.{Resuming, Writing, Flushing, after}
use Rattle.keel_core.specs.Flushes.{FlushesTurn}
use Rattle.keel_core.specs.Resuming.{ResumesTurn}
use Rattle.keel_core.specs.Views.{CoreView, StandsFor, TakesTurn}
use Rattle.keel_script.specs.declared.reply.Reply.{Reply}
use Rattle.keel_script.specs.declared.reply.Reply.TheVariants.{Quiet, More}
use Rattle.keel_cli.specs.Boots.{BootRun, BootCut, boot_replies}
use Rattle.keel_cli.specs.Flushes.{FlushRun, FlushCut, flush_replies}
use Rattle.keel_cli.specs.Writes.{WriteRun, WriteCut, step_replies}
use Rattle.keel_cli.specs.Drains.{moves_of_boot, moves_of_flush, moves_of_write, BootMoves, Begun, Wrote, Round, Rounds, DrainRun, DrainCut}
use Rattle.keel_cli.specs.declared.holding.HeldJobs.{HeldJobs}
use Rattle.keel_cli.specs.Jobs.{Driven, driven, write_held, flush_held, resume_held}
use Rattle.keel_cli.specs.Stores.{CoreLeads, StandsForSome}
use Rattle.keel_cli.proofs.Beside.{told_flushed}
use Rattle.keel_cli.proofs.Modes.{told_resumed}
use Rattle.keel_cli.proofs.Tickets.{stays_told, write_told}

-- ---- steps of the boot, of the writer and of the flush leave outcomes told

pub step_told : (core new : CoreView) (held : Option ℕ) (step : WriteStep) → TakesTurn core (Writing held step) new → StandsForSome core → StandsForSome new
step_told core new held step turns told = stays_told core new (Writing held step) turns (λ s. write_told step s) told

pub boot_told : (core new : CoreView) (held : Option ℕ) (step : ResumeStep) → ResumesTurn core held step new → StandsForSome core → StandsForSome new
boot_told core new held step turns told = stays_told core new (Resuming turns.drafts held step) turns.turn (λ s. told_resumed s turns.drafts step) told

pub flush_told : (core new : CoreView) (held : Option ℕ) (step : JobStep) → FlushesTurn core held step new → StandsForSome core → StandsForSome new
flush_told core new held step turns told = stays_told core new (Flushing turns.draft held step) turns.turn (λ s. told_flushed s turns.draft step) told

-- ---- rounds

-- rounds made so many moves since the first core, and leave these numbers held
abbrev pub Gone : ℕ → CoreView → HeldJobs → ℕ → CoreView → HeldJobs → Type 0
Gone limit first held made core jobs =
    (s : State) → StandsFor first s → CoreLeads core (λ now. (rounds : ℕ) × Rounds limit (driven s held) rounds made (driven now jobs))

pub none_gone : (limit : ℕ) (first : CoreView) (held : HeldJobs) → Gone limit first held 0 first held
none_gone limit first held s stands = (s, stands, (0, (refl, refl)))

-- Behind rounds that leave moves the boot made a step.
abbrev pub Booted : ℕ → CoreView → HeldJobs → ℕ → ℕ → CoreView → HeldJobs → Type 0
Booted limit first held made of_boot core jobs =
    (s : State) → StandsFor first s
    → CoreLeads core (λ now. (last : Driven) × Begun limit (driven s held) made last × BootMoves last of_boot (driven now jobs))

-- then the writer made one
abbrev pub Written : ℕ → CoreView → HeldJobs → ℕ → ℕ → CoreView → HeldJobs → Type 0
Written limit first held made moves core jobs =
    (s : State) → StandsFor first s
    → CoreLeads core (λ now. (last : Driven) × Begun limit (driven s held) made last × Wrote limit made last moves (driven now jobs))

-- and then the flush
abbrev pub Rounded : ℕ → CoreView → HeldJobs → ℕ → ℕ → CoreView → HeldJobs → Type 0
Rounded limit first held made moves core jobs =
    (s : State) → StandsFor first s
    → CoreLeads core (λ now. (last : Driven) × Begun limit (driven s held) made last × Round limit made last moves (driven now jobs))

module _ (limit : ℕ) (first : CoreView) (held : HeldJobs) where
  pub booted : (core new : CoreView) (jobs behind : HeldJobs) (made of_boot : ℕ) (step : ResumeStep) → Gone limit first held made core jobs → made < limit
      → ResumesTurn core jobs.resume step new → behind ≡ record jobs { resume = resume_held step jobs.resume } → moves_of_boot step ≡ Some of_boot
      → Booted limit first held made of_boot new behind
  booted core new jobs behind made of_boot step gone fewer turns is moves s stands =
      let before = gone s stands in
      let went = turns.turn.goes before.0 before.1 in (
        after before.0 (Resuming turns.drafts jobs.resume step) new.device,
        went.1,
        (
          driven before.0 jobs,
          record { rounds = before.2.0; went = before.2.1; fewer = fewer },
          record { step = step; drafts = turns.drafts; turn = record { turn = (went.0, refl); jobs = is }; moves_are = moves },
        ),
      )

  pub written : (mid new : CoreView) (jobs behind : HeldJobs) (made of_boot of_write : ℕ) (step : WriteStep) → Booted limit first held made of_boot mid jobs
      → made + of_boot < limit → TakesTurn mid (Writing jobs.write step) new → behind ≡ record jobs { write = write_held step jobs.write }
      → moves_of_write step ≡ Some of_write → Written limit first held made (of_boot + of_write) new behind
  written mid new jobs behind made of_boot of_write step gone left turns is moves s stands =
      let before = gone s stands in
      let went = turns.goes before.0 before.1 in (
        after before.0 (Writing jobs.write step) new.device,
        went.1,
        (
          before.2.0,
          before.2.1,
          record {
            mid = driven before.0 jobs;
            of_boot = of_boot;
            of_write = of_write;
            boot = before.2.2;
            left = left;
            write = record { step = step; turn = record { turn = (went.0, refl); jobs = is }; moves_are = moves };
            moves_are = refl;
          },
        ),
      )

  pub round_of : (mid new : CoreView) (jobs behind : HeldJobs) (made of_both of_flush : ℕ) (step : JobStep) → Written limit first held made of_both mid jobs
      → made + of_both < limit → FlushesTurn mid jobs.flush step new → behind ≡ record jobs { flush = flush_held step jobs.flush }
      → moves_of_flush step ≡ Some of_flush → Rounded limit first held made (of_both + of_flush) new behind
  round_of mid new jobs behind made of_both of_flush step gone left turns is moves s stands =
      let before = gone s stands in
      let went = turns.turn.goes before.0 before.1 in (
        after before.0 (Flushing turns.draft jobs.flush step) new.device,
        went.1,
        (
          before.2.0,
          before.2.1,
          record {
            behind = driven before.0 jobs;
            before = of_both;
            of_flush = of_flush;
            wrote = before.2.2;
            still_left = left;
            flush = record { step = step; draft = turns.draft; turn = record { turn = (went.0, refl); jobs = is }; moves_are = moves };
            moves_are = refl;
          },
        ),
      )

  pub round_gone : (new : CoreView) (jobs : HeldJobs) (made moves : ℕ) → 1 ≤ moves → Rounded limit first held made moves new jobs → Gone limit first held (made + moves) new jobs
  round_gone new jobs made moves some went s stands =
      let at = went s stands in
      (at.0, at.1, (suc at.2.1.rounds, (at.2.0, made, moves, at.2.1.went, at.2.2, some, refl)))

  -- ---- how it ends, on the numbers that are left

  -- so it is answered by these replies
  abbrev pub Drained : List Reply → CoreView → HeldJobs → Type 0
  Drained replies core jobs = (s : State) → StandsFor first s → CoreLeads core (λ now. DrainRun limit (driven s held) replies (driven now jobs))

  pub quiet_run : (new : CoreView) (jobs : HeldJobs) (made moves : ℕ) → moves ≡ 0 → Rounded limit first held made moves new jobs → Drained (Quiet ∷ []) new jobs
  quiet_run new jobs made moves none went s stands =
      let at = went s stands in (
        at.0,
        at.1,
        inl (record { made = made; last = at.2.0; begun = at.2.1; round = subst (λ n. Round limit made at.2.0 n (driven at.0 jobs)) none at.2.2; prints = refl }),
      )

  pub more_by_boot : (new : CoreView) (jobs : HeldJobs) (made of_boot : ℕ) → Booted limit first held made of_boot new jobs → made + of_boot ≡ limit → Drained (More ∷ []) new jobs
  more_by_boot new jobs made of_boot gone all s stands =
      let at = gone s stands in
      (at.0, at.1, inr (inl (record { made = made; last = at.2.0; begun = at.2.1; of_boot = of_boot; boot = at.2.2; all = all; prints = refl })))

  pub more_by_writer : (new : CoreView) (jobs : HeldJobs) (made moves : ℕ) → Written limit first held made moves new jobs → made + moves ≡ limit → Drained (More ∷ []) new jobs
  more_by_writer new jobs made moves gone all s stands =
      let at = gone s stands in
      (at.0, at.1, inr (inr (inl (record { made = made; last = at.2.0; begun = at.2.1; moves = moves; wrote = at.2.2; all = all; prints = refl }))))

  pub more_run : (core : CoreView) (jobs : HeldJobs) (made : ℕ) → Gone limit first held made core jobs → made ≡ limit → Drained (More ∷ []) core jobs
  more_run core jobs made gone all s stands =
      let at = gone s stands in
      (at.0, at.1, inr (inr (inr (record { rounds = at.2.0; went = subst (λ n. Rounds limit (driven s held) at.2.0 n (driven at.0 jobs)) all at.2.1; prints = refl }))))

  -- ---- want of memory

  abbrev pub CutOff : CoreView → HeldJobs → Type 0
  CutOff core jobs = (s : State) → StandsFor first s → CoreLeads core (λ now. DrainCut limit (driven s held) (driven now jobs))

  pub boot_wants : (core new : CoreView) (jobs behind : HeldJobs) (made : ℕ) → Gone limit first held made core jobs → made < limit
      → ResumesTurn core jobs.resume boot_steps.OutOfMemory new → behind ≡ jobs → CutOff new behind
  boot_wants core new jobs behind made gone fewer turns is s stands =
      let before = gone s stands in
      let went = turns.turn.goes before.0 before.1 in (
        after before.0 (Resuming turns.drafts jobs.resume boot_steps.OutOfMemory) new.device,
        went.1,
        inl (record {
          made = made;
          last = driven before.0 jobs;
          begun = record { rounds = before.2.0; went = before.2.1; fewer = fewer };
          drafts = turns.drafts;
          turn = record { turn = (went.0, refl); jobs = is };
        }),
      )

  pub write_wants : (mid new : CoreView) (jobs behind : HeldJobs) (made of_boot : ℕ) → Booted limit first held made of_boot mid jobs → made + of_boot < limit
      → TakesTurn mid (Writing jobs.write steps.OutOfMemory) new → behind ≡ jobs → CutOff new behind
  write_wants mid new jobs behind made of_boot gone left turns is s stands =
      let before = gone s stands in
      let went = turns.goes before.0 before.1 in (
        after before.0 (Writing jobs.write steps.OutOfMemory) new.device,
        went.1,
        inr (inl (record {
          made = made;
          last = before.2.0;
          begun = before.2.1;
          of_boot = of_boot;
          mid = driven before.0 jobs;
          boot = before.2.2;
          left = left;
          turn = record { turn = (went.0, refl); jobs = is };
        })),
      )

  pub flush_wants : (mid new : CoreView) (jobs behind : HeldJobs) (made moves : ℕ) → Written limit first held made moves mid jobs → made + moves < limit
      → FlushesTurn mid jobs.flush job_steps.OutOfMemory new → behind ≡ jobs → CutOff new behind
  flush_wants mid new jobs behind made moves gone left turns is s stands =
      let before = gone s stands in
      let went = turns.turn.goes before.0 before.1 in (
        after before.0 (Flushing turns.draft jobs.flush job_steps.OutOfMemory) new.device,
        went.1,
        inr (inr (record {
          made = made;
          last = before.2.0;
          begun = before.2.1;
          moves = moves;
          behind = driven before.0 jobs;
          wrote = before.2.2;
          still_left = left;
          draft = turns.draft;
          turn = record { turn = (went.0, refl); jobs = is };
        })),
      )

-- ---- one step as a command

module _ (old new : CoreView) (jobs behind : HeldJobs) where
  pub write_run : (step : WriteStep) (r : Result Reply no_memory) → TakesTurn old (Writing jobs.write step) new → behind ≡ record jobs { write = write_held step jobs.write }
      → IfOk r (λ x. step_replies step ≡ Some (x ∷ [])) → (s : State) → StandsFor old s
      → IfOk r (λ x. CoreLeads new (λ next. WriteRun (driven s jobs) (x ∷ []) (driven next behind)))
  write_run step (Ok x) turns is printed s stands =
      let went = turns.goes s stands in
      (after s (Writing jobs.write step) new.device, went.1, record { step = step; turn = record { turn = (went.0, refl); jobs = is }; prints = printed })
  write_run step (Err e) turns is printed s stands = tt

  pub write_cut : (step : WriteStep) (r : Result Reply no_memory) → TakesTurn old (Writing jobs.write step) new → behind ≡ record jobs { write = write_held step jobs.write }
      → (IsErr r → step ≡ steps.OutOfMemory) → (s : State) → StandsFor old s → OnErr r (CoreLeads new (λ next. WriteCut (driven s jobs) (driven next behind)))
  write_cut step (Ok x) turns is cut s stands = tt
  write_cut step (Err e) turns is cut s stands =
      let want = subst (λ (made : WriteStep). TakesTurn old (Writing jobs.write made) new) (cut refl) turns in
      let same : behind ≡ jobs = subst (λ (made : WriteStep). behind ≡ record jobs { write = write_held made jobs.write }) (cut refl) is in
      let went = want.goes s stands in
      (after s (Writing jobs.write steps.OutOfMemory) new.device, went.1, record { turn = (went.0, refl); jobs = same })

  pub boot_run : (step : ResumeStep) (r : Result Reply no_memory) → ResumesTurn old jobs.resume step new → behind ≡ record jobs { resume = resume_held step jobs.resume }
      → IfOk r (λ x. boot_replies step ≡ Some (x ∷ [])) → (s : State) → StandsFor old s
      → IfOk r (λ x. CoreLeads new (λ next. BootRun (driven s jobs) (x ∷ []) (driven next behind)))
  boot_run step (Ok x) turns is printed s stands =
      let went = turns.turn.goes s stands in (
        after s (Resuming turns.drafts jobs.resume step) new.device,
        went.1,
        record { step = step; drafts = turns.drafts; turn = record { turn = (went.0, refl); jobs = is }; prints = printed },
      )
  boot_run step (Err e) turns is printed s stands = tt

  pub boot_cut : (step : ResumeStep) (r : Result Reply no_memory) → ResumesTurn old jobs.resume step new → behind ≡ record jobs { resume = resume_held step jobs.resume }
      → (IsErr r → step ≡ boot_steps.OutOfMemory) → (s : State) → StandsFor old s → OnErr r (CoreLeads new (λ next. BootCut (driven s jobs) (driven next behind)))
  boot_cut step (Ok x) turns is cut s stands = tt
  boot_cut step (Err e) turns is cut s stands =
      let want = subst (λ (made : ResumeStep). ResumesTurn old jobs.resume made new) (cut refl) turns in
      let same : behind ≡ jobs = subst (λ (made : ResumeStep). behind ≡ record jobs { resume = resume_held made jobs.resume }) (cut refl) is in
      let went = want.turn.goes s stands in
      (after s (Resuming want.drafts jobs.resume boot_steps.OutOfMemory) new.device, went.1, (want.drafts, record { turn = (went.0, refl); jobs = same }))

  pub flush_run : (step : JobStep) (r : Result Reply no_memory) → FlushesTurn old jobs.flush step new → behind ≡ record jobs { flush = flush_held step jobs.flush }
      → IfOk r (λ x. flush_replies step ≡ Some (x ∷ [])) → (s : State) → StandsFor old s
      → IfOk r (λ x. CoreLeads new (λ next. FlushRun (driven s jobs) (x ∷ []) (driven next behind)))
  flush_run step (Ok x) turns is printed s stands =
      let went = turns.turn.goes s stands in (
        after s (Flushing turns.draft jobs.flush step) new.device,
        went.1,
        record { step = step; draft = turns.draft; turn = record { turn = (went.0, refl); jobs = is }; prints = printed },
      )
  flush_run step (Err e) turns is printed s stands = tt

  pub flush_cut : (step : JobStep) (r : Result Reply no_memory) → FlushesTurn old jobs.flush step new → behind ≡ record jobs { flush = flush_held step jobs.flush }
      → (IsErr r → step ≡ job_steps.OutOfMemory) → (s : State) → StandsFor old s → OnErr r (CoreLeads new (λ next. FlushCut (driven s jobs) (driven next behind)))
  flush_cut step (Ok x) turns is cut s stands = tt
  flush_cut step (Err e) turns is cut s stands =
      let want = subst (λ (made : JobStep). FlushesTurn old jobs.flush made new) (cut refl) turns in
      let same : behind ≡ jobs = subst (λ (made : JobStep). behind ≡ record jobs { flush = flush_held made jobs.flush }) (cut refl) is in
      let went = want.turn.goes s stands in
      (after s (Flushing want.draft jobs.flush job_steps.OutOfMemory) new.device, went.1, (want.draft, record { turn = (went.0, refl); jobs = same }))
