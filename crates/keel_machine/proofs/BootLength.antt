-- A boot has so many calls.
use Rattle.std.proofs.Common.{◌≡◌, ◌∙◌, ℕ, ◌+◌, ◌-◌, zero, suc, List, [], ◌∷◌, ◌++◌, length, map, drop, Option, Some, None, refl, sym, ap, subst, arith, append_assoc, length-append}
use Rattle.std.specs.List.{flat_map}
use Rattle.std.proofs.lemmas.List.{length-map}
use Rattle.keel_machine.specs.BootLength.{calls_of, Moves, BootEnds}
use Rattle.keel_machine.specs.Resuming.{AreDrafts, boot_done, first_done, one_more, resume_ready, started_or}
use Rattle.keel_machine.proofs.FirstTests.{none_some}
use Rattle.keel_machine.specs.States.{State, Resumption}
use Rattle.keel_draft.specs.Drafts.{Draft, pieces_in}
use Rattle.keel_resume.proofs.Steps.{handed_made}
use Rattle.keel_resume.specs.Plans.{Act, AddPiece, SyncTable, left_of, plan_of, table_acts, log_acts, roll_acts}
use Rattle.keel_table.specs.Spelling.{block_bytes}

-- ---- the plan's length

pieces_long : (draft : Draft) → length (pieces_in draft) ≡ length draft.blocks + 1
pieces_long draft = length-append (map block_bytes draft.blocks) _ ∙ ap (λ n. n + 1) (length-map draft.blocks block_bytes)

table_long : (draft : Draft) → length (table_acts draft) ≡ 3 + length draft.blocks
table_long draft =
    omega (arith, length-append (map AddPiece (pieces_in draft)) (SyncTable ∷ []), length-map (pieces_in draft) AddPiece, pieces_long draft)

plan_long : (drafts : List Draft) → length (plan_of drafts) ≡ calls_of drafts
plan_long [] = refl
plan_long (draft ∷ drafts) =
    let tables = flat_map table_acts drafts in
    let rest = log_acts ++ roll_acts in
    let whole : length ((table_acts draft ++ tables) ++ rest) ≡ length (table_acts draft) + length (tables ++ rest) =
    ap length (append_assoc (table_acts draft) tables rest) ∙ length-append (table_acts draft) (tables ++ rest) in
    omega (arith, whole, table_long draft, plan_long drafts)

dropped : {A : Type 0} (n : ℕ) (xs : List A) → length (drop n xs) ≡ length xs - n
dropped zero xs = omega arith
dropped (suc n) [] = omega arith
dropped (suc n) (x ∷ xs) = omega (arith, dropped n xs)

some_once : {A : Type 0} (x y : A) → Some x ≡ Some y → x ≡ y
some_once x y same = cc

-- ---- how far a boot is

-- it has made so many calls of its plan, and as many steps
record IsAt (made : ℕ) (drafts : List Draft) (running : Resumption) : Type 0 where
  drafts_are : running.job.drafts ≡ drafts
  made_is : running.job.progress.made ≡ made
  steps_are : running.steps ≡ made

-- the boot that runs is so far; without one none was made
abbrev At : ℕ → State → Type 0
At zero s = s.jobs.resume.running ≡ None
At (suc made) s = (running : Resumption) × (s.jobs.resume.running ≡ Some running) × IsAt (suc made) running.job.drafts running

-- the boot that makes the next call
ready_at : (before : ℕ) (s : State) (drafts : List Draft) (running : Resumption) (runs : Option Resumption) → runs ≡ s.jobs.resume.running → At before s → AreDrafts runs s drafts
    → (started_or runs drafts s).jobs.resume.running ≡ Some running → IsAt before drafts running
ready_at zero s drafts running None is at are ready =
    subst (IsAt 0 drafts) (some_once _ running ready) (record { drafts_are = refl; made_is = refl; steps_are = refl })
ready_at (suc made) s drafts running None is at are ready = none_some at.0 (sym at.1 ∙ sym is)
ready_at zero s drafts running (Some own) is at are ready = none_some own (is ∙ at)
ready_at (suc made) s drafts running (Some own) is at are ready =
    let same : at.0 ≡ running = some_once at.0 running (sym at.1 ∙ ready) in
    let its : own ≡ running = some_once own running (is ∙ ready) in
    let here = subst (λ (r : Resumption). IsAt (suc made) r.job.drafts r) same at.2 in
    subst (λ (ds : List Draft). IsAt (suc made) ds running) (sym (are ∙ ap (λ (r : Resumption). r.job.drafts) its)) here

running_behind : (ready : State) (runs : Option Resumption) (running : Resumption) (act next : Act) (later : List Act) → runs ≡ Some running → left_of running.job ≡ act ∷ next ∷ later
    → (boot_done runs ready).jobs.resume.running ≡ Some (one_more act ready.numbers.next_file running)
running_behind ready runs running act next later is left =
    ap (λ (o : Option Resumption). (boot_done o ready).jobs.resume.running) is ∙ ap (λ (acts : List Act). (first_done running acts ready).jobs.resume.running) left

-- the calls that it has before it
left_long : (before : ℕ) (drafts : List Draft) (running : Resumption) → IsAt before drafts running → length (left_of running.job) ≡ calls_of drafts - before
left_long before drafts running at =
    let plan = plan_of running.job.drafts in
    let calls : calls_of running.job.drafts ≡ calls_of drafts = ap calls_of at.drafts_are in
    omega (arith, dropped running.job.progress.made plan, plan_long running.job.drafts, calls, at.made_is)

at_behind : (s last : State) (moves : ℕ) → Moves s moves last → At moves last
at_behind s last zero same = ap (λ (t : State). t.jobs.resume.running) same.0 ∙ same.1
at_behind s last (suc moves) (mid, drafts, held, job, call, before, turn) =
    let move = turn.0 in
    let makes = move.made.makes in
    let at = ready_at moves mid drafts move.running mid.jobs.resume.running refl (at_behind s mid moves before) makes.drafts_are makes.running_is in
    let ready = resume_ready drafts mid in
    let behind = running_behind ready ready.jobs.resume.running move.running move.act move.next move.later makes.running_is makes.next in (
      one_more move.act ready.numbers.next_file move.running,
      ap (λ (t : State). t.jobs.resume.running) turn.1 ∙ behind,
      record { drafts_are = refl; made_is = omega (arith, handed_made ready.numbers.next_file move.act move.running.job.progress, at.made_is); steps_are = omega (arith, at.steps_are) },
    )

pub boot_ends : BootEnds
boot_ends = record {
  moves = λ s mid last before drafts held job call went turn.
      let move = turn.0 in
      let makes = move.made.makes in
      let at = ready_at before mid drafts move.running mid.jobs.resume.running refl (at_behind s mid before went) makes.drafts_are makes.running_is in
      omega (arith, left_long before drafts move.running at, ap length makes.next);
  clears = λ s mid last before drafts held job steps went turn.
      let clear = turn.0 in
      let makes = clear.made.makes in
      let at = ready_at before mid drafts clear.running mid.jobs.resume.running refl (at_behind s mid before went) makes.drafts_are makes.running_is in
      let last_call : before + 1 ≡ calls_of drafts = omega (arith, left_long before drafts clear.running at, ap length makes.next) in
      (last_call, omega (arith, clear.steps_are, at.steps_are, last_call));
}
