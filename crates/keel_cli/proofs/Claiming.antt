-- No opening of a run is behind a synced write that was acknowledged.
use Rattle.std.proofs.Common.{◌≡◌, ◌∙◌, ℕ, ◌+◌, ◌≤◌, max, Bool, true, false, Option, None, Some, List, [], ◌∷◌, Result, Ok, Err, refl, ap, sym, subst, inl, inr, arith}
use Rattle.keel_base.specs.declared.op.Batch.{Batch}
use Rattle.keel_base.specs.declared.options.Options.{Options}
use Rattle.keel_disk.specs.Seen.{Seen}
use Rattle.keel_open.specs.declared.refusal.OpenRefusal.{OpenRefusal}
use Rattle.keel_open.specs.declared.refusal.OpenRefusal.TheVariants as refusal
use Rattle.keel_machine.specs.declared.answers.Admit.{Admit}
use Rattle.keel_machine.specs.declared.answers.Admit.TheVariants as admit
use Rattle.keel_machine.specs.declared.answers.Part.TheVariants as part
use Rattle.keel_machine.specs.declared.answers.Outcome.{Outcome}
use Rattle.keel_machine.specs.declared.answers.Outcome.TheVariants as outcome
use Rattle.keel_machine.specs.declared.steps.WriteStep.{WriteStep}
use Rattle.keel_machine.specs.Opening.{Found}
use Rattle.keel_machine.specs.States.{State, Footing, Known, is_open}
use Rattle.keel_machine.specs.Turns.{Event, Opening, Turn}
use Rattle.keel_machine.specs.WritingAfter.{write_after}
use Rattle.keel_recovery.specs.Machine.{MayCall}
use Rattle.keel_script.specs.declared.command.Command.{Command}
use Rattle.keel_script.specs.declared.command.Command.TheVariants.{Open, Put, Del}
use Rattle.keel_script.specs.declared.reply.Reply.{Reply}
use Rattle.keel_script.specs.declared.reply.Reply.TheVariants as reply
use Rattle.keel_cli.specs.declared.lines.StopPlace.{StopPlace}
use Rattle.keel_cli.specs.Answers.{answered_of, answered_in}
use Rattle.keel_cli.specs.Claim.{later, acknowledged, Reaches, IsNotBehind, NoneLost, NothingLost}
use Rattle.keel_cli.specs.LineEnds.{LinesEnd}
use Rattle.keel_cli.specs.Puts.{put_batch, del_batch, refusal_replies, outcome_replies, Waits, PutSettled, PutRun}
use Rattle.keel_cli.specs.Runs.{opening_replies, rest_reply, RestsOrCalls, Carries, Run}
use Rattle.keel_cli.specs.Jobs.{Driven, driven}
use Rattle.keel_cli.specs.Sessions.{Session, Begins, driven_in, unopened}
use Rattle.keel_cli.proofs.Acking.{IsSynced, Fresh, keep_fresh, synced_seen, synced_queued, synced_taken, synced_written, done_firm}
use Rattle.keel_cli.proofs.Flooring.{firm_seq, HeldBy, Held, held_open, open_held, keep_held, opened_reaches, was_known}
use Rattle.keel_cli.proofs.Keeping.{IsKept, admitted, waited, taken, carried, run, stopped}

-- ---- a put

-- a ticket of a synced batch stays one while write steps are made
synced_waits : (ticket last : ℕ) (old new : Driven) (of : ℕ) (steps : List WriteStep) → Waits old of steps new → IsSynced ticket last old.state → IsSynced ticket last new.state
synced_waits ticket last old new of [] same synced = rw same synced
synced_waits ticket last old new of (made ∷ earlier) waits synced =
    let before = synced_waits ticket last old waits.0 of earlier waits.2 synced in
    let between : IsSynced ticket last waits.1 =
    subst (IsSynced ticket last) (sym waits.3.1) (synced_taken ticket last waits.0.state of outcome.Waiting waits.1.device before) in
    subst (IsSynced ticket last) (sym waits.4.turn.1)
    (synced_seen ticket last (write_after waits.1 made) new.state.device (synced_written ticket last waits.1 made between))

-- what a synced put is told to be done with is firm
settled_firm : (old new : Driven) (batch : Batch) (replies : List Reply) (put : PutSettled old batch replies new) (seq : ℕ) → is_open old.state.mode.phase ≡ true → batch.sync ≡ true → Fresh old.state
    → put.outcome ≡ outcome.Done seq → seq ≤ firm_seq new.state.story
settled_firm old new batch replies put seq opened sync fresh done =
    let last = old.state.writing.last_ticket in
    let ticket_is : put.ticket ≡ last + 1 = put.queues.queued.0.0.1 in
    let before : IsSynced put.ticket last old.state = fresh opened put.ticket (omega (arith, ticket_is)) in
    let joined : IsSynced put.ticket (last + 1) put.queues.mid =
    subst (IsSynced put.ticket (last + 1)) (sym put.queues.queued.1)
    (synced_seen put.ticket (last + 1) _ put.queues.mid.device (synced_queued put.ticket last old.state batch before (λ same. sync))) in
    let behind : IsSynced put.ticket (last + 1) put.last.state =
    synced_waits put.ticket (last + 1) (driven put.queues.mid old.jobs) put.last put.ticket put.steps put.queues.waits joined in
    let firm : seq ≤ firm_seq put.last.state.story = done_firm put.ticket (last + 1) seq put.last.state behind (sym put.taken.turn.0.0 ∙ done) in
    omega (arith, firm, ap (λ (s : State). firm_seq s.story) put.taken.turn.1)

same_replies : {A : Type 0} (a b : A) → Some a ≡ Some b → a ≡ b
same_replies a b same = cc

-- replies that acknowledge nothing
unsaid : (P : ℕ → Type 0) (number : ℕ) (told replies : List Reply) → told ≡ replies → P (later number told) → P (later number replies)
unsaid P number told replies same is = subst (λ l. P (later number l)) same is

refused_said : (P : ℕ → Type 0) (number : ℕ) (answer : Admit) (replies : List Reply) → refusal_replies answer ≡ Some replies → P number → P (later number replies)
refused_said P number (admit.Queued ticket) replies prints is = cc
refused_said P number (admit.BadSize part.Key size) replies prints is = unsaid P number _ replies (same_replies _ _ prints) is
refused_said P number (admit.BadSize part.Value size) replies prints is = unsaid P number _ replies (same_replies _ _ prints) is
refused_said P number (admit.BadSize part.Batch size) replies prints is = cc
refused_said P number admit.Closing replies prints is = unsaid P number _ replies (same_replies _ _ prints) is
refused_said P number admit.Booting replies prints is = unsaid P number _ replies (same_replies _ _ prints) is
refused_said P number (admit.Stopped failure) replies prints is = unsaid P number _ replies (same_replies _ _ prints) is
refused_said P number (admit.Spent counter) replies prints is = unsaid P number _ replies (same_replies _ _ prints) is
refused_said P number (admit.Full active immutables) replies prints is = unsaid P number _ replies (same_replies _ _ prints) is
refused_said P number (admit.QueueFull waiting) replies prints is = unsaid P number _ replies (same_replies _ _ prints) is
refused_said P number admit.OutOfMemory replies prints is = cc

outcome_said : (P : ℕ → Type 0) (number : ℕ) (out : Outcome) (replies : List Reply) → outcome_replies out ≡ Some replies → ((seq : ℕ) → out ≡ outcome.Done seq → P (max number seq)) → P number
    → P (later number replies)
outcome_said P number outcome.Waiting replies prints done is = cc
outcome_said P number (outcome.Done seq) replies prints done is = unsaid P number _ replies (same_replies _ _ prints) (done seq refl)
outcome_said P number (outcome.Failed failure) replies prints done is = unsaid P number _ replies (same_replies _ _ prints) is
outcome_said P number (outcome.Turned failure) replies prints done is = unsaid P number _ replies (same_replies _ _ prints) is
outcome_said P number outcome.Unknown replies prints done is = cc
outcome_said P number outcome.Closed replies prints done is = cc

-- a store that is open stays open in a put that settles
settled_open : (old new : Driven) (batch : Batch) (replies : List Reply) (put : PutSettled old batch replies new) → is_open old.state.mode.phase ≡ true → Fresh old.state → is_open new.state.mode.phase ≡ true
settled_open old new batch replies put opened fresh =
    let first : IsKept Fresh keep_fresh old.state = record { opened = opened; kept = fresh } in
    let joined = admitted Fresh keep_fresh old.state put.queues.mid batch (admit.Queued put.ticket) put.queues.queued first in
    let behind = waited Fresh keep_fresh (driven put.queues.mid old.jobs) put.last put.ticket put.steps put.queues.waits joined in
    (taken Fresh keep_fresh put.last.state new.state put.ticket put.outcome put.taken.turn behind).opened

put_held : (number : ℕ) (old new : Driven) (batch : Batch) (replies : List Reply) → PutRun old batch replies new → is_open old.state.mode.phase ≡ true → batch.sync ≡ true → Fresh old.state → Held number new.state
    → Held (later number replies) new.state
put_held number old new batch replies (inl refused) opened sync fresh held = refused_said (λ n. Held n new.state) number refused.answer replies refused.prints held
put_held number old new batch replies (inr (inl put)) opened sync fresh held =
    let opens = settled_open old new batch replies put opened fresh in
    outcome_said (λ n. Held n new.state) number put.outcome replies put.prints
    (λ seq done. open_held (max number seq) new.state opens (λ known.
    let so_far : number ≤ firm_seq new.state.story = held_open number new.state opens known held in
    let now : seq ≤ firm_seq new.state.story = settled_firm old new batch replies put seq opened sync fresh done in
    omega (arith, so_far, now)))
    held
put_held number old new batch replies (inr (inr waits)) opened sync fresh held = unsaid (λ n. Held n new.state) number _ replies (sym waits.prints) held

put_said : (number : ℕ) (b : Bool) (old new : Driven) (batch : Batch) (replies : List Reply) → is_open old.state.mode.phase ≡ b
    → (b ≡ true → PutRun old batch replies new) → (b ≡ false → replies ≡ reply.NotOpen ∷ []) → batch.sync ≡ true → Fresh old.state → Held number new.state → Held (later number replies) new.state
put_said number true old new batch replies opened run rests sync fresh held = put_held number old new batch replies (run refl) opened sync fresh held
put_said number false old new batch replies opened run rests sync fresh held = unsaid (λ n. Held n new.state) number _ replies (sym (rests refl)) held

put_told : (number : ℕ) (options : Options) (b : Bool) (old new : Driven) (key value : List ℕ) (replies : List Reply) → is_open old.state.mode.phase ≡ b
    → RestsOrCalls options (rest_reply b (Put key value true)) old (Put key value true) replies new → Fresh old.state → Held number new.state → Held (later number replies) new.state
put_told number options true old new key value replies opened run fresh held =
    put_said number true old new (put_batch key value true) replies opened (λ is. run) (λ is. cc) refl fresh held
put_told number options false old new key value replies opened rests fresh held =
    put_said number false old new (put_batch key value true) replies opened (λ is. absurd cc) (λ is. rests.prints) refl fresh held

del_told : (number : ℕ) (options : Options) (b : Bool) (old new : Driven) (key : List ℕ) (replies : List Reply) → is_open old.state.mode.phase ≡ b
    → RestsOrCalls options (rest_reply b (Del key true)) old (Del key true) replies new → Fresh old.state → Held number new.state → Held (later number replies) new.state
del_told number options true old new key replies opened run fresh held =
    put_said number true old new (del_batch key true) replies opened (λ is. run) (λ is. cc) refl fresh held
del_told number options false old new key replies opened rests fresh held =
    put_said number false old new (del_batch key true) replies opened (λ is. absurd cc) (λ is. rests.prints) refl fresh held

-- what a command acknowledges is firm behind it
told_held : (number : ℕ) (old new : Session) (command : Command) (replies : List Reply) → Carries old command replies new → Fresh old.store → Held number new.store
    → Held (acknowledged number command replies) new.store
told_held number old new (Put key value true) replies run fresh held =
    put_told number old.options (is_open old.store.mode.phase) (driven_in old) (driven_in new) key value replies refl run.carries fresh held
told_held number old new (Del key true) replies run fresh held =
    del_told number old.options (is_open old.store.mode.phase) (driven_in old) (driven_in new) key replies refl run.carries fresh held
told_held number old new command replies run fresh held = held

-- ---- an opening

reached : (number : ℕ) (told replies : List Reply) → Some told ≡ Some replies → Reaches number told → Reaches number replies
reached number told replies prints is = subst (Reaches number) (same_replies told replies prints) is

found_reaches : (number : ℕ) (options : Options) (old new : State) (answer : Result Found OpenRefusal) (replies : List Reply) → Turn old (Opening options answer) new → opening_replies answer ≡ Some replies
    → is_open old.mode.phase ≡ false → old.footing ≡ Known → Held number old → Reaches number replies
found_reaches number options old new (Ok found) replies turn prints shut known held =
    let here : HeldBy false old.mode.left number old.story = subst (λ b. HeldBy b old.mode.left number old.story) shut (held known) in
    let point : number ≤ found.point.seq = opened_reaches old.mode.left old.footing number found.joined old.story found.point known here turn.0.finds.goes_on in
    reached number _ replies prints (omega (arith, point, turn.0.finds.seq))
found_reaches number options old new (Err (refusal.Device fault)) replies turn prints shut known held = reached number _ replies prints tt
found_reaches number options old new (Err (refusal.NoCurrent file)) replies turn prints shut known held = reached number _ replies prints tt
found_reaches number options old new (Err (refusal.BadCurrent bytes)) replies turn prints shut known held = reached number _ replies prints tt
found_reaches number options old new (Err (refusal.DamagedManifest at)) replies turn prints shut known held = reached number _ replies prints tt
found_reaches number options old new (Err (refusal.MissingTable table)) replies turn prints shut known held = reached number _ replies prints tt
found_reaches number options old new (Err (refusal.BadTable table cause)) replies turn prints shut known held = reached number _ replies prints tt
found_reaches number options old new (Err (refusal.BadLog log at)) replies turn prints shut known held = reached number _ replies prints tt
found_reaches number options old new (Err (refusal.LogGap log expected found)) replies turn prints shut known held = reached number _ replies prints tt
found_reaches number options old new (Err refusal.OutOfMemory) replies turn prints shut known held = cc

open_reaches : (number : ℕ) (options : Options) (b : Bool) (old new : Driven) (replies : List Reply) → is_open old.state.mode.phase ≡ b → RestsOrCalls options (rest_reply b Open) old Open replies new
    → old.state.footing ≡ Known → Held number old.state → Reaches number replies
open_reaches number options true old new replies opened rests known held = subst (Reaches number) (sym rests.prints) tt
open_reaches number options false old new replies shut run known held = found_reaches number options old.state new.state run.answer replies run.turn run.prints shut known held

not_behind : (number : ℕ) (old new : Session) (command : Command) (replies : List Reply) → Carries old command replies new → old.store.footing ≡ Known → Held number old.store
    → IsNotBehind number command replies
not_behind number old new Open replies run known held =
    open_reaches number old.options (is_open old.store.mode.phase) (driven_in old) (driven_in new) replies refl run.carries known held
not_behind number old new command replies run known held = tt

-- ---- a run

-- where a state is known, an earlier one was
abbrev pub LeadsBack : State → State → Type 0
LeadsBack first s = s.footing ≡ Known → first.footing ≡ Known

back : (first old new : State) (event : Event) → MayCall old event → Turn old event new → LeadsBack first old → LeadsBack first new
back first old new event may turn leads = λ known. leads (was_known old new event turn known)

none_lost : (number : ℕ) (commands : List Command) (old new : Session) (replies : List Reply) (gone : Run old commands replies new) → new.store.footing ≡ Known → Fresh old.store → Held number old.store
    → NoneLost number (answered_of commands old replies new gone)
none_lost number [] old new replies gone known fresh held = tt
none_lost number (command ∷ commands) old new replies gone known fresh held =
    let mid = gone.0 in
    let mid_known : mid.store.footing ≡ Known = run (LeadsBack mid.store) (back mid.store) commands mid new gone.2 gone.4 (λ is. is) known in
    let old_known : old.store.footing ≡ Known = carried (LeadsBack old.store) (back old.store) old mid command gone.1 gone.3 (λ is. is) mid_known in
    let mid_held : Held number mid.store = carried (Held number) (keep_held number) old mid command gone.1 gone.3 held in (
      not_behind number old mid command gone.1 gone.3 old_known held,
      none_lost (acknowledged number command gone.1) commands mid new gone.2 gone.4 known
          (carried Fresh keep_fresh old mid command gone.1 gone.3 fresh)
          (told_held number old mid command gone.1 gone.3 fresh mid_held),
    )

first_held : (footing : Footing) (handed_in : Seen) (first : Session) → Begins footing handed_in first → Held 0 first.store
first_held footing handed_in first begins = let none : Held 0 (unopened footing handed_in) = λ known. refl in subst (Held 0) (sym begins.store) none

first_fresh : (footing : Footing) (handed_in : Seen) (first : Session) → Begins footing handed_in first → Fresh first.store
first_fresh footing handed_in first begins = let none : Fresh (unopened footing handed_in) = λ opened. cc in subst Fresh (sym begins.store) none

pub nothing_lost : (stop : Option StopPlace) (footing : Footing) (handed_in : Seen) (first last : Session) (held holds : Option (List ℕ)) (lines : List (List ℕ)) → Begins footing handed_in first
    → (ends : LinesEnd stop first held lines last holds) → last.store.footing ≡ Known → NothingLost (answered_in stop first held lines last holds ends)
nothing_lost None footing handed_in first last held holds lines begins progress known =
    none_lost 0 progress.commands first last progress.replies progress.run known (first_fresh footing handed_in first begins) (first_held footing handed_in first begins)
nothing_lost (Some at) footing handed_in first last held holds lines begins stops known =
    let mid = stops.mid in
    let mid_known : mid.store.footing ≡ Known =
    stopped (LeadsBack mid.store) (back mid.store) at.stop mid last stops.holds_mid holds stops.line stops.stops (λ is. is) known in
    none_lost 0 stops.progress.commands first mid stops.progress.replies stops.progress.run mid_known (first_fresh footing handed_in first begins) (first_held footing handed_in first begins)
