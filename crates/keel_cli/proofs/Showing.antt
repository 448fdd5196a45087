-- Reads of a run show the last write of a key that was acknowledged.
use Rattle.std.proofs.Common.{◌≡◌, ◌∙◌, inl, inr, ℕ, zero, suc, ◌+◌, ◌<◌, ◌++◌, Bool, true, false, if◌then◌else◌, Option, None, Some, List, [], ◌∷◌, map, length, Result, Ok, Err, refl, sym, ap, subst, arith}
use Rattle.std.specs.FinMap.{get}
use Rattle.std.specs.List.{AllByRecursion}
use Rattle.std.specs.Prelude.{slice_index_or}
use Rattle.keel_base.specs.declared.row.Row.{Row}
use Rattle.keel_machine.specs.declared.answers.Scanned.{Scanned}
use Rattle.keel_machine.specs.declared.answers.Scanned.TheVariants as scanned
use Rattle.keel_base.specs.Keys.{key_eq}
use Rattle.keel_base.specs.Points.{Values}
use Rattle.keel_base.specs.declared.op.Batch.{Batch}
use Rattle.keel_base.specs.declared.op.Op.{Op}
use Rattle.keel_base.specs.declared.op.Op.TheVariants as op
use Rattle.keel_base.specs.declared.failure.Failure.{Failure}
use Rattle.keel_base.specs.declared.options.Options.{Options}
use Rattle.keel_base.specs.declared.option_name.OptionName.{OptionName}
use Rattle.keel_disk.specs.Seen.{Seen}
use Rattle.keel_disk.specs.declared.rule.Pick.{Pick}
use Rattle.keel_open.specs.declared.refusal.OpenRefusal.{OpenRefusal}
use Rattle.keel_open.specs.declared.refusal.OpenRefusal.TheVariants as refusal
use Rattle.keel_table.specs.declared.fault.TableFault.{TableFault}
use Rattle.keel_table.specs.declared.fault.TableFault.TheVariants as fault
use Rattle.keel_machine.specs.declared.answers.Admit.{Admit}
use Rattle.keel_machine.specs.declared.answers.Admit.TheVariants as admit
use Rattle.keel_machine.specs.declared.answers.Got.{Got}
use Rattle.keel_machine.specs.declared.answers.Got.TheVariants as got
use Rattle.keel_machine.specs.declared.answers.Part.TheVariants as part
use Rattle.keel_machine.specs.declared.answers.Outcome.{Outcome}
use Rattle.keel_machine.specs.declared.answers.Outcome.TheVariants as outcome
use Rattle.keel_machine.specs.declared.steps.JobStep.{JobStep}
use Rattle.keel_machine.specs.declared.steps.ResumeStep.{ResumeStep as BootStep}
use Rattle.keel_machine.specs.declared.steps.WriteStep.{WriteStep}
use Rattle.keel_machine.specs.Admission.{admit_after}
use Rattle.keel_machine.specs.Flushing.{flush_after}
use Rattle.keel_machine.specs.Opening.{Found}
use Rattle.keel_machine.specs.Reads.{WhereKnown, contents, in_range, IsRowOf, AreRowsOf}
use Rattle.keel_machine.specs.Resuming.{resume_after}
use Rattle.keel_machine.specs.States.{State, Footing, Known, Unknown, Mode, Leaving, Nothing, Crashed, Left, is_open}
use Rattle.keel_machine.specs.Turns.{Event, Opening, Admitting, Writing as Makes, Resuming, Flushing, TakingOutcome, Getting, Scanning, Crashing, Turn, after, Starting, ShuttingDown, Finishing}
use Rattle.keel_machine.specs.WritingAfter.{write_after}
use Rattle.keel_machine.specs.declared.answers.Start.{Start}
use Rattle.keel_machine.specs.Starting.{start_after}
use Rattle.keel_cli.proofs.Starts.{open_started}
use Rattle.keel_recovery.specs.Machine.{MayCall, IsCovered, TurnKeeps}
use Rattle.keel_draft.specs.Drafts.{Draft}
use Rattle.keel_script.specs.declared.command.Command.{Command}
use Rattle.keel_script.specs.declared.command.Command.TheVariants.{SetOption, Open, Put, Del, QueuePut, QueueDel, Write, Flush, Resume, ResumeStep, Drain, Tick, Get, Scan, Error, Files, Levels, Fail, Capacity, Crash, Close}
use Rattle.keel_script.specs.declared.reply.Reply.{Reply}
use Rattle.keel_script.specs.declared.reply.Reply.TheVariants as reply
use Rattle.keel_cli.specs.declared.lines.StopPlace.{StopPlace}
use Rattle.keel_cli.specs.Answers.{answered_of, answered_in}
use Rattle.keel_cli.specs.Drains.{BootMoves, Wrote, Round, Rounds, DrainRun}
use Rattle.keel_cli.specs.LineEnds.{LinesEnd}
use Rattle.keel_cli.specs.Puts.{put_batch, del_batch, refusal_replies, outcome_replies, Waits, PutSettled, PutRun, QueueRun}
use Rattle.keel_cli.specs.ReadClaim.{Acked, behind_write, behind_queued, found_to, behind_opening, last_write, Shows, RowsShow, HasRow, HasValue, ShowsRows, is_within, IsShown, AreShown, ReadsRight}
use Rattle.keel_cli.specs.Runs.{opening_replies, fault_replies, reading_replies, row_replies, scan_replies, rest_reply, CrashRun, RestsOrCalls, SetRun, Carries, Run}
use Rattle.keel_cli.specs.Jobs.{Driven, driven}
use Rattle.keel_cli.specs.Sessions.{Session, Begins, driven_in, unopened}
use Rattle.keel_cli.proofs.Flooring.{was_known}
use Rattle.keel_cli.proofs.Following.{HasLast, HeldBy, Holds, holds_open, open_holds, holds_none, last_seen, last_written, last_queued, last_resumed, last_begun, last_flushed, crashed_holds, opens, closed_holds}
use Rattle.keel_cli.proofs.Keeping.{IsKept, admitted, waited, carried, run, stopped}
use Rattle.keel_cli.proofs.Ledger.{key_of, value_of, FreeOf, lasts_end}
use Rattle.keel_cli.proofs.Beside.{open_flushed}
use Rattle.keel_cli.proofs.Modes.{mode_written, mode_admitted, open_resumed}
use Rattle.keel_cli.proofs.Owning.{OwnLast, own_joined}
use Rattle.keel_cli.proofs.OwnSteps.{IsOwn}
use Rattle.keel_cli.proofs.OwnPut.{own_waits, own_done, own_turned, end_last}
use Rattle.keel_cli.proofs.Unused.{AreUnused, keep_unused}
use Rattle.keel_cli.specs.Closes.{CloseRun}

-- a store that is open, and that has the last write of the key where it is known
pub record IsHeld (key : List ℕ) (last : Option Acked) (s : State) : Type 0 where
  pub opened : is_open s.mode.phase ≡ true
  pub has : s.footing ≡ Known → HasLast key last s

free_one : (key : List ℕ) (last : Option Acked) (op : Op) → key_eq (key_of op) key ≡ false → FreeOf key last (op ∷ [])
free_one key None op other = tt
free_one key (Some write) op other = (other, tt)

module _ (key : List ℕ) (last : Option Acked) where
  from_holds : (s : State) → is_open s.mode.phase ≡ true → Holds key last s → IsHeld key last s
  from_holds s opened holds = record { opened = opened; has = λ known. holds_open key last s opened known holds }

  to_holds : (s : State) → IsHeld key last s → Holds key last s
  to_holds s is = open_holds key last s is.opened is.has

  -- ---- turns of an open store

  held_written : (old new : State) (held : Option ℕ) (made : WriteStep) → Turn old (Makes held made) new → IsHeld key last old → IsHeld key last new
  held_written old new held made turn is = record {
    opened = ap (λ (s : State). is_open s.mode.phase) turn.1 ∙ (ap (λ (m : Mode). is_open m.phase) (mode_written old made) ∙ is.opened);
    has = λ known.
        subst (HasLast key last) (sym turn.1)
        (last_seen key last (write_after old made) new.device (last_written key last old made (is.has (was_known old new (Makes held made) turn known))));
  }

  held_resumed : (old new : State) (drafts : List Draft) (held : Option ℕ) (made : BootStep) → Turn old (Resuming drafts held made) new → IsHeld key last old → IsHeld key last new
  held_resumed old new drafts held made turn is = record {
    opened = ap (λ (s : State). is_open s.mode.phase) turn.1 ∙ open_resumed old drafts made is.opened;
    has = λ known.
        subst (HasLast key last) (sym turn.1)
        (last_seen key last (resume_after old drafts made) new.device (last_resumed key last old drafts made (is.has (was_known old new (Resuming drafts held made) turn known))));
  }

  held_begun : (old new : State) (answer : Start) → Turn old (Starting answer) new → IsHeld key last old → IsHeld key last new
  held_begun old new answer turn is = record {
    opened = ap (λ (s : State). is_open s.mode.phase) turn.1 ∙ open_started old answer is.opened;
    has = λ known.
        subst (HasLast key last) (sym turn.1)
        (last_seen key last (start_after old answer) new.device (last_begun key last old answer (is.has (was_known old new (Starting answer) turn known))));
  }

  held_flushed : (old new : State) (draft : Draft) (held : Option ℕ) (made : JobStep) → Turn old (Flushing draft held made) new → IsHeld key last old → IsHeld key last new
  held_flushed old new draft held made turn is = record {
    opened = ap (λ (s : State). is_open s.mode.phase) turn.1 ∙ open_flushed old draft made is.opened;
    has = λ known.
        subst (HasLast key last) (sym turn.1)
        (last_seen key last (flush_after old draft made) new.device (last_flushed key last old draft made (is.has (was_known old new (Flushing draft held made) turn known))));
  }

  has_admitted : (s : State) (batch : Batch) (answer : Admit) → FreeOf key last batch.ops → HasLast key last s → HasLast key last (admit_after s batch answer)
  has_admitted s batch (admit.Queued ticket) free has = last_queued key last s batch free has
  has_admitted s batch (admit.BadSize part size) free has = has
  has_admitted s batch admit.Closing free has = has
  has_admitted s batch admit.Booting free has = has
  has_admitted s batch (admit.Stopped failure) free has = has
  has_admitted s batch (admit.Spent counter) free has = has
  has_admitted s batch (admit.Full active immutables) free has = has
  has_admitted s batch (admit.QueueFull waiting) free has = has
  has_admitted s batch admit.OutOfMemory free has = has

  held_admitted : (old new : State) (batch : Batch) (answer : Admit) → Turn old (Admitting batch answer) new → FreeOf key last batch.ops → IsHeld key last old → IsHeld key last new
  held_admitted old new batch answer turn free is = record {
    opened = ap (λ (s : State). is_open s.mode.phase) turn.1 ∙ (ap (λ (m : Mode). is_open m.phase) (mode_admitted old batch answer) ∙ is.opened);
    has = λ known.
        subst (HasLast key last) (sym turn.1)
        (last_seen key last (admit_after old batch answer) new.device (has_admitted old batch answer free (is.has (was_known old new (Admitting batch answer) turn known))));
  }

  -- a batch that was refused changes nothing
  refused_same : (s : State) (batch : Batch) (answer : Admit) (replies : List Reply) → refusal_replies answer ≡ Some replies → admit_after s batch answer ≡ s
  refused_same s batch (admit.Queued ticket) replies prints = cc
  refused_same s batch (admit.BadSize part size) replies prints = refl
  refused_same s batch admit.Closing replies prints = refl
  refused_same s batch admit.Booting replies prints = refl
  refused_same s batch (admit.Stopped failure) replies prints = refl
  refused_same s batch (admit.Spent counter) replies prints = refl
  refused_same s batch (admit.Full active immutables) replies prints = refl
  refused_same s batch (admit.QueueFull waiting) replies prints = refl
  refused_same s batch admit.OutOfMemory replies prints = refl

  held_refused : (old new : State) (batch : Batch) (answer : Admit) (replies : List Reply) → Turn old (Admitting batch answer) new → refusal_replies answer ≡ Some replies → IsHeld key last old
      → IsHeld key last new
  held_refused old new batch answer replies turn prints is = record {
    opened = ap (λ (s : State). is_open s.mode.phase) turn.1 ∙ (ap (λ (m : Mode). is_open m.phase) (mode_admitted old batch answer) ∙ is.opened);
    has = λ known.
        let same = refused_same old batch answer replies prints in
        subst (HasLast key last) (sym turn.1)
        (last_seen key last (admit_after old batch answer) new.device (subst (HasLast key last) (sym same) (is.has (was_known old new (Admitting batch answer) turn known))));
  }

  has_taken : (s : State) (ticket : ℕ) (out : Outcome) (device : Seen) → HasLast key last s → HasLast key last (after s (TakingOutcome ticket out) device)
  has_taken s ticket out device has = record { story = record { logged = has.story.logged; limbo = has.story.limbo; group = has.story.group }; waits = has.waits }

  held_taken : (old new : State) (ticket : ℕ) (out : Outcome) → Turn old (TakingOutcome ticket out) new → IsHeld key last old → IsHeld key last new
  held_taken old new ticket out turn is = record {
    opened = ap (λ (s : State). is_open s.mode.phase) turn.1 ∙ is.opened;
    has = λ known. subst (HasLast key last) (sym turn.1) (has_taken old ticket out new.device (is.has (was_known old new (TakingOutcome ticket out) turn known)));
  }

  held_waits : (old new : Driven) (ticket : ℕ) (steps : List WriteStep) → Waits old ticket steps new → IsHeld key last old.state → IsHeld key last new.state
  held_waits old new ticket [] same is = rw same is
  held_waits old new ticket (made ∷ earlier) waits is =
      held_written waits.1 new.state waits.0.jobs.write made waits.4.turn (held_taken waits.0.state waits.1 ticket outcome.Waiting waits.3 (held_waits old waits.0 ticket earlier waits.2 is))

  -- a put of another key
  other_put : (old new : Driven) (batch : Batch) (replies : List Reply) → FreeOf key last batch.ops → PutRun old batch replies new → IsHeld key last old.state → IsHeld key last new.state
  other_put old new batch replies free (inl refused) is = held_admitted old.state new.state batch refused.answer refused.turn.turn free is
  other_put old new batch replies free (inr (inl put)) is =
      held_taken put.last.state new.state put.ticket put.outcome put.taken.turn
      (held_waits (driven put.queues.mid old.jobs) put.last put.ticket put.steps put.queues.waits (held_admitted old.state put.queues.mid batch (admit.Queued put.ticket) put.queues.queued free is))
  other_put old new batch replies free (inr (inr waits)) is =
      held_waits (driven waits.queues.mid old.jobs) new waits.ticket (waits.step ∷ waits.steps) waits.queues.waits
      (held_admitted old.state waits.queues.mid batch (admit.Queued waits.ticket) waits.queues.queued free is)

  other_queued : (old new : Driven) (batch : Batch) (replies : List Reply) → FreeOf key last batch.ops → QueueRun old batch replies new → IsHeld key last old.state → IsHeld key last new.state
  other_queued old new batch replies free (inl refused) is = held_admitted old.state new.state batch refused.answer refused.turn.turn free is
  other_queued old new batch replies free (inr queues) is = held_admitted old.state new.state batch (admit.Queued queues.ticket) queues.turn.turn free is

  -- drains
  held_boots : (old new : Driven) (moves : ℕ) → BootMoves old moves new → IsHeld key last old.state → IsHeld key last new.state
  held_boots old new moves boot is = held_resumed old.state new.state boot.drafts old.jobs.resume boot.step boot.turn.turn is

  held_wrote : (limit made : ℕ) (old : Driven) (moves : ℕ) (new : Driven) → Wrote limit made old moves new → IsHeld key last old.state → IsHeld key last new.state
  held_wrote limit made old moves new half is =
      held_written half.mid.state new.state half.mid.jobs.write half.write.step half.write.turn.turn (held_boots old half.mid half.of_boot half.boot is)

  held_round : (limit made : ℕ) (old : Driven) (moves : ℕ) (new : Driven) → Round limit made old moves new → IsHeld key last old.state → IsHeld key last new.state
  held_round limit made old moves new round is =
      held_flushed round.behind.state new.state round.flush.draft round.behind.jobs.flush round.flush.step round.flush.turn.turn (held_wrote limit made old round.before round.behind round.wrote is)

  held_rounds : (limit : ℕ) (old : Driven) (rounds made : ℕ) (new : Driven) → Rounds limit old rounds made new → IsHeld key last old.state → IsHeld key last new.state
  held_rounds limit old zero made new same is = rw same.1 is
  held_rounds limit old (suc rounds) made new gone is = held_round limit gone.1 gone.0 gone.2 new gone.4 (held_rounds limit old rounds gone.1 gone.0 gone.3 is)

  held_drained : (limit : ℕ) (old new : Driven) (replies : List Reply) → DrainRun limit old replies new → IsHeld key last old.state → IsHeld key last new.state
  held_drained limit old new replies (inl quiet) is =
      held_round limit quiet.made quiet.last 0 new quiet.round (held_rounds limit old quiet.begun.rounds quiet.made quiet.last quiet.begun.went is)
  held_drained limit old new replies (inr (inl more)) is =
      held_boots more.last new more.of_boot more.boot (held_rounds limit old more.begun.rounds more.made more.last more.begun.went is)
  held_drained limit old new replies (inr (inr (inl more))) is =
      held_wrote limit more.made more.last more.moves new more.wrote (held_rounds limit old more.begun.rounds more.made more.last more.begun.went is)
  held_drained limit old new replies (inr (inr (inr more))) is = held_rounds limit old more.rounds limit new more.went is

  -- ---- turns that change the device alone, and crashes

  seen_holds : (b : Bool) (leaving : Leaving) (s : State) (device : Seen) → HeldBy key last b leaving s → HeldBy key last b leaving (record s { device = device })
  seen_holds true leaving s device held = last_seen key last s device held
  seen_holds false Crashed s device held = held
  seen_holds false Nothing s device held = held
  seen_holds false Left s device held = held

  holds_seen : (old new : State) → new ≡ record old { device = new.device } → Holds key last old → Holds key last new
  holds_seen old new same holds =
      subst (Holds key last) (sym same) (λ known. seen_holds (is_open old.mode.phase) old.mode.left old new.device (holds known))

  holds_crash : (old new : State) (pick : Pick) (kept : Option ℕ) → Turn old (Crashing pick kept) new → Holds key last old → Holds key last new
  holds_crash old new pick (Some count) turn holds =
      let next = after old (Crashing pick (Some count)) new.device in
      let is : Holds key last next = λ known. crashed_holds key last old.mode.phase old.mode.left count old next refl (holds known) in
      subst (Holds key last) (sym turn.1) is
  holds_crash old new pick None turn holds =
      let is : Holds key last (after old (Crashing pick None) new.device) = λ known. cc in
      subst (Holds key last) (sym turn.1) is

  holds_crashed : (b : Bool) (old new : Driven) (pick : Pick) (replies : List Reply) → CrashRun b old pick replies new → Holds key last old.state → Holds key last new.state
  holds_crashed true old new pick replies run holds = holds_crash old.state new.state pick run.0 run.1 holds
  holds_crashed false old new pick replies rests holds = rw rests.same holds

  -- ---- a close

  holds_closed : (old new : Driven) (replies : List Reply) → CloseRun old replies new → is_open old.state.mode.phase ≡ true → Holds key last old.state → Holds key last new.state
  holds_closed old new replies run opened holds =
      let closed : State = after old.state (ShuttingDown run.tickets) run.mid.device in
      let next : State = after closed Finishing new.state.device in
      let is : Holds key last next = λ known. closed_holds key last (holds_open key last old.state opened known holds).story in
      subst (Holds key last) (sym (run.finishes.1 ∙ ap (λ (s : State). after s Finishing new.state.device) run.closes.1)) is

pub same_replies : {A : Type 0} (a b : A) → Some a ≡ Some b → a ≡ b
same_replies a b same = cc

-- ---- a put of the key

module _ (key : List ℕ) (last : Option Acked) (value : Option (List ℕ)) where
  written_as : (P : Option Acked → Type 0) (told replies : List Reply) → told ≡ replies → P (behind_write value last told) → P (behind_write value last replies)
  written_as P told replies same is = subst (λ l. P (behind_write value last l)) same is

  refused_said : (P : Option Acked → Type 0) (answer : Admit) (replies : List Reply) → refusal_replies answer ≡ Some replies → P last → P (behind_write value last replies)
  refused_said P (admit.Queued ticket) replies prints is = cc
  refused_said P (admit.BadSize part.Key size) replies prints is = written_as P _ replies (same_replies _ _ prints) is
  refused_said P (admit.BadSize part.Value size) replies prints is = written_as P _ replies (same_replies _ _ prints) is
  refused_said P (admit.BadSize part.Batch size) replies prints is = cc
  refused_said P admit.Closing replies prints is = written_as P _ replies (same_replies _ _ prints) is
  refused_said P admit.Booting replies prints is = written_as P _ replies (same_replies _ _ prints) is
  refused_said P (admit.Stopped failure) replies prints is = written_as P _ replies (same_replies _ _ prints) is
  refused_said P (admit.Spent counter) replies prints is = written_as P _ replies (same_replies _ _ prints) is
  refused_said P (admit.Full active immutables) replies prints is = written_as P _ replies (same_replies _ _ prints) is
  refused_said P (admit.QueueFull waiting) replies prints is = written_as P _ replies (same_replies _ _ prints) is
  refused_said P admit.OutOfMemory replies prints is = cc

  outcome_said : (P : Option Acked → Type 0) (out : Outcome) (replies : List Reply) → outcome_replies out ≡ Some replies
      → ((seq : ℕ) → out ≡ outcome.Done seq → P (Some (record { number = seq; value = value }))) → P None → ((failure : Failure) → out ≡ outcome.Turned failure → P last)
      → P (behind_write value last replies)
  outcome_said P outcome.Waiting replies prints done none turned = cc
  outcome_said P (outcome.Done seq) replies prints done none turned = written_as P _ replies (same_replies _ _ prints) (done seq refl)
  outcome_said P (outcome.Failed failure) replies prints done none turned = written_as P _ replies (same_replies _ _ prints) none
  outcome_said P (outcome.Turned failure) replies prints done none turned = written_as P _ replies (same_replies _ _ prints) (turned failure refl)
  outcome_said P outcome.Unknown replies prints done none turned = cc
  outcome_said P outcome.Closed replies prints done none turned = cc

  module _ (keeps : TurnKeeps) (op : Op) (batch : Batch) (one : batch.ops ≡ op ∷ []) (same : key_eq (key_of op) key ≡ true) (is : value_of op ≡ value) where
    own_put : (old new : Driven) (replies : List Reply) (put : PutSettled old batch replies new) → is_open old.state.mode.phase ≡ true → IsCovered old.state → AreUnused old.state → Holds key last old.state
        → put.last.state.footing ≡ Known → IsOwn put.ticket (op ∷ []) key last put.last.state
    own_put old new replies put opened covered unused holds known =
        let mid = put.queues.mid in
        let first : IsKept IsCovered keeps old.state = record { opened = opened; kept = covered } in
        let joined : IsKept IsCovered keeps mid = admitted IsCovered keeps old.state mid batch (admit.Queued put.ticket) put.queues.queued first in
        let known_mid : mid.footing ≡ Known = waits_known put.last (driven mid old.jobs) put.ticket put.steps put.queues.waits known in
        let known_old : old.state.footing ≡ Known = was_known old.state mid (Admitting batch (admit.Queued put.ticket)) put.queues.queued known_mid in
        let has : HasLast key last old.state = holds_open key last old.state opened known_old holds in
        let ticket_is : put.ticket ≡ old.state.writing.last_ticket + 1 = put.queues.queued.0.0.1 in
        let free = unused opened put.ticket (omega (arith, ticket_is)) in
        let begins : IsOwn put.ticket (op ∷ []) key last (after old.state (Admitting batch (admit.Queued put.ticket)) mid.device) =
        inl (
          record {
            none = free.none;
            owned =
                subst (λ (t : ℕ). OwnLast put.ticket (op ∷ []) key last (old.state.writing.waiting ++ (record { ticket = t; batch = batch }) ∷ [])) ticket_is
                (own_joined put.ticket (op ∷ []) key last batch old.state.writing.waiting free.owned has.waits one);
            lacks = free.lacks;
          },
          record { logged = has.story.logged; limbo = has.story.limbo; group = has.story.group },
        ) in
        own_waits put.ticket (op ∷ []) key last keeps (driven mid old.jobs) put.last put.steps put.queues.waits joined known (subst (IsOwn put.ticket (op ∷ []) key last) (sym put.queues.queued.1) begins)
      where
        waits_known : (new old : Driven) (ticket : ℕ) (steps : List WriteStep) → Waits old ticket steps new → new.state.footing ≡ Known → old.state.footing ≡ Known
        waits_known new old ticket [] same known = ap (λ (s : Driven). s.state.footing) (sym same) ∙ known
        waits_known new old ticket (made ∷ earlier) waits known =
            waits_known waits.0 old ticket earlier waits.2
            (was_known waits.0.state waits.1 (TakingOutcome ticket outcome.Waiting) waits.3 (was_known waits.1 new.state (Makes waits.0.jobs.write made) waits.4.turn known))

    settled_holds : (old new : Driven) (replies : List Reply) (put : PutSettled old batch replies new) → is_open old.state.mode.phase ≡ true → IsCovered old.state → AreUnused old.state → Holds key last old.state
        → Holds key (behind_write value last replies) new.state
    settled_holds old new replies put opened covered unused holds =
        let first : IsKept AreUnused keep_unused old.state = record { opened = opened; kept = unused } in
        let joined = admitted AreUnused keep_unused old.state put.queues.mid batch (admit.Queued put.ticket) put.queues.queued first in
        let behind = waited AreUnused keep_unused (driven put.queues.mid old.jobs) put.last put.ticket put.steps put.queues.waits joined in
        let opens_last : is_open put.last.state.mode.phase ≡ true = behind.opened in
        let known_last : new.state.footing ≡ Known → put.last.state.footing ≡ Known = was_known put.last.state new.state (TakingOutcome put.ticket put.outcome) put.taken.turn in
        outcome_said (λ l. Holds key l new.state) put.outcome replies put.prints
        (λ seq done.
        let write : Option Acked = Some (record { number = seq; value = value }) in
        let here : IsHeld key write put.last.state = record {
          opened = opens_last;
          has = λ known.
              end_last op key seq value put.last.state same is
              (own_done put.ticket (op ∷ []) key last put.last.state seq (own_put old new replies put opened covered unused holds known) (sym put.taken.turn.0.0 ∙ done));
        } in
        to_holds key write new.state (held_taken key write put.last.state new.state put.ticket put.outcome put.taken.turn here))
        (holds_none key new.state)
        (λ failure turned.
        let here : IsHeld key last put.last.state = record {
          opened = opens_last;
          has = λ known. own_turned put.ticket (op ∷ []) key last put.last.state failure (own_put old new replies put opened covered unused holds known) (sym put.taken.turn.0.0 ∙ turned);
        } in
        to_holds key last new.state (held_taken key last put.last.state new.state put.ticket put.outcome put.taken.turn here))

    own_put_holds : (old new : Driven) (replies : List Reply) → PutRun old batch replies new → is_open old.state.mode.phase ≡ true → IsCovered old.state → AreUnused old.state → Holds key last old.state
        → Holds key (behind_write value last replies) new.state
    own_put_holds old new replies (inl refused) opened covered unused holds =
        refused_said (λ l. Holds key l new.state) refused.answer replies refused.prints
        (to_holds key last new.state (held_refused key last old.state new.state batch refused.answer replies refused.turn.turn refused.prints (from_holds key last old.state opened holds)))
    own_put_holds old new replies (inr (inl put)) opened covered unused holds = settled_holds old new replies put opened covered unused holds
    own_put_holds old new replies (inr (inr waits)) opened covered unused holds =
        written_as (λ l. Holds key l new.state) _ replies (sym waits.prints) (holds_none key new.state)

  module _ (keeps : TurnKeeps) (op : Op) (batch : Batch) (one : batch.ops ≡ op ∷ []) (is : value_of op ≡ value) where
    put_by : (b : Bool) (old new : Driven) (replies : List Reply) → key_eq (key_of op) key ≡ b → PutRun old batch replies new → is_open old.state.mode.phase ≡ true → IsCovered old.state → AreUnused old.state
        → Holds key last old.state → Holds key (if b then behind_write value last replies else last) new.state
    put_by true old new replies same run opened covered unused holds = own_put_holds keeps op batch one same is old new replies run opened covered unused holds
    put_by false old new replies other run opened covered unused holds =
        to_holds key last new.state (other_put key last old new batch replies (subst (FreeOf key last) (sym one) (free_one key last op other)) run (from_holds key last old.state opened holds))

    not_put : (b : Bool) (old new : Driven) (replies : List Reply) → new ≡ old → replies ≡ reply.NotOpen ∷ [] → Holds key last old.state → Holds key (if b then behind_write value last replies else last) new.state
    not_put true old new replies same prints holds = written_as (λ l. Holds key l new.state) _ replies (sym prints) (subst (λ (s : Driven). Holds key last s.state) (sym same) holds)
    not_put false old new replies same prints holds = subst (λ (s : Driven). Holds key last s.state) (sym same) holds

queued_as : (last : Option Acked) (P : Option Acked → Type 0) (told replies : List Reply) → told ≡ replies → P (behind_queued last told) → P (behind_queued last replies)
queued_as last P told replies same is = subst (λ l. P (behind_queued last l)) same is

queue_refused : (last : Option Acked) (P : Option Acked → Type 0) (answer : Admit) (replies : List Reply) → refusal_replies answer ≡ Some replies → P last → P (behind_queued last replies)
queue_refused last P (admit.Queued ticket) replies prints is = cc
queue_refused last P (admit.BadSize part.Key size) replies prints is = queued_as last P _ replies (same_replies _ _ prints) is
queue_refused last P (admit.BadSize part.Value size) replies prints is = queued_as last P _ replies (same_replies _ _ prints) is
queue_refused last P (admit.BadSize part.Batch size) replies prints is = cc
queue_refused last P admit.Closing replies prints is = queued_as last P _ replies (same_replies _ _ prints) is
queue_refused last P admit.Booting replies prints is = queued_as last P _ replies (same_replies _ _ prints) is
queue_refused last P (admit.Stopped failure) replies prints is = queued_as last P _ replies (same_replies _ _ prints) is
queue_refused last P (admit.Spent counter) replies prints is = queued_as last P _ replies (same_replies _ _ prints) is
queue_refused last P (admit.Full active immutables) replies prints is = queued_as last P _ replies (same_replies _ _ prints) is
queue_refused last P (admit.QueueFull waiting) replies prints is = queued_as last P _ replies (same_replies _ _ prints) is
queue_refused last P admit.OutOfMemory replies prints is = cc

module _ (key : List ℕ) (last : Option Acked) (op : Op) (batch : Batch) (one : batch.ops ≡ op ∷ []) where
  queue_by : (b : Bool) (old new : Driven) (replies : List Reply) → key_eq (key_of op) key ≡ b → QueueRun old batch replies new → is_open old.state.mode.phase ≡ true → Holds key last old.state
      → Holds key (if b then behind_queued last replies else last) new.state
  queue_by true old new replies same (inl refused) opened holds =
      queue_refused last (λ l. Holds key l new.state) refused.answer replies refused.prints
      (to_holds key last new.state (held_refused key last old.state new.state batch refused.answer replies refused.turn.turn refused.prints (from_holds key last old.state opened holds)))
  queue_by true old new replies same (inr queues) opened holds = queued_as last (λ l. Holds key l new.state) _ replies (sym queues.prints) (holds_none key new.state)
  queue_by false old new replies other run opened holds =
      to_holds key last new.state (other_queued key last old new batch replies (subst (FreeOf key last) (sym one) (free_one key last op other)) run (from_holds key last old.state opened holds))

  not_queued : (b : Bool) (old new : Driven) (replies : List Reply) → new ≡ old → replies ≡ reply.NotOpen ∷ [] → Holds key last old.state → Holds key (if b then behind_queued last replies else last) new.state
  not_queued true old new replies same prints holds = queued_as last (λ l. Holds key l new.state) _ replies (sym prints) (subst (λ (s : Driven). Holds key last s.state) (sym same) holds)
  not_queued false old new replies same prints holds = subst (λ (s : Driven). Holds key last s.state) (sym same) holds

-- ---- an opening

module _ (key : List ℕ) (last : Option Acked) where
  opened_as : (P : Option Acked → Type 0) (told replies : List Reply) → Some told ≡ Some replies → P (behind_opening last told) → P (behind_opening last replies)
  opened_as P told replies same is = subst (λ l. P (behind_opening last l)) (same_replies told replies same) is

  found_holds : (options : Options) (old new : State) (answer : Result Found OpenRefusal) (replies : List Reply) → Turn old (Opening options answer) new → opening_replies answer ≡ Some replies
      → is_open old.mode.phase ≡ false → Holds key last old → Holds key (behind_opening last replies) new
  found_holds options old new (Ok found) replies turn prints shut holds =
      let seq = found.store.last_seq in
      let is : Holds key (found_to seq last) (after old (Opening options (Ok found)) new.device) = λ known.
      last_seen key (found_to seq last) _ new.device
      (opens key last seq options found old known (subst (λ b. HeldBy key last b old.mode.left old) shut (holds known)) turn.0.finds.goes_on turn.0.finds.seq) in
      opened_as (λ l. Holds key l new) _ replies prints (subst (Holds key (found_to seq last)) (sym turn.1) is)
  found_holds options old new (Err (refusal.Device fault)) replies turn prints shut holds = opened_as (λ l. Holds key l new) _ replies prints (holds_seen key last old new turn.1 holds)
  found_holds options old new (Err (refusal.NoCurrent file)) replies turn prints shut holds = opened_as (λ l. Holds key l new) _ replies prints (holds_seen key last old new turn.1 holds)
  found_holds options old new (Err (refusal.BadCurrent bytes)) replies turn prints shut holds = opened_as (λ l. Holds key l new) _ replies prints (holds_seen key last old new turn.1 holds)
  found_holds options old new (Err (refusal.DamagedManifest at)) replies turn prints shut holds = opened_as (λ l. Holds key l new) _ replies prints (holds_seen key last old new turn.1 holds)
  found_holds options old new (Err (refusal.MissingTable table)) replies turn prints shut holds = opened_as (λ l. Holds key l new) _ replies prints (holds_seen key last old new turn.1 holds)
  found_holds options old new (Err (refusal.BadTable table cause)) replies turn prints shut holds = opened_as (λ l. Holds key l new) _ replies prints (holds_seen key last old new turn.1 holds)
  found_holds options old new (Err (refusal.BadLog log at)) replies turn prints shut holds = opened_as (λ l. Holds key l new) _ replies prints (holds_seen key last old new turn.1 holds)
  found_holds options old new (Err (refusal.LogGap log expected found)) replies turn prints shut holds = opened_as (λ l. Holds key l new) _ replies prints (holds_seen key last old new turn.1 holds)
  found_holds options old new (Err refusal.OutOfMemory) replies turn prints shut holds = cc

-- ---- commands

store_holds : (keeps : TurnKeeps) (key : List ℕ) (last : Option Acked) (options : Options) (b : Bool) (old new : Driven) (command : Command) (replies : List Reply) → is_open old.state.mode.phase ≡ b
    → RestsOrCalls options (rest_reply b command) old command replies new → IsCovered old.state → AreUnused old.state → Holds key last old.state → Holds key (last_write key last command replies) new.state
store_holds keeps key last options true old new Open replies opened rests covered unused holds =
    subst (λ l. Holds key (behind_opening last l) new.state) (sym rests.prints) (subst (λ (s : Driven). Holds key last s.state) (sym rests.same) holds)
store_holds keeps key last options false old new Open replies opened run covered unused holds = found_holds key last options old.state new.state run.answer replies run.turn run.prints opened holds
store_holds keeps key last options true old new (Put written value sync) replies opened run covered unused holds =
    put_by key last (Some value) keeps (op.Put written value) (put_batch written value sync) refl refl (key_eq written key) old new replies refl run opened covered unused holds
store_holds keeps key last options false old new (Put written value sync) replies opened rests covered unused holds =
    not_put key last (Some value) keeps (op.Put written value) (put_batch written value sync) refl refl (key_eq written key) old new replies rests.same rests.prints holds
store_holds keeps key last options true old new (Del written sync) replies opened run covered unused holds =
    put_by key last None keeps (op.Del written) (del_batch written sync) refl refl (key_eq written key) old new replies refl run opened covered unused holds
store_holds keeps key last options false old new (Del written sync) replies opened rests covered unused holds =
    not_put key last None keeps (op.Del written) (del_batch written sync) refl refl (key_eq written key) old new replies rests.same rests.prints holds
store_holds keeps key last options true old new (QueuePut client written value sync) replies opened run covered unused holds =
    queue_by key last (op.Put written value) (put_batch written value sync) refl (key_eq written key) old new replies refl run opened holds
store_holds keeps key last options false old new (QueuePut client written value sync) replies opened rests covered unused holds =
    not_queued key last (op.Put written value) (put_batch written value sync) refl (key_eq written key) old new replies rests.same rests.prints holds
store_holds keeps key last options true old new (QueueDel client written sync) replies opened run covered unused holds =
    queue_by key last (op.Del written) (del_batch written sync) refl (key_eq written key) old new replies refl run opened holds
store_holds keeps key last options false old new (QueueDel client written sync) replies opened rests covered unused holds =
    not_queued key last (op.Del written) (del_batch written sync) refl (key_eq written key) old new replies rests.same rests.prints holds
store_holds keeps key last options true old new Write replies opened run covered unused holds =
    to_holds key last new.state (held_written key last old.state new.state old.jobs.write run.step run.turn.turn (from_holds key last old.state opened holds))
store_holds keeps key last options false old new Write replies opened rests covered unused holds = subst (λ (s : Driven). Holds key last s.state) (sym rests.same) holds
store_holds keeps key last options true old new Flush replies opened run covered unused holds =
    to_holds key last new.state (held_flushed key last old.state new.state run.draft old.jobs.flush run.step run.turn.turn (from_holds key last old.state opened holds))
store_holds keeps key last options false old new Flush replies opened rests covered unused holds = subst (λ (s : Driven). Holds key last s.state) (sym rests.same) holds
store_holds keeps key last options true old new ResumeStep replies opened run covered unused holds =
    to_holds key last new.state (held_resumed key last old.state new.state run.drafts old.jobs.resume run.step run.turn.turn (from_holds key last old.state opened holds))
store_holds keeps key last options false old new ResumeStep replies opened rests covered unused holds = subst (λ (s : Driven). Holds key last s.state) (sym rests.same) holds
store_holds keeps key last options true old new Resume replies opened run covered unused holds =
    to_holds key last new.state (held_begun key last old.state new.state run.answer run.turn.turn (from_holds key last old.state opened holds))
store_holds keeps key last options false old new Resume replies opened rests covered unused holds = subst (λ (s : Driven). Holds key last s.state) (sym rests.same) holds
store_holds keeps key last options true old new Close replies opened run covered unused holds = holds_closed key last old new replies run opened holds
store_holds keeps key last options false old new Close replies opened rests covered unused holds = subst (λ (s : Driven). Holds key last s.state) (sym rests.same) holds
store_holds keeps key last options true old new (Get asked) replies opened run covered unused holds = holds_seen key last old.state new.state run.turn.turn.1 holds
store_holds keeps key last options false old new (Get asked) replies opened rests covered unused holds = subst (λ (s : Driven). Holds key last s.state) (sym rests.same) holds
store_holds keeps key last options true old new (Scan from to) replies opened run covered unused holds = holds_seen key last old.state new.state run.turn.turn.1 holds
store_holds keeps key last options false old new (Scan from to) replies opened rests covered unused holds = subst (λ (s : Driven). Holds key last s.state) (sym rests.same) holds
store_holds keeps key last options true old new (Drain moves) replies opened run covered unused holds =
    to_holds key last new.state (held_drained key last moves old new replies run (from_holds key last old.state opened holds))
store_holds keeps key last options false old new (Drain moves) replies opened rests covered unused holds = subst (λ (s : Driven). Holds key last s.state) (sym rests.same) holds
store_holds keeps key last options true old new Error replies opened run covered unused holds = holds_seen key last old.state new.state run.turn.turn.1 holds
store_holds keeps key last options false old new Error replies opened rests covered unused holds = subst (λ (s : Driven). Holds key last s.state) (sym rests.same) holds
store_holds keeps key last options true old new Levels replies opened run covered unused holds = holds_seen key last old.state new.state run.turn.turn.1 holds
store_holds keeps key last options false old new Levels replies opened rests covered unused holds = subst (λ (s : Driven). Holds key last s.state) (sym rests.same) holds
store_holds keeps key last options true old new (Fail call fault_ skip times keep) replies opened run covered unused holds = holds_seen key last old.state new.state run.turn.turn.1 holds
store_holds keeps key last options false old new (Fail call fault_ skip times keep) replies opened run covered unused holds = holds_seen key last old.state new.state run.turn.turn.1 holds
store_holds keeps key last options true old new (Capacity bytes) replies opened run covered unused holds = holds_seen key last old.state new.state run.turn.turn.1 holds
store_holds keeps key last options false old new (Capacity bytes) replies opened run covered unused holds = holds_seen key last old.state new.state run.turn.turn.1 holds
store_holds keeps key last options true old new Files replies opened run covered unused holds = holds_seen key last old.state new.state run.turn.turn.1 holds
store_holds keeps key last options false old new Files replies opened run covered unused holds = holds_seen key last old.state new.state run.turn.turn.1 holds
store_holds keeps key last options true old new (Crash dirops keep garbage seed) replies opened run covered unused holds =
    holds_crashed key last old.state.device.simulated old new (record { dirops = dirops; keep = keep; garbage = garbage; seed = seed }) replies run holds
store_holds keeps key last options false old new (Crash dirops keep garbage seed) replies opened run covered unused holds =
    holds_crashed key last old.state.device.simulated old new (record { dirops = dirops; keep = keep; garbage = garbage; seed = seed }) replies run holds
store_holds keeps key last options true old new command replies opened rests covered unused holds = subst (λ (s : Driven). Holds key last s.state) (sym rests.same) holds
store_holds keeps key last options false old new command replies opened rests covered unused holds = subst (λ (s : Driven). Holds key last s.state) (sym rests.same) holds

set_same : (b : Bool) (old new : Session) (name : OptionName) (value : ℕ) (replies : List Reply) → SetRun b old name value replies new → new.store ≡ old.store
set_same true old new name value replies rests = ap (λ (s : Session). s.store) rests.same
set_same false old new name value replies (inl is_set) = ap (λ (s : Session). s.store) is_set.rest
set_same false old new name value replies (inr out) = ap (λ (s : Session). s.store) out.rests.same

carried_holds : (keeps : TurnKeeps) (key : List ℕ) (last : Option Acked) (old new : Session) (command : Command) (replies : List Reply) → Carries old command replies new → IsCovered old.store → AreUnused old.store
    → Holds key last old.store → Holds key (last_write key last command replies) new.store
carried_holds keeps key last old new (SetOption name value) replies run covered unused holds =
    subst (Holds key last) (sym (set_same (is_open old.store.mode.phase) old new name value replies run)) holds
carried_holds keeps key last old new (Tick ticks) replies run covered unused holds = subst (Holds key last) (sym (ap (λ (s : Session). s.store) run.passes)) holds
carried_holds keeps key last old new command replies run covered unused holds =
    store_holds keeps key last old.options (is_open old.store.mode.phase) (driven_in old) (driven_in new) command replies refl run.carries covered unused holds

-- ---- reads

shown_as : (last : Option Acked) (told replies : List Reply) → Some told ≡ Some replies → Shows last told → Shows last replies
shown_as last told replies same is = subst (Shows last) (same_replies told replies same) is

where_known : (footing : Footing) (holds : Type 0) → footing ≡ Known → WhereKnown footing holds → holds
where_known Known holds known is = is
where_known Unknown holds known is = cc

fault_shown : (write : Acked) (number : ℕ) (cause : TableFault) (replies : List Reply) → fault_replies number cause ≡ Some replies → Shows (Some write) replies
fault_shown write number (fault.Device cause) replies prints = shown_as (Some write) _ replies prints tt
fault_shown write number fault.Absent replies prints = shown_as (Some write) _ replies prints tt
fault_shown write number (fault.BadCheck stored computed) replies prints = shown_as (Some write) _ replies prints tt
fault_shown write number (fault.BadShape at) replies prints = shown_as (Some write) _ replies prints tt
fault_shown write number fault.OutOfMemory replies prints = cc

has_value : (key : List ℕ) (write : Acked) (s : State) → HasLast key (Some write) s → get (contents s) key ≡ write.value
has_value key write s has = lasts_end key write s.story.start s.story.log has.story.logged.0 has.story.logged.1

got_shown : (key : List ℕ) (last : Option Acked) (old new : State) (answer : Got) (replies : List Reply) → Turn old (Getting key answer) new → reading_replies answer ≡ Some replies
    → old.footing ≡ Known → HasLast key last old → Shows last replies
got_shown key None old new answer replies turn prints known has = tt
got_shown key (Some write) old new (got.Value value) replies turn prints known has =
    shown_as (Some write) _ replies prints (sym (has_value key write old has) ∙ where_known old.footing (get (contents old) key ≡ Some value) known turn.0.0)
got_shown key (Some write) old new got.Absent replies turn prints known has =
    shown_as (Some write) _ replies prints (sym (has_value key write old has) ∙ where_known old.footing (get (contents old) key ≡ None) known turn.0.0)
got_shown key (Some write) old new (got.ReadFault number cause) replies turn prints known has = fault_shown write number cause replies prints
got_shown key (Some write) old new got.OutOfMemory replies turn prints known has = cc

unopened_shown : (last : Option Acked) (replies : List Reply) → replies ≡ reply.NotOpen ∷ [] → Shows last replies
unopened_shown None replies prints = tt
unopened_shown (Some write) replies prints = subst (Shows (Some write)) (sym prints) tt

get_shown : (key : List ℕ) (last : Option Acked) (options : Options) (b : Bool) (old new : Driven) (replies : List Reply) → is_open old.state.mode.phase ≡ b
    → RestsOrCalls options (rest_reply b (Get key)) old (Get key) replies new → old.state.footing ≡ Known → Holds key last old.state → Shows last replies
get_shown key last options true old new replies opened run known holds =
    got_shown key last old.state new.state run.answer replies run.turn.turn run.prints known (holds_open key last old.state opened known holds)
get_shown key last options false old new replies opened rests known holds = unopened_shown last replies rests.prints

-- a scan over the key
module _ (key : List ℕ) (write : Acked) (values : Values) (from to : List ℕ) (has : get values key ≡ write.value) where
  rows_show : (count : ℕ) (rows : List Row) → AllByRecursion (IsRowOf values from to) rows
      → RowsShow key write (map (λ (row : Row). reply.Row row.key row.value) rows ++ reply.Rows count ∷ [])
  rows_show count [] each = tt
  rows_show count (row ∷ rows) each =
      (λ same. sym has ∙ subst (λ (k : List ℕ). get values k ≡ Some row.value) same each.0.value_is, rows_show count rows each.1)

  row_at : (count : ℕ) (value : List ℕ) (at : ℕ) (rows : List Row) → get values key ≡ Some value → AllByRecursion (IsRowOf values from to) rows
      → at < length (map (λ (row : Row). row.key) rows) → slice_index_or (map (λ (row : Row). row.key) rows) at key ≡ key
      → HasRow key value (map (λ (row : Row). reply.Row row.key row.value) rows ++ reply.Rows count ∷ [])
  row_at count value at [] is each inside same = absurd (omega (arith, inside))
  row_at count value zero (row ∷ rows) is each inside same =
      inl (same, same_replies row.value value (sym (subst (λ (k : List ℕ). get values k ≡ Some row.value) same each.0.value_is) ∙ is))
  row_at count value (suc at) (row ∷ rows) is each inside same = inr (row_at count value at rows is each.1 (omega (arith, inside)) same)

  has_by : (kept : Option (List ℕ)) (rows : List Row) → write.value ≡ kept → in_range from to key ≡ true → AreRowsOf values from to rows → HasValue key kept (row_replies rows)
  has_by None rows is within are = tt
  has_by (Some value) rows is within are =
      let there = are.whole key value within (has ∙ is) in
      row_at (length rows) value there.0 rows (has ∙ is) are.each there.1 there.2

  rows_shown : (rows : List Row) → in_range from to key ≡ true → AreRowsOf values from to rows → ShowsRows key (Some write) (row_replies rows)
  rows_shown rows within are = (rows_show (length rows) rows are.each, has_by write.value rows refl within are)

nothing_shown : (key : List ℕ) (value : Option (List ℕ)) (told : List Reply) → ((v : List ℕ) → HasRow key v told) → HasValue key value told
nothing_shown key None told any = tt
nothing_shown key (Some value) told any = any value

rows_as : (key : List ℕ) (last : Option Acked) (told replies : List Reply) → Some told ≡ Some replies → ShowsRows key last told → ShowsRows key last replies
rows_as key last told replies same is = subst (ShowsRows key last) (same_replies told replies same) is

scan_fault : (key : List ℕ) (write : Acked) (number : ℕ) (cause : TableFault) (replies : List Reply) → fault_replies number cause ≡ Some replies → ShowsRows key (Some write) replies
scan_fault key write number (fault.Device cause) replies prints = rows_as key (Some write) _ replies prints (tt, nothing_shown key write.value _ (λ v. tt))
scan_fault key write number fault.Absent replies prints = rows_as key (Some write) _ replies prints (tt, nothing_shown key write.value _ (λ v. tt))
scan_fault key write number (fault.BadCheck stored computed) replies prints = rows_as key (Some write) _ replies prints (tt, nothing_shown key write.value _ (λ v. tt))
scan_fault key write number (fault.BadShape at) replies prints = rows_as key (Some write) _ replies prints (tt, nothing_shown key write.value _ (λ v. tt))
scan_fault key write number fault.OutOfMemory replies prints = cc

scanned_shown : (key : List ℕ) (last : Option Acked) (from to : List ℕ) (old new : State) (answer : Scanned) (replies : List Reply) → Turn old (Scanning from to answer) new
    → scan_replies answer ≡ Some replies → old.footing ≡ Known → HasLast key last old → is_within from to key ≡ true → ShowsRows key last replies
scanned_shown key None from to old new answer replies turn prints known has within = tt
scanned_shown key (Some write) from to old new (scanned.Rows rows) replies turn prints known has within =
    rows_as key (Some write) _ replies prints
    (rows_shown key write (contents old) from to (has_value key write old has) rows within (where_known old.footing (AreRowsOf (contents old) from to rows) known turn.0.0))
scanned_shown key (Some write) from to old new (scanned.ReadFault number cause) replies turn prints known has within = scan_fault key write number cause replies prints
scanned_shown key (Some write) from to old new scanned.OutOfMemory replies turn prints known has within = cc

unopened_scan : (key : List ℕ) (last : Option Acked) (replies : List Reply) → replies ≡ reply.NotOpen ∷ [] → ShowsRows key last replies
unopened_scan key None replies prints = tt
unopened_scan key (Some write) replies prints = subst (ShowsRows key (Some write)) (sym prints) (tt, nothing_shown key write.value (reply.NotOpen ∷ []) (λ v. tt))

scan_shown : (key : List ℕ) (last : Option Acked) (from to : List ℕ) (options : Options) (b : Bool) (old new : Driven) (replies : List Reply) → is_open old.state.mode.phase ≡ b
    → RestsOrCalls options (rest_reply b (Scan from to)) old (Scan from to) replies new → old.state.footing ≡ Known → Holds key last old.state → is_within from to key ≡ true → ShowsRows key last replies
scan_shown key last from to options true old new replies opened run known holds within =
    scanned_shown key last from to old.state new.state run.answer replies run.turn.turn run.prints known (holds_open key last old.state opened known holds) within
scan_shown key last from to options false old new replies opened rests known holds within = unopened_scan key last replies rests.prints

is_shown : (key : List ℕ) (last : Option Acked) (old new : Session) (command : Command) (replies : List Reply) → Carries old command replies new → old.store.footing ≡ Known → Holds key last old.store
    → IsShown key last command replies
is_shown key last old new (Get asked) replies run known holds = λ same.
    get_shown asked last old.options (is_open old.store.mode.phase) (driven_in old) (driven_in new) replies refl run.carries known (subst (λ (k : List ℕ). Holds k last old.store) (sym same) holds)
is_shown key last old new (Scan from to) replies run known holds = λ within.
    scan_shown key last from to old.options (is_open old.store.mode.phase) (driven_in old) (driven_in new) replies refl run.carries known holds within
is_shown key last old new command replies run known holds = tt

-- ---- a run

-- where a state is known, an earlier one was
abbrev LeadsBack : State → State → Type 0
LeadsBack first s = s.footing ≡ Known → first.footing ≡ Known

back : (first old new : State) (event : Event) → MayCall old event → Turn old event new → LeadsBack first old → LeadsBack first new
back first old new event may turn leads = λ known. leads (was_known old new event turn known)

are_shown : (keeps : TurnKeeps) (key : List ℕ) (last : Option Acked) (commands : List Command) (old new : Session) (replies : List Reply) (gone : Run old commands replies new) → new.store.footing ≡ Known
    → IsCovered old.store → AreUnused old.store → Holds key last old.store → AreShown key last (answered_of commands old replies new gone)
are_shown keeps key last [] old new replies gone known covered unused holds = tt
are_shown keeps key last (command ∷ commands) old new replies gone known covered unused holds =
    let mid = gone.0 in
    let mid_known : mid.store.footing ≡ Known = run (LeadsBack mid.store) (back mid.store) commands mid new gone.2 gone.4 (λ is. is) known in
    let old_known : old.store.footing ≡ Known = carried (LeadsBack old.store) (back old.store) old mid command gone.1 gone.3 (λ is. is) mid_known in (
      is_shown key last old mid command gone.1 gone.3 old_known holds,
      are_shown keeps key (last_write key last command gone.1) commands mid new gone.2 gone.4 known
          (carried IsCovered keeps old mid command gone.1 gone.3 covered)
          (carried AreUnused keep_unused old mid command gone.1 gone.3 unused)
          (carried_holds keeps key last old mid command gone.1 gone.3 covered unused holds),
    )

first_unused : (footing : Footing) (handed_in : Seen) (first : Session) → Begins footing handed_in first → AreUnused first.store
first_unused footing handed_in first begins = let none : AreUnused (unopened footing handed_in) = λ opened. cc in subst AreUnused (sym begins.store) none

pub reads_right : (keeps : TurnKeeps) (stop : Option StopPlace) (footing : Footing) (handed_in : Seen) (first last : Session) (held holds : Option (List ℕ)) (lines : List (List ℕ)) → Begins footing handed_in first
    → IsCovered first.store → (ends : LinesEnd stop first held lines last holds) → last.store.footing ≡ Known → ReadsRight (answered_in stop first held lines last holds ends)
reads_right keeps None footing handed_in first last held holds lines begins covered progress known = λ key.
    are_shown keeps key None progress.commands first last progress.replies progress.run known covered (first_unused footing handed_in first begins) (holds_none key first.store)
reads_right keeps (Some at) footing handed_in first last held holds lines begins covered stops known = λ key.
    let mid = stops.mid in
    let mid_known : mid.store.footing ≡ Known =
    stopped (LeadsBack mid.store) (back mid.store) at.stop mid last stops.holds_mid holds stops.line stops.stops (λ is. is) known in
    are_shown keeps key None stops.progress.commands first mid stops.progress.replies stops.progress.run mid_known covered (first_unused footing handed_in first begins) (holds_none key first.store)
