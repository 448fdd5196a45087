-- A step of the core is a step of the machine, over plain values.
use Rattle.std.proofs.Common.{◌≡◌, ℕ, ◌+◌, ◌++◌, Bool, true, false, List, [], ◌∷◌, drop, length, Option, Some, None, Ok, Err, refl, sym, ap, subst, ◌∙◌}
use Rattle.keel_base.specs.declared.failure.Call.TheVariants as call
use Rattle.keel_base.specs.declared.failure.Failure.{Failure}
use Rattle.keel_base.specs.declared.failure.Fault.{Fault}
use Rattle.keel_base.specs.declared.file_name.FileName.TheVariants.{Log}
use Rattle.keel_base.specs.declared.op.Batch.{Batch}
use Rattle.keel_base.specs.declared.op.Op.{Op}
use Rattle.keel_base.specs.declared.row.Row.{Row}
use Rattle.keel_group.specs.Queue.{Ticketed}
use Rattle.keel_machine.specs.declared.answers.Outcome.{Outcome}
use Rattle.keel_batch.specs.Batches.{payloads_behind}
use Rattle.keel_disk.specs.declared.change.Change.{Change}
use Rattle.keel_disk.specs.declared.change.Change.TheVariants as change
use Rattle.keel_disk.specs.declared.error.DiskError.TheVariants as error
use Rattle.keel_disk.specs.Seen.{Calls, Seen}
use Rattle.keel_frag.specs.Writing.{records_bytes}
use Rattle.keel_machine.specs.declared.steps.WriteStep.{WriteStep}
use Rattle.keel_machine.specs.declared.steps.WriteStep.TheVariants as step
use Rattle.keel_machine.specs.Admission.{last_seq, ops_of}
use Rattle.keel_machine.specs.Outside.{as_answer}
use Rattle.keel_machine.specs.States as states
use Rattle.keel_machine.specs.States.{State, Story, Group, Progress, SegmentLog, left_of}
use Rattle.keel_machine.specs.Writing as machine
use Rattle.keel_machine.specs.Writing.{group_plan, write_rest}
use Rattle.keel_machine.specs.WritingAfter as machine_after
use Rattle.keel_machine.specs.WritingAfter.{IsMove, MadeCall, act_done, act_failed, done_each, failure_of, first_done, first_failed, log_longer, with_group}
use Rattle.keel_core.specs.declared.flight.Act.{Act}
use Rattle.keel_core.specs.declared.flight.Act.TheVariants.{CloseLog, MakeLog, SyncDirectory, AddRecords, SyncLog}
use Rattle.keel_core.specs.Flights.{FlightShown, IsPlanned, act_of, batches_flying, gone_to, group_of, later_than, made_before, next_flying}
use Rattle.keel_core.specs.Steps.{IsMade, IsRefused, IsWanted, bytes_of, change_of, done, done_step, log_behind, number_in, size_in, stopped, tried}
use Rattle.keel_core.specs.Trails as trails
use Rattle.keel_core.specs.Trails.{Continues, seq_in}
use Rattle.keel_core.specs.Views.{Beyond, Cleared, CoreView, Fits, FullSegment, HaveOps, IsOnPlan, MakesCall, last_in, state_of}
use Rattle.keel_core.proofs.Calling.{quiet_same}
use Rattle.keel_core.proofs.Failing.{handler_noted}
use Rattle.keel_core.proofs.Forming.{by_story}
use Rattle.keel_core.proofs.Segmenting.{added_more, have_ops-append, one_behind, one_full}
use Rattle.keel_core.proofs.Stories.{handed_on, last_same, published_on, seq_published}

-- ---- memory was wanting

pub wants_goes : (old new : CoreView) → IsWanted old new → MakesCall old step.OutOfMemory new
wants_goes old new wanted =
    subst (MakesCall old step.OutOfMemory) (sym wanted.view_is) (by_story old (record old { device = new.device }) step.OutOfMemory (λ beyond held fits none. (
      record { no_rest = none; quiet = wanted.quiet },
      record { beyond = beyond; state_is = refl; fits = record { story = fits.story; segments = fits.segments; tables = fits.tables; opened = fits.opened; leads = fits.leads; handled = fits.handled; flushes = fits.flushes } },
    )))

pub same_wanted : (view : CoreView) → IsWanted view view
same_wanted view = record { quiet = quiet_same view.device; view_is = refl }

-- ---- a group in flight

pub left_is : (act : Act) (switches sync : Bool) → IsPlanned act switches sync → drop (made_before act switches) (group_plan switches sync) ≡ act_of act ∷ later_than act sync
left_is CloseLog true sync planned = refl
left_is CloseLog false sync planned = absurd (cc planned)
left_is MakeLog true sync planned = refl
left_is MakeLog false sync planned = absurd (cc planned)
left_is (SyncDirectory log) true sync planned = refl
left_is (SyncDirectory log) false sync planned = absurd (cc planned)
left_is AddRecords true sync planned = refl
left_is AddRecords false sync planned = refl
left_is SyncLog true true planned = refl
left_is SyncLog false true planned = refl
left_is SyncLog switches false planned = absurd (cc planned)

made_switched : (switches : Bool) → switches ≡ true → 3 ≡ made_before AddRecords switches
made_switched true is = refl
made_switched false is = absurd (cc is)

made_added : (switches : Bool) → made_before AddRecords switches + 1 ≡ made_before SyncLog switches
made_added true = refl
made_added false = refl

module _ (view : CoreView) (told : Seen) (tickets : List ℕ) (batches : List Batch) (switches : Bool) where
  abbrev flight : Act → Bool → FlightShown
  flight act sync = record { tickets = tickets; batches = batches; switches = switches; sync = sync; next = act }

  abbrev before : Act → Bool → CoreView
  before act sync = record view { boot = Cleared; group = Some (flight act sync) }

  abbrev behind : Act → Bool → CoreView
  behind act sync = record (before act sync) { device = told; log = log_behind act (before act sync) }

  abbrev state_before : Act → Bool → Beyond → State
  state_before act sync beyond = state_of (before act sync) beyond

  same_seq : (act : Act) (sync : Bool) (beyond : Beyond) → Fits (before act sync) beyond → last_seq (state_before act sync beyond) ≡ last_in view
  same_seq act sync beyond fits = last_same view.trail beyond.story fits.story

  same_bytes : (act : Act) (sync : Bool) (beyond : Beyond) → Fits (before act sync) beyond
      → machine.group_bytes (state_before act sync beyond) (group_of (flight act sync)) ≡ bytes_of (before act sync) batches
  same_bytes act sync beyond fits = ap (λ n. records_bytes (size_in view.log) (payloads_behind n (ops_of batches))) (same_seq act sync beyond fits)

  same_change : (act : Act) (sync : Bool) (beyond : Beyond) → Fits (before act sync) beyond
      → machine.change_of (state_before act sync beyond) (group_of (flight act sync)) (act_of act) ≡ change_of act (before act sync)
  same_change CloseLog sync beyond fits = refl
  same_change MakeLog sync beyond fits = refl
  same_change (SyncDirectory log) sync beyond fits = refl
  same_change AddRecords sync beyond fits = ap (λ l. change.Append (Log (number_in view.log)) l) (same_bytes AddRecords sync beyond fits)
  same_change SyncLog sync beyond fits = refl

  -- of a state that the core stands for, where a call is to be made
  module _ (act : Act) (sync : Bool) (planned : IsPlanned act switches sync) (beyond : Beyond) (held : Option ℕ) (fits : Fits (before act sync) beyond)
      (none : write_rest (state_before act sync beyond) held ≡ None) where
    abbrev s : State
    s = state_before act sync beyond

    abbrev group : Group
    group = group_of (flight act sync)

    made_call : (failed : Option Fault) → Calls view.device (change_of act (before act sync)) (as_answer failed) told
        → MadeCall s held group (act_of act) (later_than act sync) failed told
    made_call failed calls = record {
      makes = record { no_rest = none; group_is = refl; next = left_is act switches sync planned };
      calls = subst (λ (c : Change). Calls view.device c (as_answer failed) told) (sym (same_change act sync beyond fits)) calls;
    }

    moves : (next : states.Act) (later : List states.Act) → later_than act sync ≡ next ∷ later → Calls view.device (change_of act (before act sync)) (Ok tt) told
        → IsMove s held view.job (machine.call_of (act_of act)) told
    moves next later is calls = record {
      group = group;
      act = act_of act;
      next = next;
      later = later;
      made = subst (λ (l : List states.Act). MadeCall s held group (act_of act) l None told) is (made_call None calls);
      job_is = refl;
      call_is = refl;
    }

    -- the state behind a call of the group, by the calls that it has left
    done_is : states.with_device told (first_done group (left_of group) s) ≡ states.with_device told (act_done (act_of act) group (later_than act sync) s)
    done_is = ap (λ (l : List states.Act). states.with_device told (first_done group l s)) (left_is act switches sync planned)

    failed_is : (failure : Failure) → states.with_device told (first_failed group (left_of group) failure s) ≡ states.with_device told (act_failed (act_of act) group failure s)
    failed_is failure = ap (λ (l : List states.Act). states.with_device told (first_failed group l failure s)) (left_is act switches sync planned)

  -- ---- a call was answered Ok

  abbrev Goes : Act → Bool → Type 0
  Goes act sync =
      IsPlanned act switches sync → HaveOps view.trail.limbo × HaveOps (ops_of batches) → Calls view.device (change_of act (before act sync)) (Ok tt) told
      → MakesCall (before act sync) (done_step act (behind act sync)) (done act (behind act sync))

  log_closed : (sync : Bool) → Goes CloseLog sync
  log_closed sync planned some calls = by_story (before CloseLog sync) (done CloseLog (behind CloseLog sync)) (done_step CloseLog (behind CloseLog sync)) (λ beyond held fits none. (
    moves CloseLog sync planned beyond held fits none states.MakeLog _ refl calls,
    record {
      beyond = beyond;
      state_is = done_is CloseLog sync planned beyond held fits none;
      fits = record { story = fits.story; segments = fits.segments; tables = fits.tables; opened = fits.opened; leads = fits.leads; handled = fits.handled; flushes = fits.flushes };
    },
  ))

  log_made : (sync : Bool) → Goes MakeLog sync
  log_made sync planned some calls = by_story (before MakeLog sync) (done MakeLog (behind MakeLog sync)) (done_step MakeLog (behind MakeLog sync)) (λ beyond held fits none. (
    moves MakeLog sync planned beyond held fits none states.SyncDirectory _ refl calls,
    record {
      beyond = beyond;
      state_is = done_is MakeLog sync planned beyond held fits none;
      fits = record { story = fits.story; segments = fits.segments; tables = fits.tables; opened = fits.opened; leads = fits.leads; handled = fits.handled; flushes = fits.flushes };
    },
  ))

  -- the group behind the switch
  abbrev switched_group : Bool → ℕ → Group
  switched_group sync made = record { tickets = tickets; batches = batches; plan = group_plan switches sync; progress = record { made = made; log = None } }

  name_firm : (log : ℕ) (sync : Bool) → Goes (SyncDirectory log) sync
  name_firm log sync planned some calls = by_story (before (SyncDirectory log) sync) (done (SyncDirectory log) (behind (SyncDirectory log) sync)) (done_step (SyncDirectory log) (behind (SyncDirectory log) sync)) (λ beyond held fits none.
      let full : states.Segment = record { batches = beyond.active; logs = machine_after.numbers_of view.log } in
      let later : Beyond = record beyond { immutable = beyond.immutable ++ full ∷ []; active = [] } in (
        moves (SyncDirectory log) sync planned beyond held fits none states.AddRecords _ refl calls,
        record {
          beyond = later;
          state_is =
              done_is (SyncDirectory log) sync planned beyond held fits none
              ∙ ap (λ n. with_group (Some (switched_group sync n)) (state_of (done (SyncDirectory log) (behind (SyncDirectory log) sync)) later)) (made_switched switches planned);
          fits = record {
            story = fits.story;
            segments = one_full beyond.in_tables view.immutable beyond.immutable view.rows beyond.active (last_in view) (machine_after.numbers_of view.log) fits.segments;
            tables = fits.tables;
            opened = fits.opened;
            leads = fits.leads;
            handled = fits.handled;
            flushes = one_behind view.flush beyond.in_tables beyond.immutable full fits.flushes;
          };
        },
      ))

  abbrev added_group : ℕ → Group
  added_group made = record { tickets = tickets; batches = []; plan = group_plan switches true; progress = record { made = made; log = None } }

  -- the log behind the append
  longer_is : (sync : Bool) (beyond : Beyond) → Fits (before AddRecords sync) beyond
      → log_longer (length (machine.group_bytes (state_before AddRecords sync beyond) (group_of (flight AddRecords sync)))) view.log ≡ log_behind AddRecords (before AddRecords sync)
  longer_is sync beyond fits = ap (λ (l : List ℕ). log_longer (length l) view.log) (same_bytes AddRecords sync beyond fits)

  records_added : Goes AddRecords true
  records_added planned some calls = by_story (before AddRecords true) (done AddRecords (behind AddRecords true)) (done_step AddRecords (behind AddRecords true)) (λ beyond held fits none.
      let later : Beyond = record beyond { story = states.handed (ops_of batches) beyond.story } in
      let new : CoreView = done AddRecords (behind AddRecords true) in (
        moves AddRecords true planned beyond held fits none states.SyncLog [] refl calls,
        record {
          beyond = later;
          state_is =
              done_is AddRecords true planned beyond held fits none
              ∙ (λ i. machine_after.with_log (longer_is true beyond fits i) (with_group (Some (added_group (made_added switches i))) (state_of new later)));
          fits = record { story = handed_on view.trail beyond.story (ops_of batches) fits.story; segments = fits.segments; tables = fits.tables; opened = fits.opened; leads = fits.leads; handled = fits.handled; flushes = fits.flushes };
        },
      ))

  -- what is published, by what the story has
  module _ (sync : Bool) (trail : trails.TrailShown) (log : Option SegmentLog) (more : List (List Op)) (beyond : Beyond) where
    abbrev published_in : CoreView
    published_in = record (before AddRecords sync) { device = told; log = log; trail = trail }

  records_published : Goes AddRecords false
  records_published planned some calls = by_story (before AddRecords false) (done AddRecords (behind AddRecords false)) (done_step AddRecords (behind AddRecords false)) (λ beyond held fits none.
      let given : Continues true (trails.handed (ops_of batches) view.trail) (states.handed (ops_of batches) beyond.story) = handed_on view.trail beyond.story (ops_of batches) fits.story in
      let later_story = published_on (trails.handed (ops_of batches) view.trail) (states.handed (ops_of batches) beyond.story) false given in
      let more : List (List Op) = view.trail.limbo ++ ops_of batches in
      let later : Beyond = record beyond { story = states.published false (states.handed (ops_of batches) beyond.story); active = beyond.active ++ more } in
      let new : CoreView = done AddRecords (behind AddRecords false) in
      let seq_same = same_seq AddRecords false beyond fits in
      let limbo : beyond.story.limbo ++ ops_of batches ≡ more = ap (λ (l : List (List Op)). l ++ ops_of batches) (fits.story.limbo_is refl) in
      let state : states.with_device told (first_done (group_of (flight AddRecords false)) (left_of (group_of (flight AddRecords false))) (state_before AddRecords false beyond)) ≡ state_of new later =
      done_is AddRecords false planned beyond held fits none
      ∙ (λ i. record (state_of new later) {
        segments = record { immutable = beyond.immutable; active = record { batches = beyond.active ++ limbo i; log = longer_is false beyond fits i } };
        writing = record { waiting = view.waiting; outcomes = view.outcomes ++ done_each (seq_same i) tickets (limbo i); last_ticket = view.last_ticket };
      }) in (
        record {
          group = group_of (flight AddRecords false);
          act = states.AddRecords;
          made = made_call AddRecords false planned beyond held fits none None calls;
          job_is = refl;
          seq_is = sym (last_same (trails.published false (trails.handed (ops_of batches) view.trail)) later.story later_story) ∙ sym (ap last_seq state);
          batches_is = refl;
        },
        record {
          beyond = later;
          state_is = state;
          fits = record {
            story = later_story;
            segments = added_more beyond.in_tables view.immutable beyond.immutable view.rows beyond.active more (last_in view) _ fits.segments (seq_published (trails.handed (ops_of batches) view.trail) false) (have_ops-append view.trail.limbo (ops_of batches) some.0 some.1);
            tables = fits.tables;
            opened = fits.opened;
            leads = fits.leads;
            handled = fits.handled;
            flushes = fits.flushes;
          };
        },
      ))

  log_firm : (sync : Bool) → Goes SyncLog sync
  log_firm sync planned some calls = by_story (before SyncLog sync) (done SyncLog (behind SyncLog sync)) (done_step SyncLog (behind SyncLog sync)) (λ beyond held fits none.
      let later_story = published_on view.trail beyond.story true fits.story in
      let later : Beyond = record beyond { story = states.published true beyond.story; active = beyond.active ++ view.trail.limbo } in
      let new : CoreView = done SyncLog (behind SyncLog sync) in
      let seq_same = same_seq SyncLog sync beyond fits in
      let state : states.with_device told (first_done (group_of (flight SyncLog sync)) (left_of (group_of (flight SyncLog sync))) (state_before SyncLog sync beyond)) ≡ state_of new later =
      done_is SyncLog sync planned beyond held fits none
      ∙ (λ i. record (state_of new later) {
        segments = record { immutable = beyond.immutable; active = record { batches = beyond.active ++ fits.story.limbo_is refl i; log = view.log } };
        writing = record { waiting = view.waiting; outcomes = view.outcomes ++ done_each (seq_same i) tickets (fits.story.limbo_is refl i); last_ticket = view.last_ticket };
      }) in (
        record {
          group = group_of (flight SyncLog sync);
          act = states.SyncLog;
          made = made_call SyncLog sync planned beyond held fits none None calls;
          job_is = refl;
          seq_is = sym (last_same (trails.published true view.trail) later.story later_story) ∙ sym (ap last_seq state);
          batches_is = refl;
        },
        record {
          beyond = later;
          state_is = state;
          fits = record {
            story = later_story;
            segments = added_more beyond.in_tables view.immutable beyond.immutable view.rows beyond.active view.trail.limbo (last_in view) _ fits.segments (seq_published view.trail true) some.0;
            tables = fits.tables;
            opened = fits.opened;
            leads = fits.leads;
            handled = fits.handled;
            flushes = fits.flushes;
          };
        },
      ))

  went : (act : Act) (sync : Bool) → Goes act sync
  went CloseLog sync = log_closed sync
  went MakeLog sync = log_made sync
  went (SyncDirectory log) sync = name_firm log sync
  went AddRecords true = records_added
  went AddRecords false = records_published
  went SyncLog sync = log_firm sync

  -- ---- a call failed

  abbrev over : Act → Bool → Fault → CoreView
  over act sync fault = stopped fault (tried act (record (before act sync) { device = told }))

  abbrev story_over : Act → Story → Story
  story_over AddRecords story = states.handed (ops_of batches) story
  story_over _ story = story

  abbrev beyond_over : Act → Fault → Beyond → Beyond
  beyond_over act fault beyond = record beyond { story = story_over act beyond.story; failures = beyond.failures ++ failure_of fault ∷ [] }

  over_is : (act : Act) (sync : Bool) (fault : Fault) (beyond : Beyond)
      → states.with_device (over act sync fault).device (act_failed (act_of act) (group_of (flight act sync)) (failure_of fault) (state_before act sync beyond)) ≡ state_of (over act sync fault) (beyond_over act fault beyond)
  over_is CloseLog sync fault beyond = refl
  over_is MakeLog sync fault beyond = refl
  over_is (SyncDirectory log) sync fault beyond = refl
  over_is AddRecords sync fault beyond = refl
  over_is SyncLog sync fault beyond = refl

  over_fits : (act : Act) (sync : Bool) (fault : Fault) (beyond : Beyond) → Fits (before act sync) beyond → Fits (over act sync fault) (beyond_over act fault beyond)
  over_fits CloseLog sync fault beyond fits = record { story = fits.story; segments = fits.segments; tables = fits.tables; opened = fits.opened; leads = fits.leads; handled = handler_noted view.options beyond.failures view.handler (failure_of fault) fits.handled; flushes = fits.flushes }
  over_fits MakeLog sync fault beyond fits = record { story = fits.story; segments = fits.segments; tables = fits.tables; opened = fits.opened; leads = fits.leads; handled = handler_noted view.options beyond.failures view.handler (failure_of fault) fits.handled; flushes = fits.flushes }
  over_fits (SyncDirectory log) sync fault beyond fits = record { story = fits.story; segments = fits.segments; tables = fits.tables; opened = fits.opened; leads = fits.leads; handled = handler_noted view.options beyond.failures view.handler (failure_of fault) fits.handled; flushes = fits.flushes }
  over_fits AddRecords sync fault beyond fits = record { story = handed_on view.trail beyond.story (ops_of batches) fits.story; segments = fits.segments; tables = fits.tables; opened = fits.opened; leads = fits.leads; handled = handler_noted view.options beyond.failures view.handler (failure_of fault) fits.handled; flushes = fits.flushes }
  over_fits SyncLog sync fault beyond fits = record { story = fits.story; segments = fits.segments; tables = fits.tables; opened = fits.opened; leads = fits.leads; handled = handler_noted view.options beyond.failures view.handler (failure_of fault) fits.handled; flushes = fits.flushes }

  over_told : (act : Act) (sync : Bool) (fault : Fault) → (over act sync fault).device ≡ told
  over_told CloseLog sync fault = refl
  over_told MakeLog sync fault = refl
  over_told (SyncDirectory log) sync fault = refl
  over_told AddRecords sync fault = refl
  over_told SyncLog sync fault = refl

  refused : (act : Act) (sync : Bool) (fault : Fault) → IsPlanned act switches sync → Calls view.device (change_of act (before act sync)) (Err (error.Fault fault)) told
      → MakesCall (before act sync) (step.Failed (failure_of fault)) (over act sync fault)
  refused act sync fault planned calls = by_story (before act sync) (over act sync fault) (step.Failed (failure_of fault)) (λ beyond held fits none.
      let same = over_told act sync fault in (
        record {
          group = group_of (flight act sync);
          act = act_of act;
          later = later_than act sync;
          fault = fault;
          made = subst (λ (d : Seen). MadeCall (state_before act sync beyond) held (group_of (flight act sync)) (act_of act) (later_than act sync) (Some fault) d) (sym same)
              (made_call act sync planned beyond held fits none (Some fault) calls);
          failure_is = refl;
        },
        record {
          beyond = beyond_over act fault beyond;
          state_is =
              ap (λ (l : List states.Act). states.with_device (over act sync fault).device (first_failed (group_of (flight act sync)) l (failure_of fault) (state_before act sync beyond))) (left_is act switches sync planned)
              ∙ over_is act sync fault beyond;
          fits = over_fits act sync fault beyond fits;
        },
      ))

-- ---- the same of what the code knows

-- the group in flight with that act before it, in a store that takes writes
pub record IsInFlight (old : CoreView) (act : Act) : Type 0 where
  pub cleared : old.boot ≡ Cleared
  pub on_plan : IsOnPlan old.group
  pub next : next_flying old.group ≡ Some act
  pub some : HaveOps old.trail.limbo × HaveOps (ops_of (batches_flying old.group))

known_group : (old : CoreView) (group : Option FlightShown) (act : Act) (P : CoreView → Type 0) → IsOnPlan group → next_flying group ≡ Some act
    → ((flight : FlightShown) → IsPlanned act flight.switches flight.sync
    → P (record old { boot = Cleared; group = Some (record { tickets = flight.tickets; batches = flight.batches; switches = flight.switches; sync = flight.sync; next = act }) }))
    → P (record old { boot = Cleared; group = group })
known_group old None act P planned next shown = absurd (cc next)
known_group old (Some flight) act P planned next shown =
    let is : flight.next ≡ act = cc next in
    subst (λ (a : Act). P (record old { boot = Cleared; group = Some (record { tickets = flight.tickets; batches = flight.batches; switches = flight.switches; sync = flight.sync; next = a }) }))
    (sym is) (shown flight (subst (λ (a : Act). IsPlanned a flight.switches flight.sync) is planned))

known : (old : CoreView) (act : Act) (P : CoreView → Type 0) → IsInFlight old act
    → ((flight : FlightShown) → IsPlanned act flight.switches flight.sync
    → P (record old { boot = Cleared; group = Some (record { tickets = flight.tickets; batches = flight.batches; switches = flight.switches; sync = flight.sync; next = act }) }))
    → P old
known old act P flies shown =
    subst (λ b. P (record old { boot = b })) (sym flies.cleared) (known_group old old.group act P flies.on_plan flies.next shown)

-- behind a call that was answered Ok
pub done_goes : (old now : CoreView) (act : Act) → IsInFlight old act → IsMade act old now → MakesCall old (done_step act now) (done act now)
done_goes old now act flies made =
    subst (λ (v : CoreView). MakesCall old (done_step act v) (done act v)) (sym made.view_is)
    (known old act
    (λ (v : CoreView). HaveOps v.trail.limbo × HaveOps (ops_of (batches_flying v.group)) → Calls v.device (change_of act v) (Ok tt) now.device
    → MakesCall v (done_step act (record v { device = now.device; log = log_behind act v })) (done act (record v { device = now.device; log = log_behind act v })))
    flies (λ flight planned. went old now.device flight.tickets flight.batches flight.switches act flight.sync planned) flies.some made.calls)

-- behind a call that failed
pub failed_goes : (old now : CoreView) (act : Act) (fault : Fault) → IsInFlight old act → IsRefused act fault old now
    → MakesCall old (step.Failed (failure_of fault)) (stopped fault (tried act now))
failed_goes old now act fault flies made =
    subst (λ (v : CoreView). MakesCall old (step.Failed (failure_of fault)) (stopped fault (tried act v))) (sym made.view_is)
    (known old act
    (λ (v : CoreView). Calls v.device (change_of act v) (Err (error.Fault fault)) now.device
    → MakesCall v (step.Failed (failure_of fault)) (stopped fault (tried act (record v { device = now.device }))))
    flies (λ flight planned. refused old now.device flight.tickets flight.batches flight.switches act flight.sync fault planned) made.calls)

-- behind a switch
pub switch_goes : (old : CoreView) (device : Seen) (log : ℕ) (immutable : List FullSegment) (rows : List Row) (waiting : List Ticketed) (group : Option FlightShown) (outcomes : List (ℕ × Outcome)) (last_ticket job : ℕ) (made : WriteStep)
    → IsInFlight old (SyncDirectory log) → Calls old.device change.SyncDir (Ok tt) device
    → immutable ≡ old.immutable ++ (record { rows = old.rows; logs = machine_after.numbers_of old.log }) ∷ [] → rows ≡ []
    → waiting ≡ old.waiting → group ≡ gone_to AddRecords old.group → outcomes ≡ old.outcomes → last_ticket ≡ old.last_ticket → job ≡ old.job → made ≡ step.Moved old.job call.SyncDir
    → MakesCall old made (record old { device = device; immutable = immutable; rows = rows; log = Some (states.new_log log); waiting = waiting; group = group; outcomes = outcomes; last_ticket = last_ticket; job = job })
switch_goes old device log immutable rows waiting group outcomes last_ticket job made flies calls i r w g o t j m =
    subst (MakesCall old made) (sym (λ k. record old {
      device = device;
      immutable = i k;
      rows = r k;
      log = Some (states.new_log log);
      waiting = w k;
      group = g k;
      outcomes = o k;
      last_ticket = t k;
      job = j k;
    }))
    (subst (λ (answer : WriteStep). MakesCall old answer (done (SyncDirectory log) (record old { device = device }))) (sym m)
    (done_goes old (record old { device = device }) (SyncDirectory log) flies (record { calls = calls; view_is = refl })))
