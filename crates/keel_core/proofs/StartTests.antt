-- A call that asks for a resume is the machine's.
use Rattle.std.proofs.Common.{◌≡◌, ℕ, ◌+◌, ◌<◌, ◌≤◌, ◌^◌, ◌==◌, ◌&&◌, ◌||◌, not, nat_le, Bool, true, false, [], ◌∷◌, Option, Some, None, refl, sym, ap, ◌∙◌, unwrap_or, arith, List}
use Rattle.std.proofs.lemmas.Bool.{leb-false}
use Rattle.std.specs.Prelude.{is_some}
use Rattle.keel_base.specs.declared.failure.Counter.TheVariants.{JobNumber}
use Rattle.keel_base.specs.declared.failure.Failure.{Failure}
use Rattle.keel_handler.specs.Failures.{severity, standing_severity}
use Rattle.keel_handler.specs.Recovery.{stops_work}
use Rattle.keel_machine.specs.declared.answers.Start.{Start}
use Rattle.keel_machine.specs.declared.answers.Start.TheVariants as start
use Rattle.keel_machine.specs.Starting as machine
use Rattle.keel_machine.specs.Starting.{beyond, start_test}
use Rattle.keel_machine.specs.States.{Phase, is_closing, with_device}
use Rattle.keel_machine.specs.Tests.{first_some, when}
use Rattle.keel_machine.specs.Turns.{Starting}
use Rattle.keel_core.specs.Flights.{FlightShown, running_of}
use Rattle.keel_core.specs.Starting.{MayStart, answered, forgotten, is_number_spent, is_resuming, is_slot_spent, number_behind, start_test_of, started}
use Rattle.keel_core.specs.Views.{Beyond, BootShown, ToStart, Started, Running, Cleared, Closed, CoreView, Fits, TakesTurn, is_closed, is_started, phase_of, resumption_of, state_of}
use Rattle.keel_core.proofs.Admitting.{turns_by_story, phase_open}
use Rattle.keel_core.proofs.Failing.{handler_cleared}
use Rattle.keel_core.proofs.FlushRests.{stopped_by}

-- ---- the tests are the machine's

some_group : (group : Option FlightShown) → is_some (running_of group) ≡ is_some group
some_group None = refl
some_group (Some flight) = refl

pub resumes_same : (boot : BootShown) → (is_started boot || is_some (resumption_of boot)) ≡ is_resuming boot
resumes_same ToStart = refl
resumes_same (Started booted) = refl
resumes_same (Running booted running) = refl
resumes_same Cleared = refl
resumes_same (Closed booted) = refl

closes_same : (boot : BootShown) → is_closing (phase_of boot) ≡ is_closed boot
closes_same ToStart = refl
closes_same (Started true) = refl
closes_same (Started false) = refl
closes_same (Running true running) = refl
closes_same (Running false running) = refl
closes_same Cleared = refl
closes_same (Closed booted) = refl

-- the tests, by what they go by
abbrev tests_by : CoreView → Bool → Bool → Bool → Bool → Option Failure → Bool → Option Start
tests_by view closes stopped resumes paranoid standing flies = first_some (
    when closes start.Closing
    ∷ when (not stopped) start.Nothing
    ∷ when resumes (start.Busy view.boot_job)
    ∷ beyond (standing_severity paranoid standing) standing
    ∷ when (standing_severity paranoid standing == 1) start.Cleared
    ∷ when (nat_le (2 ^ 56) view.boot_job || ((flies && nat_le (2 ^ 56) view.job) || (is_some view.flush && nat_le (2 ^ 56) view.flush_job))) (start.Spent JobNumber)
    ∷ [])

pub start_test_same : (view : CoreView) (beyond : Beyond) → Fits view beyond → start_test (state_of view beyond) ≡ start_test_of view
start_test_same view beyond fits = λ i. tests_by view (closes_same view.boot i)
    (stopped_by view.options beyond.failures view.handler fits.handled i) (resumes_same view.boot i) (sym fits.handled.paranoid i) (sym fits.handled.standing i) (some_group view.group i)

answer_is : (view : CoreView) (beyond : Beyond) (test : Option Start) → Fits view beyond → start_test_of view ≡ test
    → machine.start_answer (state_of view beyond) ≡ unwrap_or test (start.Started (view.boot_job + 1))
answer_is view beyond test fits is = ap (λ (t : Option Start). unwrap_or t (start.Started (view.boot_job + 1))) (start_test_same view beyond fits ∙ is)

-- ---- the answers

-- all but two leave everything as it was
abbrev pub IsQuietStart : Start → Type 0
IsQuietStart start.Cleared = ⊥
IsQuietStart (start.Started job) = ⊥
IsQuietStart _ = Unit {0}

after_same : (view : CoreView) (beyond : Beyond) (answer : Start) → IsQuietStart answer → with_device view.device (machine.start_after (state_of view beyond) answer) ≡ state_of view beyond
after_same view beyond start.Closing quiet = refl
after_same view beyond start.Nothing quiet = refl
after_same view beyond (start.Busy job) quiet = refl
after_same view beyond (start.Beyond failure) quiet = refl
after_same view beyond (start.Spent counter) quiet = refl
after_same view beyond start.Cleared quiet = absurd quiet
after_same view beyond (start.Started job) quiet = absurd quiet

pub rests_goes : (view : CoreView) (answer : Start) → IsQuietStart answer → start_test_of view ≡ Some answer → TakesTurn view (Starting answer) view
rests_goes view answer quiet is = turns_by_story view view (Starting answer) (λ beyond fits. (
  (sym (answer_is view beyond (Some answer) fits is), refl),
  record { beyond = beyond; state_is = after_same view beyond answer quiet; fits = fits },
))

pub clears_goes : (view : CoreView) → start_test_of view ≡ Some start.Cleared → TakesTurn view (Starting start.Cleared) (forgotten view)
clears_goes view is = turns_by_story view (forgotten view) (Starting start.Cleared) (λ beyond fits. (
  (sym (answer_is view beyond (Some start.Cleared) fits is), refl),
  record {
    beyond = record beyond { failures = [] };
    state_is = refl;
    fits = record { story = fits.story; segments = fits.segments; tables = fits.tables; opened = fits.opened; leads = fits.leads; handled = handler_cleared view.options beyond.failures view.handler fits.handled; flushes = fits.flushes };
  },
))

started_is : (view : CoreView) (group : Option FlightShown) (failure : Failure) (beyond : Beyond) → is_closed view.boot ≡ false
    → with_device view.device (machine.job_started (machine.group_turned (Some failure) (state_of (record view { group = group }) beyond))) ≡ state_of (started failure (record view { group = group })) beyond
started_is view None failure beyond stays =
    let next = state_of (started failure (record view { group = None })) beyond in
    ap (λ (phase : Phase). record next { mode = record { phase = phase; left = beyond.left } }) (phase_open view.boot stays)
started_is view (Some flight) failure beyond stays =
    let next = state_of (started failure (record view { group = Some flight })) beyond in
    ap (λ (phase : Phase). record next { mode = record { phase = phase; left = beyond.left } }) (phase_open view.boot stays)

-- the store wasn't closed
not_closed : (closes : Bool) (rest : List (Option Start)) → first_some (when closes start.Closing ∷ rest) ≡ None → closes ≡ false
not_closed true rest none = absurd (cc none)
not_closed false rest none = refl

pub starts_goes : (view : CoreView) (failure : Failure) → start_test_of view ≡ None → view.handler.standing ≡ Some failure
    → TakesTurn view (Starting (start.Started (view.boot_job + 1))) (started failure view)
starts_goes view failure none stands = turns_by_story view (started failure view) (Starting (start.Started (view.boot_job + 1))) (λ beyond fits. (
  (sym (answer_is view beyond None fits none), refl),
  record {
    beyond = beyond;
    state_is =
        ap (λ (f : Option Failure). with_device view.device (machine.job_started (machine.group_turned f (state_of view beyond)))) (sym fits.handled.standing ∙ stands)
        ∙ started_is view view.group failure beyond (not_closed (is_closed view.boot) _ none);
    fits = record { story = fits.story; segments = fits.segments; tables = fits.tables; opened = fits.opened; leads = tt; handled = fits.handled; flushes = refl };
  },
))

-- ---- the numbers that are drawn

last_test : (z a b c d : Option Start) (spent : Bool) → first_some (z ∷ a ∷ b ∷ c ∷ d ∷ when spent (start.Spent JobNumber) ∷ []) ≡ None → spent ≡ false
last_test (Some z) a b c d spent none = absurd (cc none)
last_test None (Some a) b c d spent none = absurd (cc none)
last_test None None (Some b) c d spent none = absurd (cc none)
last_test None None None (Some c) d spent none = absurd (cc none)
last_test None None None None (Some d) spent none = absurd (cc none)
last_test None None None None None true none = absurd (cc none)
last_test None None None None None false none = refl

none_spent : (a b c : Bool) → (a || (b || c)) ≡ false → (a ≡ false) × (b ≡ false) × (c ≡ false)
none_spent true b c is = absurd (cc is)
none_spent false true c is = absurd (cc is)
none_spent false false true is = absurd (cc is)
none_spent false false false is = (refl, refl, refl)

slot_left : (runs : Bool) (number : ℕ) → (runs && nat_le (2 ^ 56) number) ≡ false → runs ≡ true → number < 2 ^ 56
slot_left true number left is = leb-false (2 ^ 56) number left
slot_left false number left is = absurd (cc is)

-- a number that a start draws is within the end
pub number_within : (runs : Bool) (number behind : ℕ) → number ≤ 2 ^ 56 → (runs ≡ true → number < 2 ^ 56) → behind ≡ number_behind runs number → behind ≤ 2 ^ 56
number_within true number behind most below is = omega (arith, is, below refl)
number_within false number behind most below is = omega (arith, is, most)

pub may_start : (view : CoreView) → start_test_of view ≡ None → MayStart view
may_start view none =
    let spent = last_test (when (is_closed view.boot) start.Closing) (when (not (stops_work view.handler)) start.Nothing) (when (is_resuming view.boot) (start.Busy view.boot_job))
    (beyond (standing_severity view.handler.paranoid view.handler.standing) view.handler.standing)
    (when (standing_severity view.handler.paranoid view.handler.standing == 1) start.Cleared) (is_number_spent view) none in
    let each = none_spent (nat_le (2 ^ 56) view.boot_job) (is_slot_spent (is_some view.group) view.job) (is_slot_spent (is_some view.flush) view.flush_job) spent in
    record {
      resume = leb-false (2 ^ 56) view.boot_job each.0;
      write = slot_left (is_some view.group) view.job each.1;
      flush = slot_left (is_some view.flush) view.flush_job each.2;
    }

-- ---- as the code finds them

last_two : (soft spent : Bool) (number : ℕ) → first_some (None ∷ None ∷ None ∷ when soft start.Cleared ∷ when spent (start.Spent JobNumber) ∷ []) ≡ Some (start.Started number) → ⊥
last_two true spent number is = cc is
last_two false true number is = cc is
last_two false false number is = cc is

beyond_only : (severity : ℕ) (standing : Option Failure) (number : ℕ) → beyond severity standing ≡ Some (start.Started number) → ⊥
beyond_only severity None number is = cc is
beyond_only severity (Some failure) number is =
    elim (nat_le 3 severity) as (λ b. when b (start.Beyond failure) ≡ Some (start.Started number) → ⊥) [ true ↦ λ e. cc e | false ↦ λ e. cc e ] is

no_start : (closes stopped resumes : Bool) (job severity : ℕ) (standing : Option Failure) (spent : Bool) (number : ℕ)
    → first_some (when closes start.Closing ∷ when (not stopped) start.Nothing ∷ when resumes (start.Busy job) ∷ beyond severity standing ∷ when (severity == 1) start.Cleared ∷ when spent (start.Spent JobNumber) ∷ []) ≡ Some (start.Started number) → ⊥
no_start true stopped resumes job severity standing spent number is = cc is
no_start false false resumes job severity standing spent number is = cc is
no_start false true true job severity standing spent number is = cc is
no_start false true false job severity standing spent number is =
    elim (beyond severity standing) as (λ t. beyond severity standing ≡ t → first_some (None ∷ None ∷ t ∷ when (severity == 1) start.Cleared ∷ when spent (start.Spent JobNumber) ∷ []) ≡ Some (start.Started number) → ⊥) [
      | None ↦ λ none. last_two (severity == 1) spent number
      | Some answer ↦ λ some e. beyond_only severity standing number (some ∙ e)
    ] refl is

pub answers_goes : (view : CoreView) (answer : Start) → start_test_of view ≡ Some answer → TakesTurn view (Starting answer) (answered answer view)
answers_goes view start.Cleared is = clears_goes view is
answers_goes view start.Closing is = rests_goes view start.Closing tt is
answers_goes view start.Nothing is = rests_goes view start.Nothing tt is
answers_goes view (start.Busy job) is = rests_goes view (start.Busy job) tt is
answers_goes view (start.Beyond failure) is = rests_goes view (start.Beyond failure) tt is
answers_goes view (start.Spent counter) is = rests_goes view (start.Spent counter) tt is
answers_goes view (start.Started number) is =
    absurd (no_start (is_closed view.boot) (stops_work view.handler) (is_resuming view.boot) view.boot_job (standing_severity view.handler.paranoid view.handler.standing) view.handler.standing (is_number_spent view) number is)
