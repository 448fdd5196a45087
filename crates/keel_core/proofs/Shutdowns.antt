-- Closing a store is a turn of the machine.
use Rattle.std.proofs.Common.{◌≡◌, ℕ, ◌+◌, ◌≤◌, ◌<◌, ◌^◌, ◌&&◌, not, nat_le, Bool, true, false, List, [], ◌∷◌, ◌++◌, length, map, Option, Some, None, refl, sym, ap, ◌∙◌, arith, append_assoc, if◌then◌else◌}
use Rattle.std.proofs.lemmas.Bool.{leb-false}
use Rattle.std.proofs.lemmas.List.{length-append, length-map, map-append}
use Rattle.keel_group.specs.Queue.{Ticketed, tickets_of}
use Rattle.keel_machine.specs.declared.answers.Outcome.{Outcome}
use Rattle.keel_machine.specs.declared.answers.Outcome.TheVariants as outcome
use Rattle.keel_machine.specs.Closing as machine
use Rattle.keel_machine.specs.Closing.{number_behind}
use Rattle.keel_machine.specs.States.{with_device}
use Rattle.keel_machine.specs.Turns.{ShuttingDown}
use Rattle.keel_core.specs.Flights.{FlightShown, tickets_flying}
use Rattle.keel_core.specs.Queues.{given}
use Rattle.keel_core.specs.Shutdown.{open_in, shut}
use Rattle.keel_core.specs.Views.{Beyond, CoreView, Fits, TakesTurn, state_of}
use Rattle.keel_core.proofs.Admitting.{same_tickets, turns_by_story}
use Rattle.keel_core.proofs.StartTests.{resumes_same}

-- the number of a slot stays within its end
pub number_kept : (runs : Bool) (number behind : ℕ) → number ≤ 2 ^ 56 → behind ≡ number_behind runs number → behind ≤ 2 ^ 56
number_kept false number behind most is = omega (arith, is, most)
number_kept true number behind most is =
    elim (nat_le (2 ^ 56) number) as (λ b. nat_le (2 ^ 56) number ≡ b → behind ≡ (if not b then number + 1 else number) → behind ≤ 2 ^ 56) [
      | true ↦ λ end e. omega (arith, e, most)
      | false ↦ λ less e. omega (arith, e, leb-false (2 ^ 56) number less)
    ] refl is

-- the outcomes of both lists of tickets
abbrev closed_each : List ℕ → List ℕ → List (ℕ × Outcome)
closed_each flying waiting = map (λ (ticket : ℕ). (ticket, outcome.Closed)) (flying ++ waiting)

each_closed : (outcomes : List (ℕ × Outcome)) (flying waiting : List ℕ) → outcomes ++ closed_each flying waiting ≡ (outcomes ++ given outcome.Closed flying) ++ given outcome.Closed waiting
each_closed outcomes flying waiting =
    ap (λ (l : List (ℕ × Outcome)). outcomes ++ l) (map-append (λ (ticket : ℕ). (ticket, outcome.Closed)) flying waiting)
    ∙ sym (append_assoc outcomes (given outcome.Closed flying) (given outcome.Closed waiting))

shut_is : (view : CoreView) (group : Option FlightShown) (beyond : Beyond)
    → with_device view.device (machine.close_after (state_of (record view { group = group }) beyond)) ≡ state_of (shut (record view { group = group })) beyond
shut_is view None beyond = λ i. record (state_of (shut (record view { group = None })) beyond) {
  writing = record { waiting = []; outcomes = each_closed view.outcomes [] (tickets_of view.waiting) i; last_ticket = view.last_ticket };
  jobs = record (state_of (shut (record view { group = None })) beyond).jobs {
    resume = record { number = number_behind (resumes_same view.boot i) view.boot_job; running = None };
  };
}
shut_is view (Some flight) beyond = λ i. record (state_of (shut (record view { group = Some flight })) beyond) {
  writing = record { waiting = []; outcomes = each_closed view.outcomes (tickets_flying (Some flight)) (tickets_of view.waiting) i; last_ticket = view.last_ticket };
  jobs = record (state_of (shut (record view { group = Some flight })) beyond).jobs {
    resume = record { number = number_behind (resumes_same view.boot i) view.boot_job; running = None };
  };
}

counted : (view : CoreView) (beyond : Beyond) → open_in view ≡ length (machine.open_tickets (state_of view beyond))
counted view beyond =
    sym (length-append (tickets_flying view.group) (tickets_of view.waiting) ∙ ap (λ n. length (tickets_flying view.group) + n) (length-map view.waiting (λ (member : Ticketed). member.ticket)))
    ∙ ap (λ (l : List ℕ). length (l ++ tickets_of view.waiting)) (sym (same_tickets view.group))

pub shuts_goes : (view : CoreView) → TakesTurn view (ShuttingDown (open_in view)) (shut view)
shuts_goes view = turns_by_story view (shut view) (ShuttingDown (open_in view)) (λ beyond fits. (
  (counted view beyond, refl),
  record {
    beyond = beyond;
    state_is = shut_is view view.group beyond;
    fits = record { story = fits.story; segments = fits.segments; tables = fits.tables; opened = fits.opened; leads = tt; handled = fits.handled; flushes = refl };
  },
))
