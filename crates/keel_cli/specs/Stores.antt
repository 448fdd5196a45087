-- What the program's store shows, and which states of the machine it stands for.
use Rattle.std.specs.Prelude.{◌≡◌, ℕ, Bool, true, false, List}
use Rattle.std.specs.List.{AllByRecursion}
use Rattle.keel_disk.specs.Seen.{Seen}
use Rattle.keel_machine.specs.States.{State}
use Rattle.keel_machine.specs.declared.answers.Outcome.{Outcome}
use Rattle.keel_machine.specs.declared.answers.Outcome.TheVariants as outcome
use Rattle.keel_core.specs.Views.{CoreView, StandsFor}
use Rattle.keel_machine.specs.States.{is_open}
use Rattle.keel_cli.specs.declared.holding.HeldJobs.{HeldJobs}
use Rattle.keel_cli.specs.Jobs.{Driven, no_jobs}
use Rattle.keel_cli.specs.declared.store.Held.{Held}
use Rattle.keel_cli.specs.declared.store.Held.TheVariants as held

-- A store is closed, on a device alone, or open; a call that moves the device has it for a moment.
pub data StoreView : Type 0 where
  Closed : Seen → StoreView
  Open : CoreView → HeldJobs → StoreView
  Lent : StoreView

abbrev pub view_of : {V : Type 0} → (V → Seen) → Held V → StoreView
view_of shown (held.Closed device) = Closed (shown device)
view_of shown (held.Open core jobs) = Open core jobs
view_of shown held.Lent = Lent

-- no store is open, no job number is held, and the device shows this
pub record IsShut (shows : Seen) (s : Driven) : Type 0 where
  pub shut : is_open s.state.mode.phase ≡ false
  pub device : s.state.device ≡ shows
  pub jobs : s.jobs ≡ no_jobs

-- the store stands for this state, with the job numbers that are held
abbrev pub Stands : StoreView → Driven → Type 0
Stands (Closed shows) s = IsShut shows s
Stands (Open core jobs) s = StandsFor core s.state × (s.jobs ≡ jobs)
Stands Lent s = ⊥

abbrev pub is_one_open : StoreView → Bool
is_one_open (Closed shows) = false
is_one_open (Open core jobs) = true
is_one_open Lent = false

-- its device shows this
abbrev pub Shows : StoreView → Seen → Type 0
Shows (Closed shows) seen = shows ≡ seen
Shows (Open core jobs) seen = core.device ≡ seen
Shows Lent seen = ⊥

-- no outcome that the store keeps is Waiting or Unknown, or was given by closing it
abbrev pub IsTold : Outcome → Type 0
IsTold outcome.Waiting = ⊥
IsTold outcome.Unknown = ⊥
IsTold outcome.Closed = ⊥
IsTold _ = Unit {0}

abbrev pub AreTold : List (ℕ × Outcome) → Type 0
AreTold outcomes = AllByRecursion (λ (entry : ℕ × Outcome). IsTold entry.1) outcomes

-- the core stands for some state, and its outcomes are so
abbrev pub StandsForSome : CoreView → Type 0
StandsForSome core = ∥ ((s : State) × StandsFor core s × AreTold core.outcomes) ∥₁

-- a store between two calls
abbrev pub IsTidy : StoreView → Type 0
IsTidy (Closed shows) = Unit {0}
IsTidy (Open core jobs) = StandsForSome core
IsTidy Lent = ⊥

-- the core stands for a state of which this holds
abbrev pub CoreLeads : CoreView → (State → Type 0) → Type 0
CoreLeads core P = (s : State) × StandsFor core s × P s

-- the store stands for a state of which this holds
abbrev pub Leads : StoreView → (Driven → Type 0) → Type 0
Leads store P = (s : Driven) × Stands store s × P s

-- its device is that of a state of which this holds
abbrev pub Leaves : StoreView → (Driven → Type 0) → Type 0
Leaves store P = (s : Driven) × Shows store s.state.device × P s
