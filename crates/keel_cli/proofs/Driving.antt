-- Commands on the driver's own values, and on its store.
use Rattle.std.specs.Prelude.{min}
use Rattle.std.proofs.Common.{◌≡◌, ℕ, ◌+◌, true, false, List, [], ◌∷◌, Result, Ok, Err, refl, sym, ap, subst, ◌∙◌, inl, inr}
use Rattle.keel_base.specs.declared.memory.OutOfMemory.{OutOfMemory}
use Rattle.keel_base.specs.declared.options.Options.{Options}
use Rattle.keel_base.specs.declared.option_name.OptionName.{OptionName}
use Rattle.keel_base.specs.declared.option_name.Range.{Range}
use Rattle.keel_base.specs.Options.{range_of, IsWithin, SetsOne}
use Rattle.keel_machine.specs.States.{is_open}
use Rattle.keel_script.specs.declared.command.Command.{Command}
use Rattle.keel_script.specs.declared.command.Command.TheVariants.{SetOption, Tick}
use Rattle.keel_script.specs.declared.reply.Reply.{Reply}
use Rattle.keel_script.specs.declared.reply.Reply.TheVariants as reply
use Rattle.keel_cli.specs.declared.answer.Answer.{Answer}
use Rattle.keel_cli.specs.declared.driver.Driver.{Driver}
use Rattle.keel_cli.specs.Cuts.{CarriedOut}
use Rattle.keel_cli.specs.Driving.{StandsAt, DriverLeads, Drives}
use Rattle.keel_cli.specs.Stores.{StoreView, is_one_open}
use Rattle.keel_cli.specs.Replies.{replies_of}
use Rattle.keel_cli.specs.Runs.{last_tick, SetRun, StoreRun, IsOnStore, Carries}
use Rattle.keel_cli.specs.Sessions.{Session, driven_in, with_store}
use Rattle.keel_cli.proofs.Carrying.{open_as}

module _ (V : Type 0) where
  abbrev with_values : StoreView → Options → ℕ → Driver V
  with_values store settings tick = record { store = store; settings = settings; tick = tick }

  -- ---- the tick

  pub passed : (store : StoreView) (settings : Options) (tick ticks later : ℕ) (session : Session) → StandsAt (with_values store settings tick) session
      → later ≡ min (tick + ticks) last_tick → DriverLeads (with_values store settings later) (Carries session (Tick ticks) (reply.Now later ∷ []))
  passed store settings tick ticks later session stands is =
      let now = min (session.tick + ticks) last_tick in
      let same : now ≡ later = ap (λ n. min (n + ticks) last_tick) stands.tick ∙ sym is in (
        record session { tick = now },
        record { store = stands.store; options = stands.options; tick = same },
        record { passes = refl; prints = ap (λ n. reply.Now n ∷ []) (sym same) },
      )

  -- ---- options

  pub kept_open : (driver : Driver V) (name : OptionName) (value : ℕ) (session : Session) → StandsAt driver session → true ≡ is_one_open driver.store
      → DriverLeads driver (Carries session (SetOption name value) (reply.IsOpen ∷ []))
  kept_open driver name value session stands is =
      let opened : true ≡ is_open session.store.mode.phase = is ∙ sym (open_as driver.store (driven_in session) stands.store) in
      (session, stands, subst (λ b. SetRun b session name value (reply.IsOpen ∷ []) session) opened (record { same = refl; prints = refl }))

  pub set_to : (store : StoreView) (old new : Options) (tick value : ℕ) (name : OptionName) (session : Session) → StandsAt (with_values store old tick) session
      → false ≡ is_one_open store → IsWithin name value → SetsOne name value old new
      → DriverLeads (with_values store new tick) (Carries session (SetOption name value) (reply.OptionSet name value ∷ []))
  set_to store old new tick value name session stands is within sets =
      let shut : false ≡ is_open session.store.mode.phase = is ∙ sym (open_as store (driven_in session) stands.store) in
      let next : Session = record session { options = new } in
      let sets_one : SetsOne name value session.options new = subst (λ (o : Options). SetsOne name value o new) (sym stands.options) sets in (
        next,
        record { store = stands.store; options = refl; tick = stands.tick },
        subst (λ b. SetRun b session name value (reply.OptionSet name value ∷ []) next) shut
            (inl (record { within = within; sets = sets_one; rest = refl; prints = refl })),
      )

  pub out_of_range : (store : StoreView) (old new : Options) (tick value : ℕ) (name : OptionName) (range : Range) (session : Session) → StandsAt (with_values store old tick) session
      → false ≡ is_one_open store → ¬ IsWithin name value → new ≡ old → range ≡ range_of name
      → DriverLeads (with_values store new tick) (Carries session (SetOption name value) (reply.BadOption name range.least range.greatest ∷ []))
  out_of_range store old new tick value name range session stands is out same range_is =
      let shut : false ≡ is_open session.store.mode.phase = is ∙ sym (open_as store (driven_in session) stands.store) in (
        session,
        record { store = stands.store; options = stands.options ∙ sym same; tick = stands.tick },
        subst (λ b. SetRun b session name value (reply.BadOption name range.least range.greatest ∷ []) session) shut
            (inr (record { out = out; rests = record { same = refl; prints = ap (λ (r : Range). reply.BadOption name r.least r.greatest ∷ []) range_is } })),
      )

  -- ---- the store

  on_store : (command : Command) (old new : Session) (replies : List Reply) → IsOnStore command → StoreRun old command replies new → Carries old command replies new
  on_store (SetOption name value) old new replies is run = absurd is
  on_store (Tick ticks) old new replies is run = absurd is
  on_store command old new replies is run = run

  pub drives : (old : Driver V) (store : StoreView) (answer : Result Answer OutOfMemory) (command : Command) (session : Session) → StandsAt old session → IsOnStore command
      → CarriedOut session.options (driven_in session) command store answer → Drives session command (with_values store old.settings old.tick) answer
  drives old store (Ok answer) command session stands is run =
      let next = with_store run.0 session in
      (next, record { store = run.1; options = stands.options; tick = stands.tick }, on_store command session next (replies_of answer) is (record { carries = run.2; rest = refl }))
  drives old store (Err e) command session stands is run = (with_store run.0 session, run.1, inl (record { cut = run.2; rest = refl }))
