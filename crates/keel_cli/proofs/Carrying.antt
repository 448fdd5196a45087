-- Commands on the driver's store.
use Rattle.std.proofs.Common.{◌≡◌, ◌⊎◌, ℕ, Bool, true, false, Option, Some, None, List, [], ◌∷◌, Result, Ok, Err, refl, sym, ap, subst, ◌∙◌, inl, inr}
use Rattle.std.specs.Prelude.{IfOk, IsErr, OnErr}
use Rattle.keel_base.specs.declared.listing.Entry.{Entry}
use Rattle.keel_base.specs.declared.memory.OutOfMemory.{OutOfMemory}
use Rattle.keel_disk.specs.declared.error.DiskError.{DiskError}
use Rattle.keel_disk.specs.declared.error.DiskError.TheVariants as disk
use Rattle.keel_disk.specs.Counts.{disk_fault}
use Rattle.keel_disk.specs.Listings.{IsListing}
use Rattle.keel_disk.specs.declared.rule.Rule.{Rule}
use Rattle.keel_disk.specs.Told.{Arranges, Told, Crashes, TellsListing}
use Rattle.keel_base.specs.declared.failure.Failure.{Failure}
use Rattle.keel_machine.specs.declared.answers.LevelsView.{LevelsView}
use Rattle.keel_disk.specs.Seen.{Seen, IsQuiet, IsArranged}
use Rattle.keel_machine.specs.declared.answers.Got.{Got}
use Rattle.keel_machine.specs.declared.answers.Got.TheVariants as got
use Rattle.keel_machine.specs.declared.answers.Scanned.{Scanned}
use Rattle.keel_machine.specs.declared.answers.Scanned.TheVariants as scanned
use Rattle.keel_base.specs.declared.row.Row.{Row}
use Rattle.keel_machine.specs.Opening.{continues, goes_on_from}
use Rattle.keel_machine.specs.Reads.{BearsOut, IsBorne, WhereKnown}
use Rattle.keel_machine.specs.States.{State, Footing, Known, Unknown, Phase, Shut, Booting, Leaving, Nothing, Crashed, Left, is_left, with_device}
use Rattle.keel_machine.specs.States as machine
use Rattle.keel_disk.specs.declared.rule.Arranged.TheVariants as arranged
use Rattle.keel_disk.specs.declared.rule.Pick.{Pick}
use Rattle.keel_machine.specs.Turns.{Event, Answers, after, behind, Opening, Getting, Scanning, Listing, TellingError, TellingLevels, Arranging, Crashing, ShuttingDown, Finishing}
use Rattle.keel_machine.specs.Crash.{crash_after}
use Rattle.keel_base.specs.declared.options.Options.{Options}
use Rattle.keel_disk.specs.Sound.{IsOneToOne}
use Rattle.keel_open.specs.declared.refusal.OpenRefusal.{OpenRefusal}
use Rattle.keel_open.specs.declared.refusal.OpenRefusal.TheVariants as refusal
use Rattle.keel_table.specs.declared.fault.TableFault.{TableFault}
use Rattle.keel_table.specs.declared.fault.TableFault.TheVariants as fault
use Rattle.keel_core.specs.Openings.{Opens, Expects, IsBorneOut, WhereGoesOn}
use Rattle.keel_core.specs.Views as view_boot
use Rattle.keel_core.specs.Views.{ToStart, Started, Running, Cleared, CoreView, StandsFor, TakesTurn, TakesRead, BootShown, last_in, phase_if, phase_of}
use Rattle.keel_recovery.specs.Machine.{IsCovered, IsCoveredBy, KeptBy, Drops, ReadsOnIn}
use Rattle.keel_recovery.proofs.Bearing.{covered_bears}
use Rattle.keel_open.proofs.Joining.{sound_is_directory}
use Rattle.std.proofs.Math.Logic.{∥∥₁_map}
use Rattle.keel_machine.specs.States.{is_open}
use Rattle.keel_recovery.proofs.Crashing.{crash_turns}
use Rattle.keel_recovery.proofs.GoingOn.{covered_reads}
use Rattle.keel_script.specs.declared.command.Command.{Command}
use Rattle.keel_script.specs.declared.command.Command.TheVariants.{Open, Get, Scan, Resume, Error, Files, Levels, Fail, Capacity, Crash, Close}
use Rattle.keel_script.specs.declared.reply.Reply.{Reply}
use Rattle.keel_script.specs.declared.reply.Reply.TheVariants as reply
use Rattle.keel_cli.specs.declared.answer.Answer.{Answer}
use Rattle.keel_cli.specs.declared.answer.Answer.TheVariants as answers
use Rattle.keel_cli.specs.declared.holding.HeldJobs.{HeldJobs}
use Rattle.keel_cli.specs.Jobs.{Driven, driven, no_jobs, PlainTurn}
use Rattle.keel_cli.specs.Arranging.{arranged_replies, rule_of, ArrangeRun, ArrangeCut}
use Rattle.keel_cli.specs.Cuts.{StoreCutShort, CarriedOut}
use Rattle.keel_cli.specs.Stores.{StoreView, IsShut, Shows, Stands, is_one_open, Leads, Leaves, CoreLeads, AreTold, StandsForSome}
use Rattle.keel_cli.specs.Stores as view
use Rattle.keel_cli.specs.Replies.{replies_of}
use Rattle.keel_cli.specs.Runs.{fault_replies, opening_replies, listing_replies, reading_replies, rest_reply, row_replies, scan_replies, GetRun, ScanRun, CrashRun, Calls, RestsOrCalls, CarriesOnStore, CallsPartly}
use Rattle.keel_cli.specs.Starts.{StartRun}
use Rattle.keel_cli.specs.Telling.{error_reply, ErrorRun, level_replies}
use Rattle.keel_cli.proofs.Tickets.{stays_told, told_in, told_by}
use Rattle.keel_cli.specs.Closes.{CloseRun}

-- ---- commands that make no call, and those that make some

module _ (options : Options) where
  pub rests_on_store : (s : Driven) (command : Command) (reply_ : Reply) (is_one_open : Bool) → is_open s.state.mode.phase ≡ is_one_open → Some reply_ ≡ rest_reply is_one_open command
      → CarriesOnStore options s command (reply_ ∷ []) s
  rests_on_store s command reply_ is_one_open is rests =
      subst (λ (r : Option Reply). RestsOrCalls options r s command (reply_ ∷ []) s) (rests ∙ ap (λ (b : Bool). rest_reply b command) (sym is)) (record { same = refl; prints = refl })

  pub calls_on_store : (s new : Driven) (command : Command) (replies : List Reply) → rest_reply (is_open s.state.mode.phase) command ≡ None → Calls options s command replies new
      → CarriesOnStore options s command replies new
  calls_on_store s new command replies none run = subst (λ (r : Option Reply). RestsOrCalls options r s command replies new) (sym none) run

  pub partly_on_store : (s new : Driven) (command : Command) → rest_reply (is_open s.state.mode.phase) command ≡ None → CallsPartly options s command new → StoreCutShort options s command new
  partly_on_store s new command none cut = inr (inr (none, cut))

opened_if : (booted : Bool) → is_open (phase_if booted) ≡ true
opened_if true = refl
opened_if false = refl

opened_in : (boot : BootShown) → is_open (phase_of boot) ≡ true
opened_in ToStart = refl
opened_in (Started booted) = opened_if booted
opened_in (Running booted running) = opened_if booted
opened_in Cleared = refl
opened_in (view_boot.Closed booted) = refl

pub open_mode : (core : CoreView) (s : State) → StandsFor core s → is_open s.mode.phase ≡ true
open_mode core s stands = ap (λ (t : State). is_open t.mode.phase) stands.state_is ∙ opened_in core.boot

-- whether a store is open, as the machine has it
pub open_as : (store : StoreView) (s : Driven) → Stands store s → is_open s.state.mode.phase ≡ is_one_open store
open_as (view.Closed shows) s stands = stands.shut
open_as (view.Open core jobs) s stands = open_mode core s.state stands.0
open_as view.Lent s stands = absurd stands

pub open_device : (core : CoreView) (s : State) → StandsFor core s → core.device ≡ s.device
open_device core s stands = sym (ap (λ (t : State). t.device) stands.state_is)

-- a store shows the device of each state that it stands for, and of no other
pub shows_own : (store : StoreView) (s : Driven) → Stands store s → Shows store s.state.device
shows_own (view.Closed shows) s stands = sym stands.device
shows_own (view.Open core jobs) s stands = open_device core s.state stands.0
shows_own view.Lent s stands = stands

pub shows_one : (store : StoreView) (seen other : Seen) → Shows store seen → Shows store other → seen ≡ other
shows_one (view.Closed shows) seen other is is_other = sym is ∙ is_other
shows_one (view.Open core jobs) seen other is is_other = sym is ∙ is_other
shows_one view.Lent seen other is is_other = absurd is

pub shows_as : (store : StoreView) (s : Driven) (seen : Seen) → Stands store s → Shows store seen → seen ≡ s.state.device
shows_as store s seen stands is = shows_one store seen s.state.device is (shows_own store s stands)

-- a store that isn't open, on a device that shows this
pub shut_where : (store : StoreView) (s : Driven) (seen : Seen) → is_one_open store ≡ false → Stands store s → Shows store seen → IsShut seen s
shut_where (view.Closed shows) s seen is stands shown = record { shut = stands.shut; device = stands.device ∙ shown; jobs = stands.jobs }
shut_where (view.Open core jobs) s seen is stands shown = absurd cc
shut_where view.Lent s seen is stands shown = absurd stands

none_where : (s : Driven) (b : Bool) (command : Command) → is_open s.state.mode.phase ≡ b → rest_reply b command ≡ None → rest_reply (is_open s.state.mode.phase) command ≡ None
none_where s b command is none = ap (λ (c : Bool). rest_reply c command) is ∙ none

-- ---- reads

-- what a covered device that is known bears out, and of another nothing is asked
borne_by : (f : Footing) (s : State) → s.footing ≡ f → is_open s.mode.phase ≡ true → IsCovered s → IsBorne s
borne_by Known s is opened covered = subst (λ (f : Footing). WhereKnown f (BearsOut s)) (sym is) (covered_bears s is opened covered)
borne_by Unknown s is opened covered = subst (λ (f : Footing). WhereKnown f (BearsOut s)) (sym is) tt

pub covered_borne : (core : CoreView) (s : State) → StandsFor core s → IsCovered s → IsBorne s
covered_borne core s stands covered = borne_by s.footing s refl (open_mode core s stands) covered

-- nothing is known of the device any more
abbrev forgotten : State → State
forgotten s = record s { footing = Unknown }

forgotten_stands : (core : CoreView) (s : State) → StandsFor core s → StandsFor core (forgotten s)
forgotten_stands core s stands = record {
  beyond = record stands.beyond { footing = Unknown };
  state_is = ap forgotten stands.state_is;
  fits = record { story = stands.fits.story; segments = stands.fits.segments; tables = stands.fits.tables; opened = tt; leads = stands.fits.leads; handled = stands.fits.handled; flushes = stands.fits.flushes };
}

-- a read leaves a core that stands for some state
pub read_told : (old new : CoreView) (event : Event) → ((s : State) → behind s event ≡ s) → TakesRead old event new → StandsForSome old → StandsForSome new
read_told old new event same turns some =
    ∥∥₁_map some (λ (is : (s : State) × StandsFor old s × AreTold old.outcomes).
    let before = forgotten is.0 in
    let went = turns.goes before (forgotten_stands old is.0 is.1) tt in
    let next = after before event new.device in
    let told : AreTold is.0.writing.outcomes = told_by old is.0 is.1 is.2 in
    (next, went.1, told_in new next went.1 (subst (λ (t : State). AreTold t.writing.outcomes) (sym (same before)) told)))

no_err : {P : Type 0} (x : Answer) → IsErr (let r : Result Answer OutOfMemory = Ok x in r) → P
no_err x h = absurd cc

module _ (options : Options) (old new : CoreView) (s : Driven) (stands : StandsFor old s.state) (borne : IsBorne s.state) where
  pub read_run : (key : List ℕ) (answer : Got) (replies : List Reply) → TakesRead old (Getting key answer) new → reading_replies answer ≡ Some replies
      → Leads (view.Open new s.jobs) (CarriesOnStore options s (Get key) replies)
  read_run key answer replies turns prints =
      let gone = turns.goes s.state stands borne in
      let next = driven (after s.state (Getting key answer) new.device) s.jobs in
      let run : GetRun s key replies next = record { answer = answer; turn = record { turn = (gone.0, refl); jobs = refl }; prints = prints } in
      (next, (gone.1, refl), calls_on_store options s next (Get key) replies (none_where s true (Get key) (open_mode old s.state stands) refl) run)

  pub read_cut : (key : List ℕ) → TakesRead old (Getting key got.OutOfMemory) new → Leaves (view.Open new s.jobs) (StoreCutShort options s (Get key))
  read_cut key turns =
      let gone = turns.goes s.state stands borne in
      let next = driven (after s.state (Getting key got.OutOfMemory) new.device) s.jobs in
      (next, open_device new next.state gone.1, partly_on_store options s next (Get key) (none_where s true (Get key) (open_mode old s.state stands) refl) (record { turn = (gone.0, refl); jobs = refl }))

  -- no read is refused for want of memory by a table
  pub read_faulted : (key : List ℕ) (number : ℕ) (cause : TableFault) (r : Result Reply OutOfMemory) (a : Result Answer OutOfMemory)
      → TakesRead old (Getting key (got.ReadFault number cause)) new → IfOk r (λ x. fault_replies number cause ≡ Some (x ∷ [])) → (IsErr r → cause ≡ fault.OutOfMemory)
      → IfOk r (λ x. a ≡ Ok (answers.One x)) → (IsErr r → IsErr a) → CarriedOut options s (Get key) (view.Open new s.jobs) a
  read_faulted key number cause (Ok x) a turns printed cut ok err =
      subst (CarriedOut options s (Get key) (view.Open new s.jobs)) (sym ok) (read_run key (got.ReadFault number cause) (x ∷ []) turns printed)
  read_faulted key number cause (Err e) (Ok y) turns printed cut ok err = no_err y (err refl)
  read_faulted key number cause (Err e) (Err f) turns printed cut ok err =
      absurd ((subst (λ (c : TableFault). TakesRead old (Getting key (got.ReadFault number c)) new) (cut refl) turns).goes s.state stands borne).0

  -- ---- scans

  scan_of : (from to : List ℕ) (answer : Scanned) (replies : List Reply) → TakesRead old (Scanning from to answer) new → scan_replies answer ≡ Some replies
      → Leads (view.Open new s.jobs) (CarriesOnStore options s (Scan from to) replies)
  scan_of from to answer replies turns prints =
      let gone = turns.goes s.state stands borne in
      let next = driven (after s.state (Scanning from to answer) new.device) s.jobs in
      let run : ScanRun s from to replies next = record { answer = answer; turn = record { turn = (gone.0, refl); jobs = refl }; prints = prints } in
      (next, (gone.1, refl), calls_on_store options s next (Scan from to) replies (none_where s true (Scan from to) (open_mode old s.state stands) refl) run)

  pub scan_run : (from to : List ℕ) (rows : List Row) → TakesRead old (Scanning from to (scanned.Rows rows)) new
      → CarriedOut {E = OutOfMemory} options s (Scan from to) (view.Open new s.jobs) (Ok (answers.Rows rows))
  scan_run from to rows turns = scan_of from to (scanned.Rows rows) (row_replies rows) turns refl

  pub scan_cut : (from to : List ℕ) → TakesRead old (Scanning from to scanned.OutOfMemory) new → Leaves (view.Open new s.jobs) (StoreCutShort options s (Scan from to))
  scan_cut from to turns =
      let gone = turns.goes s.state stands borne in
      let next = driven (after s.state (Scanning from to scanned.OutOfMemory) new.device) s.jobs in
      (next, open_device new next.state gone.1, partly_on_store options s next (Scan from to) (none_where s true (Scan from to) (open_mode old s.state stands) refl) (record { turn = (gone.0, refl); jobs = refl }))

  pub scan_faulted : (from to : List ℕ) (number : ℕ) (cause : TableFault) (r : Result Reply OutOfMemory) (a : Result Answer OutOfMemory)
      → TakesRead old (Scanning from to (scanned.ReadFault number cause)) new → IfOk r (λ x. fault_replies number cause ≡ Some (x ∷ [])) → (IsErr r → cause ≡ fault.OutOfMemory)
      → IfOk r (λ x. a ≡ Ok (answers.One x)) → (IsErr r → IsErr a) → CarriedOut options s (Scan from to) (view.Open new s.jobs) a
  scan_faulted from to number cause (Ok x) a turns printed cut ok err =
      subst (CarriedOut options s (Scan from to) (view.Open new s.jobs)) (sym ok) (scan_of from to (scanned.ReadFault number cause) (x ∷ []) turns printed)
  scan_faulted from to number cause (Err e) (Ok y) turns printed cut ok err = no_err y (err refl)
  scan_faulted from to number cause (Err e) (Err f) turns printed cut ok err =
      absurd ((subst (λ (c : TableFault). TakesRead old (Scanning from to (scanned.ReadFault number c)) new) (cut refl) turns).goes s.state stands borne).0

-- ---- answers of one reply

module _ (options : Options) (s : Driven) (command : Command) where
  pub answered : (new : CoreView) (jobs : HeldJobs) (r : Result Reply OutOfMemory) (a : Result Answer OutOfMemory) → IfOk r (λ x. a ≡ Ok (answers.One x)) → (IsErr r → IsErr a)
      → IfOk r (λ x. CoreLeads new (λ next. CarriesOnStore options s command (x ∷ []) (driven next jobs)))
      → OnErr r (CoreLeads new (λ next. StoreCutShort options s command (driven next jobs)))
      → CarriedOut options s command (view.Open new jobs) a
  answered new jobs (Ok x) a ok err carried cut =
      subst (CarriedOut options s command (view.Open new jobs)) (sym ok) (driven carried.0 jobs, (carried.1, refl), carried.2)
  answered new jobs (Err e) (Ok y) ok err carried cut = no_err y (err refl)
  answered new jobs (Err e) (Err f) ok err carried cut = (driven cut.0 jobs, open_device new cut.0 cut.1, cut.2)

  -- a command that is answered without a call
  pub rested : (store : StoreView) (reply_ : Reply) → Some reply_ ≡ rest_reply (is_one_open store) command → Stands store s
      → CarriedOut {E = OutOfMemory} options s command store (Ok (answers.One reply_))
  rested store reply_ rests stands = (s, stands, rests_on_store options s command reply_ (is_one_open store) (open_as store s stands) rests)

  -- memory ended before the command made a call
  pub cut_before : (core : CoreView) (jobs : HeldJobs) (a : Result Answer OutOfMemory) → IsErr a → StandsFor core s.state → CarriedOut options s command (view.Open core jobs) a
  cut_before core jobs (Ok y) err stands = no_err y err
  cut_before core jobs (Err e) err stands = (s, open_device core s.state stands, inl refl)

-- the same of a step of a core
map_ok : {P Q : Reply → Type 0} (r : Result Reply OutOfMemory) → ((x : Reply) → P x → Q x) → IfOk r P → IfOk r Q
map_ok (Ok x) f h = f x h
map_ok (Err e) f h = tt

map_err : {P Q : Type 0} (r : Result Reply OutOfMemory) → (P → Q) → OnErr r P → OnErr r Q
map_err (Ok x) f h = tt
map_err (Err e) f h = f h

module _ (options : Options) (s : Driven) (command : Command) (old new : CoreView) (jobs : HeldJobs) (r : Result Reply OutOfMemory) (a : Result Answer OutOfMemory) where
  pub called : (run : List Reply → Driven → Type 0) (partly : Driven → Type 0) → StandsFor old s.state → rest_reply true command ≡ None
      → ((replies : List Reply) (next : Driven) → run replies next → Calls options s command replies next)
      → ((next : Driven) → partly next → (next ≡ s) ⊎ CallsPartly options s command next)
      → IfOk r (λ x. a ≡ Ok (answers.One x)) → (IsErr r → IsErr a)
      → IfOk r (λ x. CoreLeads new (λ next. run (x ∷ []) (driven next jobs))) → OnErr r (CoreLeads new (λ next. partly (driven next jobs)))
      → CarriedOut options s command (view.Open new jobs) a
  called run partly stands none calls cuts ok err carried cut =
      let at = none_where s true command (open_mode old s.state stands) none in
      let cut_short : (next : Driven) → (next ≡ s) ⊎ CallsPartly options s command next → StoreCutShort options s command next =
      λ next is. elim is [ inl same ↦ inl same | inr part ↦ partly_on_store options s next command at part ] in
      answered options s command new jobs r a ok err
      (map_ok r (λ x leads. (leads.0, leads.1, calls_on_store options s (driven leads.0 jobs) command (x ∷ []) at (calls (x ∷ []) (driven leads.0 jobs) leads.2))) carried)
      (map_err r (λ leads. (leads.0, leads.1, cut_short (driven leads.0 jobs) (cuts (driven leads.0 jobs) leads.2))) cut)

-- ---- what a store tells of itself

pub error_run : (core : CoreView) (standing : Option Failure) (told : Reply) (s : Driven) → StandsFor core s.state → TakesTurn core (TellingError standing) core
    → told ≡ error_reply core.options.paranoid standing → CoreLeads core (λ next. ErrorRun s (told ∷ []) (driven next s.jobs))
error_run core standing told s stands turns is =
    let went = turns.goes s.state stands in
    let same : core.options ≡ s.state.options = sym (ap (λ (t : State). t.options) stands.state_is) in
    let prints : told ≡ error_reply s.state.options.paranoid standing = is ∙ ap (λ (o : Options). error_reply o.paranoid standing) same in (
      after s.state (TellingError standing) core.device,
      went.1,
      record { standing = standing; turn = record { turn = (went.0, refl); jobs = refl }; prints = ap (λ (r : Reply). r ∷ []) prints },
    )

module _ (options : Options) (core : CoreView) (s : Driven) (stands : StandsFor core s.state) where
  pub error_told : (told : Reply) → CoreLeads core (λ next. ErrorRun s (told ∷ []) (driven next s.jobs))
      → CarriedOut {E = OutOfMemory} options s Error (view.Open core s.jobs) (Ok (answers.One told))
  error_told told leads =
      let next = driven leads.0 s.jobs in
      (next, (leads.1, refl), calls_on_store options s next Error (told ∷ []) (none_where s true Error (open_mode core s.state stands) refl) leads.2)

  pub resume_told : (new : CoreView) (jobs : HeldJobs) (told : Reply) → CoreLeads new (λ next. StartRun s (told ∷ []) (driven next jobs))
      → CarriedOut {E = OutOfMemory} options s Resume (view.Open new jobs) (Ok (answers.One told))
  resume_told new jobs told leads =
      let next = driven leads.0 jobs in
      (next, (leads.1, refl), calls_on_store options s next Resume (told ∷ []) (none_where s true Resume (open_mode core s.state stands) refl) leads.2)

  pub levels_told : (levels : LevelsView) → TakesTurn core (TellingLevels levels) core → CarriedOut {E = OutOfMemory} options s Levels (view.Open core s.jobs) (Ok (answers.Levels levels))
  levels_told levels turns =
      let went = turns.goes s.state stands in
      let next = driven (after s.state (TellingLevels levels) core.device) s.jobs in (
        next,
        (went.1, refl),
        calls_on_store options s next Levels (level_replies levels) (none_where s true Levels (open_mode core s.state stands) refl)
            (record { view = levels; turn = record { turn = (went.0, refl); jobs = refl }; prints = refl }),
      )

-- ---- what is arranged on the device

pub arrange_told : (old new : CoreView) (rule : Rule) (answer : Result Bool OutOfMemory) → TakesTurn old (Arranging rule answer) new → StandsForSome old → StandsForSome new
arrange_told old new rule answer turns told = stays_told old new (Arranging rule answer) turns (λ s told_. told_) told

-- of a device that is called where no store is open
pub arranged_shut : (s : Driven) (rule : Rule) (before shows : Seen) (answer : Result Bool OutOfMemory) → IsShut before s → IfOk answer (λ done. done ≡ before.simulated)
    → Arranges before.told answer shows.told → IsArranged (arranged.Armed rule) before answer shows → Leads (view.Closed shows) (PlainTurn s (Arranging rule answer))
arranged_shut s rule before shows answer shut done told rest =
    let is : s.state.device ≡ before = shut.device in (
      driven (with_device shows s.state) s.jobs,
      record { shut = shut.shut; device = refl; jobs = shut.jobs },
      record { turn = (rw is (record { done = done; told = told; rest = rest }), refl); jobs = refl },
    )

pub arranged_open : (s : Driven) (rule : Rule) (core new : CoreView) (jobs : HeldJobs) (answer : Result Bool OutOfMemory) → Stands (view.Open core jobs) s
    → TakesTurn core (Arranging rule answer) new → Leads (view.Open new jobs) (PlainTurn s (Arranging rule answer))
arranged_open s rule core new jobs answer stands turns =
    let went = turns.goes s.state stands.0 in
    (driven (after s.state (Arranging rule answer) new.device) s.jobs, (went.1, stands.1), record { turn = (went.0, refl); jobs = refl })

no_error : {P : Type 0} (done : Bool) → IsErr (let r : Result Bool OutOfMemory = Ok done in r) → P
no_error done h = absurd cc

-- a command that asks for a rule makes a call, and arranges that one
record Asks (options : Options) (s : Driven) (command : Command) (rule : Rule) : Type 0 where
  none : (b : Bool) → rest_reply b command ≡ None
  calls : (replies : List Reply) (next : Driven) → ArrangeRun s rule replies next → Calls options s command replies next
  cuts : (next : Driven) → ArrangeCut s rule next → CallsPartly options s command next

asks : (options : Options) (s : Driven) (command : Command) (rule : Rule) → rule_of command ≡ Some rule → Asks options s command rule
asks options s (Fail call fault_ skip times keep) rule is = record {
  none = none_of_fail;
  calls = λ replies next run. subst (λ (r : Rule). ArrangeRun s r replies next) (sym (the_rule is)) run;
  cuts = λ next cut. subst (λ (r : Rule). ArrangeCut s r next) (sym (the_rule is)) cut;
}
  where
    the_rule : {a b : Rule} → Some a ≡ Some b → a ≡ b
    the_rule same = cc

    none_of_fail : (b : Bool) → rest_reply b (Fail call fault_ skip times keep) ≡ None
    none_of_fail true = refl
    none_of_fail false = refl
asks options s (Capacity bytes) rule is = record {
  none = none_of_capacity;
  calls = λ replies next run. subst (λ (r : Rule). ArrangeRun s r replies next) (sym (the_rule is)) run;
  cuts = λ next cut. subst (λ (r : Rule). ArrangeCut s r next) (sym (the_rule is)) cut;
}
  where
    the_rule : {a b : Rule} → Some a ≡ Some b → a ≡ b
    the_rule same = cc

    none_of_capacity : (b : Bool) → rest_reply b (Capacity bytes) ≡ None
    none_of_capacity true = refl
    none_of_capacity false = refl
asks options s command rule is = none_rule is
  where
    none_rule : {P : Type 0} {r : Rule} → None ≡ Some r → P
    none_rule same = cc

module _ (options : Options) (s : Driven) (command : Command) (rule : Rule) (store : StoreView) (is : rule_of command ≡ Some rule) where
  pub has_arranged : (answer : Result Bool OutOfMemory) (r : Result Reply OutOfMemory) (a : Result Answer OutOfMemory)
      → Leads store (PlainTurn s (Arranging rule answer)) → IfOk r (λ x. arranged_replies rule answer ≡ Some (x ∷ [])) → (IsErr r → IsErr answer)
      → IfOk r (λ x. a ≡ Ok (answers.One x)) → (IsErr r → IsErr a) → CarriedOut options s command store a
  has_arranged answer (Ok x) a leads printed cut ok err =
      let it = asks options s command rule is in
      subst (CarriedOut options s command store) (sym ok)
      (leads.0, leads.1, calls_on_store options s leads.0 command (x ∷ []) (it.none (is_open s.state.mode.phase)) (it.calls (x ∷ []) leads.0 (record { answer = answer; turn = leads.2; prints = printed })))
  has_arranged (Ok done) (Err e) a leads printed cut ok err = no_error done (cut refl)
  has_arranged (Err wants) (Err e) (Ok y) leads printed cut ok err = no_err y (err refl)
  has_arranged (Err wants) (Err e) (Err f) leads printed cut ok err =
      let it = asks options s command rule is in
      (leads.0, shows_own store leads.0 leads.1, partly_on_store options s leads.0 command (it.none (is_open s.state.mode.phase)) (it.cuts leads.0 (wants, leads.2)))

-- ---- openings

-- the files of a device that was left have names of their own
shut_one : (phase : Phase) (leaving : Leaving) (told : Told) (s : State) → is_left leaving ≡ true → is_open phase ≡ false → KeptBy phase (is_left leaving) told.state s → IsOneToOne told.state
shut_one Booting leaving told s is shut h = cc
shut_one machine.Open leaving told s is shut h = cc
shut_one machine.Closing leaving told s is shut h = cc
shut_one Shut Nothing told s is shut h = cc
shut_one Shut Crashed told s is shut h = h.one_to_one
shut_one Shut Left told s is shut h = h.one_to_one

one_where : (f : Footing) (leaving : Leaving) (told : Told) (s : State) → leaving ≡ s.mode.left → goes_on_from leaving f ≡ true → is_open s.mode.phase ≡ false
    → IsCoveredBy f s.mode (Some told) s → IsOneToOne told.state
one_where Unknown Nothing told s is goes shut h = cc
one_where Unknown Crashed told s is goes shut h = cc
one_where Unknown Left told s is goes shut h = cc
one_where Known Nothing told s is goes shut h = cc
one_where Known Left told s is goes shut h = shut_one s.mode.phase s.mode.left told s (ap is_left (sym is)) shut h
one_where Known Crashed told s is goes shut h = shut_one s.mode.phase s.mode.left told s (ap is_left (sym is)) shut h

borne_out : (told : Option Told) (s : State) → told ≡ s.device.told → ReadsOnIn told s.story → ((t : Told) → told ≡ Some t → IsOneToOne t.state) → IsBorneOut s
borne_out None s is reads one = absurd reads
borne_out (Some told) s is reads one = record {
  joined = reads.joined;
  within = reads.within;
  told = told;
  is_told = sym is;
  directory = sound_is_directory told.state (one told refl);
  reading = reads.reads.reading;
  is_read = reads.reads.is_read;
  has = reads.reads.has;
}

-- the device of a covered store bears out the story with which an opening goes on
pub expected : (s : State) → is_open s.mode.phase ≡ false → IsCovered s → Expects s
expected s shut covered =
    elim (continues s.mode s.footing) as (λ b. continues s.mode s.footing ≡ b → WhereGoesOn b s) [
      | true ↦ λ goes. borne_out s.device.told s refl (covered_reads s shut goes covered)
          (λ told is. one_where s.footing s.mode.left told s refl goes shut (subst (λ (o : Option Told). IsCoveredBy s.footing s.mode o s) is covered))
      | false ↦ λ begins. tt
    ] refl

module _ (options : Options) (s : Driven) where
  pub opened_run : (core : CoreView) (shows : Seen) (seq : ℕ) → IsShut shows s → Opens s.state options core → seq ≡ last_in core
      → CarriedOut {E = OutOfMemory} options s Open (view.Open core no_jobs) (Ok (answers.One (reply.Opened seq)))
  opened_run core shows seq shut opens is =
      let next = driven (after s.state (Opening options (Ok opens.found)) core.device) no_jobs in
      let run = calls_on_store options s next Open (reply.Opened opens.found.store.last_seq ∷ []) (none_where s false Open shut.shut refl)
      (record { answer = Ok opens.found; turn = (opens.answers, refl); jobs = refl; prints = refl }) in
      (next, (opens.stands, refl), subst (λ n. CarriesOnStore options s Open (reply.Opened n ∷ []) next) (opens.last_is ∙ sym is) run)

  -- the state behind a refusal is as before, but for the device
  pub refused_run : (behind_ before : Seen) (refused : OpenRefusal) (r : Result Reply OutOfMemory) (a : Result Answer OutOfMemory) → IsShut before s
      → Answers s.state (Opening options (Err refused)) behind_
      → IfOk r (λ x. opening_replies (Err refused) ≡ Some (x ∷ [])) → (IsErr r → refused ≡ refusal.OutOfMemory)
      → IfOk r (λ x. a ≡ Ok (answers.One x)) → (IsErr r → IsErr a)
      → CarriedOut options s Open (view.Closed behind_) a
  refused_run behind_ before refused (Ok x) a shut answers_ printed cut ok err =
      let next = driven (with_device behind_ s.state) s.jobs in
      let run = calls_on_store options s next Open (x ∷ []) (none_where s false Open shut.shut refl)
      (record { answer = Err refused; turn = (answers_, refl); jobs = shut.jobs; prints = printed }) in
      subst (CarriedOut options s Open (view.Closed behind_)) (sym ok) (next, record { shut = shut.shut; device = refl; jobs = shut.jobs }, run)
  refused_run behind_ before refused (Err e) (Ok y) shut answers_ printed cut ok err = no_err y (err refl)
  refused_run behind_ before refused (Err e) (Err f) shut answers_ printed cut ok err =
      let next = driven (with_device behind_ s.state) s.jobs in
      let want = subst (λ (o : OpenRefusal). Answers s.state (Opening options (Err o)) behind_) (cut refl) answers_ in
      (next, refl, partly_on_store options s next Open (none_where s false Open shut.shut refl) (record { turn = (want, refl); jobs = refl }))

pub opened_told : (options : Options) (core : CoreView) (s : State) → Opens s options core → StandsForSome core
opened_told options core s opens =
    let next = after s (Opening options (Ok opens.found)) core.device in
    ∣ (next, opens.stands, told_in core next opens.stands tt) ∣₁

-- ---- listings

none_of_list : (is_one_open : Bool) → rest_reply is_one_open Files ≡ None
none_of_list true = refl
none_of_list false = refl

module _ (options : Options) (s next : Driven) where
  pub listed : (store : StoreView) (is_one_open : Bool) (answer : Result (List Entry) DiskError) (a : Result Answer OutOfMemory) → is_open s.state.mode.phase ≡ is_one_open
      → Stands store next → Shows store next.state.device → PlainTurn s (Listing answer) next
      → IfOk a (λ x. listing_replies answer ≡ Some (replies_of x)) → (IsErr a → answer ≡ Err disk.OutOfMemory)
      → CarriedOut options s Files store a
  listed store is_one_open answer (Ok x) is stands device turn printed cut =
      (next, stands, calls_on_store options s next Files (replies_of x) (none_where s is_one_open Files is (none_of_list is_one_open)) (record { answer = answer; turn = turn; prints = printed }))
  listed store is_one_open answer (Err e) is stands device turn printed cut =
      (next, device, partly_on_store options s next Files (none_where s is_one_open Files is (none_of_list is_one_open)) (subst (λ (o : Result (List Entry) DiskError). PlainTurn s (Listing o) next) (cut refl) turn))

pub list_told : (old new : CoreView) (answer : Result (List Entry) DiskError) → TakesTurn old (Listing answer) new → StandsForSome old → StandsForSome new
list_told old new answer turns told = stays_told old new (Listing answer) turns (λ s told_. told_) told

-- ---- crashes

shut_behind : (s : State) (kept : Option ℕ) → is_open (crash_after s kept).mode.phase ≡ false
shut_behind s None = refl
shut_behind s (Some count) = refl

module _ (options : Options) (s : Driven) (dirops keep garbage seed : ℕ) where
  abbrev crash : Command
  crash = Crash dirops keep garbage seed

  abbrev picked : Pick
  picked = record { dirops = dirops; keep = keep; garbage = garbage; seed = seed }

  none_of_crash : rest_reply (is_open s.state.mode.phase) crash ≡ None
  none_of_crash = by (is_open s.state.mode.phase)
    where
      by : (b : Bool) → rest_reply b crash ≡ None
      by true = refl
      by false = refl

  pub crashed : (behind : Seen) → IsCovered s.state → Drops s.state picked behind
      → CarriedOut {E = OutOfMemory} options s crash (view.Closed behind) (Ok (answers.One reply.Crashed))
  crashed behind covered drops =
      let left = crash_turns s.state picked behind covered drops in
      let next = driven (after s.state (Crashing picked left.0) behind) no_jobs in
      let run : Calls options s crash (reply.Crashed ∷ []) next = subst (λ b. CrashRun b s picked (reply.Crashed ∷ []) next) (sym drops.simulated) (left.0, (left.1, refl), refl, refl) in
      (next, record { shut = shut_behind s.state left.0; device = refl; jobs = refl }, calls_on_store options s next crash (reply.Crashed ∷ []) none_of_crash run)

  pub crash_cut : (behind : Seen) (e : OutOfMemory) → behind ≡ s.state.device → CarriedOut options s crash (view.Closed behind) (Err e)
  crash_cut behind e is = (s, is, inl refl)

  not_crashed : s.state.device.simulated ≡ false → CarriesOnStore options s crash (reply.NotSimulated ∷ []) s
  not_crashed is =
      let run : Calls options s crash (reply.NotSimulated ∷ []) s = subst (λ b. CrashRun b s picked (reply.NotSimulated ∷ []) s) (sym is) (record { same = refl; prints = refl }) in
      calls_on_store options s s crash (reply.NotSimulated ∷ []) none_of_crash run

  pub not_crashed_on : (store : StoreView) → Stands store s → s.state.device.simulated ≡ false → CarriedOut {E = OutOfMemory} options s crash store (Ok (answers.One reply.NotSimulated))
  not_crashed_on store stands is = (s, stands, not_crashed is)

-- ---- what a device that was called shows

pub list_answers : (s : State) (before shows : Seen) (answer : Result (List Entry) DiskError) → s.device ≡ before → IfOk answer (TellsListing before.told) → IfOk answer IsListing
    → IsQuiet before (disk_fault answer) shows → Answers s (Listing answer) shows
list_answers s before shows answer is tells order quiet = rw is (record { tells = tells; order = order; quiet = quiet })

pub dropped : (s : State) (pick : Pick) (before shows : Seen) (done : Bool) → s.device ≡ before → before.simulated ≡ true → done ≡ before.simulated
    → Crashes {E = OutOfMemory} before.told (Ok done) shows.told → IsArranged {E = OutOfMemory} (arranged.Crashed pick) before (Ok done) shows → Drops s pick shows
dropped s pick before shows done is simulated answered_ crash rest =
    let all : done ≡ true = answered_ ∙ simulated in record {
      simulated = rw is simulated;
      crash = rw is (subst (λ (b : Bool). Crashes {E = OutOfMemory} before.told (Ok b) shows.told) all crash);
      rest = rw is (subst (λ (b : Bool). IsArranged {E = OutOfMemory} (arranged.Crashed pick) before (Ok b) shows) all rest);
    }

-- a crash for which memory was wanting
not_crashed_told : (before after : Option Told) (e : OutOfMemory) → Crashes before (let r : Result Bool OutOfMemory = Err e in r) after → after ≡ before
not_crashed_told None after e same = same
not_crashed_told (Some before) None e same = same
not_crashed_told (Some before) (Some after) e same = same

same_seen : (before after : Seen) → after.told ≡ before.told → after.changes ≡ before.changes → after.faults ≡ before.faults → after.last_fault ≡ before.last_fault
    → after.simulated ≡ before.simulated → after.arranged ≡ before.arranged → after ≡ before
same_seen before after a b c d e f = λ i. record { told = a i; changes = b i; faults = c i; last_fault = d i; simulated = e i; arranged = f i }

pub stayed : (pick : Pick) (before after : Seen) (e : OutOfMemory) → Crashes before.told (let r : Result Bool OutOfMemory = Err e in r) after.told
    → IsArranged (arranged.Crashed pick) before (let r : Result Bool OutOfMemory = Err e in r) after → after ≡ before
stayed pick before after e crash rest =
    same_seen before after (not_crashed_told before.told after.told e crash) rest.count rest.faults rest.last_fault rest.simulated rest.arranged

-- ---- a close

-- a close makes calls where a store is open
pub open_where_closed : (b : Bool) → rest_reply b Close ≡ None → b ≡ true
open_where_closed true none = refl
open_where_closed false none = cc

pub close_runs : (options : Options) (s new : Driven) (replies : List Reply) → is_open s.state.mode.phase ≡ true → CloseRun s replies new → CarriesOnStore options s Close replies new
close_runs options s new replies opened run = calls_on_store options s new Close replies (none_where s true Close opened refl) run

-- an open core is closed, and its device handed back
pub closed_run : (core closed : CoreView) (jobs : HeldJobs) (tickets : ℕ) → TakesTurn core (ShuttingDown tickets) closed
    → (s : Driven) → StandsFor core s.state → Leads (view.Closed closed.device) (λ new. CloseRun s (reply.Closed tickets ∷ []) new)
closed_run core closed jobs tickets turns s stands =
    let went = turns.goes s.state stands in
    let mid = after s.state (ShuttingDown tickets) closed.device in
    let next = driven (after mid Finishing closed.device) no_jobs in (
      next,
      record { shut = refl; device = refl; jobs = refl },
      record { tickets = tickets; mid = mid; closes = (went.0, refl); finishes = (refl, refl); jobs = refl; prints = refl },
    )
