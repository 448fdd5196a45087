-- The runs of the machine over commands, and how far a run over lines has come.
use Rattle.std.specs.Prelude.{◌≡◌, ◌⊎◌, ℕ, ◌+◌, ◌-◌, ◌^◌, min, Bool, true, false, Option, None, Some, List, [], ◌∷◌, ◌++◌, length, map, Result, Ok, Err}
use Rattle.keel_base.specs.declared.listing.Entry.{Entry}
use Rattle.keel_base.specs.declared.row.Row.{Row}
use Rattle.keel_base.specs.declared.option_name.OptionName.{OptionName}
use Rattle.keel_base.specs.Options.{range_of, IsWithin, SetsOne}
use Rattle.keel_disk.specs.declared.error.DiskError.{DiskError}
use Rattle.keel_disk.specs.declared.error.DiskError.TheVariants as disk
use Rattle.keel_disk.specs.declared.rule.Pick.{Pick}
use Rattle.keel_disk.specs.declared.rule.Rule.TheVariants as rule
use Rattle.keel_base.specs.declared.options.Options.{Options}
use Rattle.keel_open.specs.declared.refusal.OpenRefusal.{OpenRefusal}
use Rattle.keel_open.specs.declared.refusal.OpenRefusal.TheVariants as refusal
use Rattle.keel_table.specs.declared.fault.TableFault.{TableFault}
use Rattle.keel_table.specs.declared.fault.TableFault.TheVariants as fault
use Rattle.keel_machine.specs.Opening.{Found}
use Rattle.keel_machine.specs.declared.answers.Got.{Got}
use Rattle.keel_machine.specs.declared.answers.Got.TheVariants as got
use Rattle.keel_machine.specs.declared.answers.Scanned.{Scanned}
use Rattle.keel_machine.specs.declared.answers.Scanned.TheVariants as scanned
use Rattle.keel_machine.specs.Turns.{Turn, Opening, Getting, Scanning, Listing, Crashing}
use Rattle.keel_machine.specs.States.{is_open}
use Rattle.keel_script.specs.declared.command.Command.{Command}
use Rattle.keel_script.specs.declared.command.Command.TheVariants.{SetOption, Open, Put, Del, QueuePut, QueueDel, Write, Flush, Resume, ResumeStep, Drain, Tick, Get, Scan, Error, Files, Levels, Close, Fail, Capacity, Crash}
use Rattle.keel_script.specs.declared.reply.Reply.{Reply}
use Rattle.keel_script.specs.declared.reply.Reply.TheVariants as reply
use Rattle.keel_cli.specs.Arranging.{ArrangeRun, ArrangeCut}
use Rattle.keel_cli.specs.Boots.{BootRun, BootCut}
use Rattle.keel_cli.specs.Drains.{DrainRun, DrainCut}
use Rattle.keel_cli.specs.Flushes.{FlushRun, FlushCut}
use Rattle.keel_cli.specs.Puts.{put_batch, del_batch, PutRun, PutCut, QueueRun, QueueCut}
use Rattle.keel_cli.specs.Closes.{CloseRun}
use Rattle.keel_cli.specs.Starts.{StartRun}
use Rattle.keel_cli.specs.Telling.{ErrorRun, LevelsRun}
use Rattle.keel_cli.specs.Writes.{WriteRun, WriteCut}
use Rattle.keel_cli.specs.Jobs.{Driven, PlainTurn, no_jobs}
use Rattle.keel_cli.specs.Sessions.{Session, driven_in, with_store}

-- ---- replies to calls

-- the reply that prints an opening; want of memory has none
abbrev pub opening_replies : Result Found OpenRefusal → Option (List Reply)
opening_replies (Ok found) = Some (reply.Opened found.store.last_seq ∷ [])
opening_replies (Err (refusal.Device fault)) = Some (reply.RefusedDevice fault ∷ [])
opening_replies (Err (refusal.NoCurrent file)) = Some (reply.RefusedNoCurrent file ∷ [])
opening_replies (Err (refusal.BadCurrent bytes)) = Some (reply.RefusedBadCurrent bytes ∷ [])
opening_replies (Err (refusal.DamagedManifest at)) = Some (reply.RefusedDamagedManifest at ∷ [])
opening_replies (Err (refusal.MissingTable number)) = Some (reply.RefusedMissingTable number ∷ [])
opening_replies (Err (refusal.BadTable number cause)) = Some (reply.RefusedBadTable number ∷ [])
opening_replies (Err (refusal.BadLog log at)) = Some (reply.RefusedBadLog log at ∷ [])
opening_replies (Err (refusal.LogGap log expected found)) = Some (reply.RefusedLogGap log expected found ∷ [])
opening_replies (Err refusal.OutOfMemory) = None

-- the reply to a read for which the table of that number wasn't read; want of memory has none
abbrev pub fault_replies : ℕ → TableFault → Option (List Reply)
fault_replies number (fault.Device cause) = Some (reply.ReadFault cause ∷ [])
fault_replies number fault.Absent = Some (reply.AbsentTable number ∷ [])
fault_replies number (fault.BadCheck stored computed) = Some (reply.BadCheck stored computed ∷ [])
fault_replies number (fault.BadShape at) = Some (reply.BadShape at ∷ [])
fault_replies number fault.OutOfMemory = None

abbrev pub reading_replies : Got → Option (List Reply)
reading_replies (got.Value value) = Some (reply.Value value ∷ [])
reading_replies got.Absent = Some (reply.Absent ∷ [])
reading_replies (got.ReadFault number cause) = fault_replies number cause
reading_replies got.OutOfMemory = None

-- a line for each row, and their number
abbrev pub row_replies : List Row → List Reply
row_replies rows = map (λ (row : Row). reply.Row row.key row.value) rows ++ reply.Rows (length rows) ∷ []

abbrev pub scan_replies : Scanned → Option (List Reply)
scan_replies (scanned.Rows rows) = Some (row_replies rows)
scan_replies (scanned.ReadFault number cause) = fault_replies number cause
scan_replies scanned.OutOfMemory = None

-- a line for each file, and their number
abbrev pub file_replies : List Entry → List Reply
file_replies listing = map (λ (entry : Entry). reply.FileLine entry.name entry.size) listing ++ reply.Files (length listing) ∷ []

abbrev pub listing_replies : Result (List Entry) DiskError → Option (List Reply)
listing_replies (Ok listing) = Some (file_replies listing)
listing_replies (Err (disk.Fault fault)) = Some (reply.ReadFault fault ∷ [])
listing_replies (Err disk.OutOfMemory) = None

-- ---- commands on the store

-- no call was made, and that is the reply
pub record Rests {S : Type 0} (old : S) (reply : Reply) (replies : List Reply) (new : S) : Type 0 where
  pub same : new ≡ old
  pub prints : replies ≡ reply ∷ []

-- an opening with these options and these replies
pub record OpenRun (options : Options) (old : Driven) (replies : List Reply) (new : Driven) : Type 0 where
  pub answer : Result Found OpenRefusal
  pub turn : Turn old.state (Opening options answer) new.state
  pub jobs : new.jobs ≡ no_jobs
  pub prints : opening_replies answer ≡ Some replies

-- a read with these replies
pub record GetRun (old : Driven) (key : List ℕ) (replies : List Reply) (new : Driven) : Type 0 where
  pub answer : Got
  pub turn : PlainTurn old (Getting key answer) new
  pub prints : reading_replies answer ≡ Some replies

-- a scan with these replies
pub record ScanRun (old : Driven) (from to : List ℕ) (replies : List Reply) (new : Driven) : Type 0 where
  pub answer : Scanned
  pub turn : PlainTurn old (Scanning from to answer) new
  pub prints : scan_replies answer ≡ Some replies

-- a listing with these replies
pub record ListRun (old : Driven) (replies : List Reply) (new : Driven) : Type 0 where
  pub answer : Result (List Entry) DiskError
  pub turn : PlainTurn old (Listing answer) new
  pub prints : listing_replies answer ≡ Some replies

-- the device crashes as it was picked, where that can be had of it
abbrev pub CrashRun : Bool → Driven → Pick → List Reply → Driven → Type 0
CrashRun true old pick replies new =
    (kept : Option ℕ) × Turn old.state (Crashing pick kept) new.state × (new.jobs ≡ no_jobs) × (replies ≡ reply.Crashed ∷ [])
CrashRun false old pick replies new = Rests old reply.NotSimulated replies new

-- The reply to a command that makes no call, by whether a store is open. Commands that aren't built yet make none.
abbrev pub rest_reply : Bool → Command → Option Reply
rest_reply true Open = Some reply.IsOpen
rest_reply false Open = None
rest_reply true (Put key value sync) = None
rest_reply false (Put key value sync) = Some reply.NotOpen
rest_reply true (Del key sync) = None
rest_reply false (Del key sync) = Some reply.NotOpen
rest_reply true (QueuePut client key value sync) = None
rest_reply false (QueuePut client key value sync) = Some reply.NotOpen
rest_reply true (QueueDel client key sync) = None
rest_reply false (QueueDel client key sync) = Some reply.NotOpen
rest_reply true Write = None
rest_reply false Write = Some reply.NotOpen
rest_reply true Flush = None
rest_reply false Flush = Some reply.NotOpen
rest_reply true ResumeStep = None
rest_reply false ResumeStep = Some reply.NotOpen
rest_reply true Resume = None
rest_reply false Resume = Some reply.NotOpen
rest_reply true (Scan from to) = None
rest_reply false (Scan from to) = Some reply.NotOpen
rest_reply true (Get key) = None
rest_reply false (Get key) = Some reply.NotOpen
rest_reply true (Drain moves) = None
rest_reply false (Drain moves) = Some reply.NotOpen
rest_reply true Error = None
rest_reply false Error = Some reply.NotOpen
rest_reply true Close = None
rest_reply false Close = Some reply.NotOpen
rest_reply true Levels = None
rest_reply false Levels = Some reply.NotOpen
rest_reply is_one_open Files = None
rest_reply is_one_open (Fail call fault skip times keep) = None
rest_reply is_one_open (Capacity bytes) = None
rest_reply is_one_open (Crash dirops keep garbage seed) = None
rest_reply is_one_open command = Some reply.NotBuilt

-- the commands that the open store itself answers
abbrev pub needs_store : Command → Bool
needs_store (Put key value sync) = true
needs_store (Del key sync) = true
needs_store (QueuePut client key value sync) = true
needs_store (QueueDel client key sync) = true
needs_store Write = true
needs_store Flush = true
needs_store ResumeStep = true
needs_store Resume = true
needs_store (Get key) = true
needs_store (Scan from to) = true
needs_store (Drain moves) = true
needs_store Error = true
needs_store Levels = true
needs_store command = false

-- The calls that a command may make, the replies that then answer it, and the state that it leaves. Options are those of an
-- opening.
abbrev pub Calls : Options → Driven → Command → List Reply → Driven → Type 0
Calls options old Open replies new = OpenRun options old replies new
Calls options old (Put key value sync) replies new = PutRun old (put_batch key value sync) replies new
Calls options old (Del key sync) replies new = PutRun old (del_batch key sync) replies new
Calls options old (QueuePut client key value sync) replies new = QueueRun old (put_batch key value sync) replies new
Calls options old (QueueDel client key sync) replies new = QueueRun old (del_batch key sync) replies new
Calls options old Write replies new = WriteRun old replies new
Calls options old Flush replies new = FlushRun old replies new
Calls options old ResumeStep replies new = BootRun old replies new
Calls options old Resume replies new = StartRun old replies new
Calls options old (Get key) replies new = GetRun old key replies new
Calls options old (Scan from to) replies new = ScanRun old from to replies new
Calls options old (Drain moves) replies new = DrainRun moves old replies new
Calls options old Error replies new = ErrorRun old replies new
Calls options old Levels replies new = LevelsRun old replies new
Calls options old Close replies new = CloseRun old replies new
Calls options old Files replies new = ListRun old replies new
Calls options old (Fail call fault skip times keep) replies new = ArrangeRun old (rule.Fail call fault skip times keep) replies new
Calls options old (Capacity bytes) replies new = ArrangeRun old (rule.Capacity bytes) replies new
Calls options old (Crash dirops keep garbage seed) replies new =
    CrashRun old.state.device.simulated old (record { dirops = dirops; keep = keep; garbage = garbage; seed = seed }) replies new
Calls options old command replies new = ⊥

-- a command is answered without a call, or by its calls
abbrev pub RestsOrCalls : Options → Option Reply → Driven → Command → List Reply → Driven → Type 0
RestsOrCalls options (Some reply) old command replies new = Rests old reply replies new
RestsOrCalls options None old command replies new = Calls options old command replies new

abbrev pub CarriesOnStore : Options → Driven → Command → List Reply → Driven → Type 0
CarriesOnStore options old command replies new = RestsOrCalls options (rest_reply (is_open old.state.mode.phase) command) old command replies new

-- ---- commands on the driver's own values

-- an option is set for the next opening, within its range
pub record IsSet (old : Session) (name : OptionName) (value : ℕ) (replies : List Reply) (new : Session) : Type 0 where
  pub within : IsWithin name value
  pub sets : SetsOne name value old.options new.options
  pub rest : new ≡ record old { options = new.options }
  pub prints : replies ≡ reply.OptionSet name value ∷ []

-- a value out of the range changes nothing
pub record IsOutOfRange (old : Session) (name : OptionName) (value : ℕ) (replies : List Reply) (new : Session) : Type 0 where
  pub out : ¬ IsWithin name value
  pub rests : Rests old (reply.BadOption name (range_of name).least (range_of name).greatest) replies new

abbrev pub SetRun : Bool → Session → OptionName → ℕ → List Reply → Session → Type 0
SetRun true old name value replies new = Rests old reply.IsOpen replies new
SetRun false old name value replies new = IsSet old name value replies new ⊎ IsOutOfRange old name value replies new

-- the last tick that there is
abbrev pub last_tick : ℕ
last_tick = 2 ^ 64 - 1

-- so many ticks pass, and the last one stays
pub record TickRun (old : Session) (ticks : ℕ) (replies : List Reply) (new : Session) : Type 0 where
  pub passes : new ≡ record old { tick = min (old.tick + ticks) last_tick }
  pub prints : replies ≡ reply.Now (min (old.tick + ticks) last_tick) ∷ []

-- ---- commands

-- the store goes on by the command, and nothing else changes
pub record StoreRun (old : Session) (command : Command) (replies : List Reply) (new : Session) : Type 0 where
  pub carries : CarriesOnStore old.options (driven_in old) command replies (driven_in new)
  pub rest : new ≡ with_store (driven_in new) old

-- a command on the store, and not on the driver's own values
abbrev pub IsOnStore : Command → Type 0
IsOnStore (SetOption name value) = ⊥
IsOnStore (Tick ticks) = ⊥
IsOnStore command = Unit {0}

-- the command may be carried out with these replies, and leave that session
abbrev pub Carries : Session → Command → List Reply → Session → Type 0
Carries old (SetOption name value) replies new = SetRun (is_open old.store.mode.phase) old name value replies new
Carries old (Tick ticks) replies new = TickRun old ticks replies new
Carries old command replies new = StoreRun old command replies new

-- memory ended at a call of the command, behind a first part of its calls
abbrev pub CallsPartly : Options → Driven → Command → Driven → Type 0
CallsPartly options old Open new = PlainTurn old (Opening options (Err refusal.OutOfMemory)) new
CallsPartly options old (Put key value sync) new = PutCut old (put_batch key value sync) new
CallsPartly options old (Del key sync) new = PutCut old (del_batch key sync) new
CallsPartly options old (QueuePut client key value sync) new = QueueCut old (put_batch key value sync) new
CallsPartly options old (QueueDel client key sync) new = QueueCut old (del_batch key sync) new
CallsPartly options old Write new = WriteCut old new
CallsPartly options old Flush new = FlushCut old new
CallsPartly options old ResumeStep new = BootCut old new
CallsPartly options old (Get key) new = PlainTurn old (Getting key got.OutOfMemory) new
CallsPartly options old (Scan from to) new = PlainTurn old (Scanning from to scanned.OutOfMemory) new
CallsPartly options old (Drain moves) new = DrainCut moves old new
CallsPartly options old Files new = PlainTurn old (Listing (Err disk.OutOfMemory)) new
CallsPartly options old (Fail call fault skip times keep) new = ArrangeCut old (rule.Fail call fault skip times keep) new
CallsPartly options old (Capacity bytes) new = ArrangeCut old (rule.Capacity bytes) new
CallsPartly options old command new = ⊥

-- where it makes calls
abbrev pub Partly : Options → Driven → Command → Driven → Type 0
Partly options old command new = (rest_reply (is_open old.state.mode.phase) command ≡ None) × CallsPartly options old command new

-- one command after another
abbrev pub Run : Session → List Command → List Reply → Session → Type 0
Run old [] replies new = (new ≡ old) × (replies ≡ [])
Run old (command ∷ commands) replies new =
    (mid : Session) × (first : List Reply) × (rest : List Reply) × Carries old command first mid × Run mid commands rest new × (replies ≡ first ++ rest)
