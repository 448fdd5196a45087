-- The line of each reply, without its newline.
use Rattle.std.specs.Prelude.{ℕ, List, [], ◌∷◌, ◌++◌, codes}
use Rattle.std.specs.Fmt.{decimal}
use Rattle.std.specs.List.{flat_map}
use Rattle.keel_base.specs.declared.failure.Failure.{Failure}
use Rattle.keel_base.specs.Name.{printed}
use Rattle.keel_base.specs.Options.{option_name}
use Rattle.keel_script.specs.declared.reply.Reply.{Reply}
use Rattle.keel_script.specs.declared.reply.Reply.TheVariants.{OptionSet, BadOption, IsOpen, NotOpen, Opened, RefusedDevice, RefusedNoCurrent, RefusedBadCurrent, RefusedDamagedManifest, RefusedMissingTable, RefusedBadTable, RefusedBadLog, RefusedLogGap, PutOk, Failed, Stopped, Booting, BadSizeKey, BadSizeValue, Spent, Full, QueueFull, Waiting, Queued, Idle, Moved, WriteDone, Turned, Cancelled, JobDone, Blocked, NoRoom, Wait, Purged, Trashed, Cut, Removed, DeleteRefused, Nothing, Busy, Beyond, Cleared, Started, JobCleared, NoSpaceYet, OverLimit, GivenUp, Quiet, More, Now, Value, Absent, Row, Rows, ErrorNone, Error, Space, FileLine, Files, ReadFault, BadCheck, BadShape, AbsentTable, Level, Memory, Limit, Closed, Armed, NotSimulated, Capacity, Crashed, NotBuilt}
use Rattle.keel_script.specs.Names.{fault_name, call_name, reason_name, counter_name, slot_name, grade_number}
use Rattle.keel_script.specs.Texts.{printed_text}

-- the head, and a space and each of these words
abbrev pub told : List ℕ → List (List ℕ) → List ℕ
told head words = head ++ flat_map (λ word. 32 ∷ word) words

-- the reason and the fault
abbrev pub failure_words : Failure → List (List ℕ)
failure_words failure = reason_name failure.reason ∷ fault_name failure.fault ∷ []

-- what a reply is printed as
abbrev pub reply_line : Reply → List ℕ
reply_line (OptionSet name value) = told (codes "option") (option_name name ∷ decimal value ∷ [])
reply_line (BadOption name least greatest) = told (codes "bad-option") (option_name name ∷ decimal least ∷ decimal greatest ∷ [])
reply_line IsOpen = codes "is-open"
reply_line NotOpen = codes "not-open"
reply_line (Opened seq) = told (codes "opened") (decimal seq ∷ [])
reply_line (RefusedDevice fault) = told (codes "refused device") (fault_name fault ∷ [])
reply_line (RefusedNoCurrent name) = told (codes "refused no-current") (printed name ∷ [])
reply_line (RefusedBadCurrent text) = told (codes "refused bad-current") (printed_text text ∷ [])
reply_line (RefusedDamagedManifest at) = told (codes "refused damaged-manifest") (decimal at ∷ [])
reply_line (RefusedMissingTable number) = told (codes "refused missing-table") (decimal number ∷ [])
reply_line (RefusedBadTable number) = told (codes "refused bad-table") (decimal number ∷ [])
reply_line (RefusedBadLog number at) = told (codes "refused bad-log") (decimal number ∷ decimal at ∷ [])
reply_line (RefusedLogGap number expected found) = told (codes "refused log-gap") (decimal number ∷ decimal expected ∷ decimal found ∷ [])
reply_line (PutOk seq) = told (codes "ok") (decimal seq ∷ [])
reply_line (Failed failure) = told (codes "failed") (failure_words failure)
reply_line (Stopped failure) = told (codes "stopped") (failure_words failure)
reply_line Booting = codes "booting"
reply_line (BadSizeKey len) = told (codes "bad-size key") (decimal len ∷ [])
reply_line (BadSizeValue len) = told (codes "bad-size value") (decimal len ∷ [])
reply_line (Spent counter) = told (codes "spent") (counter_name counter ∷ [])
reply_line (Full active immutables) = told (codes "full") (decimal active ∷ decimal immutables ∷ [])
reply_line (QueueFull waiting) = told (codes "queue-full") (decimal waiting ∷ [])
reply_line (Waiting ticket) = told (codes "waiting") (decimal ticket ∷ [])
reply_line (Queued ticket) = told (codes "queued") (decimal ticket ∷ [])
reply_line Idle = codes "idle"
reply_line (Moved job call) = told (codes "moved") (decimal job ∷ call_name call ∷ [])
reply_line (WriteDone job seq batches) = told (codes "done") (decimal job ∷ decimal seq ∷ decimal batches ∷ [])
reply_line (Turned batches failure) = told (codes "turned") (decimal batches ∷ failure_words failure)
reply_line (Cancelled job current) = told (codes "cancelled") (decimal job ∷ decimal current ∷ [])
reply_line (JobDone job) = told (codes "done") (decimal job ∷ [])
reply_line (Blocked slot) = told (codes "blocked") (slot_name slot ∷ [])
reply_line (NoRoom reserved inputs buffer tracked limit) =
    told (codes "no-room") (decimal reserved ∷ decimal inputs ∷ decimal buffer ∷ decimal tracked ∷ decimal limit ∷ [])
reply_line (Wait until) = told (codes "wait") (decimal until ∷ [])
reply_line (Purged name) = told (codes "purged") (printed name ∷ [])
reply_line (Trashed name) = told (codes "trashed") (printed name ∷ [])
reply_line (Cut name len) = told (codes "cut") (printed name ∷ decimal len ∷ [])
reply_line (Removed name) = told (codes "removed") (printed name ∷ [])
reply_line (DeleteRefused fault) = told (codes "refused") (fault_name fault ∷ [])
reply_line Nothing = codes "nothing"
reply_line (Busy job) = told (codes "busy") (decimal job ∷ [])
reply_line (Beyond failure) = told (codes "beyond") (failure_words failure)
reply_line Cleared = codes "cleared"
reply_line (Started job) = told (codes "started") (decimal job ∷ [])
reply_line (JobCleared job steps) = told (codes "cleared") (decimal job ∷ decimal steps ∷ [])
reply_line (NoSpaceYet free need) = told (codes "no-space") (decimal free ∷ decimal need ∷ [])
reply_line (OverLimit total limit) = told (codes "over-limit") (decimal total ∷ decimal limit ∷ [])
reply_line (GivenUp attempts) = told (codes "given-up") (decimal attempts ∷ [])
reply_line Quiet = codes "quiet"
reply_line More = codes "more"
reply_line (Now tick) = told (codes "now") (decimal tick ∷ [])
reply_line (Value value) = told (codes "value") (printed_text value ∷ [])
reply_line Absent = codes "absent"
reply_line (Row key value) = told (codes "row") (printed_text key ∷ printed_text value ∷ [])
reply_line (Rows count) = told (codes "rows") (decimal count ∷ [])
reply_line ErrorNone = codes "error none"
reply_line (Error failure grade) =
    told (codes "error") (reason_name failure.reason ∷ fault_name failure.fault ∷ decimal (grade_number grade) ∷ [])
reply_line (Space tracked trash reserved limit) =
    told (codes "space") (decimal tracked ∷ decimal trash ∷ decimal reserved ∷ decimal limit ∷ [])
reply_line (FileLine name size) = told (codes "file") (printed name ∷ decimal size ∷ [])
reply_line (Files count) = told (codes "files") (decimal count ∷ [])
reply_line (ReadFault fault) = told (codes "read-fault") (fault_name fault ∷ [])
reply_line (BadCheck stored computed) = told (codes "bad-check") (decimal stored ∷ decimal computed ∷ [])
reply_line (BadShape at) = told (codes "bad-shape") (decimal at ∷ [])
reply_line (AbsentTable number) = told (codes "absent-table") (decimal number ∷ [])
reply_line (Level level files bytes) = told (codes "level") (decimal level ∷ decimal files ∷ decimal bytes ∷ [])
reply_line (Memory active immutables waiting) = told (codes "memory") (decimal active ∷ decimal immutables ∷ decimal waiting ∷ [])
reply_line (Limit limit) = told (codes "limit") (decimal limit ∷ [])
reply_line (Closed tickets) = told (codes "closed") (decimal tickets ∷ [])
reply_line Armed = codes "armed"
reply_line NotSimulated = codes "not-simulated"
reply_line (Capacity bytes) = told (codes "capacity") (decimal bytes ∷ [])
reply_line Crashed = codes "crashed"
reply_line NotBuilt = codes "not-built"
