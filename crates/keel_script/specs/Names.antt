-- The words for faults, calls and the like.
use Rattle.std.specs.Prelude.{ℕ, List, codes}
use Rattle.keel_base.specs.declared.failure.Call.{Call}
use Rattle.keel_base.specs.declared.failure.Call.TheVariants.{Create, Append, Sync, Rename, Remove, Cut, SyncDir, Read}
use Rattle.keel_base.specs.declared.failure.Counter.{Counter}
use Rattle.keel_base.specs.declared.failure.Counter.TheVariants.{Sequence, FileNumber, JobNumber, Ticket}
use Rattle.keel_base.specs.declared.failure.Fault.{Fault}
use Rattle.keel_base.specs.declared.failure.Fault.TheVariants.{Plain, NoSpace, SpaceLimit, Fenced, Retryable, DataLoss, Corrupt}
use Rattle.keel_base.specs.declared.failure.Reason.{Reason}
use Rattle.keel_base.specs.declared.failure.Reason.TheVariants as reason
use Rattle.keel_base.specs.declared.failure.Grade.{Grade}
use Rattle.keel_base.specs.declared.failure.Grade.TheVariants.{NoError, Soft, Hard, Fatal, Unrecoverable}
use Rattle.keel_base.specs.declared.failure.SlotName.{SlotName}
use Rattle.keel_base.specs.declared.failure.SlotName.TheVariants as slot

-- how the device failed
abbrev pub fault_name : Fault → List ℕ
fault_name Plain = codes "plain"
fault_name NoSpace = codes "no-space"
fault_name SpaceLimit = codes "space-limit"
fault_name Fenced = codes "fenced"
fault_name Retryable = codes "retryable"
fault_name DataLoss = codes "data-loss"
fault_name Corrupt = codes "corrupt"

-- a kind of device call
abbrev pub call_name : Call → List ℕ
call_name Create = codes "create"
call_name Append = codes "append"
call_name Sync = codes "sync"
call_name Rename = codes "rename"
call_name Remove = codes "remove"
call_name Cut = codes "cut"
call_name SyncDir = codes "sync-dir"
call_name Read = codes "read"

-- what was being done
abbrev pub reason_name : Reason → List ℕ
reason_name reason.Flush = codes "flush"
reason_name reason.Compaction = codes "compaction"
reason_name reason.Wal = codes "wal"
reason_name reason.Manifest = codes "manifest"

-- a number that is drawn
abbrev pub counter_name : Counter → List ℕ
counter_name Sequence = codes "sequence"
counter_name FileNumber = codes "file-number"
counter_name JobNumber = codes "job-number"
counter_name Ticket = codes "ticket"

-- a slot for a job
abbrev pub slot_name : SlotName → List ℕ
slot_name slot.Flush = codes "flush"
slot_name slot.Compact0 = codes "compact-0"
slot_name slot.Compact1 = codes "compact-1"

-- how bad an error is, as a number
abbrev pub grade_number : Grade → ℕ
grade_number NoError = 0
grade_number Soft = 1
grade_number Hard = 2
grade_number Fatal = 3
grade_number Unrecoverable = 4
