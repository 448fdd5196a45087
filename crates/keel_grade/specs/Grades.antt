-- The table of grades, after the tables of RocksDB's error handler, and their order.
use Rattle.std.specs.Prelude.{ℕ, Bool, true, false}
use Rattle.keel_base.specs.declared.failure.Reason.{Reason}
use Rattle.keel_base.specs.declared.failure.Reason.TheVariants.{Flush, Compaction, Wal, Manifest}
use Rattle.keel_base.specs.declared.failure.Fault.{Fault}
use Rattle.keel_base.specs.declared.failure.Fault.TheVariants.{Plain, NoSpace, SpaceLimit, Fenced, Retryable, DataLoss, Corrupt}
use Rattle.keel_base.specs.declared.failure.Grade.{Grade}
use Rattle.keel_base.specs.declared.failure.Grade.TheVariants.{NoError, Soft, Hard, Fatal, Unrecoverable}

-- the grade of each failure, where doubtful ones are taken as severe (true) and where they aren't (false)
abbrev pub grade_of : Reason → Fault → Bool → Grade
grade_of Flush DataLoss _ = Unrecoverable
grade_of Flush Retryable _ = Hard
grade_of Flush NoSpace true = Hard
grade_of Flush NoSpace false = NoError
grade_of Flush SpaceLimit true = Hard
grade_of Flush SpaceLimit false = NoError
grade_of Flush Fenced true = Fatal
grade_of Flush Fenced false = NoError
grade_of Flush Corrupt true = Unrecoverable
grade_of Flush Corrupt false = NoError
grade_of Flush Plain true = Fatal
grade_of Flush Plain false = NoError
grade_of Compaction DataLoss _ = Unrecoverable
grade_of Compaction Retryable _ = NoError
grade_of Compaction NoSpace true = Soft
grade_of Compaction NoSpace false = NoError
grade_of Compaction SpaceLimit true = Hard
grade_of Compaction SpaceLimit false = NoError
grade_of Compaction Fenced true = Fatal
grade_of Compaction Fenced false = NoError
grade_of Compaction Corrupt true = Unrecoverable
grade_of Compaction Corrupt false = NoError
grade_of Compaction Plain true = Fatal
grade_of Compaction Plain false = NoError
grade_of Wal DataLoss _ = Unrecoverable
grade_of Wal Retryable _ = Hard
grade_of Wal NoSpace _ = Hard
grade_of Wal SpaceLimit true = Fatal
grade_of Wal SpaceLimit false = Hard
grade_of Wal Fenced _ = Fatal
grade_of Wal Corrupt true = Unrecoverable
grade_of Wal Corrupt false = Fatal
grade_of Wal Plain true = Fatal
grade_of Wal Plain false = Hard
grade_of Manifest DataLoss _ = Unrecoverable
grade_of Manifest Retryable _ = Hard
grade_of Manifest NoSpace _ = Hard
grade_of Manifest SpaceLimit _ = Fatal
grade_of Manifest Fenced _ = Fatal
grade_of Manifest Corrupt _ = Fatal
grade_of Manifest Plain _ = Fatal

-- how far up a grade stands, from no error on
abbrev pub severity_of : Grade → ℕ
severity_of NoError = 0
severity_of Soft = 1
severity_of Hard = 2
severity_of Fatal = 3
severity_of Unrecoverable = 4
