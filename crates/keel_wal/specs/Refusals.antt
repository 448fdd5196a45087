-- How a refusal is named.
use Rattle.std.specs.Prelude.{◌+◌}
use Rattle.keel_disk.specs.declared.error.DiskError.{DiskError}
use Rattle.keel_disk.specs.declared.error.DiskError.TheVariants as disk
use Rattle.keel_directory.specs.declared.answer.DirectoryRefusal.{DirectoryRefusal}
use Rattle.keel_directory.specs.declared.answer.DirectoryRefusal.TheVariants as directory
use Rattle.keel_wal.specs.declared.reading.ReplayError.{ReplayError}
use Rattle.keel_wal.specs.declared.reading.ReplayError.TheVariants as refusal

-- a fault is handed on
abbrev pub refusal_for : DiskError → ReplayError
refusal_for (disk.Fault fault) = refusal.Device fault
refusal_for disk.OutOfMemory = refusal.OutOfMemory

-- that of a directory, where it is one of logs
abbrev pub error_for : DirectoryRefusal → ReplayError
error_for (directory.BadLog log at) = refusal.BadLog log at
error_for (directory.LogGap log last found) = refusal.LogGap log (last + 1) found
error_for _ = refusal.OutOfMemory
