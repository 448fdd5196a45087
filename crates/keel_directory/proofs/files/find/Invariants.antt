use Rattle.std.proofs.Common.{◌≡◌, drop}
use Rattle.keel_disk.specs.Directory as directory
use Rattle.keel_directory.proofs.files.find.Given as goal

-- no file so far has the name
abbrev pub invariant-loop-file : goal.invariant-loop-file
invariant-loop-file l = directory.find l.name (drop l.file-index l.files) ≡ directory.find l.name l.files
