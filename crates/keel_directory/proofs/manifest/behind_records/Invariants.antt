use Rattle.std.proofs.Common.{◌≡◌, drop}
use Rattle.keel_directory.specs.Manifests as spec
use Rattle.keel_directory.proofs.manifest.behind_records.Given as goal

-- the records that are left give of this version what all give
abbrev pub invariant-loop-found : goal.invariant-loop-found
invariant-loop-found l = spec.behind_edits l.version (drop l.found-index l.records) ≡ spec.behind_edits l.fn.version l.records
