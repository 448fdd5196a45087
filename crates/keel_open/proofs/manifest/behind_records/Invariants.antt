use Rattle.keel_open.proofs.Edits.{IsBehind}
use Rattle.keel_open.proofs.manifest.behind_records.Given as goal

abbrev pub invariant-edits : goal.invariant-edits
invariant-edits l = IsBehind l.records l.found-index l.version
