use Rattle.keel_version.proofs.Standing.{edits_have_levels}
use Rattle.keel_version.proofs.laws.edits_have_levels.Goals as goal

pub returns : goal.returns
returns c = edits_have_levels
