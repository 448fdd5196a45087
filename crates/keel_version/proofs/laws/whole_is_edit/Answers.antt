use Rattle.keel_version.proofs.Coming.{whole_is_edit}
use Rattle.keel_version.proofs.laws.whole_is_edit.Goals as goal

pub returns : goal.returns
returns c = whole_is_edit
