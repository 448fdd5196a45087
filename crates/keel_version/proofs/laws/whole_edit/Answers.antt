use Rattle.keel_version.proofs.Members.{whole_edit}
use Rattle.keel_version.proofs.laws.whole_edit.Goals as goal

pub returns : goal.returns
returns c = whole_edit
