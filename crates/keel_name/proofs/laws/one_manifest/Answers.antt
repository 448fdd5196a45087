use Rattle.keel_name.proofs.Currents as laws
use Rattle.keel_name.proofs.laws.one_manifest.Goals as goal

pub returns : goal.returns
returns c = laws.one_manifest
