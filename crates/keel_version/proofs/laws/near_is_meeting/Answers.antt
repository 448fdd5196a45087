use Rattle.keel_version.proofs.Ranges.{near_is_meeting}
use Rattle.keel_version.proofs.laws.near_is_meeting.Goals as goal

pub returns : goal.returns
returns c = near_is_meeting
