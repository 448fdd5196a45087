use Rattle.keel_disk.proofs.CrashViews.{mid_image, mid_plain}
use Rattle.keel_disk.proofs.laws.crash_inside_call.Goals as goal

pub returns-clause-images : goal.returns-clause-images
returns-clause-images c = mid_image

pub returns-clause-plain : goal.returns-clause-plain
returns-clause-plain c = mid_plain
