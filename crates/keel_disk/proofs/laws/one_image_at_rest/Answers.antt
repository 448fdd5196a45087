use Rattle.keel_disk.proofs.Resting.{rest_has_image, rest_has_one}
use Rattle.keel_disk.proofs.laws.one_image_at_rest.Goals as goal

pub returns : goal.returns
returns c = λ state rest. (rest_has_image state rest, rest_has_one state rest)
