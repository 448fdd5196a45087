use Rattle.std.proofs.Common.{sym}
use Rattle.std.proofs.lemmas.List.{take_all}
use Rattle.keel_manifest.proofs.current.first_64.Goals as goal

pub returns-then-bytes-le64 : goal.returns-then-bytes-le64
returns-then-bytes-le64 c = sym (take_all 64 c.args.bytes.now c.if-bytes-le64.true)
