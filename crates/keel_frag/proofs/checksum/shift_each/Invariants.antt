use Rattle.std.proofs.Common.{◌≡◌, take}
use Rattle.std.specs.Prelude.{fold}
use Rattle.keel_frag.specs.Checksum.{shift_byte}
use Rattle.keel_frag.proofs.checksum.shift_each.Given as goal

abbrev pub invariant-loop-byte : goal.invariant-loop-byte
invariant-loop-byte l = l.register ≡ fold shift_byte l.fn.register (take l.byte-index l.bytes)
