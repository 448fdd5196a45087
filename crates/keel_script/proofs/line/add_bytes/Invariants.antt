use Rattle.std.proofs.Common.{◌≡◌, ◌++◌, length}
use Rattle.std.specs.List.{flat_map}
use Rattle.keel_script.specs.Texts.{printed_byte}
use Rattle.keel_script.proofs.line.add_bytes.Given as goal

-- the line and what is to be printed yet are what it is to be
abbrev pub invariant-bytes : goal.invariant-bytes
invariant-bytes l = l.line ++ flat_map printed_byte l.rest ≡ l.fn.line ++ flat_map printed_byte l.fn.bytes

abbrev pub decreases-bytes : goal.decreases-bytes
decreases-bytes l = length l.rest
