use Rattle.std.proofs.Common.{◌≡◌, length}
use Rattle.keel_script.specs.Reading.{bytes_from}
use Rattle.keel_script.proofs.Spellings.{behind_front}
use Rattle.keel_script.proofs.text.bytes_of.Given as goal

-- the bytes so far and those of the rest are those of the word
abbrev pub invariant-bytes : goal.invariant-bytes
invariant-bytes l = behind_front l.bytes (bytes_from l.rest) ≡ bytes_from l.word

abbrev pub decreases-bytes : goal.decreases-bytes
decreases-bytes l = length l.rest
