use Rattle.keel_frag.proofs.Words.{shift_word}
use Rattle.keel_frag.proofs.checksum.shifted_by_32.Goals as goal

pub returns : goal.returns
returns c =
    shift_word 0 c.args.word _ _ _ _ c.shifted_byte.ensures c.shifted_byte-2.ensures c.shifted_byte-3.ensures c.shifted_byte-4.ensures
