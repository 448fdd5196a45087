use Rattle.keel_frag.proofs.Words.{shift_two}
use Rattle.keel_frag.proofs.checksum.shift_eight.Goals as goal

pub returns : goal.returns
returns c =
    shift_two c.args.bytes.now c.args.register _ _ _ _ c.requires (λ i. (c.type_inv.bytes i).fits)
    c.from_le_bytes-first.ensures c.from_le_bytes-second.ensures c.shifted_by_64.ensures c.shifted_by_32.ensures
