-- The worked examples, by computing.
use Rattle.std.proofs.Common.{refl}
use Rattle.keel_frag.specs.Checksum.{crc32c, mask, shift_bits, shift_bit}
use Rattle.keel_frag.specs.Pieces.{fragment_bytes}
use Rattle.keel_frag.specs.Writing.{record_bytes, fragments_of}
use Rattle.keel_frag.specs.Worked.{ThirtyTwoBytes, NineDigits, FullRecord, EmptyFirst, EmptyFull, ZerosFirst}

pub thirty_two_bytes : ThirtyTwoBytes
unfolding crc32c shift_bits shift_bit
thirty_two_bytes = (refl, refl)

pub nine_digits : NineDigits
unfolding crc32c mask shift_bits shift_bit
nine_digits = (refl, refl)

pub full_record : FullRecord
unfolding record_bytes fragments_of fragment_bytes crc32c mask shift_bits shift_bit
full_record = refl

pub empty_first : EmptyFirst
unfolding record_bytes fragments_of fragment_bytes crc32c mask shift_bits shift_bit
empty_first = refl

pub empty_full : EmptyFull
unfolding record_bytes fragments_of fragment_bytes crc32c mask shift_bits shift_bit
empty_full = refl

pub zeros_first : ZerosFirst
unfolding record_bytes fragments_of fragment_bytes crc32c mask shift_bits shift_bit
zeros_first = refl
