use Rattle.keel_frag.proofs.Examples.{thirty_two_bytes, nine_digits, full_record, empty_first, empty_full, zeros_first}
use Rattle.keel_frag.proofs.laws.worked.Goals as goal

pub returns : goal.returns
returns c = record { thirty_two_bytes = thirty_two_bytes; nine_digits = nine_digits; full_record = full_record; empty_first = empty_first; empty_full = empty_full; zeros_first = zeros_first }
