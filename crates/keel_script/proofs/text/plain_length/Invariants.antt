use Rattle.std.proofs.Common.{◌≡◌, ℕ, ◌<◌, ◌≤◌, ◌-◌, true, get_or, length}
use Rattle.keel_script.specs.Texts.{is_plain}
use Rattle.keel_script.proofs.text.plain_length.Given as goal

abbrev pub invariant-eights : goal.invariant-eights
invariant-eights l = record {
  within : l.count ≤ length l.bytes;
  plain : (k : ℕ) → k < l.count → is_plain (get_or l.bytes k 0) ≡ true;
}

abbrev pub decreases-eights : goal.decreases-eights
decreases-eights l = length l.bytes - l.count
