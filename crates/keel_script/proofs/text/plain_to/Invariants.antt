use Rattle.std.proofs.Common.{◌≡◌, ℕ, ◌<◌, ◌≤◌, ◌-◌, true, get_or, length}
use Rattle.keel_script.specs.Texts.{is_plain}
use Rattle.keel_script.proofs.text.plain_to.Given as goal

abbrev pub invariant-bytes : goal.invariant-bytes
invariant-bytes l = record {
  behind : l.from ≤ l.count;
  within : l.count ≤ length l.bytes;
  plain : (k : ℕ) → l.from ≤ k → k < l.count → is_plain (get_or l.bytes k 0) ≡ true;
}

abbrev pub decreases-bytes : goal.decreases-bytes
decreases-bytes l = length l.bytes - l.count
