use Rattle.std.proofs.Common.{◌≡◌, ◌+◌, List, ℕ, not, drop}
use Rattle.std.specs.List.{prefix_len}
use Rattle.keel_base.specs.Keys.{key_lt}
use Rattle.keel_directory.proofs.newest.place_of.Given as goal

-- the keys of all pairs so far aren't over that one
abbrev pub invariant-loop-pair : goal.invariant-loop-pair
invariant-loop-pair l = record {
  counted : l.place ≡ l.pair-index;
  rest : l.place + prefix_len (λ (pair : List ℕ × List ℕ). not (key_lt l.key pair.0)) (drop l.pair-index l.pairs) ≡ prefix_len (λ (pair : List ℕ × List ℕ). not (key_lt l.key pair.0)) l.pairs;
}
