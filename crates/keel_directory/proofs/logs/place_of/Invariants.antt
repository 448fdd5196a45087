use Rattle.std.proofs.Common.{◌≡◌, ◌+◌, drop, nat_lt}
use Rattle.std.specs.List.{prefix_len}
use Rattle.keel_directory.specs.declared.logs.LogFile.{LogFile}
use Rattle.keel_directory.proofs.logs.place_of.Given as goal

-- all logs so far have a lesser number
abbrev pub invariant-loop-log : goal.invariant-loop-log
invariant-loop-log l = record {
  counted : l.place ≡ l.log-index;
  rest : l.place + prefix_len (λ (log : LogFile). nat_lt log.number l.number) (drop l.log-index l.logs) ≡ prefix_len (λ (log : LogFile). nat_lt log.number l.number) l.logs;
}
