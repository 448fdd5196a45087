use Rattle.keel_table.specs.Walking.{key_asked}
use Rattle.keel_table.proofs.Walk.{Walked}
use Rattle.keel_table.proofs.reading.rows_at.Given as goal

abbrev pub invariant-loop : goal.invariant-loop
invariant-loop l = Walked (key_asked l.asked) l.end l.counter l.before l.last l.bytes l.key l.rest l.rows
