use Rattle.std.proofs.Common.{rules}
use Rattle.keel_table.proofs.Adding.{ends_closed, ends_open}
use Rattle.keel_table.proofs.builder.Builder.pieces.Goals as goal

pub returns-then-len-eq0-clause-blocks : goal.returns-then-len-eq0-clause-blocks
returns-then-len-eq0-clause-blocks c = λ first last rows given h.
    ends_closed first last rows given c.args.self.now c.in_ok-end.end h (search rules) (search rules) (search rules)

pub returns-then-len-eq0-clause-table : goal.returns-then-len-eq0-clause-table
returns-then-len-eq0-clause-table c = λ first last rows given h. (returns-then-len-eq0-clause-blocks c first last rows given h).0

pub returns-clause-blocks : goal.returns-clause-blocks
returns-clause-blocks c = λ first last rows given h.
    ends_open first last rows given c.args.self.now c.put_check.new.out c.in_ok-closing.closing.entry c.extend.new.self c.in_ok-end-2.end c.in_ok-closing.closing.offset _ h
    (search rules) (search rules) (search rules) (search rules) (search rules) c.in_ok-closing.ensures.blocks (search rules) (search rules)

pub returns-clause-table : goal.returns-clause-table
returns-clause-table c = λ first last rows given h. (returns-clause-blocks c first last rows given h).0
