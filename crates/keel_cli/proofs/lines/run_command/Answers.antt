use Rattle.std.proofs.Common.{◌∙◌}
use Rattle.keel_cli.proofs.Ending.{cut_at_call, cut_at_text, written, written_in_part}
use Rattle.keel_cli.proofs.lines.run_command.Goals as goal

pub returns-in_default-clause-end : goal.returns-in_default-clause-end
returns-in_default-clause-end g c now stands covered =
    cut_at_call g.row.V.Denot now c.args.command.now c.answer.new.self _ (rw c.in_default.is at c.answer.ensures now stands covered)

pub returns-in_default-text_of-clause-end : goal.returns-in_default-text_of-clause-end
returns-in_default-text_of-clause-end g c now stands covered =
    cut_at_text g.row.V.Denot now c.args.command.now c.answer.new.self _ c.in-Ok.answer (rw c.in-Ok.is at c.answer.ensures now stands covered)

pub returns-in-Ok-give_all-clause-end : goal.returns-in-Ok-give_all-clause-end
returns-in-Ok-give_all-clause-end g c now stands covered =
    written g.row.V.Denot now c.args.command.now c.answer.new.self (g.K.Sink.held c.args.out.now) c.in-Ok.answer (g.K.Sink.held c.give_all.new.sink) c.as_slice.result.now
    (rw c.in-Ok.is at c.answer.ensures now stands covered) (c.as_slice.ensures ∙ c.in-Ok-text_of.ensures) c.in-Ok-give_all.ensures.bytes

pub returns-clause-end : goal.returns-clause-end
returns-clause-end g c now stands covered =
    written_in_part g.row.V.Denot now c.args.command.now c.answer.new.self (g.K.Sink.held c.args.out.now) c.in-Ok.answer (g.K.Sink.held c.give_all.new.sink) c.as_slice.result.now
    (rw c.in-Ok.is at c.answer.ensures now stands covered) (c.as_slice.ensures ∙ c.in-Ok-text_of.ensures) c.in-Err.ensures.bytes
