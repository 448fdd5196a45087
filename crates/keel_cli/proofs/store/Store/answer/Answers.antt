use Rattle.std.proofs.Common.{◌≡◌, ◌∙◌, None, ap, subst, sym}
use Rattle.keel_cli.specs.Cuts.{CarriedOut}
use Rattle.keel_cli.specs.Jobs.{Driven, driven}
use Rattle.keel_cli.specs.Replies.{replies_of}
use Rattle.keel_cli.specs.Runs.{CarriesOnStore, rest_reply}
use Rattle.keel_cli.specs.Stores.{Stands, Open, is_one_open}
use Rattle.keel_script.specs.declared.command.Command.{Command}
use Rattle.keel_script.specs.declared.command.Command.TheVariants.{Close}
use Rattle.keel_cli.proofs.Carrying.{close_runs, covered_borne, has_arranged, open_as, open_where_closed, rested}
use Rattle.keel_cli.proofs.store.Store.answer.Goals as goal

pub returns-in-Some : goal.returns-in-Some
returns-in-Some g c s stands covered =
    rested c.args.options.now s c.args.command.now c.args.self.now c.in-Some.reply (rw c.is_open.ensures at c.in-Some.ensures) stands

pub returns-in-Open-held : goal.returns-in-Open-held
returns-in-Open-held g c s stands covered =
    let core = c.in-Open-held.core in
    let stood : Stands (Open core c.in-Open-held.jobs) s = rw (← c.self.view_is, c.in-Open-held.is) at stands in
    let same : driven s.state c.in-Open-held.jobs ≡ s = ap (driven s.state) (sym stood.1) in
    subst (λ (d : Driven). CarriedOut c.args.options.now d c.args.command.now (Open c.answer_on.new.core c.answer_on.new.jobs) c.answer_on.result) same
    (c.answer_on.ensures.out s.state stood.0 (covered_borne core s.state stood.0 covered))

pub returns-in-Some-rule_of : goal.returns-in-Some-rule_of
returns-in-Some-rule_of g c s stands covered =
    let w = c.in-Some-rule_of in
    has_arranged c.args.options.now s c.args.command.now w.rule c.arrange.new.self (sym w.ensures) c.arrange.result c.arranged_reply.result c.one.result
    (c.arrange.ensures s stands) c.arranged_reply.ensures.printed c.arranged_reply.ensures.cut c.one.ensures.ok c.one.ensures.err

pub returns-in-Close : goal.returns-in-Close
returns-in-Close g c s stands covered =
    let run = c.close.ensures s stands in
    let none : rest_reply (is_one_open c.args.self.now) Close ≡ None = rw (c.is_open.ensures, c.in-Close.is) at (sym c.rest_reply.ensures ∙ c.in_default.is) in
    let opened = open_as c.args.self.now s stands ∙ open_where_closed (is_one_open c.args.self.now) none in
    (run.0, run.1, subst (λ (command : Command). CarriesOnStore c.args.options.now s command (replies_of c.close.result) run.0) (sym c.in-Close.is) (close_runs c.args.options.now s run.0 (replies_of c.close.result) opened run.2))
