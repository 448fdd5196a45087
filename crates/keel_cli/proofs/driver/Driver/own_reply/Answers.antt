use Rattle.keel_cli.proofs.driver.Driver.own_reply.Goals as goal

pub returns-in-SetOption-clause-out : goal.returns-in-SetOption-clause-out
returns-in-SetOption-clause-out g c = rw c.in-SetOption.is c.set_option.ensures.out

pub returns-in-Tick-clause-out : goal.returns-in-Tick-clause-out
returns-in-Tick-clause-out g c = rw c.in-Tick.is c.pass.ensures.out
