use Rattle.std.proofs.Common.{Err, refl, ap, inl}
use Rattle.keel_cli.proofs.Ending.{leaves_now, line_of_command}
use Rattle.keel_cli.proofs.GoingOn.{Progress-blank}
use Rattle.keel_cli.proofs.lines.run_line.Goals as goal

pub returns-then-is_blank-clause-end : goal.returns-then-is_blank-clause-end
returns-then-is_blank-clause-end g c now stands covered =
    (now, stands, Progress-blank now _ c.args.line.now c.requires (c.if-is_blank.ensures.0 refl))

pub returns-in-Ok-clause-end : goal.returns-in-Ok-clause-end
returns-in-Ok-clause-end g c now stands covered =
    line_of_command g.row.V.Denot c.run_command.result now c.run_command.new.driver _ _ c.args.line.now c.in-Ok.command c.requires c.in-Ok.ensures.found
    (c.run_command.ensures.end now stands covered)

pub returns-in-Err-NotACommand-clause-end : goal.returns-in-Err-NotACommand-clause-end
returns-in-Err-NotACommand-clause-end g c now stands covered =
    leaves_now g.row.V.Denot c.args.driver.now now stands (
      record {
        short = c.requires;
        not_blank = λ blank. let is = c.if-is_blank.ensures.1 blank in absurd cc;
        no_command = c.in-Err-NotACommand.ensures.refused (ap Err c.in-Err-NotACommand.field-0-is);
      },
      refl,
      refl,
    )

pub returns-in-Err-OutOfMemory-clause-end : goal.returns-in-Err-OutOfMemory-clause-end
returns-in-Err-OutOfMemory-clause-end g c now stands covered = leaves_now g.row.V.Denot c.args.driver.now now stands (inl refl, refl)
