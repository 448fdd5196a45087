use Rattle.std.proofs.Common.{List, Option, Ok, Err, subst}
use Rattle.keel_disk.specs.Told.{Told}
use Rattle.keel_edit.specs.declared.edit.Added.{Added}
use Rattle.keel_open.specs.TableAnswers.{TablesTell}
use Rattle.keel_open.proofs.Basing.{edits_refused, tables_refused, base_tells}
use Rattle.keel_open.proofs.base.with_current.Goals as goal

pub returns-in-Err-clause-base : goal.returns-in-Err-clause-base
returns-in-Err-clause-base g c = edits_refused (g.D.Disk.seen c.args.disk.now).told c.args.number c.in-Err.refusal c.requires.current c.in-Err.ensures.edits

pub returns-in-Err-check_tables-clause-base : goal.returns-in-Err-check_tables-clause-base
returns-in-Err-check_tables-clause-base g c =
    let told = (g.D.Disk.seen c.args.disk.now).told in
    let e = c.in-Err-check_tables.refusal in
    let read = subst (λ (t : Option Told). TablesTell t c.as_slice-2.result.now (Err e)) c.in-Ok.ensures.quiet.same c.in-Err-check_tables.ensures.tables in
    tables_refused told c.args.number c.in-Ok.edits e c.requires.current c.in-Ok.ensures.edits (subst (λ (tables : List Added). TablesTell told tables (Err e)) c.as_slice-2.ensures.all read)

pub returns-clause-base : goal.returns-clause-base
returns-clause-base g c =
    let told = (g.D.Disk.seen c.args.disk.now).told in
    let read = subst (λ (t : Option Told). TablesTell t c.as_slice-2.result.now (Ok tt)) c.in-Ok.ensures.quiet.same c.in-Ok-check_tables.ensures.tables in
    base_tells told c.args.number c.in-Ok.edits c.next_file-next_file.result c.args.listing c.requires.current c.in-Ok.ensures.edits
    (subst (λ (tables : List Added). TablesTell told tables (Ok tt)) c.as_slice-2.ensures.all read)
