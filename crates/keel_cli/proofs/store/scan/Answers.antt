use Rattle.std.proofs.Common.{refl}
use Rattle.keel_machine.specs.Turns.{Scanning}
use Rattle.keel_machine.specs.declared.answers.Scanned.TheVariants as scanned
use Rattle.keel_cli.proofs.Carrying.{read_told, scan_cut, scan_faulted, scan_run}
use Rattle.keel_cli.proofs.store.scan.Goals as goal

pub returns-in-Rows-clause-told : goal.returns-in-Rows-clause-told
returns-in-Rows-clause-told g c =
    read_told c.args.core.now c.scan.new.self (Scanning c.as_slice.result.now c.as_slice-2.result.now (scanned.Rows c.in-Rows.rows)) (λ s. refl) c.in-Rows.ensures.turn c.requires

pub returns-in-Rows-clause-out : goal.returns-in-Rows-clause-out
returns-in-Rows-clause-out g c s stands borne =
    scan_run c.args.options.now c.args.core.now c.scan.new.self s stands borne c.args.from.now c.args.to.now c.in-Rows.rows
    (rw (c.as_slice.ensures, c.as_slice-2.ensures) at c.in-Rows.ensures.turn)

pub returns-in-ReadFault-clause-told : goal.returns-in-ReadFault-clause-told
returns-in-ReadFault-clause-told g c =
    read_told c.args.core.now c.scan.new.self (Scanning c.as_slice.result.now c.as_slice-2.result.now (scanned.ReadFault c.in-ReadFault.number c.in-ReadFault.fault)) (λ s. refl)
    c.in-ReadFault.ensures.turn c.requires

pub returns-in-ReadFault-clause-out : goal.returns-in-ReadFault-clause-out
returns-in-ReadFault-clause-out g c s stands borne =
    scan_faulted c.args.options.now c.args.core.now c.scan.new.self s stands borne c.args.from.now c.args.to.now c.in-ReadFault.number c.in-ReadFault.fault c.fault_reply.result c.one.result
    (rw (c.as_slice.ensures, c.as_slice-2.ensures) at c.in-ReadFault.ensures.turn) c.fault_reply.ensures.printed c.fault_reply.ensures.cut c.one.ensures.ok c.one.ensures.err

pub returns-in-OutOfMemory-clause-told : goal.returns-in-OutOfMemory-clause-told
returns-in-OutOfMemory-clause-told g c =
    read_told c.args.core.now c.scan.new.self (Scanning c.as_slice.result.now c.as_slice-2.result.now scanned.OutOfMemory) (λ s. refl) c.in-OutOfMemory.ensures.turn c.requires

pub returns-in-OutOfMemory-clause-out : goal.returns-in-OutOfMemory-clause-out
returns-in-OutOfMemory-clause-out g c s stands borne =
    scan_cut c.args.options.now c.args.core.now c.scan.new.self s stands borne c.args.from.now c.args.to.now
    (rw (c.as_slice.ensures, c.as_slice-2.ensures) at c.in-OutOfMemory.ensures.turn)
