use Rattle.std.proofs.Common.{refl}
use Rattle.keel_machine.specs.Turns.{Getting}
use Rattle.keel_machine.specs.declared.answers.Got.TheVariants as got
use Rattle.keel_cli.proofs.Carrying.{read_run, read_cut, read_faulted, read_told}
use Rattle.keel_cli.proofs.store.get.Goals as goal

pub returns-in-Value-clause-told : goal.returns-in-Value-clause-told
returns-in-Value-clause-told g c = read_told c.args.core.now c.get.new.self (Getting c.as_slice.result.now (got.Value c.in-Value.value)) (λ s. refl) c.in-Value.ensures.turn c.requires

pub returns-in-Value-clause-out : goal.returns-in-Value-clause-out
returns-in-Value-clause-out g c s stands borne =
    read_run c.args.options.now c.args.core.now c.get.new.self s stands borne c.args.key.now (got.Value c.in-Value.value) _ (rw c.as_slice.ensures at c.in-Value.ensures.turn) refl

pub returns-in-Absent-clause-told : goal.returns-in-Absent-clause-told
returns-in-Absent-clause-told g c = read_told c.args.core.now c.get.new.self (Getting c.as_slice.result.now got.Absent) (λ s. refl) c.in-Absent.ensures.turn c.requires

pub returns-in-Absent-clause-out : goal.returns-in-Absent-clause-out
returns-in-Absent-clause-out g c s stands borne =
    read_run c.args.options.now c.args.core.now c.get.new.self s stands borne c.args.key.now got.Absent _ (rw c.as_slice.ensures at c.in-Absent.ensures.turn) refl

pub returns-in-ReadFault-clause-told : goal.returns-in-ReadFault-clause-told
returns-in-ReadFault-clause-told g c =
    read_told c.args.core.now c.get.new.self (Getting c.as_slice.result.now (got.ReadFault c.in-ReadFault.number c.in-ReadFault.fault)) (λ s. refl) c.in-ReadFault.ensures.turn c.requires

pub returns-in-ReadFault-clause-out : goal.returns-in-ReadFault-clause-out
returns-in-ReadFault-clause-out g c s stands borne =
    read_faulted c.args.options.now c.args.core.now c.get.new.self s stands borne c.args.key.now c.in-ReadFault.number c.in-ReadFault.fault c.fault_reply.result c.one.result
    (rw c.as_slice.ensures at c.in-ReadFault.ensures.turn) c.fault_reply.ensures.printed c.fault_reply.ensures.cut c.one.ensures.ok c.one.ensures.err

pub returns-in-OutOfMemory-clause-told : goal.returns-in-OutOfMemory-clause-told
returns-in-OutOfMemory-clause-told g c = read_told c.args.core.now c.get.new.self (Getting c.as_slice.result.now got.OutOfMemory) (λ s. refl) c.in-OutOfMemory.ensures.turn c.requires

pub returns-in-OutOfMemory-clause-out : goal.returns-in-OutOfMemory-clause-out
returns-in-OutOfMemory-clause-out g c s stands borne =
    read_cut c.args.options.now c.args.core.now c.get.new.self s stands borne c.args.key.now (rw c.as_slice.ensures at c.in-OutOfMemory.ensures.turn)
