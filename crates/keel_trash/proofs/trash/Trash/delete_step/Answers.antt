use Rattle.std.proofs.Common.{◌≡◌, ◌∙◌, subst, sym}
use Rattle.keel_trash.specs.declared.deletion.Next.{Next}
use Rattle.keel_trash.specs.declared.deletion.Next.TheVariants.{Delete}
use Rattle.keel_trash.specs.Next.{next_of}
use Rattle.keel_trash.specs.Steps.{Steps}
use Rattle.keel_trash.proofs.Queued.{CanBeMade, next-made}
use Rattle.keel_trash.proofs.Kept.{step-kept}
use Rattle.keel_trash.proofs.trash.Trash.delete_step.Goals as goal

pub delete-requires : goal.delete-requires
delete-requires g c =
    subst (λ (next : Next). CanBeMade next c.args.self.now c.args.space.now) (sym c.next.ensures ∙ c.in-Delete.is)
    (next-made c.args.self.now c.args.space.now c.args.now c.requires)

pub returns-in-Delete-clause-queued : goal.returns-in-Delete-clause-queued
returns-in-Delete-clause-queued g c =
    let next : Delete c.in-Delete.deletion ≡ next_of c.args.self.now c.args.space.now c.args.now = sym c.in-Delete.is ∙ c.next.ensures in
    step-kept c.args.now c.delete.result c.args.self.now c.delete.new.self c.args.space.now c.delete.new.space c.requires
    (subst (λ (n : Next). Steps n c.args.now c.delete.result c.args.self.now c.delete.new.self c.args.space.now c.delete.new.space) next c.delete.ensures.step)
