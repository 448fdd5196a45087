use Rattle.std.proofs.Common.{refl, sym, subst, ◌∙◌, arith}
use Rattle.std.specs.Prelude.{Option}
use Rattle.keel_listing.specs.declared.logs.ListedLog.{ListedLog}
use Rattle.keel_listing.specs.Logs.{IsNextIn}
use Rattle.keel_listing.proofs.Choosing.{same_number, kept, not_nearer, first_log, nearer_still}
use Rattle.keel_listing.proofs.logs.nearer.Goals as goal

pub returns-in_default : goal.returns-in_default
returns-in_default c = λ front h. kept front c.args.least c.args.chosen c.args.entry (λ number low. c.in_default.not-Log number) h

pub returns-then-number-least : goal.returns-then-number-least
returns-then-number-least c = λ front h.
    kept front c.args.least c.args.chosen c.args.entry (λ number low e. omega (arith, same_number c.in-Log.number number (sym c.in-Log.is ∙ e), low, c.if-number-least.true)) h

pub returns-in-None : goal.returns-in-None
returns-in-None c = λ front h.
    first_log front c.args.least (record { number = c.in-Log.number; size = c.args.entry.size }) c.args.entry c.in-Log.is refl c.if-number-least.false
    (subst (λ (o : Option ListedLog). IsNextIn front c.args.least o) c.in-None.is h)

pub returns-then-number-before : goal.returns-then-number-before
returns-then-number-before c = λ front h.
    nearer_still front c.args.least c.in-Some.before (record { number = c.in-Log.number; size = c.args.entry.size }) c.args.entry c.in-Log.is refl c.if-number-least.false c.if-number-before.true
    (subst (λ (o : Option ListedLog). IsNextIn front c.args.least o) c.in-Some.is h)

pub returns-else-number-before : goal.returns-else-number-before
returns-else-number-before c = λ front h.
    not_nearer front c.args.least c.in-Log.number c.in-Some.before c.args.entry c.in-Log.is c.if-number-before.false
    (subst (λ (o : Option ListedLog). IsNextIn front c.args.least o) c.in-Some.is h)
