use Rattle.std.proofs.Common.{◌≡◌, ◌≤◌, ℕ, List, take, length, ap, sym, subst, ◌∙◌, arith}
use Rattle.std.specs.Prelude.{map}
use Rattle.std.proofs.lemmas.List.{take_all}
use Rattle.keel_edit.specs.declared.edit.Added.{Added}
use Rattle.keel_levels.specs.Live.{AreOpened, tables_of}
use Rattle.keel_levels.specs.declared.live.LiveTable.{LiveTable}
use Rattle.keel_levels.proofs.Turning.{closed, their_entries, not_open}
use Rattle.keel_levels.proofs.levels.Levels.new.Goals as goal

all_taken : (n : ℕ) (entries : List Added) (lives : List LiveTable) → lives ≡ map closed (take n entries) → length entries ≤ n → lives ≡ map closed entries
all_taken n entries lives is all = is ∙ ap (map closed) (take_all n entries all)

pub returns-clause-tables : goal.returns-clause-tables
returns-clause-tables c =
    let e = all_taken c.entries.entry-index c.args.entries.now c.entries.tables.items c.entries.invariant (omega arith) in
    ap tables_of e ∙ their_entries c.args.entries.now

pub returns-clause-opened : goal.returns-clause-opened
returns-clause-opened c = λ files same.
    let e = all_taken c.entries.entry-index c.args.entries.now c.entries.tables.items c.entries.invariant (omega arith) in
    subst (λ (lives : List LiveTable). AreOpened lives files) (sym e) (not_open c.args.entries.now files same)
