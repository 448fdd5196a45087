-- What a look-up answers.
use Rattle.std.proofs.Common.{◌≡◌, Option, Some, None, sym, subst}
use Rattle.keel_base.specs.declared.row.Row.{Row}
use Rattle.keel_mem.specs.declared.found.Found.{Found}
use Rattle.keel_mem.specs.Finding.{ShowsRow, Finds}

pub finds_none : (newest : Option Row) (found : Option Found) → newest ≡ None → found ≡ None → Finds newest found
finds_none None None e f = tt
finds_none None (Some found) e f = absurd cc
finds_none (Some row) found e f = absurd cc

pub finds_some : (newest : Option Row) (row : Row) (found : Found) → newest ≡ Some row → ShowsRow row found → Finds newest (Some found)
finds_some newest row found e shows = subst (λ (o : Option Row). Finds o (Some found)) (sym e) shows
