use Rattle.std.proofs.Common.{List, ◌++◌, Option, Ok, sym, ap, subst, ◌∙◌}
use Rattle.std.specs.List.{flat_map}
use Rattle.keel_base.specs.declared.row.Row.{Row}
use Rattle.keel_directory.specs.Refusals.{Refusal}
use Rattle.keel_directory.specs.TableFiles.{TablesGive, table_rows}
use Rattle.keel_directory.proofs.Opening.{all_open}
use Rattle.keel_directory.proofs.tables.table_rows.Goals as goal

pub returns : goal.returns
returns c =
    let files = c.args.files.now in
    let tables = c.args.tables.now in
    let read = all_open files tables c.in_ok-check_tables.ensures.ok in (
      read.0,
      subst (λ (refusal : Option Refusal). TablesGive refusal files tables (Ok read.0)) (sym c.in_ok-check_tables.ensures.ok) read.1,
      c.in_ok-add_tables.ensures read.0 read.1 ∙ ap (λ (rows : List Row). rows ++ flat_map table_rows read.0) c.new-rows.ensures.items,
    )
