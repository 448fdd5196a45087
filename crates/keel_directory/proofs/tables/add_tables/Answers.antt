use Rattle.std.proofs.Common.{◌≡◌, ℕ, List, ◌+◌, ◌∷◌, [], ◌++◌, ap, subst, drop, ◌∙◌, append_assoc}
use Rattle.std.specs.List.{flat_map}
use Rattle.keel_base.specs.declared.row.Row.{Row}
use Rattle.keel_disk.specs.Directory.{Named}
use Rattle.keel_edit.specs.declared.edit.Added.{Added}
use Rattle.keel_directory.specs.TableFiles.{TableFile, AllOpen, Opens, table_rows}
use Rattle.keel_directory.proofs.Sliced.{next_item}
use Rattle.keel_directory.proofs.tables.add_tables.Goals as goal

next_open : (image : Named (List ℕ)) (table : Added) (tables : List Added) (left : List TableFile) (before after all : List Row) → AllOpen image (table ∷ tables) left
    → before ++ flat_map table_rows left ≡ all → ((t : TableFile) → Opens image table t → after ≡ before ++ table_rows t)
    → (rest : List TableFile) × AllOpen image tables rest × (after ++ flat_map table_rows rest ≡ all)
next_open image table tables [] before after all opens is added = absurd opens
next_open image table tables (t ∷ ts) before after all opens is added =
    (ts, opens.1, ap (λ (rows : List Row). rows ++ flat_map table_rows ts) (added t opens.0) ∙ append_assoc before (table_rows t) (flat_map table_rows ts) ∙ is)

pub loop-table-preserved : goal.loop-table-preserved
loop-table-preserved c = λ read opens.
    let image = c.args.files.now in
    let i = c.loop-table.table-index in
    let table = c.table-item.result in
    let rest = drop (i + 1) c.args.tables.now in
    let all = next_item c.args.tables.now i table c.loop-table-test.true c.table-item.is in
    let so_far = c.loop-table.invariant read opens in
    next_open image table rest so_far.0 c.loop-table.rows.items c.add_file.new.rows.items _ (subst (λ (tables : List Added). AllOpen image tables so_far.0) all so_far.1) so_far.2 c.in_ok-add_file.ensures
