use Rattle.std.proofs.Common.{ℕ, List, ◌++◌, Option, Ok, Err, refl, sym, ap, subst, ◌∙◌}
use Rattle.keel_base.specs.declared.row.Row.{Row}
use Rattle.keel_edit.specs.declared.edit.Added.{Added}
use Rattle.keel_directory.specs.declared.logs.Replayed.{Replayed}
use Rattle.keel_directory.specs.Manifests.{ManifestIs}
use Rattle.keel_directory.specs.TableFiles.{TablesAre}
use Rattle.keel_directory.specs.Replays.{LogsAre, replayed_rows}
use Rattle.keel_directory.specs.Answers.{Names, HoldsAs, ArePairsOf, TableRowsAre}
use Rattle.keel_directory.proofs.Holding.{handed_on, current_refused, manifest_refused, tables_refused, logs_refused, holds}
use Rattle.keel_directory.proofs.reading.held.Goals as goal

pub returns-in_err-manifest : goal.returns-in_err-manifest
returns-in_err-manifest c =
    let image = c.args.files.now in
    let current = c.args.current.now in
    let e = c.in_err-manifest.field-0.0 in
    subst (HoldsAs image current) (sym (handed_on c.from_residual.result e c.from_residual.ensures)) (current_refused image current e c.in_err-manifest.ensures)

pub returns-in_err-version : goal.returns-in_err-version
returns-in_err-version c =
    let image = c.args.files.now in
    let current = c.args.current.now in
    let e = c.in_err-version.field-0.0 in
    let manifest = subst (λ (bytes : Option (List ℕ)). Names e (λ refusal. ManifestIs bytes (Err refusal))) c.find.ensures c.in_err-version.ensures in
    subst (HoldsAs image current) (sym (handed_on c.from_residual-in_err-version.result e c.from_residual-in_err-version.ensures))
    (manifest_refused image current c.in_ok-manifest.manifest e c.in_ok-manifest.ensures manifest)

pub returns-in_err-rows : goal.returns-in_err-rows
returns-in_err-rows c =
    let image = c.args.files.now in
    let current = c.args.current.now in
    let version = c.in_ok-version.version in
    let e = c.in_err-rows.field-0.0 in
    let manifest = subst (λ (bytes : Option (List ℕ)). ManifestIs bytes (Ok version)) c.find.ensures c.in_ok-version.ensures in
    let tables = subst (λ (ts : List Added). Names e (λ refusal. TablesAre image ts (Err refusal))) (c.as_slice.ensures ∙ c.in_ok-tables.ensures.all) c.in_err-rows.ensures in
    subst (HoldsAs image current) (sym (handed_on c.from_residual-in_err-rows.result e c.from_residual-in_err-rows.ensures))
    (tables_refused image current c.in_ok-manifest.manifest version e (record { names = c.in_ok-manifest.ensures; gives = manifest }) tables)

pub returns-in_err-batches : goal.returns-in_err-batches
returns-in_err-batches c =
    let image = c.args.files.now in
    let current = c.args.current.now in
    let version = c.in_ok-version.version in
    let e = c.in_err-batches.field-0.0 in
    let manifest = subst (λ (bytes : Option (List ℕ)). ManifestIs bytes (Ok version)) c.find.ensures c.in_ok-version.ensures in
    let tables = subst (λ (ts : List Added). TableRowsAre image ts (Ok c.in_ok-rows.rows.items)) (c.as_slice.ensures ∙ c.in_ok-tables.ensures.all) c.in_ok-rows.ensures in
    let logs = subst (λ (n : ℕ). Names e (λ refusal. LogsAre image version.min_log n (Err refusal))) c.last_seq.ensures
    (subst (λ (n : ℕ). Names e (λ refusal. LogsAre image n c.last_seq.result (Err refusal))) c.min_log.ensures c.in_err-batches.ensures.answer) in
    subst (HoldsAs image current) (sym (handed_on c.from_residual-in_err-batches.result e c.from_residual-in_err-batches.ensures))
    (logs_refused image current c.in_ok-manifest.manifest version c.in_ok-rows.rows.items e (record { names = c.in_ok-manifest.ensures; gives = manifest }) tables logs)

pub returns : goal.returns
returns c =
    let image = c.args.files.now in
    let current = c.args.current.now in
    let version = c.in_ok-version.version in
    let rows = c.in_ok-rows.rows.items in
    let batches = c.in_ok-batches.batches.items in
    let manifest = subst (λ (bytes : Option (List ℕ)). ManifestIs bytes (Ok version)) c.find.ensures c.in_ok-version.ensures in
    let tables = subst (λ (ts : List Added). TableRowsAre image ts (Ok rows)) (c.as_slice.ensures ∙ c.in_ok-tables.ensures.all) c.in_ok-rows.ensures in
    let logs = subst (λ (n : ℕ). LogsAre image version.min_log n (Ok (record { batches = batches; last = c.in_ok-batches.last }))) c.last_seq.ensures
    (subst (λ (n : ℕ). LogsAre image n c.last_seq.result (Ok (record { batches = batches; last = c.in_ok-batches.last }))) c.min_log.ensures c.in_ok-batches.ensures.answer) in
    let all = c.as_slice-3.ensures.value ∙ c.in_ok-add_batches.ensures ∙ ap (λ (bs : List Replayed). rows ++ replayed_rows bs) c.as_slice-2.ensures.value in
    let pairs = subst (λ (rs : List Row). ArePairsOf rs c.from_vec-pairs.result) all (subst (ArePairsOf c.as_slice-3.result.now) (sym c.from_vec-pairs.ensures) c.in_ok-pairs_of.ensures) in
    holds image current version rows (record { batches = batches; last = c.in_ok-batches.last }) _ (record { names = c.in_ok-manifest.ensures; gives = manifest }) tables logs pairs refl refl
