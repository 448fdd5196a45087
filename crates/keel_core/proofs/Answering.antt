-- What the keys of a range have is what the machine answers.
use Rattle.std.proofs.Common.{◌≡◌, ℕ, ◌++◌, true, List, Result, Ok, Err, refl, sym, subst, ◌∙◌}
use Rattle.keel_base.specs.declared.row.Row.{Row}
use Rattle.keel_directory.specs.TableFiles.{TableFile}
use Rattle.keel_disk.specs.Seen.{IsQuiet, Seen}
use Rattle.keel_levels.specs.declared.fault.ScanFault.{ScanFault}
use Rattle.keel_levels.specs.declared.fault.ScanFault.TheVariants as scan
use Rattle.keel_levels.specs.declared.live.LiveTable.{LiveTable}
use Rattle.keel_levels.specs.Live.{ScansAll, Yields, rows_of as level_rows, scan_fault, tables_of}
use Rattle.keel_levels.specs.Ranges.{between}
use Rattle.keel_machine.specs.declared.answers.Scanned.{Scanned}
use Rattle.keel_machine.specs.Reads.{AreRowsOf, BearsOut, IsBorne, ScanAnswers, WhereKnown, contents}
use Rattle.keel_machine.specs.States.{State}
use Rattle.keel_machine.specs.Turns.{Answers, after, Scanning}
use Rattle.keel_merge.specs.Merging.{IsMergeOf, rows_of as merge_rows}
use Rattle.keel_merge.specs.Order.{EachIsAscending}
use Rattle.keel_table.specs.declared.fault.TableFault.{TableFault}
use Rattle.keel_table.specs.declared.fault.TableFault.TheVariants as fault
use Rattle.keel_table.specs.Answers.{fault_in as fault_of}
use Rattle.keel_core.specs.Scans.{AreRanges, IsScannedOf, rows_held, table_scanned}
use Rattle.keel_core.specs.Views.{CoreView, StandsFor, TakesRead, last_in, state_of}
use Rattle.keel_core.proofs.Getting.{behind_read, leads_behind, opened_behind, says_behind, unknown_then, where_both, where_known, yields_more}
use Rattle.keel_core.proofs.Ranges.{ranges_ascend, rows_of_map}

-- ---- answers

table_answers : (P : List Row → Type 0) (s : State) (from to : List ℕ) (number : ℕ) (cause : TableFault) (device : Seen) → WhereKnown s.footing (Yields P (Err cause))
    → IsQuiet s.device (fault_of {T = List Row} (Err cause)) device → ScanAnswers s from to (table_scanned number cause) device
table_answers P s from to number (fault.Device f) device holds quiet = quiet
table_answers P s from to number fault.Absent device holds quiet = (unknown_then s.footing holds, quiet)
table_answers P s from to number (fault.BadCheck stored computed) device holds quiet = (unknown_then s.footing holds, quiet)
table_answers P s from to number (fault.BadShape place) device holds quiet = (unknown_then s.footing holds, quiet)
table_answers P s from to number fault.OutOfMemory device holds quiet = quiet

scan_answers : (s : State) (from to : List ℕ) (result : Result (List Row) ScanFault) (scanned : Scanned) (device : Seen) → IsScannedOf result scanned
    → WhereKnown s.footing (Yields (AreRowsOf (contents s) from to) (scan_fault result)) → IsQuiet s.device (fault_of (scan_fault result)) device → ScanAnswers s from to scanned device
scan_answers s from to (Ok rows) scanned device is holds quiet =
    subst (λ (a : Scanned). ScanAnswers s from to a device) (sym is) (where_known s.footing (λ (are : AreRowsOf (contents s) from to rows). are) holds, quiet)
scan_answers s from to (Err (scan.Table error)) scanned device is holds quiet =
    subst (λ (a : Scanned). ScanAnswers s from to a device) (sym is)
    (table_answers (AreRowsOf (contents s) from to) s from to error.number error.fault device holds quiet)
scan_answers s from to (Err scan.OutOfMemory) scanned device is holds quiet =
    subst (λ (a : Scanned). ScanAnswers s from to a device) (sym is) quiet

-- ---- a scan

pub scanned_goes : (view : CoreView) (from to : List ℕ) (device : Seen) (tables : List LiveTable) (front : List (List Row)) (result : Result (List Row) ScanFault) (scanned : Scanned)
    → AreRanges from to (rows_held view.immutable view.rows) front → IsScannedOf result scanned
    → (EachIsAscending front → ScansAll view.device.told view.levels tables (λ files rows. IsMergeOf (between from to (level_rows files ++ merge_rows front)) true rows) result)
    → tables_of tables ≡ tables_of view.levels → IsQuiet view.device (fault_of (scan_fault result)) device
    → TakesRead view (Scanning from to scanned) (behind_read view device tables)
scanned_goes view from to device tables front result scanned ranges is scans same quiet = record {
  goes = λ s stands.
      let fits = stands.fits in
      let beyond = stands.beyond in
      let t : State = state_of view beyond in
      let Says : List TableFile → Type 0 = λ files. Yields (λ (rows : List Row). IsMergeOf (between from to (level_rows files ++ merge_rows front)) true rows) (scan_fault result) in
      let reads = scans (ranges_ascend from to (rows_held view.immutable view.rows) front ranges) in
      subst (λ (t : State). IsBorne t → Answers t (Scanning from to scanned) device × StandsFor (behind_read view device tables) (after t (Scanning from to scanned) device)) (sym stands.state_is)
      (λ borne. (
        scan_answers t from to result scanned device is
            (where_both beyond.footing (λ (bears : BearsOut t) (says : Says beyond.levels).
            yields_more (λ (rows : List Row). IsMergeOf (between from to (level_rows beyond.levels ++ merge_rows front)) true rows) (AreRowsOf (contents t) from to)
            (λ rows merged. rows_of_map from to (level_rows beyond.levels) beyond.in_tables view.immutable beyond.immutable view.rows beyond.active (last_in view) front rows (contents t) fits.segments ranges bears.says merged)
            (scan_fault result) says)
            borne (says_behind view beyond tables Says fits reads borne))
            quiet,
        record { beyond = beyond; state_is = refl; fits = record { story = fits.story; segments = fits.segments; tables = same ∙ fits.tables; opened = opened_behind view beyond tables Says fits reads borne; leads = leads_behind view.boot view.levels tables same fits.leads; handled = fits.handled; flushes = fits.flushes } },
      ));
}
