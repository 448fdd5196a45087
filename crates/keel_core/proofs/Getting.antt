-- What a key has is what the machine answers.
use Rattle.std.proofs.Common.{◌≡◌, ℕ, List, [], ◌∷◌, Option, Some, None, Result, Ok, Err, refl, sym, ap, subst, ◌∙◌}
use Rattle.std.specs.FinMap.{get}
use Rattle.std.specs.List.{AllByRecursion}
use Rattle.keel_base.specs.declared.row.Row.{Row}
use Rattle.keel_base.specs.Rows.{newest, value_left}
use Rattle.keel_directory.specs.Sound.{IsAsSaid}
use Rattle.keel_directory.specs.TableFiles.{TableFile, Opens}
use Rattle.keel_disk.specs.Plain.{image_read}
use Rattle.keel_disk.specs.Seen.{IsQuiet, Seen}
use Rattle.keel_disk.specs.Told.{Told}
use Rattle.keel_levels.specs.declared.fault.LevelFault.{LevelFault}
use Rattle.keel_levels.specs.declared.live.LiveTable.{LiveTable}
use Rattle.keel_levels.specs.Live.{AreOpened, AreReadable, IsReadable, ReadsAll, Yields, fault_in, rows_of as level_rows, table_fault, tables_of}
use Rattle.keel_machine.specs.declared.answers.Got.{Got}
use Rattle.keel_machine.specs.declared.answers.Got.TheVariants.{Value, Absent, ReadFault, OutOfMemory}
use Rattle.keel_machine.specs.Reads.{BearsOut, GetAnswers, IsBorne, WhereKnown, contents}
use Rattle.keel_machine.specs.States.{State, Footing, Known, Unknown}
use Rattle.keel_machine.specs.Turns.{Answers, after, Getting}
use Rattle.keel_mem.specs.declared.found.Found.{Found}
use Rattle.keel_mem.specs.Finding.{Finds, ShowsRow}
use Rattle.keel_table.specs.declared.fault.TableFault.{TableFault}
use Rattle.keel_table.specs.declared.fault.TableFault.TheVariants as fault
use Rattle.keel_table.specs.Answers.{fault_in as fault_of}
use Rattle.keel_core.specs.Gets.{IsGot, IsGotOf, else_of, fault_got, latest}
use Rattle.keel_core.specs.Views.{Beyond, BootShown, Cleared, CoreView, Fits, IsLeading, Running, Started, StandsFor, ToStart, TakesRead, last_in, state_of, Closed}
use Rattle.keel_core.proofs.Calling.{quiet_same}
use Rattle.keel_core.proofs.Latest.{newest_of_all}

-- ---- where the device is known

pub where_known : {A B : Type 0} (footing : Footing) → (A → B) → WhereKnown footing A → WhereKnown footing B
where_known Known f holds = f holds
where_known Unknown f holds = tt

pub where_both : {A B C : Type 0} (footing : Footing) → (A → B → C) → WhereKnown footing A → WhereKnown footing B → WhereKnown footing C
where_both Known f one two = f one two
where_both Unknown f one two = tt

pub unknown_then : (footing : Footing) → WhereKnown footing ⊥ → footing ≡ Unknown
unknown_then Known none = absurd none
unknown_then Unknown none = refl

-- ---- what the store contains

pub contents_of : (view : CoreView) (beyond : Beyond) (key : List ℕ) → Fits view beyond → BearsOut (state_of view beyond)
    → get (contents (state_of view beyond)) key ≡ value_left (else_of (latest key view.immutable view.rows) (newest key (level_rows beyond.levels)))
contents_of view beyond key fits bears =
    bears.says key
    ∙ ap value_left (newest_of_all key beyond.in_tables beyond.levels view.immutable beyond.immutable view.rows beyond.active (last_in view) bears.said fits.segments)

each_readable : (told : Told) (n : ℕ) (files : List TableFile) → AllByRecursion (λ (file : TableFile). Opens (image_read told.state) file.entry file) files → AllByRecursion (IsAsSaid n) files
    → AllByRecursion (IsReadable told n) files
each_readable told n [] opens said = tt
each_readable told n (file ∷ files) opens said = (record { opens = opens.0; said = said.0 }, each_readable told n files opens.1 said.1)

pub readable : (view : CoreView) (beyond : Beyond) (bears : BearsOut (state_of view beyond)) → AreReadable bears.told beyond.levels
readable view beyond bears = record { last_seq = beyond.in_tables; each = each_readable bears.told beyond.in_tables beyond.levels bears.tables bears.said }

-- ---- answers

got_answers : (s : State) (key : List ℕ) (left : Option (List ℕ)) (got : Got) (device : Seen) → IsGot left got → WhereKnown s.footing (get (contents s) key ≡ left) → IsQuiet s.device None device
    → GetAnswers s key got device
got_answers s key left (Value value) device is holds quiet = (where_known s.footing (λ e. e ∙ is) holds, quiet)
got_answers s key left Absent device is holds quiet = (where_known s.footing (λ e. e ∙ is) holds, quiet)
got_answers s key left (ReadFault number cause) device is holds quiet = absurd is
got_answers s key left OutOfMemory device is holds quiet = quiet

fault_answers : (P : Option Row → Type 0) (s : State) (key : List ℕ) (number : ℕ) (cause : TableFault) (device : Seen) → WhereKnown s.footing (Yields P (Err cause))
    → IsQuiet s.device (fault_of {T = Option Row} (Err cause)) device → GetAnswers s key (fault_got number cause) device
fault_answers P s key number (fault.Device f) device holds quiet = quiet
fault_answers P s key number fault.Absent device holds quiet = (unknown_then s.footing holds, quiet)
fault_answers P s key number (fault.BadCheck stored computed) device holds quiet = (unknown_then s.footing holds, quiet)
fault_answers P s key number (fault.BadShape place) device holds quiet = (unknown_then s.footing holds, quiet)
fault_answers P s key number fault.OutOfMemory device holds quiet = quiet

stored_answers : (s : State) (key : List ℕ) (result : Result (Option Row) LevelFault) (got : Got) (device : Seen) → IsGotOf result got
    → WhereKnown s.footing (Yields (λ row. get (contents s) key ≡ value_left row) (table_fault result)) → IsQuiet s.device (fault_in result) device → GetAnswers s key got device
stored_answers s key (Ok row) got device is holds quiet = got_answers s key (value_left row) got device is holds quiet
stored_answers s key (Err error) got device is holds quiet =
    subst (λ (g : Got). GetAnswers s key g device) (sym is)
    (fault_answers (λ row. get (contents s) key ≡ value_left row) s key error.number error.fault device holds quiet)

-- ---- a key that a segment has

record IsFound (latest_row : Option Row) (found : Found) : Type 0 where
  row : Row
  is : latest_row ≡ Some row
  shows : ShowsRow row found

found_row : (latest_row : Option Row) (found : Found) → Finds latest_row (Some found) → IsFound latest_row found
found_row None found finds = absurd finds
found_row (Some row) found finds = record { row = row; is = refl; shows = finds }

pub none_found : (latest_row : Option Row) → Finds latest_row None → latest_row ≡ None
none_found None finds = refl
none_found (Some row) finds = absurd finds

pub held_goes : (view : CoreView) (key : List ℕ) (found : Found) (got : Got) → Finds (latest key view.immutable view.rows) (Some found)
    → ((row : Row) → ShowsRow row found → IsGot (value_left (Some row)) got) → TakesRead view (Getting key got) view
held_goes view key found got finds says =
    let f = found_row (latest key view.immutable view.rows) found finds in
    record {
      goes = λ s stands.
          let fits = stands.fits in
          let beyond = stands.beyond in
          subst (λ (t : State). IsBorne t → Answers t (Getting key got) view.device × StandsFor view (after t (Getting key got) view.device)) (sym stands.state_is)
          (λ borne. (
            got_answers (state_of view beyond) key (value_left (Some f.row)) got view.device (says f.row f.shows)
                (where_known beyond.footing (λ (bears : BearsOut (state_of view beyond)). contents_of view beyond key fits bears ∙ ap (λ (o : Option Row). value_left (else_of o (newest key (level_rows beyond.levels)))) f.is) borne)
                (quiet_same view.device),
            record { beyond = beyond; state_is = refl; fits = record { story = fits.story; segments = fits.segments; tables = fits.tables; opened = fits.opened; leads = fits.leads; handled = fits.handled; flushes = fits.flushes } },
          ));
    }

-- ---- a key that no segment has

abbrev pub behind_read : CoreView → Seen → List LiveTable → CoreView
behind_read view device tables = record view { device = device; levels = tables }

pub opened_behind : (view : CoreView) (beyond : Beyond) (tables : List LiveTable) (Says : List TableFile → Type 0) → Fits view beyond
    → ((told : Told) (files : List TableFile) → view.device.told ≡ Some told → AreReadable told files → AreOpened view.levels files → AreOpened tables files × Says files)
    → IsBorne (state_of view beyond) → WhereKnown beyond.footing (AreOpened tables beyond.levels)
opened_behind view beyond tables Says fits reads borne =
    where_both beyond.footing (λ (bears : BearsOut (state_of view beyond)) (opened : AreOpened view.levels beyond.levels).
    (reads bears.told beyond.levels bears.is_told (readable view beyond bears) opened).0) borne fits.opened

pub leads_behind : (boot : BootShown) (old new : List LiveTable) → tables_of new ≡ tables_of old → IsLeading boot old → IsLeading boot new
leads_behind ToStart old new same leads = tt
leads_behind (Running booted resumption) old new same leads = leads ∙ sym same
leads_behind (Started booted) old new same leads = tt
leads_behind Cleared old new same leads = tt
leads_behind (Closed booted) old new same leads = tt

pub says_behind : (view : CoreView) (beyond : Beyond) (tables : List LiveTable) (Says : List TableFile → Type 0) → Fits view beyond
    → ((told : Told) (files : List TableFile) → view.device.told ≡ Some told → AreReadable told files → AreOpened view.levels files → AreOpened tables files × Says files)
    → IsBorne (state_of view beyond) → WhereKnown beyond.footing (Says beyond.levels)
says_behind view beyond tables Says fits reads borne =
    where_both beyond.footing (λ (bears : BearsOut (state_of view beyond)) (opened : AreOpened view.levels beyond.levels).
    (reads bears.told beyond.levels bears.is_told (readable view beyond bears) opened).1) borne fits.opened

pub yields_more : {T : Type 0} (P Q : T → Type 0) → ((value : T) → P value → Q value) → (result : Result T TableFault) → Yields P result → Yields Q result
yields_more P Q more (Ok value) h = more value h
yields_more P Q more (Err (fault.Device f)) h = tt
yields_more P Q more (Err fault.Absent) h = absurd h
yields_more P Q more (Err (fault.BadCheck stored computed)) h = absurd h
yields_more P Q more (Err (fault.BadShape place)) h = absurd h
yields_more P Q more (Err fault.OutOfMemory) h = tt

pub stored_goes : (view : CoreView) (key : List ℕ) (device : Seen) (tables : List LiveTable) (result : Result (Option Row) LevelFault) (got : Got)
    → latest key view.immutable view.rows ≡ None → IsGotOf result got
    → ReadsAll view.device.told view.levels tables (λ files row. row ≡ newest key (level_rows files)) result
    → tables_of tables ≡ tables_of view.levels → IsQuiet view.device (fault_in result) device
    → TakesRead view (Getting key got) (behind_read view device tables)
stored_goes view key device tables result got none is reads same quiet = record {
  goes = λ s stands.
      let fits = stands.fits in
      let beyond = stands.beyond in
      let t : State = state_of view beyond in
      let Says : List TableFile → Type 0 = λ files. Yields (λ (row : Option Row). row ≡ newest key (level_rows files)) (table_fault result) in
      subst (λ (t : State). IsBorne t → Answers t (Getting key got) device × StandsFor (behind_read view device tables) (after t (Getting key got) device)) (sym stands.state_is)
      (λ borne. (
        stored_answers t key result got device is
            (where_both beyond.footing (λ (bears : BearsOut t) (says : Says beyond.levels).
            yields_more (λ (row : Option Row). row ≡ newest key (level_rows beyond.levels)) (λ (row : Option Row). get (contents t) key ≡ value_left row)
            (λ row e. contents_of view beyond key fits bears ∙ ap (λ (o : Option Row). value_left (else_of o (newest key (level_rows beyond.levels)))) none ∙ ap value_left (sym e))
            (table_fault result) says)
            borne (says_behind view beyond tables Says fits reads borne))
            quiet,
        record { beyond = beyond; state_is = refl; fits = record { story = fits.story; segments = fits.segments; tables = same ∙ fits.tables; opened = opened_behind view beyond tables Says fits reads borne; leads = leads_behind view.boot view.levels tables same fits.leads; handled = fits.handled; flushes = fits.flushes } },
      ));
}
