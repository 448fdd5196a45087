-- Behind a flush the log of its segment is needed no more.
use Rattle.std.proofs.Common.{◌≡◌, ℕ, ◌+◌, ◌<◌, ◌≤◌, Bool, true, false, if◌then◌else◌, List, [], ◌∷◌, length, take, Some, Ok, refl, sym, ap, subst, ◌∙◌, arith, inl}
use Rattle.std.specs.Prelude.{nat_le}
use Rattle.std.proofs.lemmas.Bool.{le-leb, leb-false, lt-leb, ne_eqb}
use Rattle.keel_base.specs.declared.file_name.FileName.TheVariants.{Table}
use Rattle.keel_batch.specs.Batches.{AreBatches}
use Rattle.keel_disk.specs.State.{State, file_at}
use Rattle.keel_directory.specs.TableFiles.{TableFile, open_sized}
use Rattle.keel_draft.specs.Drafts.{IsDraftOf, bytes_in}
use Rattle.keel_edit.specs.declared.edit.Added.{Added}
use Rattle.keel_flush.specs.Plans.{Job, number_of}
use Rattle.keel_machine.specs.Flushing.{levels_with}
use Rattle.keel_machine.specs.States.{Story, entries_in}
use Rattle.keel_version.specs.Tables.{Contents}
use Rattle.keel_recovery.specs.Chains.{Chained, OthersEmpty}
use Rattle.keel_recovery.specs.FlushEdits.{FlushEnds, IsInUse}
use Rattle.keel_recovery.specs.FlushFiles.{IsFast}
use Rattle.keel_recovery.specs.Keeping.{AreLive, Keeps}
use Rattle.keel_recovery.specs.Roots.{AreFirmTables, AreRoots, BeginsAt, IsFirmTable, IsRoot, Say, Way, first_from, point_at}
use Rattle.keel_recovery.proofs.BootSaysTables.{draft_opens}
use Rattle.keel_recovery.proofs.FlushEditing.{only_way}
use Rattle.keel_recovery.proofs.FlushGiving.{levels_firm}
use Rattle.keel_recovery.proofs.FlushPlaces.{first_limits, some_ops, stored_behind}
use Rattle.keel_recovery.proofs.Passing.{same_file}

-- ---- the tables of a version are those of its files

firm_one : (state : State) (table : Added) (found other : TableFile) → IsFirmTable state table found → IsFirmTable state table other → found ≡ other
firm_one state table found other is too =
    let same : is.file ≡ too.file = same_file (Table table.number) is.file too.file state is.steady too.steady in
    let entries : found.entry ≡ other.entry = is.entry ∙ sym too.entry in
    let bytes : found.bytes ≡ other.bytes = sym is.held.meant ∙ ap (λ (n : ℕ). (file_at n state.files).meant) same ∙ too.held.meant in
    let opened : Ok found.file ≡ Ok other.file = sym is.opens ∙ ap (open_sized table.size) bytes ∙ too.opens in
    let files : found.file ≡ other.file = cc in
    λ i. record { entry = entries i; bytes = bytes i; file = files i }

firm_same : (state : State) (tables : List Added) (found others : List TableFile) → AreFirmTables state tables found → AreFirmTables state tables others → found ≡ others
firm_same state [] [] [] are too = refl
firm_same state [] [] (other ∷ others) are too = absurd too
firm_same state [] (one ∷ found) others are too = absurd are
firm_same state (table ∷ tables) [] others are too = absurd are
firm_same state (table ∷ tables) (one ∷ found) [] are too = absurd too
firm_same state (table ∷ tables) (one ∷ found) (other ∷ others) are too =
    let here = firm_one state table one other are.0 too.0 in
    let rest = firm_same state tables found others are.1 too.1 in
    λ i. here i ∷ rest i

-- ---- logs without the first

-- where a version reads no log so low, its root begins as without that
begins_without : (least place : ℕ) (first : Chained) (logs : List Chained) (story : Story) → first.number < least → BeginsAt place (first_from least (first ∷ logs)) story → BeginsAt place (first_from least logs) story
begins_without least place first logs story low begins =
    let skips : nat_le least first.number ≡ false = lt-leb least first.number low in
    rw skips at begins

others_without : (least : ℕ) (first : Chained) (logs : List Chained) (state : State) → first.number < least → OthersEmpty least (first ∷ logs) state → OthersEmpty least logs state
others_without least first logs state low others = λ count n file above none found.
    others count n file above (rw (ne_eqb first.number n (λ same. omega (arith, same, above, low))) none) found

-- a root that begins behind the first log's batches doesn't read it
reads_less : (least place : ℕ) (first : Chained) (logs : List Chained) (story : Story) → BeginsAt place (first_from least (first ∷ logs)) story → (place ≡ first.before → ⊥) → first.number < least
reads_less least place first logs story begins apart = by (nat_le least first.number) refl begins
  where
    by : (b : Bool) → nat_le least first.number ≡ b → BeginsAt place (if b then Some first else first_from least logs) story → first.number < least
    by true is begins = absurd (apart begins)
    by false is begins = leb-false least first.number is

module _ (way : Way) (place in_tables next_file : ℕ) (first next : Chained) (rest : List Chained) (levels : List TableFile) (story : Story) (job : Job) (state : State)
    (h : Keeps (way ∷ []) place (first ∷ next ∷ rest) levels story next_file state) (firm : way.firm ≡ length way.edits)
    (in_use : IsInUse way (levels_with job levels) job.draft.last next.number next_file) (to : (point_at place story).seq ≡ in_tables) (draft : IsDraftOf in_tables first.batches job.draft)
    (some : 1 ≤ length first.batches) (published : place + length first.batches ≤ length story.log) (fast : IsFast (number_of job) (bytes_in job.draft) state) where
  abbrev later : ℕ
  later = place + length first.batches

  abbrev logs : List Chained
  logs = next ∷ rest

  root_now : IsRoot (take way.firm way.edits) (first ∷ logs) story next_file state
  root_now = h.roots way (inl refl) way.firm (omega arith) (omega (arith, firm))

  same_version : root_now.version ≡ in_use.version
  same_version = let e = sym root_now.is_version ∙ in_use.is_version in cc

  last : root_now.version.last_seq ≡ job.draft.last
  last = ap (λ (v : Contents). v.last_seq) same_version ∙ in_use.last

  -- more than the tables had before
  over : in_tables < root_now.version.last_seq
  over =
      let limits : AreBatches in_tables first.batches = subst (λ (n : ℕ). AreBatches n first.batches) to (first_limits place first logs story state h.stored) in
      omega (arith, last, draft.last, some_ops in_tables first.batches some limits)

  reads_no_first : first.number < root_now.version.min_log
  reads_no_first =
      reads_less root_now.version.min_log root_now.place first logs story root_now.begins
      (λ at_first.
      let here : root_now.place ≡ place = at_first ∙ h.stored.in_turn.0 in
      omega (arith, over, root_now.ends, ap (λ (n : ℕ). (point_at n story).seq) here, to))

  begins : BeginsAt root_now.place (first_from root_now.version.min_log logs) story
  begins = begins_without root_now.version.min_log root_now.place first logs story reads_no_first root_now.begins

  root_behind : IsRoot (take way.firm way.edits) logs story next_file state
  root_behind = record {
    version = root_now.version;
    is_version = root_now.is_version;
    place = root_now.place;
    published = root_now.published;
    ends = root_now.ends;
    tables = root_now.tables;
    firm = root_now.firm;
    say = root_now.say;
    begins = begins;
    others = others_without root_now.version.min_log first logs state reads_no_first root_now.others;
    log_drawn = root_now.log_drawn;
    drawn = root_now.drawn;
  }

  roots : AreRoots way logs story next_file state
  roots count least most =
      let all : way.firm ≡ count = omega (arith, firm, least, most) in
      subst (λ (n : ℕ). IsRoot (take n way.edits) logs story next_file state) all root_behind

  -- ---- the tables in use

  tables_firm : AreFirmTables state (entries_in (levels_with job levels)) (levels_with job levels)
  tables_firm = levels_firm levels job next.number state h.live.firm fast (draft_opens in_tables (number_of job) first.batches job.draft draft)

  same_tables : root_now.tables ≡ levels_with job levels
  same_tables =
      let named : root_now.version.tables ≡ entries_in (levels_with job levels) = ap (λ (v : Contents). v.tables) same_version ∙ in_use.tables in
      firm_same state (entries_in (levels_with job levels)) root_now.tables (levels_with job levels)
      (subst (λ (tables : List Added). AreFirmTables state tables root_now.tables) named root_now.firm) tables_firm

  -- its logs begin with the next one
  at_later : root_now.place ≡ later
  at_later =
      let low : root_now.version.min_log ≤ next.number = omega (arith, ap (λ (v : Contents). v.min_log) same_version, in_use.min_log) in
      let takes : nat_le root_now.version.min_log next.number ≡ true = le-leb root_now.version.min_log next.number low in
      let at_next : root_now.place ≡ next.before = rw takes at begins in
      at_next ∙ h.stored.in_turn.2.0

  live : AreLive later (levels_with job levels) story state
  live =
      let said : Say root_now.version.last_seq (levels_with job levels) (point_at root_now.place story) = subst (λ (tables : List TableFile). Say root_now.version.last_seq tables (point_at root_now.place story)) same_tables root_now.say in
      let ends : Say (point_at root_now.place story).seq (levels_with job levels) (point_at root_now.place story) = subst (λ (n : ℕ). Say n (levels_with job levels) (point_at root_now.place story)) root_now.ends said in
      record {
        firm = tables_firm;
        say = subst (λ (n : ℕ). Say (point_at n story).seq (levels_with job levels) (point_at n story)) at_later ends;
      }

  pub ends_so : Keeps (way ∷ []) later logs (levels_with job levels) story next_file state
  ends_so = record {
    go = h.go;
    roots = λ other one. subst (λ (w : Way). AreRoots w logs story next_file state) (sym (only_way way other one)) roots;
    live = live;
    stored = stored_behind place first logs story state h.stored published;
    drawn = h.drawn;
    read = h.read;
  }

pub flush_ends : FlushEnds
flush_ends way place in_tables next_file first next rest levels story job state h firm in_use to draft some published fast numbered =
    ends_so way place in_tables next_file first next rest levels story job state h firm in_use to draft some published fast
