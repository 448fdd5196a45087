-- The edit of a flush gives a version that the logs go on from.
use Rattle.std.proofs.Common.{◌≡◌, inl, ℕ, ◌+◌, ◌<◌, ◌≤◌, true, false, List, [], ◌∷◌, ◌++◌, length, take, Some, None, Result, Ok, refl, sym, ap, subst, ◌∙◌, arith}
use Rattle.std.specs.Prelude.{All, nat_le}
use Rattle.std.specs.List.{AllByRecursion, flat_map}
use Rattle.std.proofs.Math.Seq.{take-length}
use Rattle.std.proofs.lemmas.Bool.{le-leb, lt-leb}
use Rattle.std.proofs.lemmas.List.{append-nil}
use Rattle.std.proofs.lemmas.List.Elements.{All-cons, All-nil}
use Rattle.keel_base.specs.declared.limits.TheConstants.{LAST_NUMBER}
use Rattle.keel_base.specs.declared.op.Op.{Op}
use Rattle.keel_base.specs.declared.row.Row.{Row}
use Rattle.keel_base.specs.Name.{IsFileNumber}
use Rattle.keel_base.specs.Points.{Point, fold_batches}
use Rattle.keel_base.specs.Rows.{IsMapOf}
use Rattle.keel_batch.specs.Batches.{AreBatches}
use Rattle.keel_disk.specs.State.{State}
use Rattle.keel_directory.specs.Sound.{IsAsSaid}
use Rattle.keel_directory.specs.TableFiles.{TableFile, open_sized, table_rows}
use Rattle.keel_draft.specs.Drafts.{added_of, batch_rows, bytes_in, count_ops, file_of}
use Rattle.keel_edit.specs.declared.edit.Added.{Added}
use Rattle.keel_edit.specs.declared.edit.Edit.{Edit}
use Rattle.keel_edit.specs.Spelling.{IsAdded, IsEdit}
use Rattle.keel_flush.specs.Plans.{Job, edit_of, number_of}
use Rattle.keel_machine.specs.Reads.{segment_rows}
use Rattle.keel_machine.specs.Flushing.{levels_with}
use Rattle.keel_machine.specs.States.{Story, entries_in}
use Rattle.keel_resume.specs.Plans as boot
use Rattle.keel_version.specs.Applying.{applied, put_on}
use Rattle.keel_version.specs.Tables.{AreLevels, Contents, are_apart, nothing}
use Rattle.keel_recovery.specs.BootCalls.{AreOver, BootFacts, joined}
use Rattle.keel_recovery.specs.BootRoll.{Gives, HasAllMade}
use Rattle.keel_recovery.specs.Chains.{Chained, OthersEmpty}
use Rattle.keel_recovery.specs.FlushEdits.{EditGives, FlushGives, IsInUse, IsToAppend, all_firm, with_edit}
use Rattle.keel_recovery.specs.FlushFiles.{IsFast}
use Rattle.keel_recovery.specs.Roots.{AreFirmTables, BeginsAt, IsFirmTable, IsRoot, Way, first_from, point_at, then_behind, version_behind}
use Rattle.keel_recovery.proofs.BootRooted as rooted
use Rattle.keel_recovery.proofs.BootSaysAll as says
use Rattle.keel_recovery.proofs.BootSaysLevels.{high, low}
use Rattle.keel_recovery.proofs.BootSaysTables.{IsFit, draft_fits, draft_opens}
use Rattle.keel_recovery.proofs.FlushApplying.{applied_one, put_between, version_more}
use Rattle.keel_recovery.proofs.FlushPlaces.{first_limits, last_known, point_behind, seq_behind}
use Rattle.keel_recovery.proofs.Framing.{chain_below}
use Rattle.keel_recovery.proofs.OpenTables.{said_known}
use Rattle.keel_recovery.proofs.Rows.{map_folds}

all_added : (tables : List Added) → AllByRecursion IsAdded tables → All IsAdded tables
all_added [] h = All-nil IsAdded
all_added (t ∷ tables) h = All-cons IsAdded t tables h.0 (all_added tables h.1)

over_one : (number : ℕ) (levels : List TableFile) → AllByRecursion (λ (table : TableFile). table.entry.number < number) levels → AreOver (entries_in levels) (number ∷ [])
over_one number [] below = tt
over_one number (table ∷ levels) below = ((below.0, tt), over_one number levels below.1)

less_below : (number next : ℕ) (levels : List TableFile) → number < next → AllByRecursion (λ (table : TableFile). table.entry.number < number) levels → AllByRecursion (λ (table : TableFile). table.entry.number < next) levels
less_below number next [] less below = tt
less_below number next (table ∷ levels) less below = (omega (arith, less, below.0), less_below number next levels less below.1)

-- the tables of the levels are firm
pub each_firm : (state : State) (levels : List TableFile) → AreFirmTables state (entries_in levels) levels → AllByRecursion (λ (table : TableFile). IsFirmTable state table.entry table) levels
each_firm state [] firm = tt
each_firm state (table ∷ levels) firm = (firm.0, each_firm state levels firm.1)

-- the job as one of a boot that has made the one table
abbrev pub as_boot : List TableFile → Job → ℕ → boot.Job
as_boot levels job log = record {
  live = entries_in levels;
  last_seq = job.draft.last;
  drafts = job.draft ∷ [];
  progress = record { made = 0; tables = number_of job ∷ []; log = Some log; manifest = None; temporary = None };
}

-- the story up to a place
abbrev pub up_to : ℕ → Story → Story
up_to place story = record story { log = take place (story.log ++ story.limbo); limbo = [] }

-- the tables are firm with that of the job
pub levels_firm : (levels : List TableFile) (job : Job) (log : ℕ) (state : State) → AreFirmTables state (entries_in levels) levels → IsFast (number_of job) (bytes_in job.draft) state
    → open_sized (length (bytes_in job.draft)) (bytes_in job.draft) ≡ Ok (file_of (number_of job) job.draft).file → AreFirmTables state (entries_in (levels_with job levels)) (levels_with job levels)
levels_firm levels job log state firm fast opens =
    rooted.all_firm state (levels_with job levels)
    (rooted.all_behind (λ (table : TableFile). IsFirmTable state table.entry table) levels (as_boot levels job log) (each_firm state levels firm)
    (record { entry = refl; file = fast.file; steady = fast.steady; held = fast.held; opens = opens }, tt))

module _ (way : Way) (place in_tables next_file : ℕ) (first next : Chained) (rest : List Chained) (levels : List TableFile) (story : Story) (job : Job) (state : State)
    (h : IsToAppend way place in_tables next_file first next rest levels story job state) where
  abbrev later : ℕ
  later = place + length first.batches

  abbrev logs : List Chained
  logs = first ∷ next ∷ rest

  abbrev segments : List (List (List Op))
  segments = first.batches ∷ []

  abbrev stored_logs : List Chained
  stored_logs = next ∷ rest

  -- ---- numbers

  rise : first.number < next.number
  rise = h.keeps.stored.chained.1.0

  log_drawn : next.number < next_file
  log_drawn = (chain_below story.floor (length story.log) next_file logs state h.keeps.drawn h.keeps.stored.chained).1.0

  limits : AreBatches in_tables first.batches
  limits = subst (λ (n : ℕ). AreBatches n first.batches) h.to (first_limits place first stored_logs story state h.keeps.stored)

  counted : in_tables + count_ops first.batches ≡ (point_at later story).seq
  counted = ap (λ (n : ℕ). n + count_ops first.batches) (sym h.to) ∙ seq_behind place first stored_logs story state h.keeps.stored

  in_known : in_tables ≤ LAST_NUMBER
  in_known = last_known LAST_NUMBER in_tables first.batches refl h.some limits

  -- ---- what a boot would make of the segment

  facts : BootFacts levels segments in_tables (up_to later story)
  facts =
      let say = h.keeps.live.say in
      let whole : first.batches ≡ joined segments = sym (append-nil first.batches) in
      let rows = flat_map table_rows levels in
      let said : AllByRecursion (IsAsSaid in_tables) levels = subst (λ (n : ℕ). AllByRecursion (IsAsSaid n) levels) h.to say.said in
      let map_is : IsMapOf (rows ++ batch_rows ((point_at place story).seq + 1) first.batches) (fold_batches (point_at place story) first.batches).values =
      map_folds rows (point_at place story) first.batches say.map (said_known (point_at place story).seq levels say.said) in
      let rows_are : rows ++ batch_rows ((point_at place story).seq + 1) first.batches ≡ rows ++ segment_rows in_tables segments =
      ap (λ (n : ℕ). rows ++ batch_rows (n + 1) first.batches) h.to ∙ ap (λ (l : List Row). rows ++ l) (sym (append-nil (batch_rows (in_tables + 1) first.batches))) in
      record {
        said = said;
        agree = say.agree;
        layered = say.layered;
        entries = h.in_use.each;
        order = h.in_use.order;
        limits = subst (AreBatches in_tables) whole limits;
        each_some = (h.some, tt);
        in_known = in_known;
        map = subst (λ (l : List Row). IsMapOf l (point_at later story).values) rows_are
            (subst (λ (p : Point). IsMapOf (rows ++ batch_rows ((point_at place story).seq + 1) first.batches) p.values) (sym (point_behind place first stored_logs story state h.keeps.stored)) map_is);
        seq = ap (λ (b : List (List Op)). in_tables + count_ops b) (sym whole) ∙ counted;
      }

  ends : job.draft.last ≡ (point_at later story).seq
  ends = h.draft.last ∙ counted

  all : HasAllMade levels segments in_tables (up_to later story) (as_boot levels job next.number) next.number next_file
  all = record {
    facts = facts;
    drafts = (h.draft, tt);
    few = h.few;
    live_is = refl;
    last_is = ends;
    log_is = refl;
    each = refl;
    rising = (h.drawn, h.numbered, tt, tt);
    over = over_one (number_of job) levels h.below.live;
    log_drawn = log_drawn;
    next = h.most;
    some = omega (arith, h.drawn, h.numbered);
  }

  gives : Gives levels (up_to later story) (as_boot levels job next.number) next.number next_file
  gives = says.gives levels segments in_tables (up_to later story) (as_boot levels job next.number) next.number next_file all

  order : AreLevels (entries_in (levels_with job levels))
  order = says.order levels segments in_tables (up_to later story) (as_boot levels job next.number) next.number next_file all

  added : AllByRecursion IsAdded (entries_in (levels_with job levels))
  added = says.all_added levels segments in_tables (up_to later story) (as_boot levels job next.number) next.number next_file all

  -- ---- the edit

  abbrev table : Added
  table = added_of (number_of job) job.draft

  fit : IsFit job.draft.last (file_of (number_of job) job.draft)
  fit =
      let numbered : IsFileNumber (number_of job) = record { least = h.drawn; most = omega (arith, h.numbered, h.most) } in
      draft_fits in_tables (number_of job) first.batches job.draft h.draft job.draft.last numbered h.some limits (omega (arith, h.draft.last, gives.is_edit.last_seq)) (omega (arith, h.draft.last))

  is_edit : IsEdit (edit_of job next_file)
  is_edit = record {
    min_log = omega (arith, h.min_log, gives.is_edit.min_log);
    next_file = gives.is_edit.next_file;
    last_seq = gives.is_edit.last_seq;
    few_removed = omega arith;
    removed = tt;
    few_added = omega arith;
    added = (fit.added, tt);
  }

  abbrev version : Contents
  version = record { tables = entries_in (levels_with job levels); min_log = job.min_log; next_file = next_file; last_seq = job.draft.last }

  put : put_on table h.in_use.version.tables ≡ Some (entries_in (levels_with job levels))
  put =
      let front = entries_in (low levels) in
      let back = entries_in (high levels) in
      let old : front ++ back ≡ h.in_use.version.tables = says.old_entries levels segments in_tables (up_to later story) (as_boot levels job next.number) next.number next_file all ∙ sym h.in_use.tables in
      let new : entries_in (levels_with job levels) ≡ front ++ table ∷ back = says.entries_are levels segments in_tables (up_to later story) (as_boot levels job next.number) next.number next_file all in
      ap (put_on table) (sym old) ∙ put_between table front back (ap are_apart (sym new) ∙ order.apart) ∙ ap (λ (ts : List Added). Some ts) (sym new)

  applies : applied (edit_of job next_file) h.in_use.version ≡ Ok version
  applies =
      applied_one job.min_log next_file job.draft.last table h.in_use.version (entries_in (levels_with job levels)) put
      (omega (arith, h.min_log, rise, h.in_use.min_log)) h.in_use.next (omega (arith, h.in_use.last, h.draft.last))

  abbrev longer : List Edit
  longer = way.edits ++ edit_of job next_file ∷ []

  is_version : version_behind nothing longer ≡ Some version
  is_version =
      let firm : take way.firm way.edits ≡ way.edits = ap (λ (n : ℕ). take n way.edits) h.all_firm ∙ take-length way.edits in
      version_more nothing h.in_use.version way.edits (edit_of job next_file) (ap (version_behind nothing) (sym firm) ∙ h.in_use.is_version)
      ∙ ap (λ (r : Result Contents ℕ). then_behind r (λ after. version_behind after [])) applies

  -- ---- the root

  -- the root so far reads no log of a lesser number
  others : OthersEmpty job.min_log logs state
  others =
      let root = h.keeps.roots way (inl refl) way.firm (omega arith) (omega (arith, h.all_firm)) in
      let same : root.version ≡ h.in_use.version = let e = sym root.is_version ∙ h.in_use.is_version in cc in
      let less : root.version.min_log ≤ job.min_log = omega (arith, ap (λ (v : Contents). v.min_log) same, h.min_log, rise, h.in_use.min_log) in
      λ count n file above none found. root.others count n file (omega (arith, above, less)) none found

  begins_at : (least : ℕ) → least ≡ next.number → BeginsAt later (first_from least logs) story
  begins_at least is =
      let skips : nat_le least first.number ≡ false = lt-leb least first.number (omega (arith, is, rise)) in
      let takes : nat_le least next.number ≡ true = le-leb least next.number (omega (arith, is)) in
      rw (skips, takes) (sym h.keeps.stored.in_turn.2.0)

  root : IsRoot longer logs story next_file state
  root = record {
    version = version;
    is_version = is_version;
    place = later;
    published = h.published;
    ends = ends;
    tables = levels_with job levels;
    firm = levels_firm levels job next.number state h.keeps.live.firm h.table (draft_opens in_tables (number_of job) first.batches job.draft h.draft);
    say = gives.say;
    begins = begins_at job.min_log h.min_log;
    others = others;
    log_drawn = omega (arith, h.min_log, log_drawn);
    drawn = rooted.entries_all (λ (t : Added). t.number < next_file) (levels_with job levels)
        (rooted.all_behind (λ (t : TableFile). t.entry.number < next_file) levels (as_boot levels job next.number) (less_below (number_of job) next_file levels h.numbered h.below.live) (h.numbered, tt));
  }

  in_use : IsInUse (all_firm (with_edit (edit_of job next_file) way)) (levels_with job levels) job.draft.last next.number next_file
  in_use = record {
    version = version;
    is_version = ap (version_behind nothing) (take-length longer) ∙ is_version;
    tables = refl;
    last = refl;
    min_log = omega (arith, h.min_log);
    next = omega arith;
    order = order;
    each = all_added (entries_in (levels_with job levels)) added;
  }

  pub edit_gives_all : FlushGives way in_tables next_file first next rest levels story job state
  edit_gives_all = record { is_edit = is_edit; root = root; in_use = in_use }

pub edit_gives : EditGives
edit_gives way place in_tables next_file first next rest levels story job state h = edit_gives_all way place in_tables next_file first next rest levels story job state h
