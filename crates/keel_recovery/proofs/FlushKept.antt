-- What calls of groups leave of the manifest and of the flush that runs.
use Rattle.std.specs.Prelude.{is_some}
use Rattle.std.proofs.Common.{◌≡◌, inl, inr, ⊎_elim, ℕ, ◌^◌, ◌≤◌, true, List, [], ◌∷◌, ◌++◌, Option, Some, None, refl, sym, ap, ◌∙◌, arith}
use Rattle.keel_base.specs.declared.failure.Failure.{Failure}
use Rattle.keel_directory.specs.TableFiles.{TableFile}
use Rattle.keel_disk.specs.declared.change.Change.{Change}
use Rattle.keel_disk.specs.Sound.{IsOneToOne}
use Rattle.keel_disk.specs.State.{State as Disk}
use Rattle.keel_disk.specs.Step.{DiskStep}
use Rattle.keel_draft.specs.Drafts.{bytes_in}
use Rattle.keel_flush.specs.Plans.{Job}
use Rattle.keel_manifest.specs.State.{ManifestState}
use Rattle.keel_recovery.specs.Calls.{Answer}
use Rattle.keel_recovery.specs.Chains.{Chained}
use Rattle.keel_recovery.specs.FlushEdits.{IsInUse, IsOfNoManifest}
use Rattle.keel_recovery.specs.FlushFiles.{IsOfNoTable}
use Rattle.keel_recovery.specs.Flushes.{AtSync, FlushesBy, HasFlush, HasMade, IsBeforeEdit, IsFlushing, IsReady, first_number}
use Rattle.keel_recovery.specs.Roots.{Way}
use Rattle.keel_recovery.proofs.FlushStays.{open_way_stays, table_stays}

-- ---- the logs grow

-- behind the first of these logs stands one of that number
pub record HasNext (first : Chained) (number : ℕ) (logs : List Chained) : Type 0 where
  pub next : Chained
  pub rest : List Chained
  pub is : logs ≡ first ∷ next ∷ rest
  pub number_is : next.number ≡ number

-- the first log is the same, and so, where there is another, is it with its batches, and the next one's number
pub record IsLonger (logs later : List Chained) : Type 0 where
  pub first : first_number later ≡ first_number logs
  pub next : (one two : Chained) (rest : List Chained) → logs ≡ one ∷ two ∷ rest → HasNext one two.number later

pub longer_same : (logs : List Chained) → IsLonger logs logs
longer_same logs = record { first = refl; next = λ one two rest is. record { next = two; rest = rest; is = is; number_is = refl } }

-- the last log is another, of the same number
pub longer_last : (front : List Chained) (log later : Chained) → later.number ≡ log.number → IsLonger (front ++ log ∷ []) (front ++ later ∷ [])
longer_last [] log later same = record { first = same; next = λ one two rest is. cc }
longer_last (first ∷ []) log later same = record {
  first = refl;
  next = λ one two rest is.
      let a : first ≡ one = cc in
      let b : log ≡ two = cc in
      record { next = later; rest = []; is = ap (λ (l : Chained). l ∷ later ∷ []) a; number_is = same ∙ ap (λ (l : Chained). l.number) b };
}
longer_last (first ∷ second ∷ front) log later same = record {
  first = refl;
  next = λ one two rest is.
      let a : first ≡ one = cc in
      let b : second ≡ two = cc in
      record { next = second; rest = front ++ later ∷ []; is = ap (λ (l : Chained). l ∷ second ∷ (front ++ later ∷ [])) a; number_is = ap (λ (l : Chained). l.number) b };
}

-- another log stands behind them
pub longer_push : (front : List Chained) (log later : Chained) → IsLonger (front ++ log ∷ []) ((front ++ log ∷ []) ++ later ∷ [])
longer_push [] log later = record { first = refl; next = λ one two rest is. cc }
longer_push (first ∷ []) log later = record {
  first = refl;
  next = λ one two rest is.
      let a : first ≡ one = cc in
      let b : log ≡ two = cc in
      record { next = log; rest = later ∷ []; is = ap (λ (l : Chained). l ∷ log ∷ later ∷ []) a; number_is = ap (λ (l : Chained). l.number) b };
}
longer_push (first ∷ second ∷ front) log later = record {
  first = refl;
  next = λ one two rest is.
      let a : first ≡ one = cc in
      let b : second ≡ two = cc in
      record { next = second; rest = (front ++ log ∷ []) ++ later ∷ []; is = ap (λ (l : Chained). l ∷ second ∷ ((front ++ log ∷ []) ++ later ∷ [])) a; number_is = ap (λ (l : Chained). l.number) b };
}

-- ---- a call of a group

pub in_use_on : (way : Way) (levels : List TableFile) (in_tables first_log later next more : ℕ) → first_log ≤ later → next ≤ more → IsInUse way levels in_tables first_log next → IsInUse way levels in_tables later more
in_use_on way levels in_tables first_log later next more on le h = record {
  version = h.version;
  is_version = h.is_version;
  tables = h.tables;
  last = h.last;
  min_log = omega (arith, h.min_log, on);
  next = omega (arith, h.next, le);
  order = h.order;
  each = h.each;
}

module _ (change : Change) (answer : Answer) (state after : Disk) (one : IsOneToOne state) (of_table : IsOfNoTable change) (of_manifest : IsOfNoManifest change) (step : DiskStep state change answer after) (way : Way) (manifest : ManifestState) where
  ready_on : IsReady way manifest state → IsReady way manifest after
  ready_on h = record { size = h.size; opened = open_way_stays way h.size change answer state after one of_manifest step h.opened; firm = h.firm; known = h.known }

  made_on : (job : Job) (number : ℕ) → HasMade job number state → HasMade job number after
  made_on job number (inl h) = inl (record {
    given = h.given;
    todo = h.todo;
    pieces_are = h.pieces_are;
    left_is = h.left_is;
    begun = table_stays.begun number _ change answer state after one of_table step h.begun;
  })
  made_on job number (inr (inl h)) = inr (inl (record { left_is = h.left_is; whole = table_stays.whole number (bytes_in job.draft) change answer state after one of_table step h.whole }))
  made_on job number (inr (inr h)) = inr (inr (record { left_is = h.left_is; fast = table_stays.fast number (bytes_in job.draft) change answer state after one of_table step h.fast }))

  before_on : (levels : List TableFile) (job : Job) (next more : ℕ) → next ≤ more → IsBeforeEdit way levels job next manifest state → IsBeforeEdit way levels job more manifest after
  before_on levels job next more le h = record {
    ready = ready_on h.ready;
    stage = ⊎_elim (λ none. inl none)
        (λ some. inr (some.0, record { is = some.1.is; least = some.1.least; drawn = omega (arith, some.1.drawn, le); below = some.1.below }, made_on job some.0 some.2)) h.stage;
  }

  sync_on : (levels : List TableFile) (job : Job) (next more : ℕ) → next ≤ more → AtSync way levels job next manifest state → AtSync way levels job more manifest after
  sync_on levels job next more le h = record {
    left_is = h.left_is;
    number = h.number;
    table = h.table;
    drawn = omega (arith, h.drawn, le);
    fast = table_stays.fast h.number (bytes_in job.draft) change answer state after one of_table step h.fast;
    edit = h.edit;
    between = record {
      own = h.between.own;
      way_is = h.between.way_is;
      firm = h.between.firm;
      size = h.between.size;
      opened = open_way_stays way h.between.size change answer state after one of_manifest step h.between.opened;
      known = h.between.known;
    };
    gives = in_use_on _ _ job.draft.last job.min_log job.min_log next more (omega arith) le h.gives;
  }

  flushing_on : (levels : List TableFile) (in_tables : ℕ) (logs later : List Chained) (job : Job) (next more : ℕ) → IsLonger logs later → next ≤ more
      → IsFlushing way levels in_tables logs job next manifest state → IsFlushing way levels in_tables later job more manifest after
  flushing_on levels in_tables logs later job next more longer le h =
      let behind = longer.next h.first h.next h.rest h.logs_are in
      record {
        first = h.first;
        next = behind.next;
        rest = behind.rest;
        logs_are = behind.is;
        draft = h.draft;
        some = h.some;
        min_log = h.min_log ∙ sym behind.number_is;
        few = h.few;
        stage = ⊎_elim (λ b. inl (before_on levels job next more le b)) (λ s. inr (sync_on levels job next more le s)) h.stage;
      }

  goes_on : (flush : Option Job) (stops : Option Failure) (levels : List TableFile) (in_tables : ℕ) (logs later : List Chained) (next more : ℕ) → IsLonger logs later → next ≤ more
      → FlushesBy flush stops way levels in_tables logs next manifest state → FlushesBy flush stops way levels in_tables later more manifest after
  goes_on (Some job) stops levels in_tables logs later next more longer le h = flushing_on levels in_tables logs later job next more longer le h
  goes_on None None levels in_tables logs later next more longer le h = ready_on h
  goes_on None (Some failure) levels in_tables logs later next more longer le h = tt

  pub flush_on : (flush : Option Job) (stops : Option Failure) (levels : List TableFile) (in_tables : ℕ) (logs later : List Chained) (next more : ℕ) → IsLonger logs later → next ≤ more → more ≤ 2 ^ 56
      → HasFlush way levels in_tables logs stops flush next manifest state → HasFlush way levels in_tables later stops flush more manifest after
  flush_on flush stops levels in_tables logs later next more longer le most h = record {
    in_use = in_use_on way levels in_tables (first_number logs) (first_number later) next more (omega (arith, longer.first)) le h.in_use;
    most = most;
    goes = goes_on flush stops levels in_tables logs later next more longer le h.goes;
  }

-- ---- no call

-- writes are stopped
pub flush_stops : (way : Way) (levels : List TableFile) (in_tables : ℕ) (logs : List Chained) (stops then : Option Failure) (flush : Option Job) (next : ℕ) (manifest : ManifestState) (state : Disk) → is_some then ≡ true
    → HasFlush way levels in_tables logs stops flush next manifest state → HasFlush way levels in_tables logs then flush next manifest state
flush_stops way levels in_tables logs stops then flush next manifest state severe h = record { in_use = h.in_use; most = h.most; goes = by flush then severe h.goes }
  where
    by : (flush : Option Job) (then : Option Failure) → is_some then ≡ true → FlushesBy flush stops way levels in_tables logs next manifest state → FlushesBy flush then way levels in_tables logs next manifest state
    by (Some job) then severe goes = goes
    by None None severe goes = cc
    by None (Some failure) severe goes = tt
