-- A group's calls that change the log keep what the store's logs hold.
use Rattle.std.specs.List.{AllByRecursion}
use Rattle.std.proofs.Common.{inl, inr, ℕ, ◌+◌, ◌^◌, ◌<◌, List, [], ◌∷◌, ◌++◌, length, drop, Option, Some, None, refl, sym, ap, subst, ◌∙◌, arith}
use Rattle.std.proofs.lemmas.List.{append-nil}
use Rattle.keel_base.specs.declared.failure.Failure.{Failure}
use Rattle.keel_base.specs.declared.file_name.FileName.TheVariants.{Log}
use Rattle.keel_base.specs.declared.op.Batch.{Batch}
use Rattle.keel_base.specs.declared.op.Op.{Op}
use Rattle.keel_disk.specs.declared.change.Change.TheVariants.{Create, Sync, SyncDir}
use Rattle.keel_disk.specs.declared.state.File.{File}
use Rattle.keel_disk.specs.Sound.{IsOneToOne}
use Rattle.keel_disk.specs.State.{State as Disk}
use Rattle.keel_disk.specs.Step.{DiskStep}
use Rattle.keel_disk.specs.Steady.{CutsExist, IsApart, IsGoing}
use Rattle.keel_group.specs.Queue.{Ticketed}
use Rattle.keel_machine.specs.States.{State, Story, SegmentLog, Segment, Group, Act, CloseLog, MakeLog, SyncDirectory, new_log}
use Rattle.keel_recovery.specs.Calls.{next_chained, CanGrow}
use Rattle.keel_recovery.specs.Chains.{Chained, IsWholeLog}
use Rattle.keel_recovery.specs.Keeping.{Keeps}
use Rattle.keel_recovery.specs.Machine.{calls_from_append, AwaitsAppend, HasLog}
use Rattle.keel_recovery.proofs.FlushKept.{flush_on, longer_push, longer_same}
use Rattle.keel_recovery.proofs.Framing.{create_keeps, chain_below, others_pass}
use Rattle.keel_recovery.proofs.Growing.{log_sync_keeps}
use Rattle.keel_recovery.proofs.Joining.{create_makes, sync_dir_keeps}
use Rattle.keel_recovery.proofs.Passing.{all_whole_pass, whole_passes, less_differs, differs_back}
use Rattle.keel_recovery.proofs.Ordering.{went_well, drop_next, full_push, whole_push, last_below, reach_more}

module _ (s : State) (group : Group) (log : SegmentLog) (before after : Disk) (one : IsOneToOne before) (cuts : CutsExist before) (halts : Option Failure) where
  abbrev story : Story
  story = s.story

  abbrev immutable : List Segment
  immutable = s.segments.immutable

  abbrev batches : List (List Op)
  batches = s.segments.active.batches

  abbrev waiting : List Ticketed
  waiting = s.writing.waiting

  abbrev next_file : ℕ
  next_file = s.numbers.next_file

  abbrev own_batches : List Batch
  own_batches = group.batches

  abbrev plan : List Act
  plan = group.plan

  abbrev made : ℕ
  made = group.progress.made

  abbrev group_in : List Batch → ℕ → Option ℕ → Group
  group_in given count drawn = record group { batches = given; progress = record { made = count; log = drawn } }

  abbrev running : Option ℕ → Option Group
  running drawn = Some (group_in own_batches made drawn)

  abbrev LogBefore : Option ℕ → Type 0
  LogBefore drawn = HasLog log before s.levels story immutable batches waiting halts (running drawn) next_file s.numbers.in_tables s.jobs.flush.running s.numbers.manifest

  -- ---- a log that is closed

  pub closed : (h : LogBefore None) → DiskStep before (Sync (Log log.number)) went_well after
      → Keeps (h.way ∷ []) h.place (h.full ++ h.own ∷ []) s.levels story next_file after × CanGrow h.full h.own log.size after × IsWholeLog h.own after
  closed h step =
      let there = subst (λ (n : ℕ). DiskStep before (Sync (Log n)) went_well after) (sym h.number_is) step in
      log_sync_keeps (h.way ∷ []) h.place next_file log.size h.full h.own s.levels story went_well before after one h.keeps h.order.0 there

  pub close_done : (h : LogBefore None) → AwaitsAppend story (CloseLog ∷ MakeLog ∷ SyncDirectory ∷ []) (drop made plan) → DiskStep before (Sync (Log log.number)) went_well after
      → HasLog log after s.levels story immutable batches waiting halts (Some (group_in own_batches (made + 1) None)) next_file s.numbers.in_tables s.jobs.flush.running s.numbers.manifest
  close_done h awaits step =
      let behind = closed h step in
      record {
        way = h.way;
        place = h.place;
        full = h.full;
        are_full = h.are_full;
        own = h.own;
        number_is = h.number_is;
        batches_are = h.batches_are;
        keeps = behind.0;
        reach = h.reach;
        tables_to = h.tables_to;
        flushes = flush_on (Sync (Log log.number)) went_well before after one tt tt step h.way s.numbers.manifest s.jobs.flush.running halts s.levels s.numbers.in_tables (h.full ++ h.own ∷ []) (h.full ++ h.own ∷ []) next_file next_file (longer_same (h.full ++ h.own ∷ [])) (omega arith) h.flushes.most h.flushes;
        order = (
          behind.1,
          inr (inr (
            record { none_in_limbo = awaits.none_in_limbo; sync = awaits.sync; left_is = drop_next made plan CloseLog (MakeLog ∷ SyncDirectory ∷ calls_from_append awaits.sync) awaits.left_is },
            behind.2,
          )),
          h.order.2,
        );
      }

  -- ---- a log that is made

  pub own_below : (h : LogBefore None) → h.own.number < next_file
  own_below h = last_below next_file h.full h.own (chain_below story.floor (length story.log) next_file (h.full ++ h.own ∷ []) before h.keeps.drawn h.keeps.stored.chained)

  front_below : (number : ℕ) (logs : List Chained) (own : Chained) → AllByRecursion (λ (l : Chained). l.number < number) (logs ++ own ∷ []) → AllByRecursion (λ (l : Chained). l.number < number) logs
  front_below number [] own h = tt
  front_below number (first ∷ logs) own h = (h.0, front_below number logs own h.1)

  apart_all : (logs : List Chained) → AllByRecursion (λ (l : Chained). l.number < next_file) logs → AllByRecursion (λ (l : Chained). IsApart (Log l.number) (Create (Log next_file))) logs
  apart_all [] below = tt
  apart_all (first ∷ logs) below = (differs_back first.number next_file (less_differs first.number next_file below.0), apart_all logs below.1)

  pub make_done : next_file < 2 ^ 56 → (h : LogBefore None) → AwaitsAppend story (MakeLog ∷ SyncDirectory ∷ []) (drop made plan) → IsWholeLog h.own before → DiskStep before (Create (Log next_file)) went_well after
      → HasLog log after s.levels story immutable batches waiting halts (Some (group_in own_batches (made + 1) (Some next_file))) (next_file + 1) s.numbers.in_tables s.jobs.flush.running s.numbers.manifest
  make_done below_end h awaits whole step =
      let below = chain_below story.floor (length story.log) next_file (h.full ++ h.own ∷ []) before h.keeps.drawn h.keeps.stored.chained in
      let front = others_pass h.full (Create (Log next_file)) went_well before after one (apart_all h.full (front_below next_file h.full h.own below)) step in
      let own_pass = others_pass (h.own ∷ []) (Create (Log next_file)) went_well before after one (apart_all (h.own ∷ []) (own_below h, tt)) step in
      let going = h.order.0.going in
      let passed = own_pass.0 going.file going.steady in
      record {
        way = h.way;
        place = h.place;
        full = h.full;
        are_full = h.are_full;
        own = h.own;
        number_is = h.number_is;
        batches_are = h.batches_are;
        keeps = create_keeps (h.way ∷ []) h.place next_file (h.full ++ h.own ∷ []) s.levels story went_well before after one h.keeps step;
        reach = h.reach;
        tables_to = h.tables_to;
        flushes = flush_on (Create (Log next_file)) went_well before after one tt tt step h.way s.numbers.manifest s.jobs.flush.running halts s.levels s.numbers.in_tables (h.full ++ h.own ∷ []) (h.full ++ h.own ∷ []) next_file (next_file + 1) (longer_same (h.full ++ h.own ∷ [])) (omega arith) (omega (arith, below_end)) h.flushes;
        order = (
          record {
            whole = all_whole_pass h.full before after front h.order.0.whole;
            going = record {
              file = going.file;
              steady = passed.0;
              going = subst IsGoing (sym passed.1) going.going;
              size_is = ap (λ (f : File). length f.meant) passed.1 ∙ going.size_is;
            };
          },
          (
            record { none_in_limbo = awaits.none_in_limbo; sync = awaits.sync; left_is = drop_next made plan MakeLog (SyncDirectory ∷ calls_from_append awaits.sync) awaits.left_is },
            record { drawn = omega arith; above = own_below h; new = create_makes next_file before after cuts step },
            whole_passes h.own before after own_pass.0 whole,
          ),
          h.order.2,
        );
      }

  pub sync_dir_done : (number : ℕ) (h : LogBefore (Some number)) → DiskStep before SyncDir went_well after
      → HasLog (new_log number) after s.levels story (immutable ++ (record { batches = batches; logs = log.number ∷ [] }) ∷ []) [] waiting halts (Some (group_in own_batches (made + 1) None)) next_file s.numbers.in_tables s.jobs.flush.running s.numbers.manifest
  sync_dir_done number h step =
      let awaits = h.order.1.0 in
      let has = h.order.1.1 in
      let whole = whole_push h.full h.own before h.order.0.whole h.order.1.2 in
      let own = next_chained number story in
      let joins = sync_dir_keeps (h.way ∷ []) h.place next_file number h.full h.own s.levels story went_well before after one h.keeps h.reach has.above has.new whole step in
      record {
        way = h.way;
        place = h.place;
        full = h.full ++ h.own ∷ [];
        are_full = full_push immutable h.full h.own (record { batches = batches; logs = log.number ∷ [] }) (ap (λ (n : ℕ). n ∷ []) (sym h.number_is))
            (h.batches_are ∙ ap (λ (l : List (List Op)). batches ++ l) awaits.none_in_limbo ∙ append-nil batches) h.are_full;
        own = own;
        number_is = refl;
        batches_are = sym awaits.none_in_limbo;
        keeps = joins.0;
        reach = reach_more (h.way ∷ []) h.own.number number (omega (arith, has.above)) h.reach;
        tables_to = h.tables_to;
        flushes = flush_on SyncDir went_well before after one tt tt step h.way s.numbers.manifest s.jobs.flush.running halts s.levels s.numbers.in_tables (h.full ++ h.own ∷ []) ((h.full ++ h.own ∷ []) ++ own ∷ []) next_file next_file (longer_push h.full h.own own) (omega arith) h.flushes.most h.flushes;
        order = (
          joins.1,
          inl (inl (record { none_in_limbo = awaits.none_in_limbo; sync = awaits.sync; left_is = drop_next made plan SyncDirectory (calls_from_append awaits.sync) awaits.left_is })),
          h.order.2,
        );
      }
