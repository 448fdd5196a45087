-- What write steps make of a put that is on its way: its batch gets the last of the log, or it is turned away.
use Rattle.std.proofs.Common.{◌≡◌, ◌∙◌, ◌⊎◌, inl, inr, ℕ, ◌+◌, Bool, true, false, Option, None, Some, List, [], ◌∷◌, ◌++◌, take, drop, refl, sym, ap, subst, append-nil, append_assoc}
use Rattle.keel_base.specs.Points.{Point, fold_batches}
use Rattle.keel_base.specs.declared.failure.Failure.{Failure}
use Rattle.keel_base.specs.declared.op.Batch.{Batch}
use Rattle.keel_base.specs.declared.op.Op.{Op}
use Rattle.keel_group.specs.Forming.{next_size, next_batches, wants_sync}
use Rattle.keel_group.specs.Queue.{Ticketed, tickets_of}
use Rattle.keel_machine.specs.declared.answers.Outcome.{Outcome}
use Rattle.keel_machine.specs.declared.answers.Outcome.TheVariants as outcome
use Rattle.keel_machine.specs.Admission.{last_seq, outcome_kept, ops_of, tickets_of_group, is_full}
use Rattle.keel_machine.specs.States.{State, Group, Act, CloseLog, MakeLog, SyncDirectory, AddRecords, SyncLog, left_of, point_of}
use Rattle.keel_machine.specs.Writing.{started, started_or}
use Rattle.keel_machine.specs.WritingAfter.{done_each, file_drawn, with_made, with_log, switched, log_longer, batches_handed, goes_on, act_done, act_failed, first_done, first_failed, group_done, group_failed}
use Rattle.keel_recovery.proofs.Numbering.{seq_folded, folded_append}
use Rattle.keel_draft.specs.Drafts.{count_ops}
use Rattle.keel_cli.specs.ReadClaim.{Acked}
use Rattle.keel_cli.proofs.Following.{HasStory, HasLast, story_group, story_group_failed}
use Rattle.keel_cli.proofs.Owning.{kept_skip, Lacks, given_none, done_none, Paired, done_own, given_own, paired_ends, OwnLast, Formed, formed, Stage, Behind, staged, tailed, synced, plan_staged, one_dropped}
use Rattle.keel_cli.proofs.Tickets.{given}

-- the batch is the last of the log, with that number, and nothing is on its way behind it
pub record IsEnd (own : List Op) (seq : ℕ) (s : State) : Type 0 where
  pub before : List (List Op)
  pub log_is : s.story.log ≡ before ++ own ∷ []
  pub seq_is : seq ≡ (point_of s.story).seq
  pub none_in_limbo : s.story.limbo ≡ []
  pub no_group : s.jobs.write.running ≡ None
  pub none_waits : s.writing.waiting ≡ []

-- what an outcome says of the state; a batch that was turned away is gone
abbrev pub Means : List Op → List ℕ → Option Acked → Outcome → State → Type 0
Means own key last outcome.Waiting s = ⊥
Means own key last (outcome.Done seq) s = IsEnd own seq s
Means own key last (outcome.Failed failure) s = Unit {0}
Means own key last (outcome.Turned failure) s = HasLast key last s
Means own key last outcome.Unknown s = ⊥
Means own key last outcome.Closed s = ⊥

-- The ticket has no outcome, and is none of the group in flight, and this holds of those that wait.
pub record IsApart (ticket : ℕ) (W : List Ticketed → Type 0) (s : State) : Type 0 where
  pub none : outcome_kept ticket s.writing.outcomes ≡ None
  pub owned : W s.writing.waiting
  pub lacks : Lacks ticket (tickets_of_group s.jobs.write.running)

-- it is the last of the group in flight, and nothing waits
pub record IsInGroup (ticket : ℕ) (own : List Op) (s : State) : Type 0 where
  pub none : outcome_kept ticket s.writing.outcomes ≡ None
  pub none_waits : s.writing.waiting ≡ []
  pub group : Group
  pub running : s.jobs.write.running ≡ Some group
  pub paired : Paired ticket own group.tickets (s.story.limbo ++ ops_of group.batches)
  pub stage : Stage group.batches (left_of group)

pub record IsOver (ticket : ℕ) (own : List Op) (key : List ℕ) (last : Option Acked) (s : State) : Type 0 where
  pub out : Outcome
  pub kept : outcome_kept ticket s.writing.outcomes ≡ Some out
  pub means : Means own key last out s

abbrev pub IsOwn : ℕ → List Op → List ℕ → Option Acked → State → Type 0
IsOwn ticket own key last s = (IsApart ticket (OwnLast ticket own key last) s × HasStory key last s) ⊎ (IsInGroup ticket own s ⊎ IsOver ticket own key last s)

module _ (ticket : ℕ) (W : List Ticketed → Type 0) where
  -- ---- while it waits

  module _ (s : State) (none : outcome_kept ticket s.writing.outcomes ≡ None) (owned : W s.writing.waiting) where
    apart_goes_on : (sync : Bool) (group : Group) (later : List Act) → Lacks ticket group.tickets → IsApart ticket W (goes_on sync group later s)
    apart_goes_on sync group [] lacks = record {
      none =
          kept_skip ticket s.writing.outcomes (done_each (last_seq s) group.tickets s.story.limbo) none
          ∙ done_none ticket (last_seq s) group.tickets s.story.limbo lacks;
      owned = owned;
      lacks = tt;
    }
    apart_goes_on sync group (act ∷ later) lacks = record { none = none; owned = owned; lacks = lacks }

    apart_failed : (act : Act) (group : Group) (failure : Failure) → Lacks ticket group.tickets → IsApart ticket W (act_failed act group failure s)
    apart_failed CloseLog group failure lacks = record {
      none = kept_skip ticket s.writing.outcomes (given (outcome.Failed failure) group.tickets) none ∙ given_none ticket (outcome.Failed failure) group.tickets lacks;
      owned = owned;
      lacks = tt;
    }
    apart_failed MakeLog group failure lacks = record {
      none = kept_skip ticket s.writing.outcomes (given (outcome.Failed failure) group.tickets) none ∙ given_none ticket (outcome.Failed failure) group.tickets lacks;
      owned = owned;
      lacks = tt;
    }
    apart_failed SyncDirectory group failure lacks = record {
      none = kept_skip ticket s.writing.outcomes (given (outcome.Failed failure) group.tickets) none ∙ given_none ticket (outcome.Failed failure) group.tickets lacks;
      owned = owned;
      lacks = tt;
    }
    apart_failed AddRecords group failure lacks = record {
      none = kept_skip ticket s.writing.outcomes (given (outcome.Failed failure) group.tickets) none ∙ given_none ticket (outcome.Failed failure) group.tickets lacks;
      owned = owned;
      lacks = tt;
    }
    apart_failed SyncLog group failure lacks = record {
      none = kept_skip ticket s.writing.outcomes (given (outcome.Failed failure) group.tickets) none ∙ given_none ticket (outcome.Failed failure) group.tickets lacks;
      owned = owned;
      lacks = tt;
    }

  apart_switched : (log : Option ℕ) (group : Group) (later : List Act) (s : State) → outcome_kept ticket s.writing.outcomes ≡ None → W s.writing.waiting
      → Lacks ticket group.tickets → IsApart ticket W (goes_on false (with_made None group) later (switched log s))
  apart_switched None group later s none owned lacks = apart_goes_on s none owned false (with_made None group) later lacks
  apart_switched (Some number) group later s none owned lacks = apart_goes_on (switched (Some number) s) none owned false (with_made None group) later lacks

  apart_act : (act : Act) (group : Group) (later : List Act) (s : State) → outcome_kept ticket s.writing.outcomes ≡ None → W s.writing.waiting
      → Lacks ticket group.tickets → IsApart ticket W (act_done act group later s)
  apart_act CloseLog group later s none owned lacks = apart_goes_on s none owned false group later lacks
  apart_act MakeLog group later s none owned lacks = apart_goes_on (file_drawn s) none owned false (with_made (Some s.numbers.next_file) group) later lacks
  apart_act SyncDirectory group later s none owned lacks = apart_switched group.progress.log group later s none owned lacks
  apart_act AddRecords group later s none owned lacks =
      apart_goes_on (batches_handed group (with_log (log_longer _ s.segments.active.log) s)) none owned false (record group { batches = [] }) later lacks
  apart_act SyncLog group later s none owned lacks = apart_goes_on s none owned true group later lacks

  apart_first : (group : Group) (left : List Act) (s : State) → Lacks ticket group.tickets → IsApart ticket W s → IsApart ticket W (first_done group left s)
  apart_first group [] s lacks apart = apart
  apart_first group (act ∷ later) s lacks apart = apart_act act group later s apart.none apart.owned lacks

  pub apart_group : (running : Option Group) (s : State) → s.jobs.write.running ≡ running → IsApart ticket W s → IsApart ticket W (group_done running s)
  apart_group None s is apart = apart
  apart_group (Some group) s is apart =
      apart_first group (left_of group) s (subst (λ (r : Option Group). Lacks ticket (tickets_of_group r)) is apart.lacks) apart

  apart_first_failed : (group : Group) (left : List Act) (failure : Failure) (s : State) → Lacks ticket group.tickets → IsApart ticket W s
      → IsApart ticket W (first_failed group left failure s)
  apart_first_failed group [] failure s lacks apart = apart
  apart_first_failed group (act ∷ later) failure s lacks apart = apart_failed s apart.none apart.owned act group failure lacks

  pub apart_group_failed : (running : Option Group) (failure : Failure) (s : State) → s.jobs.write.running ≡ running → IsApart ticket W s
      → IsApart ticket W (group_failed running failure s)
  apart_group_failed None failure s is apart = apart
  apart_group_failed (Some group) failure s is apart =
      apart_first_failed group (left_of group) failure s (subst (λ (r : Option Group). Lacks ticket (tickets_of_group r)) is apart.lacks) apart

module _ (ticket : ℕ) (own : List Op) (key : List ℕ) (last : Option Acked) where
  -- ---- while its group is in flight

  own_goes_on : (sync : Bool) (group : Group) (later : List Act) (s : State) → outcome_kept ticket s.writing.outcomes ≡ None → s.writing.waiting ≡ []
      → Paired ticket own group.tickets (s.story.limbo ++ ops_of group.batches) → Behind group.batches later → drop (group.progress.made + 1) group.plan ≡ later
      → IsOwn ticket own key last (goes_on sync group later s)
  own_goes_on sync group [] s none waits paired behind left =
      let limbo = s.story.limbo in
      let same : limbo ++ ops_of group.batches ≡ limbo = ap (λ (b : List Batch). limbo ++ ops_of b) behind ∙ append-nil limbo in
      let whole : Paired ticket own group.tickets limbo = subst (Paired ticket own group.tickets) same paired in
      let ends = paired_ends ticket own group.tickets limbo whole in
      let seq : (fold_batches s.story.start (s.story.log ++ limbo)).seq ≡ last_seq s + count_ops limbo =
      ap (λ (p : Point). p.seq) (folded_append s.story.start s.story.log limbo) ∙ seq_folded (fold_batches s.story.start s.story.log) limbo in
      inr (inr (record {
        out = outcome.Done (fold_batches s.story.start (s.story.log ++ limbo)).seq;
        kept =
            kept_skip ticket s.writing.outcomes (done_each (last_seq s) group.tickets limbo) none
            ∙ done_own ticket own (last_seq s) (fold_batches s.story.start (s.story.log ++ limbo)).seq group.tickets limbo whole seq;
        means = record {
          before = s.story.log ++ ends.0;
          log_is = ap (λ (l : List (List Op)). s.story.log ++ l) ends.1 ∙ sym (append_assoc s.story.log ends.0 (own ∷ []));
          seq_is = refl;
          none_in_limbo = refl;
          no_group = refl;
          none_waits = waits;
        };
      }))
  own_goes_on sync group (act ∷ later) s none waits paired behind left = inr (inl (record {
    none = none;
    none_waits = waits;
    group = record group { progress = record group.progress { made = group.progress.made + 1 } };
    running = refl;
    paired = paired;
    stage = subst (Stage group.batches) (sym left) behind;
  }))

  own_switched : (log : Option ℕ) (group : Group) (later : List Act) (s : State) → outcome_kept ticket s.writing.outcomes ≡ None → s.writing.waiting ≡ []
      → Paired ticket own group.tickets (s.story.limbo ++ ops_of group.batches) → Behind group.batches later → drop (group.progress.made + 1) group.plan ≡ later
      → IsOwn ticket own key last (goes_on false (with_made None group) later (switched log s))
  own_switched None group later s none waits paired behind left = own_goes_on false (with_made None group) later s none waits paired behind left
  own_switched (Some number) group later s none waits paired behind left =
      own_goes_on false (with_made None group) later (switched (Some number) s) none waits paired behind left

  own_act : (act : Act) (group : Group) (later : List Act) (s : State) → outcome_kept ticket s.writing.outcomes ≡ None → s.writing.waiting ≡ []
      → Paired ticket own group.tickets (s.story.limbo ++ ops_of group.batches) → Stage group.batches (act ∷ later) → drop (group.progress.made + 1) group.plan ≡ later
      → IsOwn ticket own key last (act_done act group later s)
  own_act CloseLog group later s none waits paired stage left = own_goes_on false group later s none waits paired (staged group.batches later stage) left
  own_act MakeLog group later s none waits paired stage left =
      own_goes_on false (with_made (Some s.numbers.next_file) group) later (file_drawn s) none waits paired (staged group.batches later stage) left
  own_act SyncDirectory group later s none waits paired stage left =
      own_switched group.progress.log group later s none waits paired (staged group.batches later stage) left
  own_act AddRecords group later s none waits paired stage left =
      own_goes_on false (record group { batches = [] }) later (batches_handed group (with_log (log_longer _ s.segments.active.log) s)) none waits
      (subst (Paired ticket own group.tickets) (sym (append-nil (s.story.limbo ++ ops_of group.batches))) paired) (tailed later stage) left
  own_act SyncLog group later s none waits paired stage left = own_goes_on true group later s none waits paired (synced group.batches later stage) left

  own_act_failed : (act : Act) (group : Group) (failure : Failure) (s : State) → outcome_kept ticket s.writing.outcomes ≡ None
      → (batches : List (List Op)) → Paired ticket own group.tickets batches → IsOwn ticket own key last (act_failed act group failure s)
  own_act_failed act group failure s none batches paired = by act
    where
      kept : outcome_kept ticket (s.writing.outcomes ++ given (outcome.Failed failure) group.tickets) ≡ Some (outcome.Failed failure)
      kept =
          kept_skip ticket s.writing.outcomes (given (outcome.Failed failure) group.tickets) none
          ∙ given_own ticket own (outcome.Failed failure) group.tickets batches paired

      by : (act : Act) → IsOwn ticket own key last (act_failed act group failure s)
      by CloseLog = inr (inr (record { out = outcome.Failed failure; kept = kept; means = tt }))
      by MakeLog = inr (inr (record { out = outcome.Failed failure; kept = kept; means = tt }))
      by SyncDirectory = inr (inr (record { out = outcome.Failed failure; kept = kept; means = tt }))
      by AddRecords = inr (inr (record { out = outcome.Failed failure; kept = kept; means = tt }))
      by SyncLog = inr (inr (record { out = outcome.Failed failure; kept = kept; means = tt }))

  own_first : (group : Group) (left : List Act) (s : State) → left_of group ≡ left → IsInGroup ticket own s
      → Paired ticket own group.tickets (s.story.limbo ++ ops_of group.batches) → Stage group.batches left → IsOwn ticket own key last (first_done group left s)
  own_first group [] s is grouped paired stage = absurd stage
  own_first group (act ∷ later) s is grouped paired stage =
      own_act act group later s grouped.none grouped.none_waits paired stage (one_dropped group.progress.made group.plan act later is)

  -- one running group is another
  pub record IsOf (group : Group) (s : State) : Type 0 where
    pub paired : Paired ticket own group.tickets (s.story.limbo ++ ops_of group.batches)
    pub stage : Stage group.batches (left_of group)

  of_group : (group : Group) (s : State) (grouped : IsInGroup ticket own s) → s.jobs.write.running ≡ Some group → IsOf group s
  of_group group s grouped is =
      let same : grouped.group ≡ group = some_same grouped.group group (sym grouped.running ∙ is) in
      record {
        paired = subst (λ (g : Group). Paired ticket own g.tickets (s.story.limbo ++ ops_of g.batches)) same grouped.paired;
        stage = subst (λ (g : Group). Stage g.batches (left_of g)) same grouped.stage;
      }
    where
      some_same : (a b : Group) → Some a ≡ Some b → a ≡ b
      some_same a b same = cc

  pub own_group : (running : Option Group) (s : State) → s.jobs.write.running ≡ running → IsOwn ticket own key last s → (IsOver ticket own key last s → ⊥) → IsOwn ticket own key last (group_done running s)
  own_group running s is (inl apart) on_way = inl (apart_group ticket (OwnLast ticket own key last) running s is apart.0, story_group key last running s is apart.1)
  own_group None s is (inr (inl grouped)) on_way = inr (inl grouped)
  own_group (Some group) s is (inr (inl grouped)) on_way =
      let of = of_group group s grouped is in
      own_first group (left_of group) s refl grouped of.paired of.stage
  own_group running s is (inr (inr over)) on_way = absurd (on_way over)

  own_first_failed : (group : Group) (left : List Act) (failure : Failure) (s : State) → IsInGroup ticket own s
      → Paired ticket own group.tickets (s.story.limbo ++ ops_of group.batches) → Stage group.batches left → IsOwn ticket own key last (first_failed group left failure s)
  own_first_failed group [] failure s grouped paired stage = absurd stage
  own_first_failed group (act ∷ later) failure s grouped paired stage =
      own_act_failed act group failure s grouped.none (s.story.limbo ++ ops_of group.batches) paired

  pub own_group_failed : (running : Option Group) (failure : Failure) (s : State) → s.jobs.write.running ≡ running → IsOwn ticket own key last s → (IsOver ticket own key last s → ⊥)
      → IsOwn ticket own key last (group_failed running failure s)
  own_group_failed running failure s is (inl apart) on_way = inl (apart_group_failed ticket (OwnLast ticket own key last) running failure s is apart.0, story_group_failed key last running failure s is apart.1)
  own_group_failed None failure s is (inr (inl grouped)) on_way = inr (inl grouped)
  own_group_failed (Some group) failure s is (inr (inl grouped)) on_way =
      let of = of_group group s grouped is in
      own_first_failed group (left_of group) failure s grouped of.paired of.stage
  own_group_failed running failure s is (inr (inr over)) on_way = absurd (on_way over)

  -- ---- forming a group

  own_started : (waiting : List Ticketed) (s : State) → OwnLast ticket own key last waiting → outcome_kept ticket s.writing.outcomes ≡ None → HasStory key last s → s.story.limbo ≡ []
      → IsOwn ticket own key last (started waiting s)
  own_started [] s owned none story limbo = absurd owned
  own_started (first ∷ rest) s owned none story limbo = by (formed ticket own key last (next_size (first ∷ rest)) (first ∷ rest) owned)
    where
      by : Formed ticket own key last (next_size (first ∷ rest)) (first ∷ rest) → IsOwn ticket own key last (started (first ∷ rest) s)
      by (inl all) = inr (inl (record {
        none = none;
        none_waits = all.0;
        group = _;
        running = refl;
        paired =
            subst (λ (l : List (List Op)). Paired ticket own (take (next_size (first ∷ rest)) (tickets_of (first ∷ rest))) (l ++ ops_of (next_batches (first ∷ rest)))) (sym limbo) all.1;
        stage = plan_staged (is_full s) (wants_sync (next_batches (first ∷ rest))) (next_batches (first ∷ rest));
      }))
      by (inr left) = inl (
        record { none = none; owned = left.0; lacks = left.1 },
        record { logged = story.logged; limbo = story.limbo; group = left.2 },
      )

  pub own_ready : (running : Option Group) (s : State) → (running ≡ None → s.story.limbo ≡ []) → IsOwn ticket own key last s → (IsOver ticket own key last s → ⊥) → s.jobs.write.running ≡ running
      → IsOwn ticket own key last (started_or running s)
  own_ready (Some group) s limbo owns on_way is = owns
  own_ready None s limbo (inl apart) on_way is = own_started s.writing.waiting s apart.0.owned apart.0.none apart.1 (limbo refl)
  own_ready None s limbo (inr (inl grouped)) on_way is = let two : Some grouped.group ≡ None = sym grouped.running ∙ is in absurd cc
  own_ready None s limbo (inr (inr over)) on_way is = absurd (on_way over)
