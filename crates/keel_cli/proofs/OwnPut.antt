-- A put that settles: it is the last of the log, or it is gone. And a ticket that wasn't given is nobody's.
use Rattle.std.specs.Prelude.{is_some}
use Rattle.std.proofs.Common.{length, ◌≡◌, ◌∙◌, inl, inr, ℕ, ◌==◌, not, Bool, true, false, if◌then◌else◌, Option, None, Some, List, [], ◌∷◌, ◌++◌, unwrap_or, option_map, refl, sym, ap, subst, arith}
use Rattle.keel_base.specs.Points.{fold_batches}
use Rattle.keel_base.specs.Keys.{key_eq}
use Rattle.keel_base.specs.declared.failure.Failure.{Failure}
use Rattle.keel_base.specs.declared.op.Op.{Op}
use Rattle.keel_directory.specs.TableFiles.{TableFile}
use Rattle.keel_disk.specs.Seen.{Seen}
use Rattle.keel_disk.specs.State.{State as Disk}
use Rattle.keel_disk.specs.Told.{Told}
use Rattle.keel_flush.specs.Plans.{Job as FlushJob}
use Rattle.keel_group.specs.Queue.{Ticketed, tickets_of}
use Rattle.keel_machine.proofs.FirstTests.{none_first, none_later, none_of, none_mapped, none_when}
use Rattle.keel_machine.specs.Admission.{outcome_kept, is_on_its_way, outcome_of, stopping, ops_of, batches_of_group}
use Rattle.keel_machine.specs.States.{State, Story, Footing, Known, Unknown, Phase, Shut, Booting, Open, Closing, Segment, SegmentLog, Group, is_open, is_left}
use Rattle.keel_machine.specs.Tests.{first_some, differing}
use Rattle.keel_machine.specs.Turns.{Writing as Makes, TakingOutcome, after}
use Rattle.keel_machine.specs.Writing.{cancelled, is_nobody_waiting, ready, started, started_or, rests_of, rests_before_group, turned_away, write_rest}
use Rattle.keel_machine.specs.WritingAfter.{WriteAnswers, call_done, call_failed, queue_turned, write_after}
use Rattle.keel_machine.specs.declared.answers.Outcome.{Outcome}
use Rattle.keel_machine.specs.declared.answers.Outcome.TheVariants as outcome
use Rattle.keel_machine.specs.declared.steps.WriteStep.{WriteStep}
use Rattle.keel_machine.specs.declared.steps.WriteStep.TheVariants as step
use Rattle.keel_manifest.specs.State.{ManifestState}
use Rattle.keel_recovery.specs.Machine.{IsCovered, IsCoveredBy, KeptBy, HoldsBy, TurnKeeps}
use Rattle.keel_recovery.specs.Waiting.{ops_waiting}
use Rattle.keel_cli.specs.Jobs.{Driven}
use Rattle.keel_cli.specs.Puts.{Waits}
use Rattle.keel_cli.specs.ReadClaim.{Acked}
use Rattle.keel_cli.proofs.Flooring.{was_known}
use Rattle.keel_cli.proofs.Following.{HasLast, last_seen, last_turned}
use Rattle.keel_cli.proofs.Keeping.{IsKept, waited, taken}
use Rattle.keel_cli.proofs.Ledger.{key_of, value_of, AllFree, Logged, lasts_own}
use Rattle.keel_cli.proofs.Owning.{kept_skip, none_filter, given_last}
use Rattle.keel_cli.proofs.OwnSteps.{IsEnd, Means, IsOver, IsOwn, own_group, own_group_failed, own_ready}
use Rattle.keel_cli.proofs.Tickets.{given}

-- ---- nothing is in limbo where a group is to be formed

none_by : (o : Option SegmentLog) (state : Disk) (levels : List TableFile) (story : Story) (immutable : List Segment) (batches : List (List Op)) (waiting : List Ticketed) (stops : Option Failure) (running : Option Group)
    (next_file in_tables : ℕ) (flush : Option FlushJob) (manifest : ManifestState) → stops ≡ None → running ≡ None
    → HoldsBy o state levels story immutable batches waiting stops running next_file in_tables flush manifest → story.limbo ≡ []
none_by None state levels story immutable batches waiting stops running next_file in_tables flush manifest none no_group h = absurd h
none_by (Some log) state levels story immutable batches waiting None None next_file in_tables flush manifest none no_group h = h.order.1
none_by (Some log) state levels story immutable batches waiting None (Some group) next_file in_tables flush manifest none no_group h = cc
none_by (Some log) state levels story immutable batches waiting (Some failure) running next_file in_tables flush manifest none no_group h = cc

-- somebody waits where a group is to be formed
nobody : (s : State) (held : Option ℕ) → write_rest s held ≡ None → s.jobs.write.running ≡ None → s.writing.waiting ≡ [] → ⊥
nobody s held rest no_group none_waits =
    let here = first_some (rests_of s s.jobs.write.running) in
    let rests : first_some (rests_of s s.jobs.write.running) ≡ None = none_first here [] (none_later (option_map (cancelled s) (differing held s.jobs.write.number)) (here ∷ []) rest) in
    let before : first_some (rests_before_group s) ≡ None = subst (λ (r : Option Group). first_some (rests_of s r) ≡ None) no_group rests in
    let idle : WriteStep = step.Idle in
    let somebody : is_nobody_waiting s ≡ false = none_when (is_nobody_waiting s) idle (none_of (rests_before_group s) before).0 in
    never (sym (ap (λ (waiting : List Ticketed). length waiting == 0) none_waits) ∙ somebody)
  where
    never : true ≡ false → ⊥
    never e = cc

none_kept : (phase : Phase) (b : Bool) (state : Disk) (s : State) (held : Option ℕ) → is_open phase ≡ true → write_rest s held ≡ None → stopping s ≡ None → s.jobs.write.running ≡ None → KeptBy phase b state s → s.story.limbo ≡ []
none_kept Shut b state s held opened rest none no_group h = cc
none_kept Booting b state s held opened rest none no_group h = absurd (nobody s held rest no_group h.none_waits)
none_kept Closing b state s held opened rest none no_group h = absurd (nobody s held rest no_group h.none_waits)
none_kept Open b state s held opened rest none no_group (inr h) = absurd (never (sym (ap (λ (o : Option Failure). is_some o) none) ∙ h.stopped))
  where
    never : false ≡ true → ⊥
    never e = cc
none_kept Open b state s held opened rest none no_group (inl h) =
    none_by s.segments.active.log state s.levels s.story s.segments.immutable s.segments.active.batches s.writing.waiting (stopping s) s.jobs.write.running s.numbers.next_file s.numbers.in_tables
    s.jobs.flush.running s.numbers.manifest none no_group h.stored

none_covered : (footing : Footing) (told : Option Told) (s : State) (held : Option ℕ) → footing ≡ Known → is_open s.mode.phase ≡ true → stopping s ≡ None → s.jobs.write.running ≡ None → write_rest s held ≡ None
    → IsCoveredBy footing s.mode told s → s.story.limbo ≡ []
none_covered Known (Some told) s held known opened none no_group rest h = none_kept s.mode.phase (is_left s.mode.left) told.state s held opened rest none no_group h
none_covered Known None s held known opened none no_group rest h = absurd h
none_covered Unknown told s held known opened none no_group rest h = cc

none_stops : (s : State) (held : Option ℕ) → write_rest s held ≡ None → s.jobs.write.running ≡ None → stopping s ≡ None
none_stops s held none no_group =
    let here = first_some (rests_of s s.jobs.write.running) in
    let rests : first_some (rests_of s s.jobs.write.running) ≡ None = none_first here [] (none_later (option_map (cancelled s) (differing held s.jobs.write.number)) (here ∷ []) none) in
    let before : first_some (rests_before_group s) ≡ None = subst (λ (r : Option Group). first_some (rests_of s r) ≡ None) no_group rests in
    none_mapped (turned_away s) (stopping s) (none_of (rests_before_group s) before).1.0

pub no_limbo : (s : State) (held : Option ℕ) → s.footing ≡ Known → is_open s.mode.phase ≡ true → IsCovered s → write_rest s held ≡ None → s.jobs.write.running ≡ None → s.story.limbo ≡ []
no_limbo s held known opened covered none no_group = none_covered s.footing s.device.told s held known opened (none_stops s held none no_group) no_group none covered

-- ---- what is told of a ticket

kept_done : (seq : ℕ) (kept : Option Outcome) (b : Bool) → unwrap_or kept (if b then outcome.Waiting else outcome.Unknown) ≡ outcome.Done seq → kept ≡ Some (outcome.Done seq)
kept_done seq None true is = cc
kept_done seq None false is = cc
kept_done seq (Some out) b is = ap (λ (o : Outcome). Some o) is

kept_turned : (failure : Failure) (kept : Option Outcome) (b : Bool) → unwrap_or kept (if b then outcome.Waiting else outcome.Unknown) ≡ outcome.Turned failure → kept ≡ Some (outcome.Turned failure)
kept_turned failure None true is = cc
kept_turned failure None false is = cc
kept_turned failure (Some out) b is = ap (λ (o : Outcome). Some o) is

some_same : (a b : Outcome) → Some a ≡ Some b → a ≡ b
some_same a b same = cc

none_is : {P : Type 0} (kept : Option Outcome) (out : Outcome) → kept ≡ None → kept ≡ Some out → P
none_is kept out none some = cc

waits_none : (kept : Option Outcome) (b : Bool) (P : Outcome → Type 0) → (P outcome.Waiting → ⊥) → ((out : Outcome) → kept ≡ Some out → P out) → outcome.Waiting ≡ unwrap_or kept (if b then outcome.Waiting else outcome.Unknown) → kept ≡ None
waits_none None b P not means is = refl
waits_none (Some out) b P not means is = absurd (not (subst P (sym is) (means out refl)))

module _ (ticket : ℕ) (own : List Op) (key : List ℕ) (last : Option Acked) where
  own_none : (s : State) → IsOwn ticket own key last s → outcome.Waiting ≡ outcome_of s ticket → outcome_kept ticket s.writing.outcomes ≡ None
  own_none s (inl apart) is = apart.0.none
  own_none s (inr (inl grouped)) is = grouped.none
  own_none s (inr (inr over)) is =
      waits_none (outcome_kept ticket s.writing.outcomes) (is_on_its_way ticket s) (λ out. Means own key last out s) (λ no. no)
      (λ out same. subst (λ (o : Outcome). Means own key last o s) (some_same over.out out (sym over.kept ∙ same)) over.means) is

  pub own_done : (s : State) (seq : ℕ) → IsOwn ticket own key last s → outcome_of s ticket ≡ outcome.Done seq → IsEnd own seq s
  own_done s seq (inl apart) is = none_is (outcome_kept ticket s.writing.outcomes) (outcome.Done seq) apart.0.none (kept_done seq (outcome_kept ticket s.writing.outcomes) (is_on_its_way ticket s) is)
  own_done s seq (inr (inl grouped)) is = none_is (outcome_kept ticket s.writing.outcomes) (outcome.Done seq) grouped.none (kept_done seq (outcome_kept ticket s.writing.outcomes) (is_on_its_way ticket s) is)
  own_done s seq (inr (inr over)) is =
      let kept = kept_done seq (outcome_kept ticket s.writing.outcomes) (is_on_its_way ticket s) is in
      subst (λ (o : Outcome). Means own key last o s) (some_same over.out (outcome.Done seq) (sym over.kept ∙ kept)) over.means

  pub own_turned : (s : State) (failure : Failure) → IsOwn ticket own key last s → outcome_of s ticket ≡ outcome.Turned failure → HasLast key last s
  own_turned s failure (inl apart) is =
      none_is (outcome_kept ticket s.writing.outcomes) (outcome.Turned failure) apart.0.none (kept_turned failure (outcome_kept ticket s.writing.outcomes) (is_on_its_way ticket s) is)
  own_turned s failure (inr (inl grouped)) is =
      none_is (outcome_kept ticket s.writing.outcomes) (outcome.Turned failure) grouped.none (kept_turned failure (outcome_kept ticket s.writing.outcomes) (is_on_its_way ticket s) is)
  own_turned s failure (inr (inr over)) is =
      let kept = kept_turned failure (outcome_kept ticket s.writing.outcomes) (is_on_its_way ticket s) is in
      subst (λ (o : Outcome). Means own key last o s) (some_same over.out (outcome.Turned failure) (sym over.kept ∙ kept)) over.means

  -- ---- write steps

  same_outcomes : (running : Option Group) (s : State) → (started_or running s).writing.outcomes ≡ s.writing.outcomes
  same_outcomes None s = by s.writing.waiting
    where
      by : (waiting : List Ticketed) → (started waiting s).writing.outcomes ≡ s.writing.outcomes
      by [] = refl
      by (first ∷ rest) = refl
  same_outcomes (Some group) s = refl

  not_over : (s : State) → outcome_kept ticket s.writing.outcomes ≡ None → IsOver ticket own key last s → ⊥
  not_over s none over = none_is (outcome_kept ticket s.writing.outcomes) over.out none over.kept

  not_ready : (s : State) → outcome_kept ticket s.writing.outcomes ≡ None → outcome_kept ticket (ready s).writing.outcomes ≡ None
  not_ready s none = ap (outcome_kept ticket) (same_outcomes s.jobs.write.running s) ∙ none

  module _ (s : State) (none : outcome_kept ticket s.writing.outcomes ≡ None) where
    own_called : (s.jobs.write.running ≡ None → s.story.limbo ≡ []) → IsOwn ticket own key last s → IsOwn ticket own key last (call_done s)
    own_called limbo owns =
        own_group ticket own key last (ready s).jobs.write.running (ready s) refl
        (own_ready ticket own key last s.jobs.write.running s limbo owns (not_over s none) refl) (not_over (ready s) (not_ready s none))

    own_failed : (failure : Failure) → (s.jobs.write.running ≡ None → s.story.limbo ≡ []) → IsOwn ticket own key last s → IsOwn ticket own key last (call_failed failure s)
    own_failed failure limbo owns =
        own_group_failed ticket own key last (ready s).jobs.write.running failure (ready s) refl
        (own_ready ticket own key last s.jobs.write.running s limbo owns (not_over s none) refl) (not_over (ready s) (not_ready s none))

    own_turn : (failure : Failure) → IsOwn ticket own key last s → IsOwn ticket own key last (queue_turned failure s)
    own_turn failure (inl apart) = inr (inr (record {
      out = outcome.Turned failure;
      kept =
          kept_skip ticket s.writing.outcomes (given (outcome.Turned failure) (tickets_of s.writing.waiting)) none
          ∙ given_last ticket own key last (outcome.Turned failure) s.writing.waiting apart.0.owned;
      means = last_turned key last failure s apart.1;
    }))
    own_turn failure (inr (inl grouped)) = inr (inl (record {
      none =
          kept_skip ticket s.writing.outcomes (given (outcome.Turned failure) (tickets_of s.writing.waiting)) none
          ∙ ap (λ (w : List Ticketed). outcome_kept ticket (given (outcome.Turned failure) (tickets_of w))) grouped.none_waits;
      none_waits = refl;
      group = grouped.group;
      running = grouped.running;
      paired = grouped.paired;
      stage = grouped.stage;
    }))
    own_turn failure (inr (inr over)) = absurd (not_over s none over)

    own_written : (held : Option ℕ) (made : WriteStep) (device : Seen) → WriteAnswers s held made device → (write_rest s held ≡ None → s.jobs.write.running ≡ None → s.story.limbo ≡ [])
        → IsOwn ticket own key last s → IsOwn ticket own key last (write_after s made)
    own_written held (step.Moved job call) device a limbo owns = own_called (limbo a.made.makes.no_rest) owns
    own_written held (step.Done job seq batches) device a limbo owns = own_called (limbo a.made.makes.no_rest) owns
    own_written held (step.Failed failure) device a limbo owns = own_failed failure (limbo a.made.makes.no_rest) owns
    own_written held (step.Turned batches failure) device a limbo owns = own_turn failure owns
    own_written held step.Idle device a limbo owns = owns
    own_written held (step.Full active immutables) device a limbo owns = owns
    own_written held (step.Spent counter) device a limbo owns = owns
    own_written held (step.Cancelled job current) device a limbo owns = owns
    own_written held step.OutOfMemory device a limbo owns = owns

  means_seen : (out : Outcome) (s : State) (device : Seen) → Means own key last out s → Means own key last out (record s { device = device })
  means_seen outcome.Waiting s device means = absurd means
  means_seen (outcome.Done seq) s device means = record {
    before = means.before;
    log_is = means.log_is;
    seq_is = means.seq_is;
    none_in_limbo = means.none_in_limbo;
    no_group = means.no_group;
    none_waits = means.none_waits;
  }
  means_seen (outcome.Failed failure) s device means = tt
  means_seen (outcome.Turned failure) s device means = last_seen key last s device means
  means_seen outcome.Closed s device means = absurd means
  means_seen outcome.Unknown s device means = absurd means

  own_seen : (s : State) (device : Seen) → IsOwn ticket own key last s → IsOwn ticket own key last (record s { device = device })
  own_seen s device (inl apart) = inl (
    record { none = apart.0.none; owned = apart.0.owned; lacks = apart.0.lacks },
    record { logged = apart.1.logged; limbo = apart.1.limbo; group = apart.1.group },
  )
  own_seen s device (inr (inl grouped)) = inr (inl (record {
    none = grouped.none;
    none_waits = grouped.none_waits;
    group = grouped.group;
    running = grouped.running;
    paired = grouped.paired;
    stage = grouped.stage;
  }))
  own_seen s device (inr (inr over)) = inr (inr (record { out = over.out; kept = over.kept; means = means_seen over.out s device over.means }))

  own_taken : (s : State) (device : Seen) → outcome_kept ticket s.writing.outcomes ≡ None → IsOwn ticket own key last s
      → IsOwn ticket own key last (after s (TakingOutcome ticket outcome.Waiting) device)
  own_taken s device none (inl apart) = inl (
    record { none = none_filter ticket (λ entry. not (entry.0 == ticket)) s.writing.outcomes none; owned = apart.0.owned; lacks = apart.0.lacks },
    record { logged = apart.1.logged; limbo = apart.1.limbo; group = apart.1.group },
  )
  own_taken s device none (inr (inl grouped)) = inr (inl (record {
    none = none_filter ticket (λ entry. not (entry.0 == ticket)) s.writing.outcomes none;
    none_waits = grouped.none_waits;
    group = grouped.group;
    running = grouped.running;
    paired = grouped.paired;
    stage = grouped.stage;
  }))
  own_taken s device none (inr (inr over)) = absurd (not_over s none over)

  module _ (keeps : TurnKeeps) where
    -- a batch that is on its way stays so while write steps are made, or has an outcome
    pub own_waits : (old new : Driven) (steps : List WriteStep) → Waits old ticket steps new → IsKept IsCovered keeps old.state → new.state.footing ≡ Known → IsOwn ticket own key last old.state → IsOwn ticket own key last new.state
    own_waits old new [] same covered known owns = rw same owns
    own_waits old new (made ∷ earlier) waits covered known owns =
        let mid = waits.0.state in
        let held = waits.0.jobs.write in
        let same = waits.1 in
        let known_same : same.footing ≡ Known = was_known same new.state (Makes held made) waits.4.turn known in
        let known_mid : mid.footing ≡ Known = was_known mid same (TakingOutcome ticket outcome.Waiting) waits.3 known_same in
        let before = own_waits old waits.0 earlier waits.2 covered known_mid owns in
        let none : outcome_kept ticket mid.writing.outcomes ≡ None = own_none mid before waits.3.0.0 in
        let covered_same = taken IsCovered keeps mid same ticket outcome.Waiting waits.3 (waited IsCovered keeps old waits.0 ticket earlier waits.2 covered) in
        let between : IsOwn ticket own key last same = subst (IsOwn ticket own key last) (sym waits.3.1) (own_taken mid same.device none before) in
        let none_same : outcome_kept ticket same.writing.outcomes ≡ None =
        subst (λ (s : State). outcome_kept ticket s.writing.outcomes ≡ None) (sym waits.3.1) (none_filter ticket (λ entry. not (entry.0 == ticket)) mid.writing.outcomes none) in
        let behind = own_written same none_same held made new.state.device waits.4.turn.0 (no_limbo same held known_same covered_same.opened covered_same.kept) between in
        subst (IsOwn ticket own key last) (sym waits.4.turn.1) (own_seen (write_after same made) new.state.device behind)

-- the last of the log is the last write of its key
pub end_last : (op : Op) (key : List ℕ) (seq : ℕ) (value : Option (List ℕ)) (s : State) → key_eq (key_of op) key ≡ true → value_of op ≡ value → IsEnd (op ∷ []) seq s
    → HasLast key (Some (record { number = seq; value = value })) s
end_last op key seq value s same is ends =
    let write : Acked = record { number = seq; value = value } in
    let at : seq ≡ (fold_batches s.story.start (ends.before ++ (op ∷ []) ∷ [])).seq = ends.seq_is ∙ ap (λ (l : List (List Op)). (fold_batches s.story.start l).seq) ends.log_is in
    let whole : Logged key (Some write) s.story.start (ends.before ++ (op ∷ []) ∷ []) = (lasts_own key write op s.story.start ends.before same is at, omega (arith, at)) in
    record {
      story = record {
        logged = subst (λ (l : List (List Op)). Logged key (Some write) s.story.start l) (sym ends.log_is) whole;
        limbo = subst (λ (l : List (List Op)). AllFree key (Some write) l) (sym ends.none_in_limbo) tt;
        group = subst (λ (r : Option Group). AllFree key (Some write) (ops_of (batches_of_group r))) (sym ends.no_group) tt;
      };
      waits = subst (λ (w : List Ticketed). AllFree key (Some write) (ops_waiting w)) (sym ends.none_waits) tt;
    }
