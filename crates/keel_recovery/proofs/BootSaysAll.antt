-- What the edit of a boot's roll says.
use Rattle.std.proofs.Common.{◌≡◌, ℕ, ◌+◌, ◌^◌, ◌<◌, ◌≤◌, true, List, [], ◌∷◌, ◌++◌, length, Option, Some, Result, Ok, refl, sym, ap, subst, ◌∙◌, arith}
use Rattle.std.specs.Prelude.{All, nat_le, unwrap_or}
use Rattle.std.specs.List.{AllByRecursion, flat_map}
use Rattle.std.proofs.lemmas.Bool.{le-leb}
use Rattle.std.proofs.lemmas.List.{length-append, map-append}
use Rattle.std.proofs.lemmas.List.Elements.{All-from_recursion, All-head, All-tail}
use Rattle.keel_base.specs.declared.limits.TheConstants.{LAST_NUMBER}
use Rattle.keel_base.specs.declared.op.Op.{Op}
use Rattle.keel_base.specs.declared.row.Row.{Row}
use Rattle.keel_base.specs.Rows.{IsMapOf}
use Rattle.keel_directory.specs.Sound.{AllAgree, AreLayered, IsAsSaid}
use Rattle.keel_directory.specs.TableFiles.{TableFile, open_sized, table_rows}
use Rattle.keel_edit.specs.declared.edit.Added.{Added}
use Rattle.keel_edit.specs.Spelling.{IsAdded, IsEdit}
use Rattle.keel_machine.specs.Reads.{segment_rows}
use Rattle.keel_machine.specs.Resuming.{made_in}
use Rattle.keel_machine.specs.States.{Story, entries_in, point_of}
use Rattle.keel_draft.specs.Drafts.{added_of, batch_rows, count_ops, numbered, with_new}
use Rattle.keel_resume.specs.Plans.{Job, edit_of}
use Rattle.keel_version.specs.Tables.{AreLevels, Contents, are_apart, nothing}
use Rattle.keel_version.proofs.Members.{whole_edit}
use Rattle.keel_recovery.specs.BootCalls.{joined}
use Rattle.keel_recovery.specs.BootRoll.{Gives, HasAllMade, RollGives, contents_behind, levels_behind}
use Rattle.keel_recovery.specs.Roots.{Say, then_behind, version_behind}
use Rattle.keel_recovery.proofs.BootSaysAmong.{AreAmong, AreOverRows, agree_among, insert_all, layered_among, map_among}
use Rattle.keel_recovery.proofs.BootSaysLevels.{IsNewOver, between_apart, entries_three, entries_with_new, high, high_level, low, low_level, new_three, parted, test_all}
use Rattle.keel_recovery.proofs.BootSaysNew.{drawn_numbers, new_apart, new_entries, new_few, new_fit, new_have, new_newest, new_over, segments_joined}
use Rattle.keel_recovery.proofs.BootSaysRows.{IsNumbered, batches_most, batches_within, each}
use Rattle.keel_recovery.proofs.BootSaysTables.{IsFit}
use Rattle.keel_recovery.proofs.OpenTables.{said_known}
use Rattle.keel_recovery.proofs.Rows.{AreKnown, rows_agree}

by_recursion : {A : Type 0} (P : A → Type 0) (xs : List A) → All P xs → AllByRecursion P xs
by_recursion P [] all = tt
by_recursion P (x ∷ xs) all = (All-head P x xs all, by_recursion P xs (All-tail P x xs all))

of_entries : (P : Added → Type 0) (tables : List TableFile) → AllByRecursion (λ (t : TableFile). P t.entry) tables → AllByRecursion P (entries_in tables)
of_entries P [] h = tt
of_entries P (t ∷ tables) h = (h.0, of_entries P tables h.1)

entries_count : (tables : List TableFile) → length (entries_in tables) ≡ length tables
entries_count [] = refl
entries_count (t ∷ tables) = omega (arith, entries_count tables)

said_more : (less last : ℕ) (t : TableFile) → less ≤ last → IsAsSaid less t → IsAsSaid last t
said_more less last t le said = record {
  whole = said.whole;
  count = said.count;
  count_said = said.count_said;
  least = said.least;
  greatest = said.greatest;
  first_said = said.first_said;
  last_said = said.last_said;
  within = said.within;
  known = omega (arith, le, said.known);
}

module _ (levels : List TableFile) (segments : List (List (List Op))) (in_tables : ℕ) (story : Story) (job : Job) (log next_file : ℕ) (all : HasAllMade levels segments in_tables story job log next_file) where
  abbrev front : List TableFile
  front = low levels

  abbrev back : List TableFile
  back = high levels

  abbrev new : List TableFile
  new = made_in job

  old_are : front ++ back ≡ levels
  old_are = parted levels all.facts.order.apart

  behind_are : levels_behind levels job ≡ front ++ (new ++ back)
  behind_are = new_three levels new

  counted : in_tables + count_ops (joined segments) ≡ job.last_seq
  counted = all.facts.seq ∙ sym all.last_is

  most : in_tables + count_ops (joined segments) ≤ LAST_NUMBER
  most = batches_most LAST_NUMBER in_tables (joined segments) refl all.facts.in_known all.facts.limits

  fit : AllByRecursion (IsFit job.last_seq) new
  fit =
      new_fit job.last_seq in_tables job.progress.tables segments job.drafts all.drafts (drawn_numbers job.progress.tables next_file all.next all.rising) all.facts.each_some all.facts.limits most
      (omega (arith, counted))

  -- ---- the edit

  pub entries_are : entries_in (levels_behind levels job) ≡ entries_in front ++ (entries_in new ++ entries_in back)
  entries_are = ap entries_in behind_are ∙ entries_three front new back

  pub old_entries : entries_in front ++ entries_in back ≡ entries_in levels
  old_entries = sym (map-append (λ (t : TableFile). t.entry) front back) ∙ ap entries_in old_are

  added_are : (edit_of job next_file).added ≡ entries_in (levels_behind levels job)
  added_are =
      ap (λ (live : List Added). with_new (λ (t : Added). t.level) live (numbered added_of job.progress.tables job.drafts)) all.live_is
      ∙ ap (λ (come : List Added). with_new (λ (t : Added). t.level) (entries_in levels) come) (sym (new_entries job.progress.tables job.drafts))
      ∙ sym (entries_with_new levels new)

  pub all_added : AllByRecursion IsAdded (entries_in (levels_behind levels job))
  all_added =
      subst (AllByRecursion IsAdded) (sym entries_are)
      (insert_all IsAdded (entries_in front) (entries_in new) (entries_in back)
      (subst (AllByRecursion IsAdded) (sym old_entries) (by_recursion IsAdded (entries_in levels) all.facts.entries))
      (of_entries IsAdded new (each (IsFit job.last_seq) (λ (t : TableFile). IsAdded t.entry) new (λ t is. is.added) fit)))

  apart : are_apart (entries_in (levels_behind levels job)) ≡ true
  apart =
      let come : entries_in new ≡ numbered added_of job.progress.tables job.drafts = new_entries job.progress.tables job.drafts in
      let over : AllByRecursion (λ old. AllByRecursion (IsNewOver old) (entries_in new)) (entries_in front ++ entries_in back) =
      subst (λ (olds : List Added). AllByRecursion (λ old. AllByRecursion (IsNewOver old) (entries_in new)) olds) (all.live_is ∙ sym old_entries)
      (subst (λ (news : List Added). AllByRecursion (λ old. AllByRecursion (IsNewOver old) news) job.live) (sym come) (new_over job.live job.progress.tables job.drafts all.over)) in
      ap are_apart entries_are
      ∙ between_apart (entries_in front) (entries_in new) (entries_in back) (ap are_apart old_entries ∙ all.facts.order.apart) (ap are_apart come ∙ new_apart job.progress.tables job.drafts next_file all.rising)
      (of_entries (λ (a : Added). a.level ≡ 0) front (low_level levels)) (of_entries (λ (a : Added). 1 ≤ a.level) back (high_level levels)) over

  few : length (entries_in (levels_behind levels job)) < 2 ^ 32
  few =
      omega (
        arith,
        all.few,
        ap length entries_are,
        ap length old_entries,
        length-append (entries_in front) (entries_in new ++ entries_in back),
        length-append (entries_in new) (entries_in back),
        length-append (entries_in front) (entries_in back),
        entries_count levels,
        entries_count new,
        new_few job.progress.tables job.drafts,
      )

  pub order : AreLevels (entries_in (levels_behind levels job))
  order = record {
    apart = apart;
    levels = test_all (λ (t : Added). nat_le t.level 3) (entries_in (levels_behind levels job))
        (each IsAdded (λ (t : Added). nat_le t.level 3 ≡ true) (entries_in (levels_behind levels job)) (λ t is. le-leb t.level 3 is.level) all_added);
    few = few;
  }

  log_are : (edit_of job next_file).min_log ≡ log
  log_are = ap (λ (o : Option ℕ). unwrap_or o 0) all.log_is

  is_edit : IsEdit (edit_of job next_file)
  is_edit = record {
    min_log = omega (arith, log_are, all.log_drawn, all.next);
    next_file = record { least = all.some; most = all.next };
    last_seq = omega (arith, counted, most);
    few_removed = omega arith;
    removed = tt;
    few_added = omega (arith, few, ap length added_are);
    added = subst (AllByRecursion IsAdded) (sym added_are) all_added;
  }

  version : version_behind nothing (edit_of job next_file ∷ []) ≡ Some (contents_behind levels job log next_file)
  version =
      ap (λ (r : Result Contents ℕ). then_behind r (λ next. version_behind next [])) (whole_edit (edit_of job next_file) (entries_in (levels_behind levels job)) order refl added_are)
      ∙ ap some_contents log_are
    where
      some_contents : ℕ → Option Contents
      some_contents n = Some (contents_behind levels job n next_file)

  -- ---- the rows

  old_rows : flat_map table_rows (front ++ back) ≡ flat_map table_rows levels
  old_rows = ap (flat_map table_rows) old_are

  known : AreKnown in_tables (flat_map table_rows (front ++ back))
  known = subst (AreKnown in_tables) (sym old_rows) (said_known in_tables levels all.facts.said)

  come : (P : Row → Type 0) → AllByRecursion P (segment_rows in_tables segments) → AllByRecursion P (flat_map table_rows new)
  come P h = new_have P in_tables job.progress.tables segments job.drafts all.drafts h

  over_rows : AreOverRows in_tables (flat_map table_rows new)
  over_rows =
      come (λ (row : Row). in_tables + 1 ≤ row.seq)
      (subst (AreOverRows in_tables) (sym (segments_joined in_tables segments))
      (each (IsNumbered (in_tables + 1) (in_tables + count_ops (joined segments))) (λ (row : Row). in_tables + 1 ≤ row.seq) (batch_rows (in_tables + 1) (joined segments)) (λ row is. is.0)
      (batches_within (in_tables + 1) (in_tables + count_ops (joined segments)) (in_tables + 1) (joined segments) (omega arith) (omega arith))))

  among : AreAmong in_tables front new back
  among = record {
    known = known;
    over = over_rows;
    low = each (IsFit job.last_seq) (λ (t : TableFile). t.entry.level ≡ 0) new (λ t is. is.level) fit;
  }

  said : AllByRecursion (IsAsSaid job.last_seq) (front ++ (new ++ back))
  said =
      insert_all (IsAsSaid job.last_seq) front new back
      (subst (AllByRecursion (IsAsSaid job.last_seq)) (sym old_are)
      (each (IsAsSaid in_tables) (IsAsSaid job.last_seq) levels (λ t is. said_more in_tables job.last_seq t (omega (arith, counted)) is) all.facts.said))
      (each (IsFit job.last_seq) (IsAsSaid job.last_seq) new (λ t is. is.said) fit)

  agree : AllAgree (flat_map table_rows (front ++ (new ++ back)))
  agree =
      let agreed : AllAgree (flat_map table_rows levels ++ batch_rows (in_tables + 1) (joined segments)) =
      rows_agree in_tables (flat_map table_rows levels) (joined segments) (said_known in_tables levels all.facts.said) all.facts.agree in
      let with_segments : AllAgree (flat_map table_rows (front ++ back) ++ segment_rows in_tables segments) =
      subst AllAgree (λ i. sym old_rows i ++ sym (segments_joined in_tables segments) i) agreed in
      agree_among in_tables front new back among (segment_rows in_tables segments) come with_segments

  layered : AllByRecursion (λ upper. AllByRecursion (AreLayered upper) (front ++ (new ++ back))) (front ++ (new ++ back))
  layered =
      layered_among in_tables front new back among
      (subst (λ (tables : List TableFile). AllByRecursion (λ upper. AllByRecursion (AreLayered upper) tables) tables) (sym old_are) all.facts.layered)

  says : IsMapOf (flat_map table_rows (front ++ (new ++ back))) (point_of story).values
  says =
      map_among in_tables front new back among (segment_rows in_tables segments) (point_of story).values
      (λ key. new_newest key in_tables job.progress.tables segments job.drafts all.drafts all.each)
      (subst (λ (rows : List Row). IsMapOf (rows ++ segment_rows in_tables segments) (point_of story).values) (sym old_rows) all.facts.map)

  say : Say job.last_seq (levels_behind levels job) (point_of story)
  say =
      subst (λ (tables : List TableFile). Say job.last_seq tables (point_of story)) (sym behind_are)
      (record { said = said; agree = agree; layered = layered; map = says })

  pub gives : Gives levels story job log next_file
  gives = record {
    is_edit = is_edit;
    version = version;
    opens = each (IsFit job.last_seq) (λ (t : TableFile). open_sized t.entry.size t.bytes ≡ Ok t.file) new (λ t is. is.opens) fit;
    say = say;
    order = order;
    each = All-from_recursion IsAdded (entries_in (levels_behind levels job)) all_added;
  }

pub roll_gives : RollGives
roll_gives levels segments in_tables story job log next_file all = gives levels segments in_tables story job log next_file all
