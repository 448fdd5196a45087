-- The rows of new tables among those of older ones.
use Rattle.std.proofs.Common.{◌≡◌, ℕ, ◌+◌, ◌<◌, ◌≤◌, List, [], ◌∷◌, ◌++◌, refl, sym, ap, subst, ◌∙◌, append_assoc, arith}
use Rattle.std.specs.List.{AllByRecursion, flat_map}
use Rattle.keel_base.specs.declared.row.Row.{Row}
use Rattle.keel_base.specs.Points.{Values}
use Rattle.keel_base.specs.Rows.{IsMapOf, newest, value_left}
use Rattle.keel_base.proofs.Newest.{newest-append, newest_of_both}
use Rattle.keel_directory.specs.Sound.{Agree, AllAgree, AreLayered, IsNewer}
use Rattle.keel_directory.specs.TableFiles.{TableFile, table_rows}
use Rattle.keel_recovery.proofs.BootSaysRows.{back_of, both, each, front_of, newest_of, turned}
use Rattle.keel_recovery.proofs.Rows.{AreKnown}

-- ---- lists

pub insert_all : {A : Type 0} (P : A → Type 0) (front new back : List A) → AllByRecursion P (front ++ back) → AllByRecursion P new → AllByRecursion P (front ++ (new ++ back))
insert_all P front new back old come = both P front (new ++ back) (front_of P front back old) (both P new back come (back_of P front back old))

rows_joined : (front back : List TableFile) → flat_map table_rows (front ++ back) ≡ flat_map table_rows front ++ flat_map table_rows back
rows_joined [] back = refl
rows_joined (t ∷ front) back =
    ap (λ (l : List Row). table_rows t ++ l) (rows_joined front back) ∙ sym (append_assoc (table_rows t) (flat_map table_rows front) (flat_map table_rows back))

rows_three : (front new back : List TableFile) → flat_map table_rows (front ++ (new ++ back)) ≡ flat_map table_rows front ++ (flat_map table_rows new ++ flat_map table_rows back)
rows_three front new back = rows_joined front (new ++ back) ∙ ap (λ (l : List Row). flat_map table_rows front ++ l) (rows_joined new back)

-- what holds of all rows holds of those of each table
pub per_table : (P : Row → Type 0) (tables : List TableFile) → AllByRecursion P (flat_map table_rows tables) → AllByRecursion (λ t. AllByRecursion P (table_rows t)) tables
per_table P [] h = tt
per_table P (t ∷ tables) h = (front_of P (table_rows t) (flat_map table_rows tables) h, per_table P tables (back_of P (table_rows t) (flat_map table_rows tables) h))

-- ---- rows over others

abbrev pub AreOverRows : ℕ → List Row → Type 0
AreOverRows last rows = AllByRecursion (λ (row : Row). last + 1 ≤ row.seq) rows

newer_rows : (last : ℕ) (rows others : List Row) → AreOverRows last rows → AreKnown last others → AllByRecursion (λ a. AllByRecursion (IsNewer a) others) rows
newer_rows last [] others over known = tt
newer_rows last (a ∷ rows) others over known =
    (each (λ (b : Row). b.seq ≤ last) (IsNewer a) others (λ b le same. omega (arith, le, over.0)) known, newer_rows last rows others over.1 known)

-- Old tables, of which those of level 0 stand in front, and new ones of level 0 with rows over all of theirs.
pub record AreAmong (last : ℕ) (front new back : List TableFile) : Type 0 where
  pub known : AreKnown last (flat_map table_rows (front ++ back))
  pub over : AreOverRows last (flat_map table_rows new)
  pub low : AllByRecursion (λ (t : TableFile). t.entry.level ≡ 0) new

module _ (last : ℕ) (front new back : List TableFile) (among : AreAmong last front new back) where
  abbrev pub old : List TableFile
  old = front ++ back

  abbrev pub all : List TableFile
  all = front ++ (new ++ back)

  -- no table is on a level over that of a new one
  none_over_new : (upper : TableFile) → AllByRecursion (AreLayered upper) new
  none_over_new upper = each (λ (t : TableFile). t.entry.level ≡ 0) (AreLayered upper) new (λ t zero less. absurd (omega (arith, zero, less))) among.low

  new_over_old : (upper : TableFile) → AreOverRows last (table_rows upper) → AllByRecursion (AreLayered upper) old
  new_over_old upper over =
      each (λ (t : TableFile). AreKnown last (table_rows t)) (AreLayered upper) old (λ lower known less. newer_rows last (table_rows upper) (table_rows lower) over known)
      (per_table (λ (row : Row). row.seq ≤ last) old among.known)

  pub layered_among : AllByRecursion (λ upper. AllByRecursion (AreLayered upper) old) old → AllByRecursion (λ upper. AllByRecursion (AreLayered upper) all) all
  layered_among layered =
      insert_all (λ upper. AllByRecursion (AreLayered upper) all) front new back
      (each (λ upper. AllByRecursion (AreLayered upper) old) (λ upper. AllByRecursion (AreLayered upper) all) old
      (λ upper h. insert_all (AreLayered upper) front new back h (none_over_new upper)) layered)
      (each (λ (t : TableFile). AreOverRows last (table_rows t)) (λ upper. AllByRecursion (AreLayered upper) all) new
      (λ upper over. insert_all (AreLayered upper) front new back (new_over_old upper over) (none_over_new upper))
      (per_table (λ (row : Row). last + 1 ≤ row.seq) new among.over))

  abbrev front_rows : List Row
  front_rows = flat_map table_rows front

  abbrev new_rows : List Row
  new_rows = flat_map table_rows new

  abbrev back_rows : List Row
  back_rows = flat_map table_rows back

  -- ---- the map

  back_known : AreKnown last back_rows
  back_known = back_of (λ (row : Row). row.seq ≤ last) front_rows back_rows (subst (AreKnown last) (rows_joined front back) among.known)

  below_new : (key : List ℕ) → newest_of_both (newest key new_rows) (newest key back_rows) ≡ newest_of_both (newest key back_rows) (newest key new_rows)
  below_new key =
      sym (turned (last + 1) (newest key back_rows) (newest key new_rows)
      (newest_of (λ (row : Row). row.seq < last + 1) key back_rows (each (λ (row : Row). row.seq ≤ last) (λ (row : Row). row.seq < last + 1) back_rows (λ row le. omega (arith, le)) back_known))
      (newest_of (λ (row : Row). last + 1 ≤ row.seq) key new_rows among.over))

  newest_among : (key : List ℕ) → newest key (flat_map table_rows all) ≡ newest_of_both (newest key (flat_map table_rows old)) (newest key new_rows)
  newest_among key =
      ap (newest key) (rows_three front new back)
      ∙ newest-append key front_rows (new_rows ++ back_rows)
      ∙ ap (newest_of_both (newest key front_rows)) (newest-append key new_rows back_rows ∙ below_new key ∙ sym (newest-append key back_rows new_rows))
      ∙ sym (newest-append key front_rows (back_rows ++ new_rows))
      ∙ ap (newest key) (sym (append_assoc front_rows back_rows new_rows))
      ∙ newest-append key (front_rows ++ back_rows) new_rows
      ∙ ap (λ (l : List Row). newest_of_both (newest key l) (newest key new_rows)) (sym (rows_joined front back))

  -- new tables that have the newest of rows say with the old ones what those say
  pub map_among : (rows : List Row) (values : Values) → ((key : List ℕ) → newest key new_rows ≡ newest key rows) → IsMapOf (flat_map table_rows old ++ rows) values → IsMapOf (flat_map table_rows all) values
  map_among rows values same is key =
      let alike : newest key (flat_map table_rows old ++ rows) ≡ newest key (flat_map table_rows all) =
      newest-append key (flat_map table_rows old) rows ∙ ap (newest_of_both (newest key (flat_map table_rows old))) (sym (same key)) ∙ sym (newest_among key) in
      is key ∙ ap value_left alike

  -- ---- rows that agree

  pub have_among : (P : Row → Type 0) (rows : List Row) → (AllByRecursion P rows → AllByRecursion P new_rows) → AllByRecursion P (flat_map table_rows old ++ rows) → AllByRecursion P (flat_map table_rows all)
  have_among P rows come h =
      subst (AllByRecursion P) (sym (rows_three front new back))
      (insert_all P front_rows new_rows back_rows (subst (AllByRecursion P) (rows_joined front back) (front_of P (flat_map table_rows old) rows h)) (come (back_of P (flat_map table_rows old) rows h)))

  pub agree_among : (rows : List Row) → ((P : Row → Type 0) → AllByRecursion P rows → AllByRecursion P new_rows) → AllAgree (flat_map table_rows old ++ rows) → AllAgree (flat_map table_rows all)
  agree_among rows come agree =
      have_among (λ a. AllByRecursion (Agree a) (flat_map table_rows all)) rows (come (λ a. AllByRecursion (Agree a) (flat_map table_rows all)))
      (each (λ a. AllByRecursion (Agree a) (flat_map table_rows old ++ rows)) (λ a. AllByRecursion (Agree a) (flat_map table_rows all)) (flat_map table_rows old ++ rows)
      (λ a h. have_among (Agree a) rows (come (Agree a)) h) agree)
