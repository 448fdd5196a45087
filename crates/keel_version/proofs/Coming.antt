-- What an edit leaves may come in an edit.
use Rattle.std.proofs.Common.{◌≡◌, ℕ, suc, Bool, true, false, List, [], ◌∷◌, length, take, drop, Option, Some, None, Result, Ok, Err, All, refl, sym, ap, subst, ◌∙◌, ◌+◌, arith}
use Rattle.std.specs.Prelude.{position, count_by, insert, remove, if◌then◌else◌}
use Rattle.std.specs.List.{list_any, AllByRecursion}
use Rattle.std.proofs.lemmas.List.Elements.{All-append, All-cons, All-take, All-drop, All-head, All-tail}
use Rattle.keel_base.specs.Name.{IsFileNumber}
use Rattle.keel_edit.specs.declared.edit.Added.{Added}
use Rattle.keel_edit.specs.declared.edit.Removed.{Removed}
use Rattle.keel_edit.specs.declared.edit.Edit.{Edit}
use Rattle.keel_edit.specs.Spelling.{IsNumber, IsAdded, IsRemoved, IsEdit}
use Rattle.keel_version.specs.Tables.{Contents, clash, is_before}
use Rattle.keel_version.specs.Applying.{is_named, without, take_off, put_on, each_fits, then_added, no_less, renumbered}
use Rattle.keel_version.specs.Behind.{MayCome, AppliedMayCome, WholeIsEdit}
use Rattle.keel_version.proofs.Standing.{each_keeps}

abbrev AllAdded : List Added → Type 0
AllAdded tables = All IsAdded tables

-- ---- one entry

off_by : (tables after : List Added) (place : Option ℕ) → without tables place ≡ Some after → AllAdded tables → AllAdded after
off_by tables after None e all = absurd cc
off_by tables after (Some place) e all =
    let same : remove tables place ≡ after = cc in
    subst AllAdded same (All-append IsAdded (take place tables) (drop (suc place) tables) (All-take IsAdded place tables all) (All-drop IsAdded (suc place) tables all))

take_off_keeps : (r : Removed) (tables after : List Added) → IsRemoved r → take_off r tables ≡ Some after → AllAdded tables → AllAdded after
take_off_keeps r tables after fit e all = off_by tables after (position (is_named r) tables) e all

on_by : (b : Bool) (a : Added) (tables after : List Added) (place : ℕ) → IsAdded a → (if b then None else Some (insert tables place a)) ≡ Some after
    → AllAdded tables → AllAdded after
on_by true a tables after place fit e all = absurd cc
on_by false a tables after place fit e all =
    let same : insert tables place a ≡ after = cc in
    subst AllAdded same
    (All-append IsAdded (take place tables) (a ∷ drop place tables) (All-take IsAdded place tables all)
    (All-cons IsAdded a (drop place tables) fit (All-drop IsAdded place tables all)))

put_on_keeps : (a : Added) (tables after : List Added) → IsAdded a → put_on a tables ≡ Some after → AllAdded tables → AllAdded after
put_on_keeps a tables after fit e all =
    on_by (list_any (clash a) tables) a tables after (count_by (λ t. is_before t a) tables) fit e all

-- ---- an edit

all_come : (edit : Edit) (tables left after : List Added) → IsEdit edit → AllAdded tables
    → each_fits take_off 0 edit.removed tables ≡ Ok left → each_fits put_on (length edit.removed) edit.added left ≡ Ok after → AllAdded after
all_come edit tables left after is all goes comes =
    each_keeps AllAdded put_on IsAdded put_on_keeps (length edit.removed) edit.added left after is.added comes
    (each_keeps AllAdded take_off IsRemoved take_off_keeps 0 edit.removed tables left is.removed goes all)

-- the same of an edit's lists as the code has them
pub come : (edit : Edit) (tables left after : List Added) (going : List Removed) (coming : List Added) (first : ℕ) → IsEdit edit → AllAdded tables
    → going ≡ edit.removed → coming ≡ edit.added → first ≡ length going
    → each_fits take_off 0 going tables ≡ Ok left → each_fits put_on first coming left ≡ Ok after → AllAdded after
come edit tables left after going coming first is all goes comes count takes puts =
    let taken : each_fits take_off 0 edit.removed tables ≡ Ok left = rw (← goes) takes in
    let counted : first ≡ length edit.removed = count ∙ ap length goes in
    let put : each_fits put_on (length edit.removed) edit.added left ≡ Ok after = rw (← counted, ← comes) puts in
    all_come edit tables left after is all taken put

-- the numbers are the edit's
pub numbered : (edit : Edit) (after : Contents) → IsEdit edit → AllAdded after.tables
    → after.min_log ≡ edit.min_log → after.next_file ≡ edit.next_file → after.last_seq ≡ edit.last_seq → MayCome after
numbered edit after is all min_log next_file last_seq = record {
  within = record {
    tables = all;
    min_log = subst IsNumber (sym min_log) is.min_log;
    next_file = subst IsNumber (sym next_file) is.next_file.most;
    last_seq = subst IsNumber (sym last_seq) is.last_seq;
  };
  next_file = subst IsFileNumber (sym next_file) is.next_file;
}

numbered_by : (b : Bool) (edit : Edit) (tables : List Added) (after : Contents) (entry : ℕ) → IsEdit edit → AllAdded tables
    → (if b then Ok (record { tables = tables; min_log = edit.min_log; next_file = edit.next_file; last_seq = edit.last_seq }) else Err entry) ≡ Ok after → MayCome after
numbered_by true edit tables after entry is all e =
    let made : Contents = record { tables = tables; min_log = edit.min_log; next_file = edit.next_file; last_seq = edit.last_seq } in
    let same : made ≡ after = cc in
    subst MayCome same (numbered edit made is all refl refl refl)
numbered_by false edit tables after entry is all e = absurd cc

came : (edit : Edit) (before after : Contents) (found : Result (List Added) ℕ) → IsEdit edit → ((tables : List Added) → found ≡ Ok tables → AllAdded tables)
    → renumbered edit before found ≡ Ok after → MayCome after
came edit before after (Err entry) is all e = absurd cc
came edit before after (Ok tables) is all e = numbered_by (no_less edit before) edit tables after (length edit.removed + length edit.added) is (all tables refl) e

between : (edit : Edit) (before : Contents) (left : Result (List Added) ℕ) → IsEdit edit → AllAdded before.tables
    → each_fits take_off 0 edit.removed before.tables ≡ left → (tables : List Added) → then_added edit left ≡ Ok tables → AllAdded tables
between edit before (Err entry) is all goes tables comes = absurd cc
between edit before (Ok left) is all goes tables comes = all_come edit before.tables left tables is all goes comes

pub applied_may_come : AppliedMayCome
applied_may_come edit before after is all e =
    came edit before after (then_added edit (each_fits take_off 0 edit.removed before.tables)) is
    (between edit before (each_fits take_off 0 edit.removed before.tables) is all refl) e

-- ---- all of a version

by_recursion : {X : Type 0} (P : X → Type 0) (xs : List X) → All P xs → AllByRecursion P xs
by_recursion P [] all = tt
by_recursion P (x ∷ xs) all = (All-head P x xs all, by_recursion P xs (All-tail P x xs all))

pub whole_is_edit : WholeIsEdit
whole_is_edit contents sound come = record {
  min_log = come.within.min_log;
  next_file = come.next_file;
  last_seq = come.within.last_seq;
  few_removed = omega arith;
  removed = tt;
  few_added = sound.few;
  added = by_recursion IsAdded contents.tables come.within.tables;
}
