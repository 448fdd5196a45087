-- Where the logs that a reading takes begin.
use Rattle.std.specs.Prelude.{nat_le}
use Rattle.std.specs.List.{AllByRecursion}
use Rattle.std.proofs.Common.{◌≡◌, ℕ, ◌+◌, ◌<◌, ◌≤◌, ◌||◌, Bool, true, false, if◌then◌else◌, eqb, List, [], ◌∷◌, ◌++◌, length, take, drop, Some, refl, sym, ap, subst, ◌∙◌, arith, take-add}
use Rattle.std.proofs.lemmas.Bool.{leb-true, leb-false, ne_eqb}
use Rattle.std.proofs.lemmas.List.{append-nil, length-append, length-drop, take_at, drop_at, drop-drop}
use Rattle.keel_base.specs.declared.op.Op.{Op}
use Rattle.keel_base.specs.Points.{Point, fold_batches}
use Rattle.keel_disk.specs.Directory.{Named}
use Rattle.keel_disk.specs.State.{State}
use Rattle.keel_batch.specs.Batches.{AreBatches}
use Rattle.keel_machine.specs.States.{Story}
use Rattle.keel_recovery.specs.Chains.{Chained, batches_of, FollowOn, is_chained, AreChained}
use Rattle.keel_recovery.specs.Roots.{point_at, first_from, BeginsAt}
use Rattle.keel_recovery.proofs.LogFiles.{RiseFrom, is_in}
use Rattle.keel_recovery.proofs.Numbering.{folded_append, seq_folded, rest_batches}
use Rattle.keel_recovery.proofs.Seeing.{AreSeen, numbers_of}
use Rattle.keel_draft.specs.Drafts.{count_ops}

abbrev pub all_of : Story → List (List Op)
all_of story = story.log ++ story.limbo

-- the logs from that number on, which hold the batches behind a place but for some last ones
pub record Onward (least mark place : ℕ) (logs : List Chained) (story : Story) (image : Named (List ℕ)) : Type 0 where
  pub rest : List Chained
  pub more : List (List Op)
  pub follow : FollowOn place (point_at place story).seq rest
  pub limits : AreBatches (point_at place story).seq (batches_of rest)
  pub seen : AreSeen mark rest image
  pub rise : RiseFrom least (numbers_of rest)
  pub chained : (n : ℕ) → least ≤ n → is_in n (numbers_of rest) ≡ false → is_chained n logs ≡ false
  pub batches_are : drop place (all_of story) ≡ batches_of rest ++ more
  pub enough : mark ≤ place + length (batches_of rest)

pub rising : (floor published least : ℕ) (logs : List Chained) (state : State) → AreChained floor published logs state → AllByRecursion (λ (log : Chained). least ≤ log.number) logs → RiseFrom least (numbers_of logs)
rising floor published least [] state h above = tt
rising floor published least (log ∷ logs) state h above =
    (above.0, rising floor published (log.number + 1) logs state h.3 (each logs h.1))
  where
    each : (later : List Chained) → AllByRecursion (λ (other : Chained). log.number < other.number) later → AllByRecursion (λ (other : Chained). log.number + 1 ≤ other.number) later
    each [] h = tt
    each (other ∷ later) h = (omega (arith, h.0), each later h.1)

pub from_zero : (logs : List Chained) → AllByRecursion (λ (log : Chained). 0 ≤ log.number) logs
from_zero [] = tt
from_zero (log ∷ logs) = (omega arith, from_zero logs)

in_chain : (n : ℕ) (logs : List Chained) → is_in n (numbers_of logs) ≡ false → is_chained n logs ≡ false
in_chain n [] e = refl
in_chain n (log ∷ logs) e = by (eqb log.number n) e (in_chain n logs)
  where
    by : (t : Bool) → (if t then true else is_in n (numbers_of logs)) ≡ false → (is_in n (numbers_of logs) ≡ false → is_chained n logs ≡ false) → (t || is_chained n logs) ≡ false
    by true e later = cc
    by false e later = later e

-- ---- the place behind a log

pub behind_log : (place : ℕ) (batches rest : List (List Op)) (story : Story) → drop place (all_of story) ≡ batches ++ rest → point_at (place + length batches) story ≡ fold_batches (point_at place story) batches
behind_log place batches rest story e =
    ap (fold_batches story.start) (take-add place (length batches) (all_of story) ∙ ap (λ (l : List (List Op)). take place (all_of story) ++ take (length batches) l) e
    ∙ ap (λ (l : List (List Op)). take place (all_of story) ++ l) (take_at batches rest (length batches) refl))
    ∙ folded_append story.start (take place (all_of story)) batches

-- ---- the logs from a number on

module _ (least mark place : ℕ) (story : Story) (image : Named (List ℕ)) (marked : mark ≤ length story.log) (published : place ≤ length story.log) where
  pub onward : (logs : List Chained) (before number : ℕ) → FollowOn before (point_at before story).seq logs → AreBatches (point_at before story).seq (batches_of logs)
      → drop before (all_of story) ≡ batches_of logs → AreSeen mark logs image → RiseFrom number (numbers_of logs) → BeginsAt place (first_from least logs) story
      → Onward least mark place logs story image
  onward [] before number follow limits batches_are seen rise begins = record {
    rest = [];
    more = drop place (all_of story);
    follow = tt;
    limits = tt;
    seen = tt;
    rise = tt;
    chained = λ n low out. refl;
    batches_are = refl;
    enough = omega (arith, marked, begins);
  }
  onward (log ∷ logs) before number follow limits batches_are seen rise begins =
      by (nat_le least log.number) refl begins
      (λ later_begins.
      let behind : point_at (before + length log.batches) story ≡ fold_batches (point_at before story) log.batches = behind_log before log.batches (batches_of logs) story batches_are in
      let seq : (point_at before story).seq + count_ops log.batches ≡ (point_at (before + length log.batches) story).seq =
      sym (ap (λ (p : Point). p.seq) behind ∙ seq_folded (point_at before story) log.batches) in
      onward logs (before + length log.batches) (log.number + 1)
      (subst (λ (n : ℕ). FollowOn (before + length log.batches) n logs) seq follow.2)
      (subst (λ (n : ℕ). AreBatches n (batches_of logs)) seq (rest_batches (point_at before story).seq log.batches (batches_of logs) limits))
      (sym (drop-drop (length log.batches) before (all_of story)) ∙ ap (drop (length log.batches)) batches_are ∙ drop_at log.batches (batches_of logs) (length log.batches) refl)
      seen.2 rise.1 later_begins)
    where
      by : (low : Bool) → nat_le least log.number ≡ low → BeginsAt place (if low then Some log else first_from least logs) story
          → (BeginsAt place (first_from least logs) story → Onward least mark place logs story image)
          → Onward least mark place (log ∷ logs) story image
      by true low is later =
          let same : before ≡ place = sym follow.0 ∙ sym is in
          record {
            rest = log ∷ logs;
            more = [];
            follow = subst (λ (n : ℕ). FollowOn n (point_at n story).seq (log ∷ logs)) same follow;
            limits = subst (λ (n : ℕ). AreBatches (point_at n story).seq (batches_of (log ∷ logs))) same limits;
            seen = seen;
            rise = (leb-true least log.number low, rise.1);
            chained = λ n low out. in_chain n (log ∷ logs) out;
            batches_are = ap (λ (n : ℕ). drop n (all_of story)) (sym same) ∙ batches_are ∙ sym (append-nil (batches_of (log ∷ logs)));
            enough = omega (arith, marked, published, same, ap length batches_are, length-drop before (all_of story), length-append story.log story.limbo);
          }
      by false low is later =
          let on = later is in
          record {
            rest = on.rest;
            more = on.more;
            follow = on.follow;
            limits = on.limits;
            seen = on.seen;
            rise = on.rise;
            chained = λ n at out. rw (ne_eqb log.number n (λ e. omega (arith, e, at, leb-false least log.number low))) (on.chained n at out);
            batches_are = on.batches_are;
            enough = on.enough;
          }
