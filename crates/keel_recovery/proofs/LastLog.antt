-- A chain whose last log is changed.
use Rattle.std.specs.Prelude.{nat_le}
use Rattle.std.proofs.Common.{◌≡◌, ◌≢◌, ℕ, Bool, true, false, if◌then◌else◌, List, [], ◌∷◌, ◌++◌, length, Some, None, refl, sym, ap, subst, ◌∙◌, arith, eqb, eqb-true, get_or-set_other}
use Rattle.keel_base.specs.declared.file_name.FileName.TheVariants.{Log}
use Rattle.keel_base.specs.declared.op.Op.{Op}
use Rattle.keel_disk.specs.declared.state.File.{File}
use Rattle.keel_disk.specs.Sound.{IsOneToOne}
use Rattle.keel_disk.specs.State.{State, file_at, new_file, settled_through}
use Rattle.keel_disk.specs.Step.{with_file}
use Rattle.keel_disk.specs.Steady.{IsSteady}
use Rattle.keel_disk.proofs.Operating.{other_file}
use Rattle.keel_machine.specs.States.{Story, handed}
use Rattle.keel_recovery.specs.Chains.{Chained, is_chained, OthersEmpty}
use Rattle.keel_recovery.specs.Roots.{BeginsAt, first_from}
use Rattle.keel_recovery.proofs.Following.{chained_changed, last_is_chained, point_stays}
use Rattle.keel_recovery.proofs.Steering.{GoesOn}

pub unchained_last : (n : ℕ) (front : List Chained) (log : Chained) → is_chained n (front ++ log ∷ []) ≡ false → eqb n log.number ≡ false
unchained_last n front log none = other (eqb n log.number) refl
  where
    other : (b : Bool) → eqb n log.number ≡ b → b ≡ false
    other true same = let e : n ≡ log.number = eqb-true n log.number same in let yes = subst (λ (k : ℕ). is_chained k (front ++ log ∷ []) ≡ true) (sym e) (last_is_chained front log) in cc
    other false differs = refl

-- of a change of the last log's file the others know nothing
pub others_set : (least file : ℕ) (front : List Chained) (log next : Chained) (change : File → File) (state : State) → next.number ≡ log.number → IsOneToOne state → IsSteady (Log log.number) file state
    → OthersEmpty least (front ++ log ∷ []) state → OthersEmpty least (front ++ next ∷ []) (with_file file change state)
others_set least file front log next change state same one steady h = λ count n number above none found.
    let unchained : is_chained n (front ++ log ∷ []) ≡ false = sym (chained_changed n front log next same) ∙ none in
    let differs : number ≢ file =
    other_file (length state.files) (Log log.number) (Log n) file number (settled_through count state).firm (one count) (unchained_last n front log unchained) (steady.named count) found in
    subst (λ (f : File). f.meant ≡ []) (sym (get_or-set_other state.files file number (change (file_at file state.files)) new_file differs)) (h count n number above unchained found)

-- where a root's logs begin, whatever the last log holds
pub begins_changed : (least place : ℕ) (front : List Chained) (log next : Chained) (story after : Story) → next.number ≡ log.number → next.before ≡ log.before → after.log ≡ story.log
    → BeginsAt place (first_from least (front ++ log ∷ [])) story → BeginsAt place (first_from least (front ++ next ∷ [])) after
begins_changed least place [] log next story after number before same h = by (nat_le least log.number) (nat_le least next.number) (ap (nat_le least) number) h
  where
    by : (b c : Bool) → c ≡ b → BeginsAt place (if b then Some log else None) story → BeginsAt place (if c then Some next else None) after
    by true true e h = h ∙ sym before
    by true false e h = cc
    by false true e h = cc
    by false false e h = h ∙ ap length (sym same)
begins_changed least place (first ∷ front) log next story after number before same h =
    by (nat_le least first.number) h (begins_changed least place front log next story after number before same)
  where
    by : (b : Bool) → BeginsAt place (if b then Some first else first_from least (front ++ log ∷ [])) story
        → (BeginsAt place (first_from least (front ++ log ∷ [])) story → BeginsAt place (first_from least (front ++ next ∷ [])) after)
        → BeginsAt place (if b then Some first else first_from least (front ++ next ∷ [])) after
    by true h later = h
    by false h later = later h

pub handed_on : (batches : List (List Op)) (story : Story) → GoesOn story (handed batches story)
handed_on batches story = record { points = λ place within. point_stays place story batches within; longer = omega arith }
