-- Lists of tickets and of batches as one queue.
use Rattle.std.proofs.Common.{◌≡◌, ℕ, zero, suc, ◌<◌, List, [], ◌∷◌, ◌++◌, length, drop, refl, ap, sym, subst, ◌∙◌, arith}
use Rattle.std.proofs.lemmas.List.{length-append}
use Rattle.std.proofs.lemmas.List.Elements.{All-append, All-cons, All-nil}
use Rattle.keel_base.specs.declared.op.Batch.{Batch}
use Rattle.keel_base.specs.Reserving.{ReservedShown}
use Rattle.keel_base.specs.Weight.{AreAdmissible}
use Rattle.keel_group.specs.declared.formed.TheConstants.{MAX_WAITING}
use Rattle.keel_group.specs.Forming.{EachIsAdmissible}
use Rattle.keel_group.specs.Keeping.{IsKeptQueue}
use Rattle.keel_group.specs.Queue.{Ticketed, ticketed, zipped, tickets_of, batches_of}

pub tickets_of-zipped : (ts : List ℕ) (bs : List Batch) → length ts ≡ length bs → tickets_of (zipped ts bs) ≡ ts
tickets_of-zipped [] bs same = refl
tickets_of-zipped (t ∷ ts) [] same = absurd (omega arith)
tickets_of-zipped (t ∷ ts) (b ∷ bs) same = ap (λ l. t ∷ l) (tickets_of-zipped ts bs (omega arith))

pub batches_of-zipped : (ts : List ℕ) (bs : List Batch) → length ts ≡ length bs → batches_of (zipped ts bs) ≡ bs
batches_of-zipped [] [] same = refl
batches_of-zipped [] (b ∷ bs) same = absurd (omega arith)
batches_of-zipped (t ∷ ts) [] same = absurd (omega arith)
batches_of-zipped (t ∷ ts) (b ∷ bs) same = ap (λ l. b ∷ l) (batches_of-zipped ts bs (omega arith))

pub length-zipped : (ts : List ℕ) (bs : List Batch) → length ts ≡ length bs → length (zipped ts bs) ≡ length bs
length-zipped [] bs same = same
length-zipped (t ∷ ts) [] same = absurd (omega arith)
length-zipped (t ∷ ts) (b ∷ bs) same = ap suc (length-zipped ts bs (omega arith))

pub zipped_push : (ts : List ℕ) (bs : List Batch) (t : ℕ) (b : Batch) → length ts ≡ length bs → zipped (ts ++ t ∷ []) (bs ++ b ∷ []) ≡ zipped ts bs ++ ticketed t b ∷ []
zipped_push [] [] t b same = refl
zipped_push [] (c ∷ bs) t b same = absurd (omega arith)
zipped_push (s ∷ ts) [] t b same = absurd (omega arith)
zipped_push (s ∷ ts) (c ∷ bs) t b same = ap (λ l. ticketed s c ∷ l) (zipped_push ts bs t b (omega arith))

pub drop-zipped : (n : ℕ) (ts : List ℕ) (bs : List Batch) → length ts ≡ length bs → drop n (zipped ts bs) ≡ zipped (drop n ts) (drop n bs)
drop-zipped zero ts bs same = refl
drop-zipped (suc n) [] bs same = refl
drop-zipped (suc n) (t ∷ ts) [] same = absurd (omega arith)
drop-zipped (suc n) (t ∷ ts) (b ∷ bs) same = drop-zipped n ts bs (omega arith)

-- what a queue shows whose view this is

pub same_items : (a b : ReservedShown Ticketed) → a ≡ b → a.items ≡ b.items
same_items a b same = ap (λ (v : ReservedShown Ticketed). v.items) same

pub shown_tickets : (ts : List ℕ) (bs : List Batch) (queue : List Ticketed) → zipped ts bs ≡ queue → length ts ≡ length bs → tickets_of queue ≡ ts
shown_tickets ts bs queue view same = ap tickets_of (sym view) ∙ tickets_of-zipped ts bs same

pub shown_batches : (ts : List ℕ) (bs : List Batch) (queue : List Ticketed) → zipped ts bs ≡ queue → length ts ≡ length bs → batches_of queue ≡ bs
shown_batches ts bs queue view same = ap batches_of (sym view) ∙ batches_of-zipped ts bs same

pub shown_length : (ts : List ℕ) (bs : List Batch) (queue : List Ticketed) → zipped ts bs ≡ queue → length ts ≡ length bs → length queue ≡ length bs
shown_length ts bs queue view same = ap length (sym view) ∙ length-zipped ts bs same

pub kept_view : (ts ts' : List ℕ) (bs bs' : List Batch) (queue : List Ticketed) → zipped ts bs ≡ queue → ts' ≡ ts → bs' ≡ bs → zipped ts' bs' ≡ queue
kept_view ts ts' bs bs' queue view e f = ap (λ l. zipped l bs') e ∙ ap (λ l. zipped ts l) f ∙ view

pub pushed_view : (ts ts' : List ℕ) (bs bs' : List Batch) (queue : List Ticketed) (t : ℕ) (b : Batch) → zipped ts bs ≡ queue → length ts ≡ length bs → ts' ≡ ts ++ t ∷ [] → bs' ≡ bs ++ b ∷ [] → zipped ts' bs' ≡ queue ++ ticketed t b ∷ []
pushed_view ts ts' bs bs' queue t b view same e f =
    kept_view (ts ++ t ∷ []) ts' (bs ++ b ∷ []) bs' (zipped ts bs ++ ticketed t b ∷ []) (zipped_push ts bs t b same) e f
    ∙ ap (λ q. q ++ ticketed t b ∷ []) view

pub dropped_view : (n : ℕ) (ts ts' : List ℕ) (bs bs' : List Batch) (queue : List Ticketed) → zipped ts bs ≡ queue → length ts ≡ length bs → ts' ≡ drop n ts → bs' ≡ drop n bs → zipped ts' bs' ≡ drop n queue
dropped_view n ts ts' bs bs' queue view same e f =
    kept_view (drop n ts) ts' (drop n bs) bs' (drop n (zipped ts bs)) (sym (drop-zipped n ts bs same)) e f ∙ ap (drop n) view

-- a queue that took in one batch more is as every queue is
pub pushed_kept : (ts ts' : List ℕ) (bs bs' : List Batch) (t : ℕ) (b : Batch) → IsKeptQueue ts bs → AreAdmissible b.ops → length bs < MAX_WAITING → ts' ≡ ts ++ t ∷ [] → bs' ≡ bs ++ b ∷ []
    → IsKeptQueue ts' bs'
pushed_kept ts ts' bs bs' t b kept ok few e f =
    let one_ticket = ap length e ∙ length-append ts (t ∷ []) in
    let one_batch = ap length f ∙ length-append bs (b ∷ []) in
    record {
      as_many = omega (arith, one_ticket, one_batch, kept.as_many);
      few = omega (arith, one_batch, few);
      each = subst EachIsAdmissible (sym f) (All-append (λ (a : Batch). AreAdmissible a.ops) bs (b ∷ []) kept.each (All-cons (λ (a : Batch). AreAdmissible a.ops) b [] ok (All-nil _)));
    }
