-- A group and what it leaves of the queue.
use Rattle.std.proofs.Common.{◌≡◌, ℕ, ◌≤◌, List, [], ◌++◌, length, map, take, drop, ap, sym, ◌∙◌, arith}
use Rattle.std.proofs.lemmas.List.{take-map, map-append, take-append-drop, length-take-le, length-drop, length-map}
use Rattle.std.proofs.lemmas.List.Sums.{sum_by-append}
use Rattle.std.proofs.lemmas.List.Elements.{All-take, All-same}
use Rattle.keel_base.specs.declared.op.Batch.{Batch}
use Rattle.keel_base.specs.Weight.{AreAdmissible}
use Rattle.keel_group.specs.Queue.{Ticketed, zipped, tickets_of, batches_of, ops_count}
use Rattle.keel_group.specs.Sizes.{group_size}
use Rattle.keel_group.specs.Forming.{next_size, next_batches, EachIsAdmissible}
use Rattle.keel_group.specs.Laws.{AreAllOf}
use Rattle.keel_group.proofs.Sizing.{group_size_le}
use Rattle.keel_group.proofs.Zipping.{shown_batches, shown_tickets}

map_split : {X Y : Type 0} (f : X → Y) (n : ℕ) (xs : List X) → take n (map f xs) ++ map f (drop n xs) ≡ map f xs
map_split f n xs =
    ap (λ l. l ++ map f (drop n xs)) (take-map f n xs) ∙ sym (map-append f (take n xs) (drop n xs)) ∙ ap (map f) (take-append-drop n xs)

next_size_le : (queue : List Ticketed) → next_size queue ≤ length queue
next_size_le queue = omega (arith, group_size_le (batches_of queue), length-map queue (λ (t : Ticketed). t.batch))

pub all_of : (queue : List Ticketed) → AreAllOf queue
all_of queue =
    let batches : next_batches queue ++ batches_of (drop (next_size queue) queue) ≡ batches_of queue =
    map_split (λ (t : Ticketed). t.batch) (next_size queue) queue in
    record {
      within = next_size_le queue;
      group = length-take-le (next_size queue) (batches_of queue) (group_size_le (batches_of queue));
      rest = omega (arith, length-drop (next_size queue) queue, next_size_le queue);
      batches = batches;
      tickets = map_split (λ (t : Ticketed). t.ticket) (next_size queue) queue;
      ops = sym (sum_by-append (λ (b : Batch). length b.ops) (next_batches queue) (batches_of (drop (next_size queue) queue))) ∙ ap ops_count batches;
    }

-- the next group of a queue whose view this is

pub shown_size : (ts : List ℕ) (bs : List Batch) (queue : List Ticketed) → zipped ts bs ≡ queue → length ts ≡ length bs → next_size queue ≡ group_size bs
shown_size ts bs queue view same = ap group_size (shown_batches ts bs queue view same)

pub shown_within : (ts : List ℕ) (bs : List Batch) (queue : List Ticketed) → zipped ts bs ≡ queue → length ts ≡ length bs → next_size queue ≤ length bs
shown_within ts bs queue view same = omega (arith, shown_size ts bs queue view same, group_size_le bs)

pub shown_next : (ts : List ℕ) (bs : List Batch) (queue : List Ticketed) → zipped ts bs ≡ queue → length ts ≡ length bs → take (next_size queue) bs ≡ next_batches queue
shown_next ts bs queue view same = ap (λ l. take (next_size queue) l) (sym (shown_batches ts bs queue view same))

-- what was moved to the end of nothing is what was moved

pub moved : {X : Type 0} (n m : ℕ) (from before after : List X) → n ≡ m → before ≡ [] → after ≡ before ++ take n from → after ≡ take m from
moved n m from before after same none e = e ∙ ap (λ l. l ++ take n from) none ∙ ap (λ k. take k from) same

pub moved_tickets : (ts : List ℕ) (bs : List Batch) (queue : List Ticketed) → zipped ts bs ≡ queue → length ts ≡ length bs → take (next_size queue) ts ≡ take (next_size queue) (tickets_of queue)
moved_tickets ts bs queue view same = ap (λ l. take (next_size queue) l) (sym (shown_tickets ts bs queue view same))

pub each_taken : (n : ℕ) (bs taken : List Batch) → taken ≡ take n bs → EachIsAdmissible bs → EachIsAdmissible taken
each_taken n bs taken e each =
    All-same (λ (b : Batch). AreAdmissible b.ops) taken (take n bs) e (All-take (λ (b : Batch). AreAdmissible b.ops) n bs each)
