-- Along the merge of the lists.
use Rattle.std.proofs.Common.{◌≡◌, List, [], ◌∷◌, ◌++◌, sym, ap, subst, ◌∙◌, append_assoc}
use Rattle.std.proofs.lemmas.List.{append-nil}
use Rattle.keel_base.specs.declared.row.Row.{Row}
use Rattle.keel_merge.specs.declared.next.Next.{Next}
use Rattle.keel_merge.specs.declared.next.Next.TheVariants.{Merged, Refill, End}
use Rattle.keel_merge.specs.Merging.{rows_of, IsMergeOf}
use Rattle.keel_merge.specs.Feeding.{MergeState, to_come}
use Rattle.keel_merge.specs.Taking.{Steps}
use Rattle.keel_merge.specs.Laws.{rows_in, HandsOutAll}

same_all : (next : Next) (handed : List Row) (old new : MergeState) (coming : List (List Row)) → Steps next coming old new
    → handed ++ to_come old coming ≡ (handed ++ rows_in next) ++ to_come new coming
same_all (Merged row) handed old new coming steps =
    ap (λ (r : List Row). handed ++ r) steps ∙ sym (append_assoc handed (row ∷ []) (to_come new coming))
same_all (Refill list) handed old new coming steps =
    ap (λ (r : List Row). handed ++ r) steps ∙ ap (λ (r : List Row). r ++ to_come new coming) (sym (append-nil handed))
same_all End handed old new coming steps =
    ap (λ (r : List Row). handed ++ r) (steps.0 ∙ sym steps.1) ∙ ap (λ (r : List Row). r ++ to_come new coming) (sym (append-nil handed))

pub hands_out_all : HandsOutAll
hands_out_all = record {
  call = λ lists last_level handed old new coming next along may steps. record {
    may_come = may;
    merges = subst (λ (r : List Row). IsMergeOf (rows_of lists) last_level r) (same_all next handed old new coming steps) along.merges;
  };
  refill = λ lists last_level handed old new coming left along feeds. record {
    may_come = feeds.may_come;
    merges = subst (λ (r : List Row). IsMergeOf (rows_of lists) last_level (handed ++ r)) (sym feeds.same) along.merges;
  };
  end = λ lists last_level handed old new coming along steps.
      subst (λ (r : List Row). IsMergeOf (rows_of lists) last_level r) (ap (λ (r : List Row). handed ++ r) steps.0 ∙ append-nil handed) along.merges;
}
