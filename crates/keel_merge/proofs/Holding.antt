-- Holding the newest row so far of the least key.
use Rattle.std.proofs.Common.{◌≡◌, ℕ, ◌+◌, ◌<◌, Bool, true, false, List, [], ◌∷◌, Option, Some, None, refl, ap, sym, subst, ◌∙◌, arith}
use Rattle.std.specs.Bool.{if◌then◌else◌}
use Rattle.keel_base.specs.declared.row.Row.{Row}
use Rattle.keel_base.specs.Keys.{key_lt, key_le, key_eq}
use Rattle.keel_base.specs.Rows.{newer, newest}
use Rattle.keel_base.proofs.KeyOrder.{eq_same, eq_itself, eq_turned, le_differs}
use Rattle.keel_base.proofs.Newest.{newest_here, newest_behind, newest_cons}
use Rattle.keel_merge.specs.declared.next.Next.{Next}
use Rattle.keel_merge.specs.declared.next.Next.TheVariants.{Merged, Refill, End}
use Rattle.keel_merge.specs.Order.{IsBeforeAll}
use Rattle.keel_merge.specs.Merging.{rows_of, stays, staying}
use Rattle.keel_merge.specs.Placing.{newer_of, merged}
use Rattle.keel_merge.specs.Feeding.{Waiting, MergeState, MayCome, IsUpTo, whole, with_held, to_come}
use Rattle.keel_merge.specs.Taking.{held_after, given, last_of, Steps, HaveEnded, IsTaken, count_of}
use Rattle.keel_merge.proofs.Behind.{lt_before_all}
use Rattle.keel_merge.proofs.Newer.{newest_none, newest_two, newer_of_key}
use Rattle.keel_merge.proofs.Placing.{merged_nothing}
use Rattle.keel_merge.proofs.Stepping.{TakesNewest, merged_same, merged_next, merged_past}
use Rattle.keel_merge.proofs.Pulling.{pulled, one_less, nothing_waits, nothing_comes}

-- ---- one row more

-- the row was one of the least key of some rows, and these are left
record IsFirst (row : Row) (old left : List Row) : Type 0 where
  least : IsBeforeAll key_le row.key left
  stood : (key : List ℕ) → IsBeforeAll key_le key old → key_le key row.key ≡ true
  newest_is : newest row.key old ≡ newest row.key (row ∷ left)
  others : (other : List ℕ) → key_eq row.key other ≡ false → newest other old ≡ newest other left

alike_by : (row : Row) (old left : List Row) → IsFirst row old left → (key : List ℕ) (b : Bool) → key_eq row.key key ≡ b → newest key old ≡ newest key (row ∷ left)
alike_by row old left f key true e = subst (λ (k : List ℕ). newest k old ≡ newest k (row ∷ left)) (eq_same row.key key e) f.newest_is
alike_by row old left f key false e = f.others key e ∙ sym (newest_behind key row left e)

alike : (row : Row) (old left : List Row) → IsFirst row old left → (key : List ℕ) → newest key old ≡ newest key (row ∷ left)
alike row old left f key = alike_by row old left f key (key_eq row.key key) refl

handed_by : (last_level : Bool) (held row : Row) (old left : List Row) → TakesNewest held (held ∷ old) (row ∷ left) → (b : Bool) → stays last_level held ≡ b
    → merged last_level (held ∷ old) ≡ with_held (if b then Some held else None) (merged last_level (row ∷ left))
handed_by last_level held row old left takes true keeps = merged_next last_level held (held ∷ old) (row ∷ left) takes keeps
handed_by last_level held row old left takes false keeps = merged_past last_level held (held ∷ old) (row ∷ left) takes keeps

-- what is held then is no greater than what is left, and this is handed out of what was to come
record IsHeld (last_level : Bool) (held after out : Option Row) (old left : List Row) : Type 0 where
  upto : IsUpTo after left
  same : merged last_level (with_held held old) ≡ with_held out (merged last_level (with_held after left))

held_by : (last_level : Bool) (held row : Row) (old left : List Row) → IsFirst row old left → IsBeforeAll key_le held.key old → (b : Bool) → key_eq held.key row.key ≡ b
    → IsHeld last_level (Some held) (if b then Some (newer_of held row) else Some row) (if b then None else staying last_level (Some held)) old left
held_by last_level held row old left f upto true e =
    let same : held.key ≡ row.key = eq_same held.key row.key e in
    let key : row.key ≡ (newer_of held row).key = sym (newer_of_key held row same ∙ same) in
    record {
      upto = subst (λ (k : List ℕ). IsBeforeAll key_le k left) key f.least;
      same = merged_same last_level (held ∷ old) (newer_of held row ∷ left)
          (λ k. newest_cons k held old (row ∷ left) (alike row old left f k) ∙ newest_two k held row left same);
    }
held_by last_level held row old left f upto false e =
    let lt : key_lt held.key row.key ≡ true = le_differs held.key row.key (f.stood held.key upto) (eq_turned held.key row.key e) in
    let behind : IsBeforeAll key_lt held.key (row ∷ left) = (lt, lt_before_all held.key row.key left lt f.least) in
    let takes : TakesNewest held (held ∷ old) (row ∷ left) = record {
      newest_of_key =
          newest_here held.key held old (eq_itself held.key)
          ∙ ap (newer held) (alike row old left f held.key ∙ newest_none held.key (row ∷ left) behind);
      behind = behind;
      others = λ other differ. newest_behind other held old differ ∙ alike row old left f other;
    } in
    record { upto = f.least; same = handed_by last_level held row old left takes (stays last_level held) refl }

held_one : (last_level : Bool) (held : Option Row) (row : Row) (old left : List Row) → IsFirst row old left → IsUpTo held old
    → IsHeld last_level held (held_after held row) (given last_level held row) old left
held_one last_level None row old left f upto = record { upto = f.least; same = merged_same last_level old (row ∷ left) (alike row old left f) }
held_one last_level (Some held) row old left f upto = held_by last_level held row old left f upto (key_eq held.key row.key) refl

-- the same of a merge
pub record IsHolding (old new : MergeState) (coming : List (List Row)) (out : Option Row) : Type 0 where
  pub may_come : MayCome new coming
  pub same : to_come old coming ≡ with_held out (to_come new coming)

holds_state : (old : MergeState) (lists : List Waiting) (coming : List (List Row)) (row : Row) → IsTaken old.lists lists row → MayCome old coming
    → IsHolding old (record { lists = lists; held = held_after old.held row; last_level = old.last_level }) coming (given old.last_level old.held row)
holds_state old lists coming row taken may =
    let p = pulled old.lists lists coming row taken may.behind in
    let rest : List Row = rows_of (whole old.lists coming) in
    let left : List Row = rows_of (whole lists coming) in
    let first : IsFirst row rest left = record { least = p.least; stood = p.stood; newest_is = p.newest_is; others = p.others } in
    let h = held_one old.last_level old.held row rest left first may.least in
    record { may_come = record { behind = p.behind; least = h.upto }; same = h.same }

pub holds : (old between new : MergeState) (coming : List (List Row)) (row : Row) → between ≡ record old { lists = between.lists } → IsTaken old.lists between.lists row
    → new ≡ record between { held = held_after between.held row } → MayCome old coming → IsHolding old new coming (given between.last_level between.held row)
holds old between new coming row between_is taken new_is may =
    let held_is : between.held ≡ old.held = ap (λ (s : MergeState). s.held) between_is in
    let level_is : between.last_level ≡ old.last_level = ap (λ (s : MergeState). s.last_level) between_is in
    let state : MergeState = record { lists = between.lists; held = held_after old.held row; last_level = old.last_level } in
    let new_state : new ≡ state =
    new_is ∙ ap (λ (h : Option Row). let s : MergeState = record { lists = between.lists; held = held_after h row; last_level = between.last_level } in s) held_is
    ∙ ap (λ (l : Bool). let s : MergeState = record { lists = between.lists; held = held_after old.held row; last_level = l } in s) level_is in
    let out : given old.last_level old.held row ≡ given between.last_level between.held row =
    ap (λ (l : Bool). given l old.held row) (sym level_is) ∙ ap (λ (h : Option Row). given between.last_level h row) (sym held_is) in
    subst (λ (o : Option Row). IsHolding old new coming o) out
    (subst (λ (s : MergeState). IsHolding old s coming (given old.last_level old.held row)) (sym new_state)
    (holds_state old between.lists coming row taken may))

-- ---- the last row

last_by : (last_level : Bool) (row : Row) (b : Bool) → stays last_level row ≡ b → merged last_level (row ∷ []) ≡ with_held (if b then Some row else None) []
last_by last_level row true keeps =
    let takes : TakesNewest row (row ∷ []) [] = record {
      newest_of_key = newest_here row.key row [] (eq_itself row.key);
      behind = tt;
      others = λ other differ. newest_behind other row [] differ;
    } in
    merged_next last_level row (row ∷ []) [] takes keeps ∙ ap (λ (l : List Row). row ∷ l) (merged_nothing last_level)
last_by last_level row false goes =
    let takes : TakesNewest row (row ∷ []) [] = record {
      newest_of_key = newest_here row.key row [] (eq_itself row.key);
      behind = tt;
      others = λ other differ. newest_behind other row [] differ;
    } in
    merged_past last_level row (row ∷ []) [] takes goes ∙ merged_nothing last_level

last_held : (last_level : Bool) (held : Option Row) → merged last_level (with_held held []) ≡ with_held (staying last_level held) []
last_held last_level None = merged_nothing last_level
last_held last_level (Some row) = last_by last_level row (stays last_level row) refl

steps_by : (old new : MergeState) (coming : List (List Row)) (out : Option Row) → to_come old coming ≡ with_held out [] → to_come new coming ≡ [] → rows_of coming ≡ []
    → Steps (last_of out) coming old new
steps_by old new coming None is left comes = (is, left, comes)
steps_by old new coming (Some row) is left comes = is ∙ ap (λ (l : List Row). row ∷ l) (sym left)

pub ends : (old new : MergeState) (coming : List (List Row)) → HaveEnded old.lists → new ≡ record old { held = None } → MayCome old coming
    → Steps (last_of (staying old.last_level old.held)) coming old new
ends old new coming ended new_is may =
    let waits : rows_of (whole old.lists coming) ≡ [] = nothing_waits old.lists coming ended may.behind in
    let state : MergeState = record old { held = None } in
    let left : to_come state coming ≡ [] = ap (merged old.last_level) waits ∙ merged_nothing old.last_level in
    steps_by old new coming (staying old.last_level old.held)
    (ap (λ (r : List Row). merged old.last_level (with_held old.held r)) waits ∙ last_held old.last_level old.held)
    (ap (λ (s : MergeState). to_come s coming) new_is ∙ left)
    (nothing_comes old.lists coming ended may.behind)

pub still_may_come : (old new : MergeState) (coming : List (List Row)) → new ≡ record old { held = None } → MayCome old coming → MayCome new coming
still_may_come old new coming new_is may =
    subst (λ (s : MergeState). MayCome s coming) (sym new_is) (record { behind = may.behind; least = tt })

-- ---- a call

steps_from : (result : Next) (coming : List (List Row)) (start old new : MergeState) → to_come start coming ≡ to_come old coming → Steps result coming old new → Steps result coming start new
steps_from (Merged row) coming start old new e steps = e ∙ steps
steps_from (Refill list) coming start old new e steps = e ∙ steps
steps_from End coming start old new e steps = (e ∙ steps.0, steps.1, steps.2)

pub ended_steps : (result : Next) (coming : List (List Row)) (start old between new : MergeState) → to_come start coming ≡ to_come old coming → MayCome old coming
    → (between ≡ old) × HaveEnded old.lists → new ≡ record between { held = None } → result ≡ last_of (staying between.last_level between.held) → Steps result coming start new
ended_steps result coming start old between new e may takes new_is is =
    let new_here : new ≡ record old { held = None } = new_is ∙ ap (λ (s : MergeState). let t : MergeState = record s { held = None } in t) takes.0 in
    let answer : result ≡ last_of (staying old.last_level old.held) = is ∙ ap (λ (s : MergeState). last_of (staying s.last_level s.held)) takes.0 in
    steps_from result coming start old new e
    (subst (λ (r : Next). Steps r coming old new) (sym answer) (ends old new coming takes.1 new_here may))

pub ended_may_come : (coming : List (List Row)) (old between new : MergeState) → between ≡ old → new ≡ record between { held = None } → MayCome old coming → MayCome new coming
ended_may_come coming old between new same new_is may =
    still_may_come old new coming (new_is ∙ ap (λ (s : MergeState). let t : MergeState = record s { held = None } in t) same) may

pub given_steps : (coming : List (List Row)) (start old between new : MergeState) (row : Row) (out : Option Row) → to_come start coming ≡ to_come old coming → MayCome old coming
    → (between ≡ record old { lists = between.lists }) × IsTaken old.lists between.lists row → new ≡ record between { held = held_after between.held row }
    → out ≡ given between.last_level between.held row → to_come start coming ≡ with_held out (to_come new coming)
given_steps coming start old between new row out e may takes new_is is =
    e ∙ (holds old between new coming row takes.0 takes.1 new_is may).same ∙ ap (λ (o : Option Row). with_held o (to_come new coming)) (sym is)

pub given_may_come : (coming : List (List Row)) (old between new : MergeState) (row : Row) → MayCome old coming
    → (between ≡ record old { lists = between.lists }) × IsTaken old.lists between.lists row → new ≡ record between { held = held_after between.held row } → MayCome new coming
given_may_come coming old between new row may takes new_is = (holds old between new coming row takes.0 takes.1 new_is may).may_come

pub fewer : (old between new : MergeState) (row : Row) (held : Option Row) → (between ≡ record old { lists = between.lists }) × IsTaken old.lists between.lists row
    → new ≡ record between { held = held } → count_of new.lists < count_of old.lists
fewer old between new row held takes new_is =
    let one : count_of between.lists + 1 ≡ count_of old.lists = one_less old.lists between.lists row takes.1 in
    let same : count_of new.lists ≡ count_of between.lists = ap (λ (s : MergeState). count_of s.lists) new_is in
    omega (arith, one, same)
