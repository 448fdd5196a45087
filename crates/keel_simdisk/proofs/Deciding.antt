-- One rule is the first at which a call looks, so the rules decide in one way.
use Rattle.std.proofs.Common.{◌≡◌, ◌≢◌, ◌<◌, List, [], ◌∷◌, ◌++◌, length, Option, Some, None, Result, Err, MatchOption, refl, sym, ◌∙◌, ap, ap₂, subst, inl, inr, arith, option_map, length-append, slice_index_or}
use Rattle.std.proofs.lemmas.List.{get_or_at}
use Rattle.std.proofs.lemmas.List.Elements.{All-head, All-tail}
use Rattle.keel_base.specs.declared.failure.Call.{Call}
use Rattle.keel_base.specs.declared.failure.Call.TheVariants as kind
use Rattle.keel_base.specs.declared.failure.Fault.{Fault}
use Rattle.keel_base.specs.declared.failure.Fault.TheVariants.{Plain}
use Rattle.keel_disk.specs.declared.change.Change.{Change}
use Rattle.keel_disk.specs.declared.error.DiskError.{DiskError}
use Rattle.keel_disk.specs.declared.error.DiskError.TheVariants as error
use Rattle.keel_disk.specs.State.{State}
use Rattle.keel_disk.specs.Step.{done}
use Rattle.keel_simdisk.specs.declared.rules.Armed.{Armed}
use Rattle.keel_simdisk.specs.declared.rules.Planned.{Planned}
use Rattle.keel_simdisk.specs.declared.sim_disk.SimDisk.{SimDisk}
use Rattle.keel_simdisk.specs.Rules.{LooksAt, LooksAtNone, IsFirst, planned_by, counted, Meets}
use Rattle.keel_simdisk.specs.Calls.{kind_of, failure_of, refused, Comes, MeetsRules, MakesCall, behind_read, ReadsByRules}

-- what two splits at the first rule have in common
record AreOne (front front' : List Armed) (rule rule' : Armed) (rest rest' : List Armed) : Type 0 where
  fronts : front ≡ front'
  rules : rule ≡ rule'
  rests : rest ≡ rest'

one_first : (call : Call) (front front' : List Armed) (rule rule' : Armed) (rest rest' : List Armed) → front ++ rule ∷ rest ≡ front' ++ rule' ∷ rest'
    → LooksAtNone call front → LooksAtNone call front' → LooksAt call rule → LooksAt call rule' → AreOne front front' rule rule' rest rest'
one_first call [] [] rule rule' rest rest' same none none' looks looks' =
    record { fronts = refl; rules = cc; rests = cc }
one_first call [] (y ∷ front') rule rule' rest rest' same none none' looks looks' =
    let first : rule ≡ y = cc in
    absurd (All-head (λ r. ¬ LooksAt call r) y front' none' (subst (LooksAt call) first looks))
one_first call (x ∷ front) [] rule rule' rest rest' same none none' looks looks' =
    let first : rule' ≡ x = cc in
    absurd (All-head (λ r. ¬ LooksAt call r) x front none (subst (LooksAt call) first looks'))
one_first call (x ∷ front) (y ∷ front') rule rule' rest rest' same none none' looks looks' =
    let first : x ≡ y = cc in
    let behind : front ++ rule ∷ rest ≡ front' ++ rule' ∷ rest' = cc in
    let more = one_first call front front' rule rule' rest rest' behind (All-tail (λ r. ¬ LooksAt call r) x front none) (All-tail (λ r. ¬ LooksAt call r) y front' none') looks looks' in
    record { fronts = ap₂ (λ r (l : List Armed). r ∷ l) first more.fronts; rules = more.rules; rests = more.rests }

-- where a rule is looked at, none is not
some_first : (call : Call) (rules front : List Armed) (rule : Armed) (rest : List Armed) → IsFirst call rules front rule rest → LooksAtNone call rules → ⊥
some_first call rules front rule rest first none =
    let within : length front < length rules = omega (arith, length-append front (rule ∷ rest), ap length first.split) in
    let here = none (length front) rule within in
    here (subst (LooksAt call) (sym (ap (λ (l : List Armed). slice_index_or l (length front) rule) first.split ∙ get_or_at front rule rest rule (length front) refl)) first.looks)

pub one_decision : (call : Call) (before : List Armed) (planned planned' : Option Planned) (after after' : List Armed) → Meets call before planned after → Meets call before planned' after'
    → (planned ≡ planned') × (after ≡ after')
one_decision call before planned planned' after after' (inl one) (inl other) =
    let same = one_first call one.front other.front one.rule other.rule one.rest other.rest (sym one.first.split ∙ other.first.split) one.first.none_before other.first.none_before one.first.looks other.first.looks in (
      one.decides ∙ ap planned_by same.rules ∙ sym other.decides,
      one.counts ∙ ap₂ (λ (l : List Armed) (r : List Armed). l ++ r) same.fronts (ap₂ (λ r (l : List Armed). counted r ∷ l) same.rules same.rests) ∙ sym other.counts,
    )
one_decision call before planned planned' after after' (inl one) (inr other) = absurd (some_first call before one.front one.rule one.rest one.first other.none)
one_decision call before planned planned' after after' (inr one) (inl other) = absurd (some_first call before other.front other.rule other.rest other.first one.none)
one_decision call before planned planned' after after' (inr one) (inr other) = (one.goes_on ∙ sym other.goes_on, one.same ∙ sym other.same)

comes_one : (failure : Option Planned) (change : Change) (rules : List Armed) (disk : SimDisk) (one other : Result (Unit {0}) DiskError) (after behind : SimDisk)
    → Comes failure change rules disk one after → Comes failure change rules disk other behind → (one ≡ other) × (after ≡ behind)
comes_one None change rules disk one other after behind a b = (a.0 ∙ sym b.0, a.1 ∙ sym b.1)
comes_one (Some planned) change rules disk one other after behind a b = (a.0 ∙ sym b.0, a.1 ∙ sym b.1)

meets_one : (change : Change) (disk : SimDisk) (one other : Result (Unit {0}) DiskError) (after behind : SimDisk)
    → MeetsRules change disk one after → MeetsRules change disk other behind → (one ≡ other) × (after ≡ behind)
meets_one change disk one other after behind a b =
    let same = one_decision (kind_of change) disk.rules a.planned b.planned a.rules b.rules a.met b.met in
    let moved : Comes (failure_of b.planned change disk) change b.rules disk one after =
    subst (λ r. Comes (failure_of b.planned change disk) change r disk one after) same.1 (subst (λ p. Comes (failure_of p change disk) change a.rules disk one after) same.0 a.comes) in
    comes_one (failure_of b.planned change disk) change b.rules disk one other after behind moved b.comes

answers_one : (outcome : Option State) (change : Change) (disk : SimDisk) (one other : Result (Unit {0}) DiskError) (after behind : SimDisk)
    → MatchOption outcome ((one ≡ Err (error.Fault Plain)) × (after ≡ refused change disk)) (λ _. MeetsRules change disk one after)
    → MatchOption outcome ((other ≡ Err (error.Fault Plain)) × (behind ≡ refused change disk)) (λ _. MeetsRules change disk other behind)
    → (one ≡ other) × (after ≡ behind)
answers_one None change disk one other after behind a b = (a.0 ∙ sym b.0, a.1 ∙ sym b.1)
answers_one (Some whole) change disk one other after behind a b = meets_one change disk one other after behind a b

pub one_answer : (change : Change) (disk : SimDisk) (one other : Result (Unit {0}) DiskError) (after behind : SimDisk)
    → MakesCall change disk one after → MakesCall change disk other behind → one ≢ Err error.OutOfMemory → other ≢ Err error.OutOfMemory
    → (one ≡ other) × (after ≡ behind)
one_answer change disk one other after behind (inl none) b first second = absurd (first none.0)
one_answer change disk one other after behind (inr a) (inl none) first second = absurd (second none.0)
one_answer change disk one other after behind (inr a) (inr b) first second = answers_one (done change disk.state) change disk one other after behind a b

pub one_read : (disk : SimDisk) (one other : Option Fault) (after behind : SimDisk) → ReadsByRules disk one after → ReadsByRules disk other behind → (one ≡ other) × (after ≡ behind)
one_read disk one other after behind a b =
    let same = one_decision kind.Read disk.rules a.planned b.planned a.rules b.rules a.met b.met in (
      a.fault_is ∙ ap (option_map (λ p. p.fault)) same.0 ∙ sym b.fault_is,
      a.after_is ∙ ap₂ (λ p (r : List Armed). behind_read p r disk) same.0 same.1 ∙ sym b.after_is,
    )
