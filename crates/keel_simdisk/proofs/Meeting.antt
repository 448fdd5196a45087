-- The first rule at which a call looks, and the rules behind it.
use Rattle.std.proofs.Common.{◌≡◌, ℕ, suc, ◌<◌, List, ◌∷◌, ◌++◌, length, take, drop, get_or, set, Some, None, refl, sym, ◌∙◌, ap, arith, inl, inr, take-append-drop, drop-cons}
use Rattle.std.proofs.lemmas.List.{length-take-le, get_or_at, set_at}
use Rattle.keel_base.specs.declared.failure.Call.{Call}
use Rattle.keel_simdisk.specs.declared.rules.Armed.{Armed}
use Rattle.keel_simdisk.specs.declared.rules.Met.{Met}
use Rattle.keel_simdisk.specs.Rules.{LooksAt, LooksAtNone, planned_of, counted, Meets, IsMet}

pub met_here : (call : Call) (rules whole : List Armed) (place : ℕ) (d : Armed) → rules ≡ whole → place < length rules → LooksAt call (get_or rules place d)
    → LooksAtNone call (take place rules) → IsMet call whole (Some (record { place = place; armed = get_or rules place d }))
met_here call rules whole place d is below looks none =
    let rule = get_or rules place d in
    let from_here : drop place rules ≡ rule ∷ drop (suc place) rules = drop-cons rules place d below in (
      take place rules,
      drop (suc place) rules,
      length-take-le place rules (omega arith),
      record {
        split = sym is ∙ sym (take-append-drop place rules) ∙ ap (λ (l : List Armed). take place rules ++ l) from_here;
        none_before = none;
        looks = looks;
      },
    )

pub met_counts : (call : Call) (rules : List Armed) (met : Met) (old new : Armed) → old ≡ get_or rules met.place old → new ≡ counted old
    → IsMet call rules (Some met) → Meets call rules (planned_of (Some met)) (set rules met.place new)
met_counts call rules met old new is made (front, rest, size, first) =
    let here : old ≡ met.armed = is ∙ ap (λ (l : List Armed). get_or l met.place old) first.split ∙ get_or_at front met.armed rest old met.place size in
    inl (record {
      front = front;
      rule = met.armed;
      rest = rest;
      first = first;
      decides = refl;
      counts = ap (λ (l : List Armed). set l met.place new) first.split ∙ set_at front met.armed rest new met.place size ∙ ap (λ r. front ++ r ∷ rest) (made ∙ ap counted here);
    })

pub none_met : (call : Call) (rules : List Armed) → IsMet call rules None → Meets call rules (planned_of None) rules
none_met call rules none = inr (record { none = none; goes_on = refl; same = refl })
