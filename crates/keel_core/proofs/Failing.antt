-- The failure that stands, behind one that was noted.
use Rattle.std.proofs.Common.{◌≡◌, Bool, true, false, List, [], ◌∷◌, ◌++◌, Option, Some, None, refl, sym, ap, ◌∙◌, arith}
use Rattle.std.specs.Prelude.{nat_lt, if◌then◌else◌}
use Rattle.std.proofs.lemmas.Bool.{ltb-true, ltb-false, lt-ltb, le-ltb}
use Rattle.keel_base.specs.declared.failure.Failure.{Failure}
use Rattle.keel_base.specs.declared.options.Options.{Options}
use Rattle.keel_handler.specs.Failures.{severity, standing_severity, first_worst, standing_of, stopping_of, where_severe}
use Rattle.keel_handler.specs.Recovery.{HandlerState, renewed}
use Rattle.keel_core.specs.Failing.{noted}
use Rattle.keel_core.specs.Views.{IsHandlerOf}

-- the failure that stands, behind one more
abbrev behind : Bool → Option Failure → Failure → Option Failure
behind paranoid standing failure = if nat_lt (standing_severity paranoid standing) (severity paranoid failure) then Some failure else standing

-- one in front of others stands the same, whether another one is noted behind them before or after
in_front : (paranoid : Bool) (front failure : Failure) (standing : Option Failure)
    → first_worst paranoid front (behind paranoid standing failure) ≡ behind paranoid (first_worst paranoid front standing) failure
in_front paranoid front failure None =
    let f = severity paranoid front in
    let l = severity paranoid failure in
    elim (nat_lt 0 l) as (λ a. nat_lt 0 l ≡ a → first_worst paranoid front (if a then Some failure else None) ≡ behind paranoid (first_worst paranoid front None) failure) [
      | true ↦ λ some.
          elim (nat_lt 0 f) as (λ b. nat_lt 0 f ≡ b → first_worst paranoid front (Some failure) ≡ behind paranoid (if b then Some front else None) failure) [
            | true ↦ λ h. refl
            | false ↦ λ h.
                ap (λ (b : Bool). if b then Some failure else Some front) (lt-ltb f l (omega (arith, ltb-false 0 f h, ltb-true 0 l some)))
                ∙ sym (ap (λ (b : Bool). if b then Some failure else None) some)
          ] refl
      | false ↦ λ none.
          elim (nat_lt 0 f) as (λ b. nat_lt 0 f ≡ b → (if b then Some front else None) ≡ behind paranoid (if b then Some front else None) failure) [
            | true ↦ λ h. sym (ap (λ (b : Bool). if b then Some failure else Some front) (le-ltb f l (omega (arith, ltb-false 0 l none))))
            | false ↦ λ h. sym (ap (λ (b : Bool). if b then Some failure else None) none)
          ] refl
    ] refl
in_front paranoid front failure (Some standing) =
    let f = severity paranoid front in
    let s = severity paranoid standing in
    let l = severity paranoid failure in
    elim (nat_lt s l) as (λ a. nat_lt s l ≡ a → first_worst paranoid front (if a then Some failure else Some standing) ≡ behind paranoid (first_worst paranoid front (Some standing)) failure) [
      | true ↦ λ more.
          elim (nat_lt f s) as (λ b. nat_lt f s ≡ b → first_worst paranoid front (Some failure) ≡ behind paranoid (if b then Some standing else Some front) failure) [
            | true ↦ λ h.
                ap (λ (b : Bool). if b then Some failure else Some front) (lt-ltb f l (omega (arith, ltb-true f s h, ltb-true s l more)))
                ∙ sym (ap (λ (b : Bool). if b then Some failure else Some standing) more)
            | false ↦ λ h. refl
          ] refl
      | false ↦ λ less.
          elim (nat_lt f s) as (λ b. nat_lt f s ≡ b → (if b then Some standing else Some front) ≡ behind paranoid (if b then Some standing else Some front) failure) [
            | true ↦ λ h. sym (ap (λ (b : Bool). if b then Some failure else Some standing) less)
            | false ↦ λ h. sym (ap (λ (b : Bool). if b then Some failure else Some front) (le-ltb f l (omega (arith, ltb-false f s h, ltb-false s l less))))
          ] refl
    ] refl

-- of failures with one more behind them
standing_behind : (paranoid : Bool) (failures : List Failure) (failure : Failure) → standing_of paranoid (failures ++ failure ∷ []) ≡ behind paranoid (standing_of paranoid failures) failure
standing_behind paranoid [] failure = refl
standing_behind paranoid (front ∷ failures) failure =
    ap (first_worst paranoid front) (standing_behind paranoid failures failure) ∙ in_front paranoid front failure (standing_of paranoid failures)

pub handler_noted : (options : Options) (failures : List Failure) (handler : HandlerState) (failure : Failure) → IsHandlerOf options failures handler
    → IsHandlerOf options (failures ++ failure ∷ []) (noted failure handler)
handler_noted options failures handler failure h =
    elim (nat_lt (standing_severity handler.paranoid handler.standing) (severity handler.paranoid failure))
    as (λ less. standing_of options.paranoid (failures ++ failure ∷ []) ≡ (if less then Some failure else standing_of options.paranoid failures)
    → IsHandlerOf options (failures ++ failure ∷ []) (if less then renewed (Some failure) handler else handler)) [
      | true ↦ λ is. record { paranoid = h.paranoid; auto = h.auto; on = refl; standing = sym is }
      | false ↦ λ is. record { paranoid = h.paranoid; auto = h.auto; on = h.on; standing = h.standing ∙ sym is }
    ]
    (standing_behind options.paranoid failures failure
    ∙ (λ i. if nat_lt (standing_severity (sym h.paranoid i) (sym h.standing i)) (severity (sym h.paranoid i) failure) then Some failure else standing_of options.paranoid failures))

pub handler_cleared : (options : Options) (failures : List Failure) (handler : HandlerState) → IsHandlerOf options failures handler → IsHandlerOf options [] (renewed None handler)
handler_cleared options failures handler h = record { paranoid = h.paranoid; auto = h.auto; on = refl; standing = refl }

-- the failure that stops writes is what the handler shows of it
pub stopping_same : (options : Options) (failures : List Failure) (handler : HandlerState) → IsHandlerOf options failures handler
    → stopping_of options.paranoid failures ≡ where_severe handler.paranoid handler.standing
stopping_same options failures handler h = λ i. where_severe (sym h.paranoid i) (sym h.standing i)
