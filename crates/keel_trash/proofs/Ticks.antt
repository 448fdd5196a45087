-- The tick behind very many bytes is the last one.
use Rattle.std.proofs.Common.{◌≡◌, ℕ, ◌+◌, ◌-◌, ◌*◌, ◌^◌, ◌<◌, ◌≤◌, ◌==◌, min, nat_le, true, false, Some, None, refl, arith, if◌then◌else◌}
use Rattle.std.specs.Int.{div_ceil}
use Rattle.std.proofs.lemmas.Bool.{leb-true, leb-false, eqb-false}
use Rattle.std.proofs.lemmas.Grind.{div_ceil_times}
use Rattle.std.proofs.Math.Nat.{mul-le-mul_right}
use Rattle.keel_trash.specs.Laws.{EndIsUnseen}

-- the bytes of 2^128 - 1 take longer than there are ticks
past : (rate bytes : ℕ) → 0 < rate → rate < 2 ^ 64 → 2 ^ 128 - 1 ≤ bytes → 2 ^ 64 - 1 ≤ div_ceil (bytes * 1000) rate
past rate bytes some small large =
    elim (nat_le (2 ^ 64 - 1) (div_ceil (bytes * 1000) rate)) as (λ late. nat_le (2 ^ 64 - 1) (div_ceil (bytes * 1000) rate) ≡ late → 2 ^ 64 - 1 ≤ div_ceil (bytes * 1000) rate) [
      | true ↦ λ late. leb-true (2 ^ 64 - 1) (div_ceil (bytes * 1000) rate) late
      | false ↦ λ early. let few : div_ceil (bytes * 1000) rate ≤ 2 ^ 64 - 2 = omega (arith, leb-false (2 ^ 64 - 1) (div_ceil (bytes * 1000) rate) early) in
          let all : bytes * 1000 ≤ div_ceil (bytes * 1000) rate * rate = (div_ceil_times (bytes * 1000) rate some).0 in
          let most : div_ceil (bytes * 1000) rate * rate ≤ (2 ^ 64 - 2) * rate = mul-le-mul_right rate few in
          absurd (omega (arith, all, most, small, large))
    ] refl

unseen : (rate taken start : ℕ) → 0 < rate → rate < 2 ^ 64
    → min (start + div_ceil (min taken (2 ^ 128 - 1) * 1000) rate) (2 ^ 64 - 1) ≡ min (start + div_ceil (taken * 1000) rate) (2 ^ 64 - 1)
unseen rate taken start some small =
    elim (nat_le taken (2 ^ 128 - 1)) as (λ few. nat_le taken (2 ^ 128 - 1) ≡ few
    → min (start + div_ceil (min taken (2 ^ 128 - 1) * 1000) rate) (2 ^ 64 - 1) ≡ min (start + div_ceil (taken * 1000) rate) (2 ^ 64 - 1)) [
      | true ↦ λ few. let same : min taken (2 ^ 128 - 1) ≡ taken = omega (arith, leb-true taken (2 ^ 128 - 1) few) in rw same refl
      | false ↦ λ many. let large : 2 ^ 128 - 1 ≤ taken = omega (arith, leb-false taken (2 ^ 128 - 1) many) in
          let same : min taken (2 ^ 128 - 1) ≡ 2 ^ 128 - 1 = omega arith in
          let there = past rate taken some small large in
          let at_end = past rate (2 ^ 128 - 1) some small (omega arith) in
          rw same (omega (arith, there, at_end))
    ] refl

pub end_unseen : EndIsUnseen
end_unseen rate taken None small = refl
end_unseen rate taken (Some start) small =
    elim (rate == 0) as (λ free. (rate == 0) ≡ free
    → (if free then 0 else min (start + div_ceil (min taken (2 ^ 128 - 1) * 1000) rate) (2 ^ 64 - 1)) ≡ (if free then 0 else min (start + div_ceil (taken * 1000) rate) (2 ^ 64 - 1))) [
      | true ↦ λ free. refl
      | false ↦ λ bound. unseen rate taken start (omega (arith, eqb-false rate 0 bound)) small
    ] refl
