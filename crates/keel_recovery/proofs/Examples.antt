-- The worked story and the worked device.
use Rattle.std.proofs.Common.{◌≡◌, ◌⊎◌, inl, inr, ℕ, zero, suc, ◌≤◌, List, [], ◌++◌, take, refl, subst, arith}
use Rattle.keel_base.specs.Points.{Point, fold_batches}
use Rattle.keel_disk.specs.declared.state.Operation.{Operation}
use Rattle.keel_disk.specs.Plain.{image_read}
use Rattle.keel_disk.specs.Sound.{IsFile}
use Rattle.keel_directory.specs.Reading.{new}
use Rattle.keel_directory.proofs.Needed.{new_read}
use Rattle.keel_directory.proofs.OneReading.{reading_one}
use Rattle.std.proofs.lemmas.List.Elements.{All-nil}
use Rattle.keel_recovery.specs.Worked.{two_puts, behind_one, behind_both, TwoPuts, empty_device, EmptyIsFirst}
use Rattle.keel_recovery.specs.Machine.{IsSoundIfRead}

by_count : (point : Point) (count : ℕ) → 1 ≤ count → count ≤ 2 → point ≡ fold_batches two_puts.start (take count (two_puts.log ++ two_puts.limbo)) → (point ≡ behind_one) ⊎ (point ≡ behind_both)
by_count point zero least most e = absurd (omega (arith, least))
by_count point (suc zero) least most e = inl e
by_count point (suc (suc zero)) least most e = inr e
by_count point (suc (suc (suc more))) least most e = absurd (omega (arith, most))

pub two_puts_hold : TwoPuts
two_puts_hold point h = by_count point h.count h.enough h.within h.point_is

-- ---- the device

none_done : (count : ℕ) → take count (let none : List Operation = [] in none) ≡ []
none_done zero = refl
none_done (suc count) = refl

pub empty_is_first : EmptyIsFirst
empty_is_first = record {
  at_rest = record {
    settled = record { none_waits = refl; firm = tt };
    sound = record { one_to_one = λ count. rw (none_done count) tt; files = All-nil IsFile };
  };
  sound = λ reading is. subst IsSoundIfRead (reading_one (image_read empty_device) new reading (new_read [] refl refl) is) tt;
}
