-- The standard options, and what becomes of options where one of them is changed.
use Rattle.std.proofs.Common.{◌≡◌, ◌≢◌, ◌≤◌, ℕ, zero, suc, Bool, true, false, ◌==◌, refl, arith}
use Rattle.keel_base.specs.declared.options.Options.{Options}
use Rattle.keel_base.specs.declared.option_name.OptionName.{OptionName}
use Rattle.keel_base.specs.declared.option_name.OptionName.TheVariants.{Paranoid, Auto, Attempts, Interval, WriteBuffer, MaxImmutables, Level0Trigger, LevelBase, TableSize, Limit, Buffer, Rate, Ratio, Chunk}
use Rattle.keel_base.specs.Options.{IsBetween, IsWithin, AreInRange, AreDefaults, SetsOne, standard, default_of, of_switch, value_in, with_value}

is_default : (name : OptionName) → value_in name standard ≡ default_of name
is_default Paranoid = refl
is_default Auto = refl
is_default Attempts = refl
is_default Interval = refl
is_default WriteBuffer = refl
is_default MaxImmutables = refl
is_default Level0Trigger = refl
is_default LevelBase = refl
is_default TableSize = refl
is_default Limit = refl
is_default Buffer = refl
is_default Rate = refl
is_default Ratio = refl
is_default Chunk = refl

-- the standard options are the defaults of their names
pub standard_is_default : AreDefaults standard
standard_is_default = record { each = is_default }

default_within : (name : OptionName) → IsWithin name (value_in name standard)
default_within Paranoid = record { least_is = omega arith; most_is = omega arith }
default_within Auto = record { least_is = omega arith; most_is = omega arith }
default_within Attempts = record { least_is = omega arith; most_is = omega arith }
default_within Interval = record { least_is = omega arith; most_is = omega arith }
default_within WriteBuffer = record { least_is = omega arith; most_is = omega arith }
default_within MaxImmutables = record { least_is = omega arith; most_is = omega arith }
default_within Level0Trigger = record { least_is = omega arith; most_is = omega arith }
default_within LevelBase = record { least_is = omega arith; most_is = omega arith }
default_within TableSize = record { least_is = omega arith; most_is = omega arith }
default_within Limit = record { least_is = omega arith; most_is = omega arith }
default_within Buffer = record { least_is = omega arith; most_is = omega arith }
default_within Rate = record { least_is = omega arith; most_is = omega arith }
default_within Ratio = record { least_is = omega arith; most_is = omega arith }
default_within Chunk = record { least_is = omega arith; most_is = omega arith }

pub standard_in_range : AreInRange standard
standard_in_range = record { each = default_within }

switch_within : (on : Bool) → IsBetween 0 1 (of_switch on)
switch_within true = record { least_is = omega arith; most_is = omega arith }
switch_within false = record { least_is = omega arith; most_is = omega arith }

stays : (name other : OptionName) (value : ℕ) (old : Options) → IsWithin name value → IsWithin other (value_in other old) → IsWithin other (value_in other (with_value name value old))
stays Paranoid Paranoid value old within before = switch_within (value == 1)
stays Auto Auto value old within before = switch_within (value == 1)
stays Attempts Attempts value old within before = within
stays Interval Interval value old within before = within
stays WriteBuffer WriteBuffer value old within before = within
stays MaxImmutables MaxImmutables value old within before = within
stays Level0Trigger Level0Trigger value old within before = within
stays LevelBase LevelBase value old within before = within
stays TableSize TableSize value old within before = within
stays Limit Limit value old within before = within
stays Buffer Buffer value old within before = within
stays Rate Rate value old within before = within
stays Ratio Ratio value old within before = within
stays Chunk Chunk value old within before = within
stays _ _ value old within before = before

-- every option stays in its range
pub stays_in_range : (name : OptionName) (value : ℕ) (old : Options) → IsWithin name value → AreInRange old → AreInRange (with_value name value old)
stays_in_range name value old within all = record { each = λ other. stays name other value old within (all.each other) }

switched : (value : ℕ) → value ≤ 1 → of_switch (value == 1) ≡ value
switched zero most = refl
switched (suc zero) most = refl
switched (suc (suc value)) most = absurd (omega (arith, most))

has : (name : OptionName) (value : ℕ) (old : Options) → IsWithin name value → value_in name (with_value name value old) ≡ value
has Paranoid value old within = switched value within.most_is
has Auto value old within = switched value within.most_is
has Attempts value old within = refl
has Interval value old within = refl
has WriteBuffer value old within = refl
has MaxImmutables value old within = refl
has Level0Trigger value old within = refl
has LevelBase value old within = refl
has TableSize value old within = refl
has Limit value old within = refl
has Buffer value old within = refl
has Rate value old within = refl
has Ratio value old within = refl
has Chunk value old within = refl

others : (name other : OptionName) (value : ℕ) (old : Options) → other ≢ name → value_in other (with_value name value old) ≡ value_in other old
others Paranoid Paranoid value old apart = absurd (apart refl)
others Auto Auto value old apart = absurd (apart refl)
others Attempts Attempts value old apart = absurd (apart refl)
others Interval Interval value old apart = absurd (apart refl)
others WriteBuffer WriteBuffer value old apart = absurd (apart refl)
others MaxImmutables MaxImmutables value old apart = absurd (apart refl)
others Level0Trigger Level0Trigger value old apart = absurd (apart refl)
others LevelBase LevelBase value old apart = absurd (apart refl)
others TableSize TableSize value old apart = absurd (apart refl)
others Limit Limit value old apart = absurd (apart refl)
others Buffer Buffer value old apart = absurd (apart refl)
others Rate Rate value old apart = absurd (apart refl)
others Ratio Ratio value old apart = absurd (apart refl)
others Chunk Chunk value old apart = absurd (apart refl)
others _ _ value old apart = refl

-- one option is set
pub sets_one : (name : OptionName) (value : ℕ) (old : Options) → IsWithin name value → SetsOne name value old (with_value name value old)
sets_one name value old within = record { has = has name value old within; others = λ other apart. others name other value old apart }
