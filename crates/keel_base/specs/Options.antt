-- The options: a table of what is fixed of each by its name, and what a store's options say of the names.
use Rattle.std.specs.Prelude.{◌≡◌, ◌≢◌, ℕ, ◌≤◌, ◌==◌, Bool, List, codes, if◌then◌else◌}
use Rattle.keel_base.specs.declared.options.Options.{Options}
use Rattle.keel_base.specs.declared.option_name.OptionName.{OptionName}
use Rattle.keel_base.specs.declared.option_name.OptionName.TheVariants.{Paranoid, Auto, Attempts, Interval, WriteBuffer, MaxImmutables, Level0Trigger, LevelBase, TableSize, Limit, Buffer, Rate, Ratio, Chunk}
use Rattle.keel_base.specs.declared.option_name.Range.{Range}

-- ---- the table

-- an option's name in commands and replies, its value where none was set, and its least and greatest value
pub record Facts : Type 0 where
  pub name : List ℕ
  pub default : ℕ
  pub least : ℕ
  pub greatest : ℕ

abbrev pub facts : List ℕ → ℕ → ℕ → ℕ → Facts
facts name default least greatest = record { name = name; default = default; least = least; greatest = greatest }

abbrev pub facts_of : OptionName → Facts
facts_of Paranoid = facts (codes "paranoid") 1 0 1
facts_of Auto = facts (codes "auto") 1 0 1
facts_of Attempts = facts (codes "attempts") 16 0 1000000
facts_of Interval = facts (codes "interval") 1000 0 1000000000
facts_of WriteBuffer = facts (codes "write_buffer") 65536 1 67108864
facts_of MaxImmutables = facts (codes "max_immutables") 2 1 16
facts_of Level0Trigger = facts (codes "level0_trigger") 4 1 64
facts_of LevelBase = facts (codes "level_base") 262144 1 1099511627776
facts_of TableSize = facts (codes "table_size") 65536 1 67108864
facts_of Limit = facts (codes "limit") 0 0 1152921504606846976
facts_of Buffer = facts (codes "buffer") 0 0 1152921504606846976
facts_of Rate = facts (codes "rate") 0 0 1099511627776
facts_of Ratio = facts (codes "ratio") 250 0 1000000
facts_of Chunk = facts (codes "chunk") 65536 0 1099511627776

-- how a command or a reply names an option
abbrev pub option_name : OptionName → List ℕ
option_name name = (facts_of name).name

-- the value where none was set
abbrev pub default_of : OptionName → ℕ
default_of name = (facts_of name).default

-- the least and the greatest value
abbrev pub range_of : OptionName → Range
range_of name = record { least = (facts_of name).least; greatest = (facts_of name).greatest }

pub record IsBetween (least greatest value : ℕ) : Type 0 where
  pub least_is : least ≤ value
  pub most_is : value ≤ greatest

-- the option takes this value
abbrev pub IsWithin : OptionName → ℕ → Type 0
IsWithin name value = IsBetween (range_of name).least (range_of name).greatest value

-- ---- options by their names

-- 1 is on, and 0 off
abbrev pub of_switch : Bool → ℕ
of_switch on = if on then 1 else 0

abbrev pub value_in : OptionName → Options → ℕ
value_in Paranoid options = of_switch options.paranoid
value_in Auto options = of_switch options.auto
value_in Attempts options = options.attempts
value_in Interval options = options.interval
value_in WriteBuffer options = options.write_buffer
value_in MaxImmutables options = options.max_immutables
value_in Level0Trigger options = options.level0_trigger
value_in LevelBase options = options.level_base
value_in TableSize options = options.table_size
value_in Limit options = options.limit
value_in Buffer options = options.buffer
value_in Rate options = options.rate
value_in Ratio options = options.ratio
value_in Chunk options = options.chunk

-- every option is in its range
pub record AreInRange (options : Options) : Type 0 where
  pub each : (name : OptionName) → IsWithin name (value_in name options)

-- each option has its default
pub record AreDefaults (options : Options) : Type 0 where
  pub each : (name : OptionName) → value_in name options ≡ default_of name

-- one option has this value now, and every other is as before
pub record SetsOne (name : OptionName) (value : ℕ) (old new : Options) : Type 0 where
  pub has : value_in name new ≡ value
  pub others : (other : OptionName) → other ≢ name → value_in other new ≡ value_in other old

-- the settings of a store for which nothing was set
abbrev pub standard : Options
standard = record {
  paranoid = default_of Paranoid == 1;
  auto = default_of Auto == 1;
  attempts = default_of Attempts;
  interval = default_of Interval;
  write_buffer = default_of WriteBuffer;
  max_immutables = default_of MaxImmutables;
  level0_trigger = default_of Level0Trigger;
  level_base = default_of LevelBase;
  table_size = default_of TableSize;
  limit = default_of Limit;
  buffer = default_of Buffer;
  rate = default_of Rate;
  ratio = default_of Ratio;
  chunk = default_of Chunk;
}

-- the options in which the value of one stands in its place
abbrev pub with_value : OptionName → ℕ → Options → Options
with_value Paranoid value options = record options { paranoid = value == 1 }
with_value Auto value options = record options { auto = value == 1 }
with_value Attempts value options = record options { attempts = value }
with_value Interval value options = record options { interval = value }
with_value WriteBuffer value options = record options { write_buffer = value }
with_value MaxImmutables value options = record options { max_immutables = value }
with_value Level0Trigger value options = record options { level0_trigger = value }
with_value LevelBase value options = record options { level_base = value }
with_value TableSize value options = record options { table_size = value }
with_value Limit value options = record options { limit = value }
with_value Buffer value options = record options { buffer = value }
with_value Rate value options = record options { rate = value }
with_value Ratio value options = record options { ratio = value }
with_value Chunk value options = record options { chunk = value }
