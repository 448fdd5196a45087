-- The boot and the tables as the core has them.
use Rattle.std.specs.Prelude.{List}
use Rattle.keel_levels.specs.declared.live.LiveTable.{LiveTable}
use Rattle.keel_core.specs.declared.boot.Boot.{Boot}
use Rattle.keel_core.specs.declared.boot.Boot.TheVariants as boot
use Rattle.keel_core.specs.declared.tables.Tables.{Tables}
use Rattle.keel_core.specs.Tables.{lives_of}
use Rattle.keel_core.specs.Views.{BootShown, ToStart, Started, Running, Cleared, Closed}

abbrev pub boot_shown : Boot → BootShown
boot_shown boot.ToStart = ToStart
boot_shown (boot.Started booted) = Started booted
boot_shown (boot.Running booted resumption) = Running booted resumption
boot_shown boot.Cleared = Cleared
boot_shown (boot.Closed booted) = Closed booted

abbrev pub levels_in : Tables → List LiveTable
levels_in t = lives_of t.live t.entries
