use Rattle.std.proofs.Common.{◌≡◌, List, Some, None, length}
use Rattle.keel_disk.specs.Seen.{IsQuiet}
use Rattle.keel_disk.specs.Told.{Told}
use Rattle.keel_directory.specs.TableFiles.{TableFile}
use Rattle.keel_levels.specs.Live.{AreOpened, AreReadable, tables_of}
use Rattle.keel_levels.proofs.Turning.{FoundIn}
use Rattle.keel_levels.proofs.levels.Levels.get.Given as goal

abbrev pub invariant-tables : goal.invariant-tables
invariant-tables g l =
    let D = g.D.Disk in
    record {
      long : length l.self-inside.tables.items ≡ l.i-end;
      tables : tables_of l.self-inside.tables.items ≡ tables_of l.fn.self;
      quiet : IsQuiet (D.seen l.fn.disk) None (D.seen l.disk);
      found : (told : Told) (files : List TableFile) → (D.seen l.fn.disk).told ≡ Some told → AreReadable told files → AreOpened l.fn.self files
          → FoundIn l.key l.i l.self-inside.tables.items files l.found;
    }
