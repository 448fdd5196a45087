use Rattle.std.proofs.Common.{◌≡◌, ℕ, Some, None}
use Rattle.keel_disk.specs.Seen.{IsQuiet}
use Rattle.keel_disk.specs.Told.{Told}
use Rattle.keel_directory.specs.TableFiles.{TableFile}
use Rattle.keel_levels.specs.Live.{IsReadable, IsTableAs}
use Rattle.keel_levels.proofs.Spanning.{IsLeft}
use Rattle.keel_levels.proofs.range.rows_in_table.Given as goal

abbrev pub invariant-reading : goal.invariant-reading
invariant-reading g l =
    let D = g.D.Disk in
    record {
      quiet : IsQuiet (D.seen l.fn.disk) None (D.seen l.disk);
      left : (told : Told) (last_seq : ℕ) (file : TableFile) → (D.seen l.fn.disk).told ≡ Some told → IsReadable told last_seq file → IsTableAs file l.table
          → IsLeft l.from l.to file l.i l.rows.items;
    }
