use Rattle.std.proofs.Common.{◌≡◌, ◌+◌, ◌%◌, ◌++◌, take}
use Rattle.keel_simdisk.specs.Crash.{garbage}
use Rattle.keel_simdisk.proofs.crash.left_of.Given as goal

abbrev pub invariant-loop-i : goal.invariant-loop-i
invariant-loop-i l = record {
  value_is : l.value ≡ (l.fn.pick.seed + l.i) % 256;
  bytes_are : l.bytes ≡ take l.kept l.file.meant ++ garbage l.fn.pick.seed l.i;
}
