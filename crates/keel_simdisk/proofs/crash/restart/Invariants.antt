use Rattle.std.proofs.Common.{◌≡◌, ◌↔◌, IsTrue, take}
use Rattle.keel_disk.specs.Image.{image_files, image_names}
use Rattle.keel_disk.specs.Plain.{ArePlain}
use Rattle.keel_simdisk.specs.Crash.{image_of}
use Rattle.keel_simdisk.proofs.crash.restart.Given as goal

abbrev pub invariant-loop-entry : goal.invariant-loop-entry
invariant-loop-entry l = record {
  files_are : l.made.items ≡ image_files (image_of l.pick l.files (take l.entry-index l.directory));
  names_are : l.names.items ≡ image_names 0 (image_of l.pick l.files (take l.entry-index l.directory));
  plain_is : IsTrue l.plain ↔ ArePlain l.files (take l.entry-index l.directory) (image_of l.pick l.files (take l.entry-index l.directory));
}
