use Rattle.std.proofs.Common.{◌≡◌, ◌↔◌, ℕ, IsTrue, take, get_or, sym, subst, arith}
use Rattle.std.proofs.lemmas.List.{take_more}
use Rattle.keel_base.specs.declared.file_name.FileName.TheVariants.{Log}
use Rattle.keel_disk.specs.Directory.{Named}
use Rattle.keel_disk.specs.Image.{image_files, image_names}
use Rattle.keel_disk.specs.Plain.{ArePlain}
use Rattle.keel_disk.specs.State.{file_at}
use Rattle.keel_simdisk.specs.Crash.{image_of, bytes_left}
use Rattle.keel_simdisk.proofs.Leaving.{files_more, names_more, plain_more}
use Rattle.keel_simdisk.proofs.crash.restart.Goals as goal

pub loop-entry-preserved : goal.loop-entry-preserved
loop-entry-preserved c =
    let directory = c.args.directory.now in
    let files = c.args.files.now in
    let pick = c.args.pick in
    let i = c.loop-entry.entry-index in
    let entry = get_or directory i (Log 0, 0) in
    let next = sym (take_more directory i (Log 0, 0) c.loop-entry-test.true) in
    let left : c.in_ok-bytes.bytes ≡ bytes_left pick (file_at entry.1 files) = c.in_ok-bytes.ensures in
    record {
      files_are = subst (λ (d : Named ℕ). c.push.new.self.items ≡ image_files (image_of pick files d)) next
          (files_more pick files (take i directory) entry c.loop-entry.made.items c.push.new.self.items c.in_ok-firm_file.field-0 c.in_ok-bytes.bytes
          c.loop-entry.invariant.files_are c.in_ok-push.ensures.items c.in_ok-firm_file.ensures left);
      names_are = subst (λ (d : Named ℕ). c.push-in-loop-entry.new.self.items ≡ image_names 0 (image_of pick files d)) next
          (names_more pick files (take i directory) entry c.loop-entry.made.items c.loop-entry.names.items c.push-in-loop-entry.new.self.items c.len-number.result
          c.loop-entry.invariant.files_are c.loop-entry.invariant.names_are (omega (arith, c.loop-entry.made.ok, c.len-number.ensures)) c.in_ok-push-2.ensures.items);
      plain_is = subst (λ (d : Named ℕ). IsTrue c.both-plain.result ↔ ArePlain files d (image_of pick files d)) next
          (plain_more pick files (take i directory) entry (IsTrue c.loop-entry.plain) (IsTrue c.is_plain_file-is_plain.result) (IsTrue c.both-plain.result) c.meant_at.result.now c.as_slice.result.now c.in_ok-bytes.bytes
          c.loop-entry.invariant.plain_is left c.meant_at.ensures c.as_slice.ensures c.is_plain_file-is_plain.ensures c.both-plain.ensures);
    }
