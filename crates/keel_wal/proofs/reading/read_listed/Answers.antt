use Rattle.std.proofs.Common.{arith, None}
use Rattle.keel_base.specs.declared.file_name.FileName.TheVariants.{Log}
use Rattle.keel_disk.specs.Files.{IsContent}
use Rattle.keel_disk.proofs.Faults.{quiet_itself, quiet_behind}
use Rattle.keel_listing.proofs.Telling.{log_is_name, tells_size}
use Rattle.keel_wal.proofs.Walking.{none_read, next_read, finished}
use Rattle.keel_wal.proofs.reading.read_listed.Goals as goal

pub logs-init : goal.logs-init
logs-init g c =
    let D = g.D.Disk in
    let n = c.new-logs.ensures in
    (rw (n.files, n.numbers) (none_read (D.seen c.args.disk.now).told c.args.min_log), quiet_itself (D.seen c.args.disk.now))

pub read_file-requires : goal.read_file-requires
read_file-requires g c =
    let D = g.D.Disk in
    let h = c.logs.invariant in
    let next = rw c.as_slice.ensures at c.in-Some.ensures in
    rw h.1.same (tells_size (D.seen c.args.disk.now).told c.args.listing.now c.logs.least c.in-Some.log c.requires.tells c.requires.order next)

pub overflow_add-least : goal.overflow_add-least
overflow_add-least g c =
    let next = rw c.as_slice.ensures at c.in-Some.ensures in
    let is = log_is_name c.args.listing.now c.logs.least c.in-Some.log c.requires.order next in
    omega (arith, is.most)

pub logs-preserved : goal.logs-preserved
logs-preserved g c =
    let D = g.D.Disk in
    let told = (D.seen c.args.disk.now).told in
    let h = c.logs.invariant in
    let next = rw c.as_slice.ensures at c.in-Some.ensures in
    let read = c.in_ok-bytes.ensures in
    let holds : IsContent (Log c.in-Some.log.number) told c.in_ok-bytes.bytes = rw h.1.same at read.bytes in (
      next_read told c.args.listing.now c.args.min_log c.logs.least c.in-Some.log c.in_ok-bytes.bytes c.logs.logs.files.items c.add.new.self.files.items c.logs.logs.numbers.items c.add.new.self.numbers.items
          c.requires.tells c.requires.order next holds c.in_ok-add.ensures.files c.in_ok-add.ensures.numbers h.0,
      quiet_behind (D.seen c.args.disk.now) (D.seen c.logs.disk) (D.seen c.read_file.new.disk) None h.1 read.quiet,
    )

pub returns-clause-logs : goal.returns-clause-logs
returns-clause-logs g c =
    let D = g.D.Disk in
    let h = c.logs.invariant in
    let next = rw (c.in_default.is) at c.next_log.ensures in
    let none = rw c.as_slice.ensures at next in
    finished (D.seen c.args.disk.now).told c.args.listing.now c.args.min_log c.logs.least c.logs.logs.files.items c.logs.logs.numbers.items c.requires.tells none h.0
