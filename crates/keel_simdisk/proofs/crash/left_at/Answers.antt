use Rattle.std.proofs.Common.{◌≤◌, length, sym, subst}
use Rattle.keel_disk.specs.declared.state.File.{File}
use Rattle.keel_simdisk.proofs.crash.left_at.Goals as goal

pub left_of-requires : goal.left_of-requires
left_of-requires c =
    subst (λ (file : File). file.firm ≤ length file.meant) (sym c.index-files-number.is) (c.requires c.args.number c.index-files-number.result c.if-number-files.true).firm_is_meant
