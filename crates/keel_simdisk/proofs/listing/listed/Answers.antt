use Rattle.std.proofs.Common.{List, sym, ◌∙◌, length, subst}
use Rattle.keel_base.specs.declared.listing.Entry.{Entry}
use Rattle.keel_name.specs.Sorting.{AreNames}
use Rattle.keel_simdisk.proofs.Sizes.{entries_named, listed_sized}
use Rattle.keel_simdisk.proofs.listing.listed.Goals as goal

pub listed-requires : goal.listed-requires
listed-requires c =
    subst (λ (entries : List Entry). AreNames entries) (sym (c.deref.ensures.value ∙ c.in_ok-entries.ensures))
    (entries_named (length c.args.files.now) c.args.files.now c.args.names.now c.requires)

pub returns-clause-sizes : goal.returns-clause-sizes
returns-clause-sizes c =
    listed_sized c.args.files.now c.args.names.now c.in_ok-entries.entries.items c.deref.result.now c.listed.result c.in_ok-entries.ensures c.deref.ensures.value c.listed.ensures.sizes
