use Rattle.std.proofs.Common.{arith, All, refl}
use Rattle.keel_edit.specs.Spelling.{IsAdded}
use Rattle.keel_version.proofs.Standing.{sound, edits_have_levels}
use Rattle.keel_version.proofs.Coming.{come, numbered}
use Rattle.keel_version.proofs.version.Version.into_applied.Goals as goal

pub returns-clause-sound : goal.returns-clause-sound
returns-clause-sound c =
    sound c.args.edit.now c.self.inside.tables.items c.in_ok-tables.tables.items c.in_ok-tables-2.tables.items
    c.as_slice-removed.result.now c.as_slice-added.result.now c.in_ok-going.going (edits_have_levels c.args.edit.now c.requires) c.self.invariant.0
    c.as_slice-removed.ensures c.as_slice-added.ensures c.in_ok-going.ensures.same
    c.in_ok-tables.ensures c.in_ok-tables-2.ensures (omega (arith, c.in_ok-small.ensures.few, c.len.ensures))

pub returns-clause-may_come : goal.returns-clause-may_come
returns-clause-may_come c =
    let all : All IsAdded c.in_ok-tables-2.tables.items =
    come c.args.edit.now c.self.inside.tables.items c.in_ok-tables.tables.items c.in_ok-tables-2.tables.items
    c.as_slice-removed.result.now c.as_slice-added.result.now c.in_ok-going.going c.requires c.self.invariant.1.tables
    c.as_slice-removed.ensures c.as_slice-added.ensures c.in_ok-going.ensures.same c.in_ok-tables.ensures c.in_ok-tables-2.ensures in
    numbered c.args.edit.now _ c.requires all refl refl refl

pub invariant_of-result : goal.invariant_of-result
invariant_of-result c = (returns-clause-sound c, (returns-clause-may_come c).within)
