use Rattle.std.proofs.Common.{rules, ◌+◌, ◌++◌, ◌<◌, ◌≤◌, length, arith, ap, sym, ◌∙◌}
use Rattle.std.proofs.lemmas.Bool.{ltb-true, ltb-false}
use Rattle.keel_table.proofs.Adding.{keeps, closes, closed_bytes, closed_blocks}
use Rattle.keel_table.proofs.builder.Builder.add.Goals as goal

pub returns-then-has_room-clause-ok : goal.returns-then-has_room-clause-ok
returns-then-has_room-clause-ok c = λ first last rows given h.
    let room : length c.args.self.now.open_rows + c.len.result < 4096 = ltb-true _ 4096 (sym c.has_room.ensures ∙ c.if-has_room.true) in
    keeps first last rows given c.args.self.now c.keep.new.self c.args.row.now c.as_slice-then-has_room.result.now c.in_ok-key.key c.in-Some.rows h c.requires.is_row c.requires.over
    (c.as_slice-then-has_room.ensures ∙ c.in_ok-spelled.ensures) (c.in_ok-key.ensures ∙ c.as_slice.ensures) (search rules) (omega (arith, room, c.len.ensures, ap length c.as_slice-then-has_room.ensures)) c.in_ok-keep.ensures.ok

pub returns-clause-ok : goal.returns-clause-ok
returns-clause-ok c = λ first last rows given h.
    let full : 4096 ≤ length c.args.self.now.open_rows + c.len.result = ltb-false _ 4096 (sym c.has_room.ensures ∙ c.if-has_room.false) in
    closes first last rows given c.args.self.now c.close.new.self c.args.row.now c.as_slice-2.result.now c.in_ok-piece.piece c.in_ok-key.key c.in-Some.rows h c.requires.is_row c.requires.over
    (c.as_slice-2.ensures ∙ c.in_ok-spelled.ensures) (c.in_ok-key.ensures ∙ c.as_slice.ensures) (search rules) (omega (arith, full, c.len.ensures, ap length c.as_slice-2.ensures)) c.in_ok-piece.ensures.piece c.in_ok-piece.ensures.ok

pub returns-clause-bytes : goal.returns-clause-bytes
returns-clause-bytes c =
    closed_bytes (c.args.self.now.open_rows ++ c.as_slice-2.result.now) c.in_ok-key.key c.in_ok-piece.piece c.in-Some.rows c.args.self.now c.close.new.self c.in_ok-piece.ensures.piece c.in_ok-piece.ensures.ok

pub returns-clause-blocks : goal.returns-clause-blocks
returns-clause-blocks c = closed_blocks (c.args.self.now.open_rows ++ c.as_slice-2.result.now) c.in_ok-key.key c.in-Some.rows c.args.self.now c.close.new.self c.in_ok-piece.ensures.ok
