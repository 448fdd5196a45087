-- The lines that replies print.
use Rattle.std.specs.Prelude.{ℕ, List, [], ◌∷◌, ◌++◌}
use Rattle.std.specs.List.{flat_map}
use Rattle.keel_base.specs.declared.listing.Entry.{Entry}
use Rattle.keel_base.specs.declared.row.Row.{Row}
use Rattle.keel_script.specs.declared.reply.Reply.{Reply}
use Rattle.keel_script.specs.declared.reply.Reply.TheVariants as reply
use Rattle.keel_script.specs.Replies.{reply_line}
use Rattle.keel_cli.specs.declared.answer.Answer.{Answer}
use Rattle.keel_cli.specs.declared.answer.Answer.TheVariants.{One, Files, Rows, Levels}
use Rattle.keel_machine.specs.declared.answers.LevelView.{LevelView}
use Rattle.keel_machine.specs.declared.answers.LevelsView.{LevelsView}
use Rattle.keel_cli.specs.Runs.{file_replies, row_replies}
use Rattle.keel_cli.specs.Telling.{level_replies}

abbrev pub full_line : Reply → List ℕ
full_line reply = reply_line reply ++ 10 ∷ []

-- the line of a file, and of how many there are
unfoldable pub file_line : Entry → List ℕ
file_line entry = full_line (reply.FileLine entry.name entry.size)

unfoldable pub count_line : ℕ → List ℕ
count_line count = full_line (reply.Files count)

-- the line of a row, and of how many there are
unfoldable pub row_line : Row → List ℕ
row_line row = full_line (reply.Row row.key row.value)

unfoldable pub rows_line : ℕ → List ℕ
rows_line count = full_line (reply.Rows count)

-- the line of a level, and of the memory
unfoldable pub level_line : ℕ → LevelView → List ℕ
level_line level view = full_line (reply.Level level view.files view.bytes)

unfoldable pub memory_line : LevelsView → List ℕ
memory_line view = full_line (reply.Memory view.active view.immutables view.waiting)

-- the lines of these replies, each with its newline
abbrev pub text : List Reply → List ℕ
text replies = flat_map full_line replies

-- the replies that an answer is printed by
abbrev pub replies_of : Answer → List Reply
replies_of (One reply) = reply ∷ []
replies_of (Files listing) = file_replies listing
replies_of (Rows rows) = row_replies rows
replies_of (Levels view) = level_replies view
