-- How a run over a workload may end, and what it then has done.
use Rattle.std.specs.Prelude.{◌≡◌, ℕ, ◌+◌, ◌⊎◌, Option, None, Some, List, [], ◌++◌, codes}
use Rattle.std.specs.Fmt.{decimal}
use Rattle.std.specs.Io.KnownBytes.{Appends, IsAtEnd}
use Rattle.keel_base.specs.Counts.{Rose}
use Rattle.keel_base.specs.Streams.{AppendsPart}
use Rattle.keel_disk.specs.Seen.{Seen}
use Rattle.keel_machine.specs.States.{Footing, Known}
use Rattle.keel_lines.specs.declared.line.LineEnd.{LineEnd}
use Rattle.keel_lines.specs.declared.line.LineEnd.TheVariants as line_end
use Rattle.keel_lines.specs.Inputs.{AreFirst, AreAll, AreBeforeLong, AreWithin, AreTaken}
use Rattle.keel_cli.specs.declared.top.End.{End}
use Rattle.keel_cli.specs.declared.top.End.TheVariants.{Completed, Usage, NotACommand, LongLine, LongInput, ReadFault, WriteFault, OutOfMemory}
use Rattle.keel_cli.specs.declared.lines.StopPlace.{StopPlace}
use Rattle.keel_cli.specs.declared.lines.LineStop.{LineStop}
use Rattle.keel_cli.specs.declared.lines.LineStop.TheVariants.{Refused, Unwritten, NoMemory}
use Rattle.keel_cli.specs.Sessions.{Session, Begins, MayBegin}
use Rattle.keel_cli.specs.Standing.{NoneForged, Recovers, TurnIsSafe}
use Rattle.keel_cli.specs.Answers.{answered_in}
use Rattle.keel_cli.specs.Claim.{NothingLost}
use Rattle.keel_cli.specs.ReadClaim.{ReadsRight}
use Rattle.keel_cli.specs.Inside.{EachEnd}
use Rattle.keel_cli.specs.LineEnds.{LinesEnd}

-- what is told of the outside, and how often each part of it has failed
pub record Outside : Type 0 where
  pub left : Option (List ℕ)
  pub read_faults : ℕ
  pub held : Option (List ℕ)
  pub write_faults : ℕ
  pub device : Seen

-- From a beginning on this device, lines end so on the device that is handed back, and what it stands for. A crash inside
-- the call of any step on the way leaves a first part of the logged writes, with every acknowledged synced one. On a known
-- device of which no crash left a forged image, no opening is behind a synced write that was acknowledged, and each read of
-- a key shows its last write, where that was acknowledged and no opening dropped it.
pub record LinesRun (stop : Option StopPlace) (footing : Footing) (handed_in : Seen) (held : Option (List ℕ)) (lines : List (List ℕ)) (handed_back : Seen) (holds : Option (List ℕ)) : Type 0 where
  pub first : Session
  pub begins : Begins footing handed_in first
  pub last : Session
  pub ends : LinesEnd stop first held lines last holds
  pub device : handed_back ≡ last.store.device
  pub recovers : Recovers footing handed_in.told last.store
  pub inside : EachEnd TurnIsSafe stop first held lines last holds ends
  pub claim : footing ≡ Known → NoneForged handed_in.told last.store.device.told → NothingLost (answered_in stop first held lines last holds ends)
  pub reads : footing ≡ Known → NoneForged handed_in.told last.store.device.told → ReadsRight (answered_in stop first held lines last holds ends)

-- so it is on each footing on which the run may begin
abbrev pub LinesRuns : Option StopPlace → Seen → Option (List ℕ) → List (List ℕ) → Seen → Option (List ℕ) → Type 0
LinesRuns stop handed_in held lines handed_back holds =
    (footing : Footing) → MayBegin footing handed_in.told → LinesRun stop footing handed_in held lines handed_back holds

-- ---- which lines of the input those are, where the source tells it

-- of an input that is told, this holds
abbrev pub OfInput : Option (List ℕ) → (List ℕ → Type 0) → Type 0
OfInput None P = Unit {0}
OfInput (Some input) P = P input

-- such lines of the input were carried out, up to the end of the last one or up to a stop at it
pub record Reads (stop : Option StopPlace) (are : List ℕ → List (List ℕ) → Type 0) (before after : Outside) : Type 0 where
  pub lines : List (List ℕ)
  pub of_input : OfInput before.left (λ input. are input lines)
  pub runs : LinesRuns stop before.device before.held lines after.device after.held

abbrev pub stop_at : LineStop → ℕ → Option StopPlace
stop_at stop line = Some (record { stop = stop; line = line })

-- what was done where the run ends so
abbrev pub Ends : End → Outside → Outside → Type 0
Ends Completed before after = Reads None AreAll before after × IsAtEnd after.left
Ends Usage before after = after ≡ before
Ends (NotACommand line) before after = Reads (stop_at Refused line) AreFirst before after
Ends (LongLine line) before after = Reads None (AreBeforeLong line) before after
Ends LongInput before after = Reads None AreWithin before after
Ends ReadFault before after = Rose before.read_faults after.read_faults × Reads None (AreTaken after.left) before after
Ends WriteFault before after = Rose before.write_faults after.write_faults × ((line : ℕ) × Reads (stop_at Unwritten line) AreFirst before after)
Ends OutOfMemory before after = Reads None AreFirst before after ⊎ ((line : ℕ) × Reads (stop_at NoMemory line) AreFirst before after)

-- the end of a run that stops so at a line
abbrev pub end_at : LineStop → ℕ → End
end_at Refused line = NotACommand line
end_at Unwritten line = WriteFault
end_at NoMemory line = OutOfMemory

-- the end of a run that gets no line behind so many
abbrev pub end_behind : LineEnd → ℕ → End
end_behind line_end.TooLong lines = LongLine (lines + 1)
end_behind line_end.LongInput lines = LongInput
end_behind line_end.Fault lines = ReadFault
end_behind line_end.OutOfMemory lines = OutOfMemory

abbrev pub status_of : End → ℕ
status_of Completed = 0
status_of Usage = 2
status_of (NotACommand line) = 3
status_of (LongLine line) = 3
status_of LongInput = 3
status_of ReadFault = 4
status_of WriteFault = 5
status_of OutOfMemory = 6

-- what stands behind the number of a line at which a run stops
abbrev pub named : ℕ → List ℕ → List ℕ
named line what = codes "line " ++ decimal line ++ what

-- the text on err
abbrev pub message_of : End → List ℕ
message_of Completed = []
message_of Usage = codes "usage: keel run, dir PATH, gen SEED COUNT, check, threads CLIENTS OPS SEED\n"
message_of (NotACommand line) = named line (codes ": not a command\n")
message_of (LongLine line) = named line (codes ": longer than 8192 bytes\n")
message_of LongInput = codes "input longer than 67108864 bytes\n"
message_of ReadFault = codes "read fault\n"
message_of WriteFault = codes "write fault\n"
message_of OutOfMemory = codes "out of memory\n"

abbrev pub outside : Option (List ℕ) → ℕ → Option (List ℕ) → ℕ → Seen → Outside
outside left read_faults held write_faults device =
    record { left = left; read_faults = read_faults; held = held; write_faults = write_faults; device = device }

-- the text was written, or a part of it where the sink failed
abbrev pub Tells : List ℕ → Option (List ℕ) → ℕ → Option (List ℕ) → ℕ → Type 0
Tells message old before new now = Appends old new message ⊎ (AppendsPart old new message × Rose before now)

abbrev pub NamesNoLine : End → Type 0
NamesNoLine (NotACommand line) = ⊥
NamesNoLine (LongLine line) = ⊥
NamesNoLine other = Unit {0}

-- an end is told as it is, or for want of memory to name the line as that
abbrev pub StaysOrRunsOut : End → End → Type 0
StaysOrRunsOut (NotACommand line) told = (told ≡ NotACommand line) ⊎ (told ≡ OutOfMemory)
StaysOrRunsOut (LongLine line) told = (told ≡ LongLine line) ⊎ (told ≡ OutOfMemory)
StaysOrRunsOut end told = told ≡ end
