-- What sources and sinks in memory show.
use Rattle.std.specs.Prelude.{ℕ, List, drop}
use Rattle.keel_base.specs.declared.in_memory.MemSource.{MemSource}
use Rattle.keel_base.specs.declared.in_memory.MemSink.{MemSink}
use Rattle.keel_base.specs.declared.in_memory.PlainSource.{PlainSource}

-- the bytes that are left
abbrev pub source_left : MemSource → List ℕ
source_left s = drop s.place s.bytes

-- the numbers of the calls that fail, and of the next call
abbrev pub source_fails : MemSource → List ℕ
source_fails s = s.fails

abbrev pub source_call : MemSource → ℕ
source_call s = s.calls

abbrev pub source_faults : MemSource → ℕ
source_faults s = s.faults

abbrev pub plain_left : PlainSource → List ℕ
plain_left s = drop s.place s.bytes

-- the bytes held
abbrev pub sink_held : MemSink → List ℕ
sink_held s = s.held.items

-- the numbers of the calls that fail, and of the next call
abbrev pub sink_fails : MemSink → List ℕ
sink_fails s = s.fails

abbrev pub sink_call : MemSink → ℕ
sink_call s = s.calls

abbrev pub sink_faults : MemSink → ℕ
sink_faults s = s.faults
