-- The first words of commands.
use Rattle.std.specs.Prelude.{ℕ, List, codes}
use Rattle.keel_script.specs.declared.verb.Verb.{Verb}
use Rattle.keel_script.specs.declared.verb.Verb.TheVariants.{SetOption, Open, Put, Del, Queue, Write, Flush, Compact, Delete, Resume, ResumeStep, Drain, Tick, Get, Scan, Error, Space, Files, Levels, Limit, Close, Fail, Capacity, Crash}

-- how a line begins that asks for this
abbrev pub verb_name : Verb → List ℕ
verb_name SetOption = codes "option"
verb_name Open = codes "open"
verb_name Put = codes "put"
verb_name Del = codes "del"
verb_name Queue = codes "queue"
verb_name Write = codes "write"
verb_name Flush = codes "flush"
verb_name Compact = codes "compact"
verb_name Delete = codes "delete"
verb_name Resume = codes "resume"
verb_name ResumeStep = codes "resume-step"
verb_name Drain = codes "drain"
verb_name Tick = codes "tick"
verb_name Get = codes "get"
verb_name Scan = codes "scan"
verb_name Error = codes "error"
verb_name Space = codes "space"
verb_name Files = codes "files"
verb_name Levels = codes "levels"
verb_name Limit = codes "limit"
verb_name Close = codes "close"
verb_name Fail = codes "fail"
verb_name Capacity = codes "capacity"
verb_name Crash = codes "crash"
