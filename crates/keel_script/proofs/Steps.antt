-- One step of reading a line: its first word as a part.
use Rattle.std.proofs.Common.{◌≡◌, ◌≢◌, ℕ, Bool, true, false, List, [], ◌∷◌, Option, Some, None, refl, sym, ap, ◌∙◌, subst, inl, inr, codes}
use Rattle.std.specs.List.{find}
use Rattle.std.specs.Str.{bytes_eq}
use Rattle.std.proofs.lemmas.Slice.Eq.{bytes_eq-Decides}
use Rattle.keel_base.specs.declared.failure.Call.{Call}
use Rattle.keel_base.specs.declared.failure.Call.TheVariants.{Create, Append, Sync, Rename, Remove, Cut, SyncDir, Read}
use Rattle.keel_base.specs.declared.failure.Fault.{Fault}
use Rattle.keel_base.specs.declared.failure.Fault.TheVariants.{Plain, NoSpace, SpaceLimit, Fenced, Retryable, DataLoss, Corrupt}
use Rattle.keel_base.specs.declared.option_name.OptionName.{OptionName}
use Rattle.keel_base.specs.declared.option_name.OptionName.TheVariants.{Paranoid, Auto, Attempts, Interval, WriteBuffer, MaxImmutables, Level0Trigger, LevelBase, TableSize, Limit, Buffer, Rate, Ratio, Chunk}
use Rattle.keel_base.specs.Options.{option_name}
use Rattle.keel_script.specs.declared.names.TheConstants.{DEVICE_FAULTS}
use Rattle.keel_script.specs.declared.verb.Verb.{Verb}
use Rattle.keel_script.specs.declared.verb.Verb.TheVariants as v
use Rattle.keel_script.specs.Grammar.{synced}
use Rattle.keel_script.specs.Names.{call_name, fault_name}
use Rattle.keel_script.specs.Parts.{Part, Spells, Spell}
use Rattle.keel_script.specs.Reading.{◌>>=◌, first_by, option_name_from, call_from, fault_from, verb_from, end_at, sync_at}
use Rattle.keel_script.specs.Verbs.{verb_name}
use Rattle.keel_script.proofs.Choices.{chosen, only_if, stepped, by_step, same_some}

-- what a reader of words makes of the first word, where that is spelled
pub first_read : {A : Type 0} (from : List ℕ → Option A) (value : A) (part : Part) (parts : List Part) (words : List (List ℕ))
    → ((word : List ℕ) → Spells word part → from word ≡ Some value) → Spell words (part ∷ parts)
    → (rest : List (List ℕ)) × (first_by from words ≡ Some (value, rest)) × Spell rest parts
unfolding first_by
first_read from value part parts [] reads spelled = absurd spelled
first_read from value part parts (word ∷ words) reads spelled = (words, rw (reads word spelled.0) refl, spelled.1)

-- the first word spells what was read
pub first_spelled : {A : Type 0} (from : List ℕ → Option A) (value : A) (part : Part) (parts : List Part) (words rest : List (List ℕ))
    → ((word : List ℕ) → from word ≡ Some value → Spells word part) → first_by from words ≡ Some (value, rest) → Spell rest parts → Spell words (part ∷ parts)
unfolding first_by
first_spelled from value part parts [] rest spells read others = cc
first_spelled {A} from value part parts (word ∷ words) rest spells read others =
    let step = stepped (from word) (λ (x : A). Some (x, words)) (value, rest) read in
    let found = same_some (step.0, words) (value, rest) step.2 in
    (spells word (step.1 ∙ ap (λ (x : A × List (List ℕ)). Some x.0) found), subst (λ (more : List (List ℕ)). Spell more parts) (sym (ap (λ (x : A × List (List ℕ)). x.1) found)) others)

-- what is found under a name has it
pub named : {A : Type 0} (name : A → List ℕ) (all : List A) (word : List ℕ) (found : A) → find (λ x. bytes_eq (name x) word) all ≡ Some found → word ≡ name found
named name [] word found read = cc
named name (x ∷ all) word found read =
    elim (chosen (bytes_eq (name x) word) (Some x) (find (λ x. bytes_eq (name x) word) all) (Some found) read) [
      | inl here ↦ sym ((bytes_eq-Decides (name x) word).0 here.0) ∙ ap name (same_some x found here.1)
      | inr there ↦ named name all word found there.1
    ]

-- what a word is by its name
pub option_named : (name : OptionName) → option_name_from (option_name name) ≡ Some name
option_named Paranoid = refl
option_named Auto = refl
option_named Attempts = refl
option_named Interval = refl
option_named WriteBuffer = refl
option_named MaxImmutables = refl
option_named Level0Trigger = refl
option_named LevelBase = refl
option_named TableSize = refl
option_named Limit = refl
option_named Buffer = refl
option_named Rate = refl
option_named Ratio = refl
option_named Chunk = refl

pub call_named : (call : Call) → call_from (call_name call) ≡ Some call
call_named Create = refl
call_named Append = refl
call_named Sync = refl
call_named Rename = refl
call_named Remove = refl
call_named Cut = refl
call_named SyncDir = refl
call_named Read = refl

pub fault_named : (fault : Fault) → fault ≢ SpaceLimit → fault_from (fault_name fault) ≡ Some fault
fault_named Plain other = refl
fault_named NoSpace other = refl
fault_named SpaceLimit other = absurd (other refl)
fault_named Fenced other = refl
fault_named Retryable other = refl
fault_named DataLoss other = refl
fault_named Corrupt other = refl

-- no device is told to have the store's own fault
pub no_space_limit : (word : List ℕ) (fault : Fault) → fault_from word ≡ Some fault → fault ≢ SpaceLimit
no_space_limit word fault read is =
    let nothing : None ≡ Some fault = ap fault_from (sym (named fault_name DEVICE_FAULTS word fault read ∙ ap fault_name is)) ∙ read in
    cc

pub verb_named : (verb : Verb) → verb_from (verb_name verb) ≡ Some verb
verb_named v.SetOption = refl
verb_named v.Open = refl
verb_named v.Put = refl
verb_named v.Del = refl
verb_named v.Queue = refl
verb_named v.Write = refl
verb_named v.Flush = refl
verb_named v.Compact = refl
verb_named v.Delete = refl
verb_named v.Resume = refl
verb_named v.ResumeStep = refl
verb_named v.Drain = refl
verb_named v.Tick = refl
verb_named v.Get = refl
verb_named v.Scan = refl
verb_named v.Error = refl
verb_named v.Space = refl
verb_named v.Files = refl
verb_named v.Levels = refl
verb_named v.Limit = refl
verb_named v.Close = refl
verb_named v.Fail = refl
verb_named v.Capacity = refl
verb_named v.Crash = refl

-- no word, or `sync` alone
pub end_spelled : (words : List (List ℕ)) (last : Unit {0}) → end_at words ≡ Some last → Spell words []
end_spelled [] last read = tt
end_spelled (word ∷ words) last read = cc

pub end_read : (words : List (List ℕ)) → Spell words [] → end_at words ≡ Some tt
end_read [] spelled = refl
end_read (word ∷ words) spelled = absurd spelled

pub sync_spelled : (words : List (List ℕ)) (sync : Bool) → sync_at words ≡ Some sync → Spell words (synced sync)
unfolding sync_at
sync_spelled [] sync read = subst (λ (s : Bool). Spell [] (synced s)) (same_some false sync read) tt
sync_spelled (word ∷ words) sync read =
    let parts = only_if (bytes_eq word (codes "sync")) (end_at words >>= λ _. Some true) sync read in
    by_step (end_at words) _ sync parts.1 (λ last end is.
    subst (λ (s : Bool). Spell (word ∷ words) (synced s)) (same_some true sync is) ((bytes_eq-Decides word (codes "sync")).0 parts.0, end_spelled words last end))

pub sync_read : (words : List (List ℕ)) (sync : Bool) → Spell words (synced sync) → sync_at words ≡ Some sync
unfolding sync_at
sync_read [] false spelled = refl
sync_read [] true spelled = absurd spelled
sync_read (word ∷ words) false spelled = absurd spelled
sync_read (word ∷ words) true (same, end) = rw ((bytes_eq-Decides word (codes "sync")).1 same, end_read words end) refl
