-- What is spelled by the words of a line is read from them.
use Rattle.std.proofs.Common.{◌≡◌, ◌≢◌, ℕ, ◌≤◌, Bool, List, [], ◌∷◌, Some, None, if◌then◌else◌, refl, codes}
use Rattle.std.specs.Str.{bytes_eq}
use Rattle.keel_base.specs.declared.failure.Call.{Call}
use Rattle.keel_base.specs.declared.failure.Fault.{Fault}
use Rattle.keel_base.specs.declared.failure.Fault.TheVariants.{SpaceLimit}
use Rattle.keel_base.specs.declared.option_name.OptionName.{OptionName}
use Rattle.keel_base.specs.Options.{option_name}
use Rattle.keel_script.specs.declared.command.Command.{Command}
use Rattle.keel_script.specs.declared.command.Command.TheVariants.{SetOption, Open, Put, Del, QueuePut, QueueDel, Write, Flush, Compact, Delete, Resume, ResumeStep, Drain, Tick, Get, Scan, Error, Space, Files, Levels, Limit, Close, Fail, Capacity, Crash}
use Rattle.keel_script.specs.declared.verb.Verb.{Verb}
use Rattle.keel_script.specs.declared.verb.Verb.TheVariants as v
use Rattle.keel_script.specs.Grammar.{synced, parts_of, IsAllowed}
use Rattle.keel_script.specs.Parts.{Part, Spell}
use Rattle.keel_script.specs.Parts.Part.{Word, Number, Text}
use Rattle.keel_script.specs.Reading.{alone, set_option_at, put_at, del_at, queue_at, queue_put_at, queue_del_at, compact_at, drain_at, tick_at, get_at, scan_at, limit_at, fail_at, capacity_at, crash_at, behind, command_from}
use Rattle.keel_script.specs.Verbs.{verb_name}
use Rattle.keel_script.specs.Names.{call_name, fault_name}
use Rattle.keel_script.proofs.PartLaws.{Words, by_number, by_text, by_option, by_call, by_fault, by_verb, by_word, number_to_read}
use Rattle.keel_script.proofs.Steps.{end_read, sync_read}

alone_read : (command : Command) (words : Words) → Spell words [] → alone command words ≡ Some command
unfolding alone
alone_read command words spelled = rw (end_read words spelled) refl

set_option_read : (words : Words) (name : OptionName) (value : ℕ) → Spell words (Word (option_name name) ∷ Number value ∷ []) → set_option_at words ≡ Some (SetOption name value)
unfolding set_option_at
set_option_read words name value spelled =
    by_option words name _ spelled (λ behind_name is_name spelled.
    by_number behind_name value _ spelled (λ behind_value is_value spelled.
    rw (is_name, is_value, end_read behind_value spelled) refl))

put_read : (words : Words) (key : List ℕ) (value : List ℕ) (sync : Bool) → Spell words (Text key ∷ Text value ∷ synced sync) → put_at words ≡ Some (Put key value sync)
unfolding put_at
put_read words key value sync spelled =
    by_text words key _ spelled (λ behind_key is_key spelled.
    by_text behind_key value _ spelled (λ behind_value is_value spelled.
    rw (is_key, is_value, sync_read behind_value sync spelled) refl))

del_read : (words : Words) (key : List ℕ) (sync : Bool) → Spell words (Text key ∷ synced sync) → del_at words ≡ Some (Del key sync)
unfolding del_at
del_read words key sync spelled =
    by_text words key _ spelled (λ behind_key is_key spelled.
    rw (is_key, sync_read behind_key sync spelled) refl)

queue_put_read : (words : Words) (client : ℕ) (key : List ℕ) (value : List ℕ) (sync : Bool) → Spell words (Text key ∷ Text value ∷ synced sync) → queue_put_at client words ≡ Some (QueuePut client key value sync)
unfolding queue_put_at
queue_put_read words client key value sync spelled =
    by_text words key _ spelled (λ behind_key is_key spelled.
    by_text behind_key value _ spelled (λ behind_value is_value spelled.
    rw (is_key, is_value, sync_read behind_value sync spelled) refl))

queue_del_read : (words : Words) (client : ℕ) (key : List ℕ) (sync : Bool) → Spell words (Text key ∷ synced sync) → queue_del_at client words ≡ Some (QueueDel client key sync)
unfolding queue_del_at
queue_del_read words client key sync spelled =
    by_text words key _ spelled (λ behind_key is_key spelled.
    rw (is_key, sync_read behind_key sync spelled) refl)

compact_read : (words : Words) (slot : ℕ) → slot ≤ 1 → Spell words (Number slot ∷ []) → compact_at words ≡ Some (Compact slot)
unfolding compact_at
compact_read words slot within spelled =
    by_number words slot _ spelled (λ behind_slot is_slot spelled.
    rw (number_to_read 1 words (slot, behind_slot) within is_slot, end_read behind_slot spelled) refl)

drain_read : (words : Words) (moves : ℕ) → moves ≤ 1000000 → Spell words (Number moves ∷ []) → drain_at words ≡ Some (Drain moves)
unfolding drain_at
drain_read words moves within spelled =
    by_number words moves _ spelled (λ behind_moves is_moves spelled.
    rw (number_to_read 1000000 words (moves, behind_moves) within is_moves, end_read behind_moves spelled) refl)

tick_read : (words : Words) (ticks : ℕ) → Spell words (Number ticks ∷ []) → tick_at words ≡ Some (Tick ticks)
unfolding tick_at
tick_read words ticks spelled =
    by_number words ticks _ spelled (λ behind_ticks is_ticks spelled.
    rw (is_ticks, end_read behind_ticks spelled) refl)

get_read : (words : Words) (key : List ℕ) → Spell words (Text key ∷ []) → get_at words ≡ Some (Get key)
unfolding get_at
get_read words key spelled =
    by_text words key _ spelled (λ behind_key is_key spelled.
    rw (is_key, end_read behind_key spelled) refl)

scan_read : (words : Words) (from : List ℕ) (to : List ℕ) → Spell words (Text from ∷ Text to ∷ []) → scan_at words ≡ Some (Scan from to)
unfolding scan_at
scan_read words from to spelled =
    by_text words from _ spelled (λ behind_from is_from spelled.
    by_text behind_from to _ spelled (λ behind_to is_to spelled.
    rw (is_from, is_to, end_read behind_to spelled) refl))

limit_read : (words : Words) (limit : ℕ) → Spell words (Number limit ∷ []) → limit_at words ≡ Some (Limit limit)
unfolding limit_at
limit_read words limit spelled =
    by_number words limit _ spelled (λ behind_limit is_limit spelled.
    rw (is_limit, end_read behind_limit spelled) refl)

fail_read : (words : Words) (call : Call) (fault : Fault) (skip : ℕ) (times : ℕ) (keep : ℕ) → fault ≢ SpaceLimit → Spell words (Word (call_name call) ∷ Word (fault_name fault) ∷ Number skip ∷ Number times ∷ Number keep ∷ []) → fail_at words ≡ Some (Fail call fault skip times keep)
unfolding fail_at
fail_read words call fault skip times keep other spelled =
    by_call words call _ spelled (λ behind_call is_call spelled.
    by_fault behind_call fault _ other spelled (λ behind_fault is_fault spelled.
    by_number behind_fault skip _ spelled (λ behind_skip is_skip spelled.
    by_number behind_skip times _ spelled (λ behind_times is_times spelled.
    by_number behind_times keep _ spelled (λ behind_keep is_keep spelled.
    rw (is_call, is_fault, is_skip, is_times, is_keep, end_read behind_keep spelled) refl)))))

capacity_read : (words : Words) (bytes : ℕ) → Spell words (Number bytes ∷ []) → capacity_at words ≡ Some (Capacity bytes)
unfolding capacity_at
capacity_read words bytes spelled =
    by_number words bytes _ spelled (λ behind_bytes is_bytes spelled.
    rw (is_bytes, end_read behind_bytes spelled) refl)

crash_read : (words : Words) (dirops : ℕ) (keep : ℕ) (garbage : ℕ) (seed : ℕ) → Spell words (Number dirops ∷ Number keep ∷ Number garbage ∷ Number seed ∷ []) → crash_at words ≡ Some (Crash dirops keep garbage seed)
unfolding crash_at
crash_read words dirops keep garbage seed spelled =
    by_number words dirops _ spelled (λ behind_dirops is_dirops spelled.
    by_number behind_dirops keep _ spelled (λ behind_keep is_keep spelled.
    by_number behind_keep garbage _ spelled (λ behind_garbage is_garbage spelled.
    by_number behind_garbage seed _ spelled (λ behind_seed is_seed spelled.
    rw (is_dirops, is_keep, is_garbage, is_seed, end_read behind_seed spelled) refl))))

-- what is spelled by a verb and these parts is read as the command that is read behind the verb
by_first : (verb : Verb) (parts : List Part) (words : Words) (c : Command) → Spell words (Word (verb_name verb) ∷ parts)
    → ((rest : Words) → Spell rest parts → behind verb rest ≡ Some c) → command_from words ≡ Some c
unfolding command_from
by_first verb parts words c spelled read =
    by_verb words verb parts spelled (λ rest is_verb spelled. rw is_verb (read rest spelled))

queue_read : (words : Words) (c : Command) (client : ℕ) (write : List ℕ) (parts : List Part) → client ≤ 63 → Spell words (Number client ∷ Word write ∷ parts)
    → ((rest : Words) → Spell rest parts → (if bytes_eq write (codes "put") then queue_put_at client rest else (if bytes_eq write (codes "del") then queue_del_at client rest else None)) ≡ Some c)
    → queue_at words ≡ Some c
unfolding queue_at
queue_read words c client write parts within spelled read =
    by_number words client _ spelled (λ behind_client is_client spelled.
    by_word behind_client write _ spelled (λ rest is_write spelled.
    rw (number_to_read 63 words (client, behind_client) within is_client, is_write) (read rest spelled)))

-- what is allowed and spelled is read
pub said_command : (words : Words) (c : Command) → IsAllowed c → Spell words (parts_of c) → command_from words ≡ Some c
unfolding behind
said_command words (SetOption name value) allowed spelled = by_first v.SetOption _ words _ spelled (λ rest. set_option_read rest name value)
said_command words (Put key value sync) allowed spelled = by_first v.Put _ words _ spelled (λ rest. put_read rest key value sync)
said_command words (Del key sync) allowed spelled = by_first v.Del _ words _ spelled (λ rest. del_read rest key sync)
said_command words (QueuePut client key value sync) allowed spelled =
    by_first v.Queue _ words _ spelled (λ rest spelled. queue_read rest _ client (codes "put") _ allowed spelled (λ rest. queue_put_read rest client key value sync))
said_command words (QueueDel client key sync) allowed spelled =
    by_first v.Queue _ words _ spelled (λ rest spelled. queue_read rest _ client (codes "del") _ allowed spelled (λ rest. queue_del_read rest client key sync))
said_command words (Compact slot) allowed spelled = by_first v.Compact _ words _ spelled (λ rest. compact_read rest slot allowed)
said_command words (Drain moves) allowed spelled = by_first v.Drain _ words _ spelled (λ rest. drain_read rest moves allowed)
said_command words (Tick ticks) allowed spelled = by_first v.Tick _ words _ spelled (λ rest. tick_read rest ticks)
said_command words (Get key) allowed spelled = by_first v.Get _ words _ spelled (λ rest. get_read rest key)
said_command words (Scan from to) allowed spelled = by_first v.Scan _ words _ spelled (λ rest. scan_read rest from to)
said_command words (Limit limit) allowed spelled = by_first v.Limit _ words _ spelled (λ rest. limit_read rest limit)
said_command words (Fail call fault skip times keep) allowed spelled = by_first v.Fail _ words _ spelled (λ rest. fail_read rest call fault skip times keep allowed)
said_command words (Capacity bytes) allowed spelled = by_first v.Capacity _ words _ spelled (λ rest. capacity_read rest bytes)
said_command words (Crash dirops keep garbage seed) allowed spelled = by_first v.Crash _ words _ spelled (λ rest. crash_read rest dirops keep garbage seed)
said_command words Open allowed spelled = by_first v.Open _ words _ spelled (λ rest. alone_read Open rest)
said_command words Write allowed spelled = by_first v.Write _ words _ spelled (λ rest. alone_read Write rest)
said_command words Flush allowed spelled = by_first v.Flush _ words _ spelled (λ rest. alone_read Flush rest)
said_command words Delete allowed spelled = by_first v.Delete _ words _ spelled (λ rest. alone_read Delete rest)
said_command words Resume allowed spelled = by_first v.Resume _ words _ spelled (λ rest. alone_read Resume rest)
said_command words ResumeStep allowed spelled = by_first v.ResumeStep _ words _ spelled (λ rest. alone_read ResumeStep rest)
said_command words Error allowed spelled = by_first v.Error _ words _ spelled (λ rest. alone_read Error rest)
said_command words Space allowed spelled = by_first v.Space _ words _ spelled (λ rest. alone_read Space rest)
said_command words Files allowed spelled = by_first v.Files _ words _ spelled (λ rest. alone_read Files rest)
said_command words Levels allowed spelled = by_first v.Levels _ words _ spelled (λ rest. alone_read Levels rest)
said_command words Close allowed spelled = by_first v.Close _ words _ spelled (λ rest. alone_read Close rest)
