-- What is read from the words of a line is spelled by them.
use Rattle.std.proofs.Common.{◌≡◌, ℕ, ◌≤◌, Bool, List, [], ◌∷◌, Some, None, cond, refl, sym, subst, inl, inr, codes}
use Rattle.std.specs.Str.{bytes_eq}
use Rattle.std.proofs.lemmas.Slice.Eq.{bytes_eq-Decides}
use Rattle.keel_script.specs.declared.command.Command.{Command}
use Rattle.keel_script.specs.declared.command.Command.TheVariants.{SetOption, Open, Put, Del, QueuePut, QueueDel, Write, Flush, Compact, Delete, Resume, ResumeStep, Drain, Tick, Get, Scan, Error, Space, Files, Levels, Limit, Close, Fail, Capacity, Crash}
use Rattle.keel_script.specs.declared.verb.Verb.{Verb}
use Rattle.keel_script.specs.declared.verb.Verb.TheVariants as v
use Rattle.keel_script.specs.Grammar.{synced, parts_of, IsAllowed}
use Rattle.keel_script.specs.Parts.{Spell}
use Rattle.keel_script.specs.Parts.Part.{Word, Text}
use Rattle.keel_script.specs.Reading.{word_at, end_at, sync_at, first_by, number_to, decimal_from, text_from, option_name_from, call_from, fault_from, verb_from, alone, set_option_at, put_at, del_at, queue_at, queue_put_at, queue_del_at, compact_at, drain_at, tick_at, get_at, scan_at, limit_at, fail_at, capacity_at, crash_at, behind, command_from}
use Rattle.keel_script.specs.Verbs.{verb_name}
use Rattle.keel_script.proofs.Choices.{chosen, by_step, same_some}
use Rattle.keel_script.proofs.PartLaws.{Words, number_spelled, text_spelled, option_spelled, call_spelled, fault_spelled, verb_words, word_spelled, device_fault, number_within}
use Rattle.keel_script.proofs.Steps.{end_spelled, sync_spelled}

-- with this word in front, the words say the command
abbrev pub Behind : Verb → Words → Command → Type 0
Behind verb words c = IsAllowed c × Spell (verb_name verb ∷ words) (parts_of c)

alone_said : (verb : Verb) (command : Command) (words : Words) (c : Command) → IsAllowed command → parts_of command ≡ Word (verb_name verb) ∷ []
    → alone command words ≡ Some c → Behind verb words c
unfolding alone
alone_said verb command words c allowed parts read =
    by_step (end_at words) _ c read (λ last is_last read.
    subst (Behind verb words) (same_some command c read) (allowed, rw parts (refl, end_spelled words last is_last)))

set_option_said : (words : Words) (c : Command) → set_option_at words ≡ Some c → Behind v.SetOption words c
unfolding set_option_at
set_option_said words c read =
    by_step (first_by option_name_from words) _ c read (λ name is_name read.
    by_step (first_by decimal_from name.1) _ c read (λ value is_value read.
    by_step (end_at value.1) _ c read (λ last is_last read.
    subst (Behind v.SetOption words) (same_some (SetOption name.0 value.0) c read) (tt, (refl, option_spelled words name _ is_name (number_spelled name.1 value _ is_value (end_spelled value.1 last is_last)))))))

put_said : (words : Words) (c : Command) → put_at words ≡ Some c → Behind v.Put words c
unfolding put_at
put_said words c read =
    by_step (first_by text_from words) _ c read (λ key is_key read.
    by_step (first_by text_from key.1) _ c read (λ value is_value read.
    by_step (sync_at value.1) _ c read (λ sync is_sync read.
    subst (Behind v.Put words) (same_some (Put key.0 value.0 sync) c read) (tt, (refl, text_spelled words key _ is_key (text_spelled key.1 value _ is_value (sync_spelled value.1 sync is_sync)))))))

del_said : (words : Words) (c : Command) → del_at words ≡ Some c → Behind v.Del words c
unfolding del_at
del_said words c read =
    by_step (first_by text_from words) _ c read (λ key is_key read.
    by_step (sync_at key.1) _ c read (λ sync is_sync read.
    subst (Behind v.Del words) (same_some (Del key.0 sync) c read) (tt, (refl, text_spelled words key _ is_key (sync_spelled key.1 sync is_sync)))))

compact_said : (words : Words) (c : Command) → compact_at words ≡ Some c → Behind v.Compact words c
unfolding compact_at
compact_said words c read =
    by_step (number_to 1 words) _ c read (λ slot is_slot read.
    by_step (end_at slot.1) _ c read (λ last is_last read.
    subst (Behind v.Compact words) (same_some (Compact slot.0) c read) ((number_within _ words slot is_slot).1, (refl, number_spelled words slot _ (number_within _ words slot is_slot).0 (end_spelled slot.1 last is_last)))))

drain_said : (words : Words) (c : Command) → drain_at words ≡ Some c → Behind v.Drain words c
unfolding drain_at
drain_said words c read =
    by_step (number_to 1000000 words) _ c read (λ moves is_moves read.
    by_step (end_at moves.1) _ c read (λ last is_last read.
    subst (Behind v.Drain words) (same_some (Drain moves.0) c read) ((number_within _ words moves is_moves).1, (refl, number_spelled words moves _ (number_within _ words moves is_moves).0 (end_spelled moves.1 last is_last)))))

tick_said : (words : Words) (c : Command) → tick_at words ≡ Some c → Behind v.Tick words c
unfolding tick_at
tick_said words c read =
    by_step (first_by decimal_from words) _ c read (λ ticks is_ticks read.
    by_step (end_at ticks.1) _ c read (λ last is_last read.
    subst (Behind v.Tick words) (same_some (Tick ticks.0) c read) (tt, (refl, number_spelled words ticks _ is_ticks (end_spelled ticks.1 last is_last)))))

get_said : (words : Words) (c : Command) → get_at words ≡ Some c → Behind v.Get words c
unfolding get_at
get_said words c read =
    by_step (first_by text_from words) _ c read (λ key is_key read.
    by_step (end_at key.1) _ c read (λ last is_last read.
    subst (Behind v.Get words) (same_some (Get key.0) c read) (tt, (refl, text_spelled words key _ is_key (end_spelled key.1 last is_last)))))

scan_said : (words : Words) (c : Command) → scan_at words ≡ Some c → Behind v.Scan words c
unfolding scan_at
scan_said words c read =
    by_step (first_by text_from words) _ c read (λ from is_from read.
    by_step (first_by text_from from.1) _ c read (λ to is_to read.
    by_step (end_at to.1) _ c read (λ last is_last read.
    subst (Behind v.Scan words) (same_some (Scan from.0 to.0) c read) (tt, (refl, text_spelled words from _ is_from (text_spelled from.1 to _ is_to (end_spelled to.1 last is_last)))))))

limit_said : (words : Words) (c : Command) → limit_at words ≡ Some c → Behind v.Limit words c
unfolding limit_at
limit_said words c read =
    by_step (first_by decimal_from words) _ c read (λ limit is_limit read.
    by_step (end_at limit.1) _ c read (λ last is_last read.
    subst (Behind v.Limit words) (same_some (Limit limit.0) c read) (tt, (refl, number_spelled words limit _ is_limit (end_spelled limit.1 last is_last)))))

fail_said : (words : Words) (c : Command) → fail_at words ≡ Some c → Behind v.Fail words c
unfolding fail_at
fail_said words c read =
    by_step (first_by call_from words) _ c read (λ call is_call read.
    by_step (first_by fault_from call.1) _ c read (λ fault is_fault read.
    by_step (first_by decimal_from fault.1) _ c read (λ skip is_skip read.
    by_step (first_by decimal_from skip.1) _ c read (λ times is_times read.
    by_step (first_by decimal_from times.1) _ c read (λ keep is_keep read.
    by_step (end_at keep.1) _ c read (λ last is_last read.
    subst (Behind v.Fail words) (same_some (Fail call.0 fault.0 skip.0 times.0 keep.0) c read) (device_fault call.1 fault is_fault, (refl, call_spelled words call _ is_call (fault_spelled call.1 fault _ is_fault (number_spelled fault.1 skip _ is_skip (number_spelled skip.1 times _ is_times (number_spelled times.1 keep _ is_keep (end_spelled keep.1 last is_last)))))))))))))

capacity_said : (words : Words) (c : Command) → capacity_at words ≡ Some c → Behind v.Capacity words c
unfolding capacity_at
capacity_said words c read =
    by_step (first_by decimal_from words) _ c read (λ bytes is_bytes read.
    by_step (end_at bytes.1) _ c read (λ last is_last read.
    subst (Behind v.Capacity words) (same_some (Capacity bytes.0) c read) (tt, (refl, number_spelled words bytes _ is_bytes (end_spelled bytes.1 last is_last)))))

crash_said : (words : Words) (c : Command) → crash_at words ≡ Some c → Behind v.Crash words c
unfolding crash_at
crash_said words c read =
    by_step (first_by decimal_from words) _ c read (λ dirops is_dirops read.
    by_step (first_by decimal_from dirops.1) _ c read (λ keep is_keep read.
    by_step (first_by decimal_from keep.1) _ c read (λ garbage is_garbage read.
    by_step (first_by decimal_from garbage.1) _ c read (λ seed is_seed read.
    by_step (end_at seed.1) _ c read (λ last is_last read.
    subst (Behind v.Crash words) (same_some (Crash dirops.0 keep.0 garbage.0 seed.0) c read) (tt, (refl, number_spelled words dirops _ is_dirops (number_spelled dirops.1 keep _ is_keep (number_spelled keep.1 garbage _ is_garbage (number_spelled garbage.1 seed _ is_seed (end_spelled seed.1 last is_last)))))))))))

queue_put_said : (client : ℕ) (words before : Words) (c : Command) → client ≤ 63
    → ((key value : List ℕ) (sync : Bool) → Spell words (Text key ∷ Text value ∷ synced sync) → Spell before (parts_of (QueuePut client key value sync)))
    → queue_put_at client words ≡ Some c → IsAllowed c × Spell before (parts_of c)
unfolding queue_put_at
queue_put_said client words before c within spelled read =
    by_step (first_by text_from words) _ c read (λ key is_key read.
    by_step (first_by text_from key.1) _ c read (λ value is_value read.
    by_step (sync_at value.1) _ c read (λ sync is_sync read.
    subst (λ (c : Command). IsAllowed c × Spell before (parts_of c)) (same_some (QueuePut client key.0 value.0 sync) c read)
    (within, spelled key.0 value.0 sync (text_spelled words key _ is_key (text_spelled key.1 value _ is_value (sync_spelled value.1 sync is_sync)))))))

queue_del_said : (client : ℕ) (words before : Words) (c : Command) → client ≤ 63
    → ((key : List ℕ) (sync : Bool) → Spell words (Text key ∷ synced sync) → Spell before (parts_of (QueueDel client key sync)))
    → queue_del_at client words ≡ Some c → IsAllowed c × Spell before (parts_of c)
unfolding queue_del_at
queue_del_said client words before c within spelled read =
    by_step (first_by text_from words) _ c read (λ key is_key read.
    by_step (sync_at key.1) _ c read (λ sync is_sync read.
    subst (λ (c : Command). IsAllowed c × Spell before (parts_of c)) (same_some (QueueDel client key.0 sync) c read)
    (within, spelled key.0 sync (text_spelled words key _ is_key (sync_spelled key.1 sync is_sync)))))

queue_said : (words : Words) (c : Command) → queue_at words ≡ Some c → Behind v.Queue words c
unfolding queue_at
queue_said words c read =
    by_step (number_to 63 words) _ c read (λ client is_client read.
    by_step (word_at client.1) _ c read (λ write is_write read.
    let within = number_within 63 words client is_client in
    let is_put = bytes_eq write.0 (codes "put") in
    let is_del = bytes_eq write.0 (codes "del") in
    elim (chosen is_put (queue_put_at client.0 write.1) (cond is_del (queue_del_at client.0 write.1) None) (Some c) read) [
      | inl put ↦ queue_put_said client.0 write.1 (codes "queue" ∷ words) c within.1
          (λ key value sync rest. (refl, number_spelled words client _ within.0 (word_spelled client.1 write (codes "put") _ is_write ((bytes_eq-Decides write.0 (codes "put")).0 put.0) rest)))
          put.1
      | inr other ↦ elim (chosen is_del (queue_del_at client.0 write.1) None (Some c) other.1) [
        | inl del ↦ queue_del_said client.0 write.1 (codes "queue" ∷ words) c within.1
            (λ key sync rest. (refl, number_spelled words client _ within.0 (word_spelled client.1 write (codes "del") _ is_write ((bytes_eq-Decides write.0 (codes "del")).0 del.0) rest)))
            del.1
        | inr none ↦ cc
      ]
    ]))

behind_said : (verb : Verb) (words : Words) (c : Command) → behind verb words ≡ Some c → Behind verb words c
unfolding behind
behind_said v.SetOption words c read = set_option_said words c read
behind_said v.Open words c read = alone_said v.Open Open words c tt refl read
behind_said v.Put words c read = put_said words c read
behind_said v.Del words c read = del_said words c read
behind_said v.Queue words c read = queue_said words c read
behind_said v.Write words c read = alone_said v.Write Write words c tt refl read
behind_said v.Flush words c read = alone_said v.Flush Flush words c tt refl read
behind_said v.Compact words c read = compact_said words c read
behind_said v.Delete words c read = alone_said v.Delete Delete words c tt refl read
behind_said v.Resume words c read = alone_said v.Resume Resume words c tt refl read
behind_said v.ResumeStep words c read = alone_said v.ResumeStep ResumeStep words c tt refl read
behind_said v.Drain words c read = drain_said words c read
behind_said v.Tick words c read = tick_said words c read
behind_said v.Get words c read = get_said words c read
behind_said v.Scan words c read = scan_said words c read
behind_said v.Error words c read = alone_said v.Error Error words c tt refl read
behind_said v.Space words c read = alone_said v.Space Space words c tt refl read
behind_said v.Files words c read = alone_said v.Files Files words c tt refl read
behind_said v.Levels words c read = alone_said v.Levels Levels words c tt refl read
behind_said v.Limit words c read = limit_said words c read
behind_said v.Close words c read = alone_said v.Close Close words c tt refl read
behind_said v.Fail words c read = fail_said words c read
behind_said v.Capacity words c read = capacity_said words c read
behind_said v.Crash words c read = crash_said words c read

-- what is read is spelled, and allowed
pub command_said : (words : Words) (c : Command) → command_from words ≡ Some c → IsAllowed c × Spell words (parts_of c)
unfolding command_from
command_said words c read =
    by_step (first_by verb_from words) _ c read (λ verb is_verb read.
    let said = behind_said verb.0 verb.1 c read in
    (said.0, subst (λ (all : Words). Spell all (parts_of c)) (sym (verb_words words verb is_verb)) said.1))
