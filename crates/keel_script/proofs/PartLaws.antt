-- What each reader of one word makes of it, in a list of words.
use Rattle.std.proofs.Common.{◌≡◌, ◌≢◌, ℕ, ◌≤◌, leb, List, [], ◌∷◌, Some, refl, sym, ap, ◌∙◌, subst}
use Rattle.std.proofs.lemmas.Bool.{leb-true, le-leb}
use Rattle.keel_base.specs.declared.failure.Call.{Call}
use Rattle.keel_base.specs.declared.failure.Fault.{Fault}
use Rattle.keel_base.specs.declared.failure.Fault.TheVariants.{SpaceLimit}
use Rattle.keel_base.specs.declared.option_name.OptionName.{OptionName}
use Rattle.keel_base.specs.declared.option_name.TheConstants.OptionName.{ALL}
use Rattle.keel_base.specs.Options.{option_name}
use Rattle.keel_script.specs.declared.names.TheConstants.{CALLS, DEVICE_FAULTS}
use Rattle.keel_script.specs.declared.verb.TheConstants.{VERBS}
use Rattle.keel_script.specs.declared.verb.Verb.{Verb}
use Rattle.keel_script.specs.Names.{call_name, fault_name}
use Rattle.keel_script.specs.Parts.{Part, Spell}
use Rattle.keel_script.specs.Parts.Part.{Word, Number, Text}
use Rattle.keel_script.specs.Reading.{word_at, first_by, number_to, decimal_from, text_from, option_name_from, call_from, fault_from, verb_from}
use Rattle.keel_script.specs.Verbs.{verb_name}
use Rattle.keel_script.proofs.Choices.{by_step, only_if, same_some}
use Rattle.keel_script.proofs.Numbers.{decimal_from-decimal, decimal_from-some}
use Rattle.keel_script.proofs.Steps.{first_read, first_spelled, named, option_named, call_named, fault_named, no_space_limit, verb_named}
use Rattle.keel_script.proofs.TextLaws.{text_is, is_text}

abbrev pub Words : Type 0
Words = List (List ℕ)

-- what was read is spelled

pub number_spelled : (words : Words) (found : ℕ × Words) (parts : List Part) → first_by decimal_from words ≡ Some found → Spell found.1 parts → Spell words (Number found.0 ∷ parts)
number_spelled words found parts = first_spelled decimal_from found.0 (Number found.0) parts words found.1 (λ word. decimal_from-some word found.0)

pub text_spelled : (words : Words) (found : List ℕ × Words) (parts : List Part) → first_by text_from words ≡ Some found → Spell found.1 parts → Spell words (Text found.0 ∷ parts)
text_spelled words found parts = first_spelled text_from found.0 (Text found.0) parts words found.1 (λ word. text_is word found.0)

pub option_spelled : (words : Words) (found : OptionName × Words) (parts : List Part) → first_by option_name_from words ≡ Some found → Spell found.1 parts → Spell words (Word (option_name found.0) ∷ parts)
option_spelled words found parts = first_spelled option_name_from found.0 (Word (option_name found.0)) parts words found.1 (λ word. named option_name ALL word found.0)

pub call_spelled : (words : Words) (found : Call × Words) (parts : List Part) → first_by call_from words ≡ Some found → Spell found.1 parts → Spell words (Word (call_name found.0) ∷ parts)
call_spelled words found parts = first_spelled call_from found.0 (Word (call_name found.0)) parts words found.1 (λ word. named call_name CALLS word found.0)

pub fault_spelled : (words : Words) (found : Fault × Words) (parts : List Part) → first_by fault_from words ≡ Some found → Spell found.1 parts → Spell words (Word (fault_name found.0) ∷ parts)
fault_spelled words found parts = first_spelled fault_from found.0 (Word (fault_name found.0)) parts words found.1 (λ word. named fault_name DEVICE_FAULTS word found.0)

-- the words are the name of the verb that was read, and the rest
pub verb_words : (words : Words) (found : Verb × Words) → first_by verb_from words ≡ Some found → words ≡ verb_name found.0 ∷ found.1
unfolding first_by
verb_words [] found read = cc
verb_words (word ∷ words) found read =
    by_step (verb_from word) _ found read (λ verb is made.
    let same = same_some (verb, words) found made in
    ap (λ (w : List ℕ). w ∷ words) (named verb_name VERBS word verb is) ∙ ap (λ (x : Verb × Words). verb_name x.0 ∷ x.1) same)

pub word_spelled : (words : Words) (found : List ℕ × Words) (bytes : List ℕ) (parts : List Part) → word_at words ≡ Some found → found.0 ≡ bytes → Spell found.1 parts → Spell words (Word bytes ∷ parts)
word_spelled [] found bytes parts read same rest = cc
word_spelled (word ∷ words) found bytes parts read same rest =
    let is : (word, words) ≡ found = same_some (word, words) found read in
    (ap (λ (x : List ℕ × Words). x.0) is ∙ same, subst (λ (more : Words). Spell more parts) (sym (ap (λ (x : List ℕ × Words). x.1) is)) rest)

-- a fault that was read is one of a device
pub device_fault : (words : Words) (found : Fault × Words) → first_by fault_from words ≡ Some found → found.0 ≢ SpaceLimit
unfolding first_by
device_fault [] found read = cc
device_fault (word ∷ words) found read =
    by_step (fault_from word) _ found read (λ fault is made.
    subst (λ (x : Fault × Words). x.0 ≢ SpaceLimit) (same_some (fault, words) found made) (no_space_limit word fault is))

-- a number that was read is within its bound
pub number_within : (most : ℕ) (words : Words) (found : ℕ × Words) → number_to most words ≡ Some found → (first_by decimal_from words ≡ Some found) × (found.0 ≤ most)
unfolding number_to
number_within most words found read =
    by_step (first_by decimal_from words) _ found read (λ number is made.
    let parts = only_if (leb number.0 most) (Some number) found made in
    let same = same_some number found parts.1 in
    (is ∙ parts.1, subst (λ (x : ℕ × Words). x.0 ≤ most) same (leb-true number.0 most parts.0)))

-- what is spelled is read, and then the rest

pub by_number : {P : Type 0} (words : Words) (number : ℕ) (parts : List Part) → Spell words (Number number ∷ parts)
    → ((rest : Words) → first_by decimal_from words ≡ Some (number, rest) → Spell rest parts → P) → P
by_number words number parts spelled on =
    let step = first_read decimal_from number (Number number) parts words (λ word is. decimal_from-decimal word number is.0 is.1) spelled in
    on step.0 step.1 step.2

pub by_text : {P : Type 0} (words : Words) (bytes : List ℕ) (parts : List Part) → Spell words (Text bytes ∷ parts)
    → ((rest : Words) → first_by text_from words ≡ Some (bytes, rest) → Spell rest parts → P) → P
by_text words bytes parts spelled on =
    let step = first_read text_from bytes (Text bytes) parts words (λ word. is_text word bytes) spelled in
    on step.0 step.1 step.2

pub by_option : {P : Type 0} (words : Words) (name : OptionName) (parts : List Part) → Spell words (Word (option_name name) ∷ parts)
    → ((rest : Words) → first_by option_name_from words ≡ Some (name, rest) → Spell rest parts → P) → P
by_option words name parts spelled on =
    let step = first_read option_name_from name (Word (option_name name)) parts words (λ word is. ap option_name_from is ∙ option_named name) spelled in
    on step.0 step.1 step.2

pub by_call : {P : Type 0} (words : Words) (call : Call) (parts : List Part) → Spell words (Word (call_name call) ∷ parts)
    → ((rest : Words) → first_by call_from words ≡ Some (call, rest) → Spell rest parts → P) → P
by_call words call parts spelled on =
    let step = first_read call_from call (Word (call_name call)) parts words (λ word is. ap call_from is ∙ call_named call) spelled in
    on step.0 step.1 step.2

pub by_fault : {P : Type 0} (words : Words) (fault : Fault) (parts : List Part) → fault ≢ SpaceLimit → Spell words (Word (fault_name fault) ∷ parts)
    → ((rest : Words) → first_by fault_from words ≡ Some (fault, rest) → Spell rest parts → P) → P
by_fault words fault parts other spelled on =
    let step = first_read fault_from fault (Word (fault_name fault)) parts words (λ word is. ap fault_from is ∙ fault_named fault other) spelled in
    on step.0 step.1 step.2

pub by_verb : {P : Type 0} (words : Words) (verb : Verb) (parts : List Part) → Spell words (Word (verb_name verb) ∷ parts)
    → ((rest : Words) → first_by verb_from words ≡ Some (verb, rest) → Spell rest parts → P) → P
by_verb words verb parts spelled on =
    let step = first_read verb_from verb (Word (verb_name verb)) parts words (λ word is. ap verb_from is ∙ verb_named verb) spelled in
    on step.0 step.1 step.2

pub by_word : {P : Type 0} (words : Words) (bytes : List ℕ) (parts : List Part) → Spell words (Word bytes ∷ parts)
    → ((rest : Words) → word_at words ≡ Some (bytes, rest) → Spell rest parts → P) → P
by_word [] bytes parts spelled on = absurd spelled
by_word (word ∷ words) bytes parts (same, rest) on = on words (ap (λ (w : List ℕ). Some (w, words)) same) rest

pub number_to_read : (most : ℕ) (words : Words) (found : ℕ × Words) → found.0 ≤ most → first_by decimal_from words ≡ Some found → number_to most words ≡ Some found
unfolding number_to
number_to_read most words found within read = rw (read, le-leb found.0 most within) refl
