-- Operations that become firm in several goes.
use Rattle.std.proofs.Common.{◌≡◌, ◌+◌, List, take, drop, sym, ap, ◌∙◌, take-add}
use Rattle.std.proofs.lemmas.List.{drop-drop}
use Rattle.keel_disk.specs.declared.state.Operation.{Operation}
use Rattle.keel_disk.specs.Directory.{operated_all}
use Rattle.keel_disk.specs.State.{files_operated_all}
use Rattle.keel_disk.specs.Steady.{SettledTwice}
use Rattle.keel_disk.proofs.Crashes.{files_operated_all-append}
use Rattle.keel_disk.proofs.Directories.{operated_all-append}

pub settled_twice : SettledTwice
settled_twice kept more state =
    let first = take kept state.waiting in
    let next = take more (drop kept state.waiting) in
    let files : files_operated_all next (files_operated_all first state.files) ≡ files_operated_all (take (kept + more) state.waiting) state.files =
    sym (files_operated_all-append first next state.files) ∙ ap (λ (operations : List Operation). files_operated_all operations state.files) (sym (take-add kept more state.waiting)) in
    let firm : operated_all next (operated_all first state.firm) ≡ operated_all (take (kept + more) state.waiting) state.firm =
    sym (operated_all-append first next state.firm) ∙ ap (λ (operations : List Operation). operated_all operations state.firm) (sym (take-add kept more state.waiting)) in
    let waiting : drop more (drop kept state.waiting) ≡ drop (kept + more) state.waiting = drop-drop more kept state.waiting in
    λ i. record { files = files i; firm = firm i; waiting = waiting i }
