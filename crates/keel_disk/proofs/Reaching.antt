-- What every device has that a call may leave, whatever is answered.
use Rattle.std.specs.Prelude.{nat_le, is_some, IfSome, MatchOption, option_map, option_and_then, unwrap_or}
use Rattle.std.proofs.Common.{◌≡◌, ℕ, ◌==◌, true, false, List, length, Option, Some, None, Result, Ok, Err, refl, sym, subst, if◌then◌else◌}
use Rattle.keel_base.specs.declared.failure.Fault.{Fault}
use Rattle.keel_base.specs.declared.failure.Fault.TheVariants.{Plain}
use Rattle.keel_base.specs.declared.file_name.FileName.{FileName}
use Rattle.keel_disk.specs.declared.error.DiskError.{DiskError}
use Rattle.keel_disk.specs.declared.error.DiskError.TheVariants as error
use Rattle.keel_disk.specs.declared.state.Operation.TheVariants.{Move, Unlink, Shorten}
use Rattle.keel_disk.specs.declared.change.Change.{Change}
use Rattle.keel_disk.specs.declared.change.Change.TheVariants.{Create, Append, Sync, Rename, Remove, Cut, SyncDir}
use Rattle.keel_disk.specs.State.{State, file_at, settled_through, file_of, has_waiting_cut}
use Rattle.keel_disk.specs.Step.{done, failed, DiskStep, extended, spoiled, synced, cut_read, with_file, with_waiting, created, unlinked_name, cut_file}

-- it holds of each device that the call may leave, but for the one before it
abbrev pub Reaches : (State → Type 0) → Change → State → Type 0
Reaches M (Create name) state = M (created name state)
Reaches M (Append name bytes) state =
    (number : ℕ) → file_of name state ≡ Some number → has_waiting_cut number state.waiting ≡ false
    → M (with_file number (extended bytes (length bytes)) state) × ((kept : ℕ) → M (with_file number (λ file. spoiled (extended bytes kept file)) state))
Reaches M (Sync name) state = (number : ℕ) → file_of name state ≡ Some number → M (with_file number synced state) × M (with_file number spoiled state)
Reaches M (Rename from to) state = M (with_waiting (Move from to) state)
Reaches M (Remove name) state = M (with_waiting (Unlink name) state)
Reaches M (Cut name size) state = (number : ℕ) → file_of name state ≡ Some number → M (with_waiting (Shorten number size) (with_file number (cut_read size) state))
Reaches M SyncDir state = (kept : ℕ) → M (settled_through kept state)

some_is : (M : State → Type 0) (outcome : Option State) (after : State) → IfSome outcome M → outcome ≡ Some after → M after
some_is M outcome after some is = subst (λ (o : Option State). IfSome o M) is some

mapped : (M : State → Type 0) (change : ℕ → State) (found : Option ℕ) → ((number : ℕ) → found ≡ Some number → M (change number)) → IfSome (option_map change found) M
mapped M change None each = tt
mapped M change (Some number) each = each number refl

-- ---- behind an Ok

appended : (M : State → Type 0) (bytes : List ℕ) (state : State) (found : Option ℕ)
    → ((number : ℕ) → found ≡ Some number → has_waiting_cut number state.waiting ≡ false → M (with_file number (extended bytes (length bytes)) state))
    → IfSome (option_and_then (λ number. if has_waiting_cut number state.waiting then None else Some (with_file number (extended bytes (length bytes)) state)) found) M
appended M bytes state None each = tt
appended M bytes state (Some number) each =
    elim (has_waiting_cut number state.waiting) as (λ b. has_waiting_cut number state.waiting ≡ b → IfSome (if b then None else Some (with_file number (extended bytes (length bytes)) state)) M) [
      | true ↦ λ _. tt
      | false ↦ λ uncut. each number refl uncut
    ] refl

unlinked : (M : State → Type 0) (name : FileName) (state : State) → M state → M (with_waiting (Unlink name) state) → M (unlinked_name name state)
unlinked M name state same less =
    elim (is_some (file_of name state)) as (λ b. M (if b then with_waiting (Unlink name) state else state)) [ true ↦ less | false ↦ same ]

shortened : (M : State → Type 0) (number size : ℕ) (state : State) → M state → M (with_waiting (Shorten number size) (with_file number (cut_read size) state)) → M (cut_file number size state)
shortened M number size state same less =
    elim (nat_le (length (file_at number state.files).read) size) as (λ b. M (if b then state else with_waiting (Shorten number size) (with_file number (cut_read size) state))) [
      | true ↦ same
      | false ↦ less
    ]

did : (M : State → Type 0) (change : Change) (state : State) → M state → Reaches M change state → IfSome (done change state) M
did M (Create name) state same each = each
did M (Append name bytes) state same each = appended M bytes state (file_of name state) (λ number found uncut. (each number found uncut).0)
did M (Sync name) state same each = mapped M (λ number. with_file number synced state) (file_of name state) (λ number found. (each number found).0)
did M (Rename from to) state same each = mapped M (λ number. with_waiting (Move from to) state) (file_of from state) (λ number found. each)
did M (Remove name) state same each = unlinked M name state same each
did M (Cut name size) state same each = mapped M (λ number. cut_file number size state) (file_of name state) (λ number found. shortened M number size state same (each number found))
did M SyncDir state same each = each (length state.waiting)

-- ---- behind a failure

or_same : (M : State → Type 0) (outcome : Option State) (state : State) → IfSome outcome M → M state → M (unwrap_or outcome state)
or_same M None state some same = same
or_same M (Some after) state some same = some

done_or_not : (M : State → Type 0) (kept : ℕ) (change : Change) (state : State) → M state → Reaches M change state → M (if kept == 0 then state else unwrap_or (done change state) state)
done_or_not M kept change state same each =
    elim (kept == 0) as (λ b. M (if b then state else unwrap_or (done change state) state)) [
      | true ↦ same
      | false ↦ or_same M (done change state) state (did M change state same each) same
    ]

-- where an Ok is possible, an append's file has no cut waiting
append_failed : (M : State → Type 0) (bytes : List ℕ) (kept : ℕ) (state whole : State) (found : Option ℕ) → M state
    → option_and_then (λ number. if has_waiting_cut number state.waiting then None else Some (with_file number (extended bytes (length bytes)) state)) found ≡ Some whole
    → ((number : ℕ) → found ≡ Some number → has_waiting_cut number state.waiting ≡ false → M (with_file number (λ file. spoiled (extended bytes kept file)) state))
    → M (unwrap_or (option_map (λ number. with_file number (λ file. spoiled (extended bytes kept file)) state) found) state)
append_failed M bytes kept state whole None same can each = same
append_failed M bytes kept state whole (Some number) same can each =
    elim (has_waiting_cut number state.waiting) as (λ b. has_waiting_cut number state.waiting ≡ b → (if b then None else Some (with_file number (extended bytes (length bytes)) state)) ≡ Some whole
    → M (with_file number (λ file. spoiled (extended bytes kept file)) state)) [
      | true ↦ λ _ none. cc
      | false ↦ λ uncut _. each number refl uncut
    ] refl can

fails : (M : State → Type 0) (change : Change) (kept : ℕ) (state whole : State) → M state → Reaches M change state → done change state ≡ Some whole → M (failed change kept state)
fails M (Create name) kept state whole same each can = done_or_not M kept (Create name) state same each
fails M (Append name bytes) kept state whole same each can =
    append_failed M bytes kept state whole (file_of name state) same can (λ number found uncut. (each number found uncut).1 kept)
fails M (Sync name) kept state whole same each can =
    or_same M (option_map (λ number. with_file number spoiled state) (file_of name state)) state
    (mapped M (λ number. with_file number spoiled state) (file_of name state) (λ number found. (each number found).1)) same
fails M (Rename from to) kept state whole same each can = done_or_not M kept (Rename from to) state same each
fails M (Remove name) kept state whole same each can = done_or_not M kept (Remove name) state same each
fails M (Cut name size) kept state whole same each can = done_or_not M kept (Cut name size) state same each
fails M SyncDir kept state whole same each can = each kept

fault_reaches : (M : State → Type 0) (change : Change) (state after : State) (fault : Fault) (outcome : Option State) → M state → Reaches M change state → done change state ≡ outcome
    → MatchOption outcome ((fault ≡ Plain) × (after ≡ state)) (λ _. (kept : ℕ) × (after ≡ failed change kept state)) → M after
fault_reaches M change state after fault None same each is left = subst M (sym left.1) same
fault_reaches M change state after fault (Some whole) same each is left = subst M (sym left.1) (fails M change left.0 state whole same each is)

-- ---- behind each answer

pub reached : (M : State → Type 0) {T : Type 0} (answer : Result T DiskError) (change : Change) (state after : State) → M state → Reaches M change state → DiskStep state change answer after → M after
reached M (Ok value) change state after same each step = some_is M (done change state) after (did M change state same each) step
reached M (Err (error.Fault fault)) change state after same each step = fault_reaches M change state after fault (done change state) same each refl step
reached M (Err error.OutOfMemory) change state after same each step = subst M (sym step) same
