-- What a changing call does to the state of a device, for each answer.
use Rattle.std.specs.Prelude.{◌≡◌, ℕ, ◌==◌, nat_le, true, List, [], ◌∷◌, ◌++◌, length, take, slice_set, Option, Some, None, Result, Ok, Err, MatchOption, if◌then◌else◌, is_some, unwrap_or, option_map, option_and_then}
use Rattle.keel_base.specs.declared.file_name.FileName.{FileName}
use Rattle.keel_base.specs.declared.failure.Fault.{Fault}
use Rattle.keel_base.specs.declared.failure.Fault.TheVariants.{Plain}
use Rattle.keel_disk.specs.declared.error.DiskError.{DiskError}
use Rattle.keel_disk.specs.declared.error.DiskError.TheVariants as error
use Rattle.keel_disk.specs.declared.state.File.{File}
use Rattle.keel_disk.specs.declared.state.Operation.{Operation}
use Rattle.keel_disk.specs.declared.state.Operation.TheVariants.{Link, Move, Unlink, Shorten}
use Rattle.keel_disk.specs.declared.change.Change.{Change}
use Rattle.keel_disk.specs.declared.change.Change.TheVariants.{Create, Append, Sync, Rename, Remove, Cut, SyncDir}
use Rattle.keel_disk.specs.State.{State, new_file, file_at, settled_through, file_of, has_waiting_cut}

-- bytes were handed in, and so many of them are read
abbrev pub extended : List ℕ → ℕ → File → File
extended bytes kept file = record file { meant = file.meant ++ bytes; read = file.read ++ take kept bytes }

-- no sync makes the file firm any more
abbrev pub spoiled : File → File
spoiled file = record file { spoilt = true }

-- all that was meant is firm; a spoilt file stays as it is
abbrev pub synced : File → File
synced file = if file.spoilt then file else record file { firm = length file.meant }

-- a read gives the first bytes alone
abbrev pub cut_read : ℕ → File → File
cut_read length file = record file { read = take length file.read }

-- one file is changed
abbrev pub with_file : ℕ → (File → File) → State → State
with_file number change state = record state { files = slice_set state.files number (change (file_at number state.files)) }

-- one operation more waits
abbrev pub with_waiting : Operation → State → State
with_waiting operation state = record state { waiting = state.waiting ++ operation ∷ [] }

-- a new file, and its name waits
abbrev pub created : FileName → State → State
created name state = record {
  files = state.files ++ new_file ∷ [];
  firm = state.firm;
  waiting = state.waiting ++ Link name (length state.files) ∷ [];
}

-- the removal of a name waits, where it is there
abbrev pub unlinked_name : FileName → State → State
unlinked_name name state = if is_some (file_of name state) then with_waiting (Unlink name) state else state

-- a file that is longer reads as its first bytes, and the cut waits
abbrev pub cut_file : ℕ → ℕ → State → State
cut_file number size state =
    if nat_le (length (file_at number state.files).read) size then state
    else with_waiting (Shorten number size) (with_file number (cut_read size) state)

-- What an Ok leaves. None: the device refuses the call, since the file is absent or an append meets a waiting cut.
abbrev pub done : Change → State → Option State
done (Create name) state = Some (created name state)
done (Append name bytes) state =
    option_and_then (λ number. if has_waiting_cut number state.waiting then None else Some (with_file number (extended bytes (length bytes)) state)) (file_of name state)
done (Sync name) state = option_map (λ number. with_file number synced state) (file_of name state)
done (Rename from to) state = option_map (λ number. with_waiting (Move from to) state) (file_of from state)
done (Remove name) state = Some (unlinked_name name state)
done (Cut name size) state = option_map (λ number. cut_file number size state) (file_of name state)
done SyncDir state = Some (settled_through (length state.waiting) state)

-- What a failure leaves: an append keeps some bytes, a sync of the directory some operations,
-- another call is done or not.
abbrev pub failed : Change → ℕ → State → State
failed (Append name bytes) kept state =
    unwrap_or (option_map (λ number. with_file number (λ file. spoiled (extended bytes kept file)) state) (file_of name state)) state
failed (Sync name) kept state =
    unwrap_or (option_map (λ number. with_file number spoiled state) (file_of name state)) state
failed SyncDir kept state = settled_through kept state
failed change kept state = if kept == 0 then state else unwrap_or (done change state) state

-- what a call that fails with this fault may leave
abbrev pub FailsTo : Change → State → Fault → State → Type 0
FailsTo change before fault after =
    MatchOption (done change before) ((fault ≡ Plain) × (after ≡ before)) (λ _. (kept : ℕ) × (after ≡ failed change kept before))

-- what a call with this answer may leave of a device
abbrev pub DiskStep : {T : Type 0} → State → Change → Result T DiskError → State → Type 0
DiskStep before change (Ok _) after = done change before ≡ Some after
DiskStep before change (Err (error.Fault fault)) after = FailsTo change before fault after
DiskStep before change (Err error.OutOfMemory) after = after ≡ before
