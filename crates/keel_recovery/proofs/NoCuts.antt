-- Calls that cut nothing leave a device on which no cut waits so.
use Rattle.std.proofs.Common.{◌≡◌, ℕ, false, [], ◌∷◌, List, take, Result, refl, sym, subst}
use Rattle.keel_disk.specs.declared.error.DiskError.{DiskError}
use Rattle.keel_disk.specs.declared.state.Operation.{Operation}
use Rattle.keel_disk.specs.declared.state.Operation.TheVariants.{Link, Move, Unlink}
use Rattle.keel_disk.specs.declared.change.Change.{Change}
use Rattle.keel_disk.specs.declared.change.Change.TheVariants.{Create, Append, Sync, Rename, Remove, Cut, SyncDir}
use Rattle.keel_disk.specs.State.{State, files_operated_all, has_waiting_cut}
use Rattle.keel_disk.specs.Step.{DiskStep}
use Rattle.keel_disk.specs.Sound.{IsAtRest}
use Rattle.keel_disk.proofs.Operating.{cut-append}
use Rattle.keel_disk.proofs.Reaching.{Reaches, reached}
use Rattle.keel_recovery.specs.Booting.{NoCuts}
use Rattle.keel_recovery.proofs.BootNames.{dropped_uncut, files_uncut}

-- the call is no cut
abbrev pub CutsNothing : Change → Type 0
CutsNothing (Create name) = Unit {0}
CutsNothing (Append name bytes) = Unit {0}
CutsNothing (Sync name) = Unit {0}
CutsNothing (Rename from to) = Unit {0}
CutsNothing (Remove name) = Unit {0}
CutsNothing (Cut name size) = ⊥
CutsNothing SyncDir = Unit {0}

no_cuts_reach : (change : Change) (state : State) → CutsNothing change → NoCuts state → Reaches NoCuts change state
no_cuts_reach (Create name) state is uncut = λ file. cut-append file state.waiting (Link name _ ∷ []) (uncut file) refl
no_cuts_reach (Append name bytes) state is uncut = λ number found none. (uncut, λ kept. uncut)
no_cuts_reach (Sync name) state is uncut = λ number found. (uncut, uncut)
no_cuts_reach (Rename from to) state is uncut = λ file. cut-append file state.waiting (Move from to ∷ []) (uncut file) refl
no_cuts_reach (Remove name) state is uncut = λ file. cut-append file state.waiting (Unlink name ∷ []) (uncut file) refl
no_cuts_reach (Cut name size) state is uncut = absurd is
no_cuts_reach SyncDir state is uncut = λ kept. dropped_uncut kept state.waiting uncut

pub no_cuts_stay : (change : Change) (answer : Result (Unit {0}) DiskError) (state after : State) → CutsNothing change → NoCuts state → DiskStep state change answer after → NoCuts after
no_cuts_stay change answer state after is uncut step = reached NoCuts answer change state after uncut (no_cuts_reach change state is uncut) step

-- none waits on a device at rest
pub no_cuts_rest : (state : State) → IsAtRest state → NoCuts state
no_cuts_rest state rest file = subst (λ (waiting : List Operation). has_waiting_cut file waiting ≡ false) (sym rest.settled.none_waits) refl

-- waiting operations that are done leave the files
pub uncut_files : (state : State) → NoCuts state → (count : ℕ) → files_operated_all (take count state.waiting) state.files ≡ state.files
uncut_files state uncut count = files_uncut count state.waiting state.files uncut
