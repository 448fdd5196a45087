-- Calls that take no name away leave a device on which no name is numbered over all that reads see so.
use Rattle.std.proofs.Common.{◌≡◌, ℕ, ◌≤◌, true, false, [], ◌∷◌, ◌++◌, take, Some, Result, refl, sym, subst, ◌∙◌, arith}
use Rattle.keel_base.specs.declared.file_name.FileName.{FileName}
use Rattle.keel_base.specs.Name.{name_eq}
use Rattle.keel_base.proofs.Names.{name_eq-true}
use Rattle.keel_disk.specs.declared.change.Change.{Change}
use Rattle.keel_disk.specs.declared.change.Change.TheVariants.{Create, Append, Sync, Rename, Remove, Cut, SyncDir}
use Rattle.keel_disk.specs.declared.error.DiskError.{DiskError}
use Rattle.keel_disk.specs.declared.state.Operation.{Operation}
use Rattle.keel_disk.specs.declared.state.Operation.TheVariants.{Link, Move}
use Rattle.keel_disk.specs.Directory.{Named, linked, operated, operated_all}
use Rattle.keel_disk.specs.State.{State, directory_read, file_of, settled_through}
use Rattle.keel_disk.specs.Step.{DiskStep, with_waiting}
use Rattle.keel_disk.proofs.Directories.{find-linked}
use Rattle.keel_disk.proofs.Operating.{always-more, always-settled, find-linked_other, find-moved, read-more, read-settled}
use Rattle.keel_disk.proofs.Reaching.{Reaches, reached}
use Rattle.keel_open.specs.NextFiles.{number_in}
use Rattle.keel_recovery.specs.Readings.{HasAsHigh, AreNoHigher, AreListed}

-- ---- the calls

-- beside two names a third is present, which is numbered as high as both
pub record HasBeside (from to : FileName) (state : State) : Type 0 where
  pub name : FileName
  pub file : ℕ
  pub present : file_of name state ≡ Some file
  pub not_from : name_eq from name ≡ false
  pub not_to : name_eq to name ≡ false
  pub over_from : number_in from ≤ number_in name
  pub over_to : number_in to ≤ number_in name

-- the call takes no name away, or only one beside which another is numbered as high
abbrev pub TakesNone : Change → State → Type 0
TakesNone (Create name) state = Unit {0}
TakesNone (Append name bytes) state = Unit {0}
TakesNone (Sync name) state = Unit {0}
TakesNone (Rename from to) state = HasBeside from to state
TakesNone (Remove name) state = ⊥
TakesNone (Cut name size) state = ⊥
TakesNone SyncDir state = Unit {0}

-- ---- one more operation

-- what a directory says of a name, by whether it is this one
by_name : {P : Type 0} (one other : FileName) → (one ≡ other → P) → (name_eq one other ≡ false → P) → P
by_name {P} one other same differs =
    elim (name_eq one other) as (λ b. name_eq one other ≡ b → P) [
      | true ↦ λ is. same (name_eq-true one other is)
      | false ↦ λ apart. differs apart
    ] refl

more_listed : (operation : Operation) (state : State) → ((number : ℕ) → HasAsHigh number (directory_read state) → HasAsHigh number (operated operation (directory_read state)))
    → ((directory : Named ℕ) → AreNoHigher directory (operated operation (directory_read state)) → AreNoHigher (operated operation directory) (operated operation (directory_read state)))
    → AreListed state → AreListed (with_waiting operation state)
more_listed operation state raised keeps are count =
    let then_read = operated operation (directory_read state) in
    subst (AreNoHigher (operated_all (take count (state.waiting ++ operation ∷ [])) state.firm)) (sym (read-more operation state))
    (always-more (λ (directory : Named ℕ). AreNoHigher directory then_read) operation state.waiting state.firm keeps (λ before file name is. raised (number_in name) (are before file name is)) count)

-- ---- a name comes

high_linked : (name : FileName) (file : ℕ) (directory : Named ℕ) (number : ℕ) → HasAsHigh number directory → HasAsHigh number (linked name file directory)
high_linked name file directory number high = by_name name high.name
    (λ same. record { name = name; file = file; named = find-linked name file directory; high = subst (λ (n : FileName). number ≤ number_in n) (sym same) high.high })
    (λ apart. record { name = high.name; file = high.file; named = find-linked_other high.name name file directory apart ∙ high.named; high = high.high })

none_linked : (name : FileName) (file : ℕ) (directory read : Named ℕ) → HasAsHigh (number_in name) read → AreNoHigher directory read → AreNoHigher (linked name file directory) read
none_linked name file directory read own are found other is = by_name name other
    (λ same. subst (λ (n : FileName). HasAsHigh (number_in n) read) same own)
    (λ apart. are found other (sym (find-linked_other other name file directory apart) ∙ is))

created_listed : (name : FileName) (file : ℕ) (state : State) → AreListed state → AreListed (with_waiting (Link name file) state)
created_listed name file state are =
    let own : HasAsHigh (number_in name) (linked name file (directory_read state)) = record { name = name; file = file; named = find-linked name file (directory_read state); high = omega arith } in
    more_listed (Link name file) state (high_linked name file (directory_read state)) (λ directory h. none_linked name file directory (linked name file (directory_read state)) own h) are

-- ---- a name is moved

module _ (from to : FileName) (state : State) (beside : HasBeside from to state) where
  abbrev moved : Named ℕ
  moved = operated (Move from to) (directory_read state)

  still : HasAsHigh (number_in beside.name) moved
  still = record { name = beside.name; file = beside.file; named = find-moved beside.name from to (directory_read state) beside.not_from beside.not_to ∙ beside.present; high = omega arith }

  no_less : (number : ℕ) → number ≤ number_in beside.name → HasAsHigh number moved
  no_less number most = record { name = still.name; file = still.file; named = still.named; high = omega (arith, most, still.high) }

  high_moved : (number : ℕ) → HasAsHigh number (directory_read state) → HasAsHigh number moved
  high_moved number high = by_name from high.name
      (λ same. no_less number (omega (arith, subst (λ (n : FileName). number ≤ number_in n) (sym same) high.high, beside.over_from)))
      (λ apart. by_name to high.name
      (λ same. no_less number (omega (arith, subst (λ (n : FileName). number ≤ number_in n) (sym same) high.high, beside.over_to)))
      (λ aside. record { name = high.name; file = high.file; named = find-moved high.name from to (directory_read state) apart aside ∙ high.named; high = high.high }))

  none_moved : (directory : Named ℕ) → AreNoHigher directory moved → AreNoHigher (operated (Move from to) directory) moved
  none_moved directory are file name is = by_name from name
      (λ same. no_less (number_in name) (subst (λ (n : FileName). number_in n ≤ number_in beside.name) same beside.over_from))
      (λ apart. by_name to name
      (λ same. no_less (number_in name) (subst (λ (n : FileName). number_in n ≤ number_in beside.name) same beside.over_to))
      (λ aside. are file name (sym (find-moved name from to directory apart aside) ∙ is)))

  moved_listed : AreListed state → AreListed (with_waiting (Move from to) state)
  moved_listed are = more_listed (Move from to) state high_moved none_moved are

-- ---- every call

pub settled_listed : (kept : ℕ) (state : State) → AreListed state → AreListed (settled_through kept state)
settled_listed kept state are count =
    subst (AreNoHigher (settled_through count (settled_through kept state)).firm) (sym (read-settled kept state))
    (always-settled (λ (directory : Named ℕ). AreNoHigher directory (directory_read state)) kept state are count)

listed_reach : (change : Change) (state : State) → TakesNone change state → AreListed state → Reaches AreListed change state
listed_reach (Create name) state takes are = created_listed name _ state are
listed_reach (Append name bytes) state takes are = λ number found none. (are, λ kept. are)
listed_reach (Sync name) state takes are = λ number found. (are, are)
listed_reach (Rename from to) state takes are = moved_listed from to state takes are
listed_reach (Remove name) state takes are = absurd takes
listed_reach (Cut name size) state takes are = absurd takes
listed_reach SyncDir state takes are = λ kept. settled_listed kept state are

pub listed_stays : (change : Change) (answer : Result (Unit {0}) DiskError) (state after : State) → TakesNone change state → AreListed state → DiskStep state change answer after → AreListed after
listed_stays change answer state after takes are step = reached AreListed answer change state after are (listed_reach change state takes are) step
