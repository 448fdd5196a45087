-- The next deletion can be made.
use Rattle.std.proofs.Common.{◌≡◌, ℕ, ◌<◌, Bool, true, false, not, ◌||◌, ◌&&◌, List, [], ◌∷◌, length, Option, Some, None, All, refl, subst, arith, nat_lt}
use Rattle.std.specs.Prelude.{is_some, if◌then◌else◌, ◌==◌, ◌-◌}
use Rattle.std.proofs.lemmas.List.Elements.{All-head}
use Rattle.keel_base.specs.declared.file_name.FileName.{FileName}
use Rattle.keel_base.specs.declared.file_name.FileName.TheVariants.{Log, Table, Trash, Manifest, Current, Temp}
use Rattle.keel_base.specs.declared.listing.Entry.{Entry}
use Rattle.keel_base.specs.Name.{IsName}
use Rattle.keel_space.specs.State.{SpaceState}
use Rattle.keel_space.specs.Tracked.{size_of}
use Rattle.keel_trash.specs.declared.entry.Retired.{Retired}
use Rattle.keel_trash.specs.declared.entry.Names.{Names}
use Rattle.keel_trash.specs.declared.entry.Names.TheVariants.{Plain, Both, TrashOnly}
use Rattle.keel_trash.specs.declared.deletion.Deletion.TheVariants.{Cut, RemoveTrash}
use Rattle.keel_trash.specs.declared.deletion.Next.{Next}
use Rattle.keel_trash.specs.declared.deletion.Next.TheVariants.{Rest, Wait, Delete}
use Rattle.keel_trash.specs.Names.{trash_name, IsTable}
use Rattle.keel_trash.specs.Next.{next_of, purge_next, retire_next, trash_next, retirement, trash_deletion, goes_at_once}
use Rattle.keel_trash.specs.Formulas.{next_tick}
use Rattle.keel_trash.specs.State.{TrashState, AreQueued}
use Rattle.keel_trash.specs.Steps.{IsNext}

-- a step makes only deletions that can be made
abbrev pub CanBeMade : Next → TrashState → SpaceState → Type 0
CanBeMade Rest queues space = Unit {0}
CanBeMade (Wait until) queues space = Unit {0}
CanBeMade (Delete deletion) queues space = IsNext deletion queues space

trash_is_name : (name : FileName) → IsTable name → IsName (trash_name name)
trash_is_name (Log n) table = absurd table
trash_is_name (Table n) table = table
trash_is_name (Trash n) table = absurd table
trash_is_name (Manifest n) table = absurd table
trash_is_name Current table = absurd table
trash_is_name (Temp n) table = absurd table

purge-made : (queues : TrashState) (space : SpaceState) (other : Next) → CanBeMade other queues space
    → (names : List FileName) → queues.purge ≡ names → CanBeMade (purge_next names other) queues space
purge-made queues space other made [] is = made
purge-made queues space other made (name ∷ names) is =
    record { possible = tt; first = rw is (omega arith); followed = tt }

pub not_taken : (immediate : Bool) (taken : Option ℕ) → (immediate || is_some taken) ≡ false → taken ≡ None
not_taken true taken free = cc
not_taken false None free = refl
not_taken false (Some size) free = cc

retirement-made : (queues : TrashState) (space : SpaceState) (names : Names) (name : FileName) (size : ℕ) → 0 < length queues.retire → IsTable name
    → size_of name space.tracked ≡ Some size → CanBeMade (Delete (retirement (goes_at_once queues space name) names name size)) queues space
retirement-made queues space Both name size some table tracked = record { possible = tt; first = some; followed = tt }
retirement-made queues space TrashOnly name size some table tracked = record { possible = tt; first = some; followed = rw tracked refl }
retirement-made queues space Plain name size some table tracked =
    elim (goes_at_once queues space name) as (λ at_once. goes_at_once queues space name ≡ at_once → CanBeMade (Delete (retirement at_once Plain name size)) queues space) [
      | true ↦ λ is. record { possible = tt; first = some; followed = rw tracked refl }
      | false ↦ λ is. record { possible = trash_is_name name table; first = some; followed = (rw tracked refl, not_taken _ (size_of (trash_name name) space.tracked) is) }
    ] refl

retire-made : (queues : TrashState) (space : SpaceState) (other : Next) → AreQueued queues space → CanBeMade other queues space
    → (entries : List Retired) → queues.retire ≡ entries → CanBeMade (retire_next queues space entries other) queues space
retire-made queues space other queued made [] is = made
retire-made queues space other queued made (entry ∷ entries) is =
    let some : 0 < length queues.retire = rw is (omega arith) in
    let table : IsTable entry.name = All-head (λ (e : Retired). IsTable e.name) entry entries (subst (λ (list : List Retired). All (λ e. IsTable e.name) list) is queued.tables) in
    let tracked : size_of entry.name space.tracked ≡ Some entry.size =
    All-head (λ (e : Retired). size_of e.name space.tracked ≡ Some e.size) entry entries (subst (λ (list : List Retired). All (λ e. size_of e.name space.tracked ≡ Some e.size) list) is queued.tables_tracked) in
    retirement-made queues space entry.names entry.name entry.size some table tracked

trash-made : (queues : TrashState) (space : SpaceState) (now : ℕ) → AreQueued queues space
    → (files : List Entry) → queues.trash ≡ files → CanBeMade (trash_next queues now files) queues space
trash-made queues space now queued [] is = tt
trash-made queues space now queued (file ∷ files) is =
    let some : 0 < length queues.trash = rw is (omega arith) in
    let tracked : size_of file.name space.tracked ≡ Some file.size =
    All-head (λ (f : Entry). size_of f.name space.tracked ≡ Some f.size) file files (subst (λ (list : List Entry). All (λ f. size_of f.name space.tracked ≡ Some f.size) list) is queued.trashes_tracked) in
    elim (nat_lt now (next_tick queues.rate queues.start queues.taken)) as (λ waits. CanBeMade (if waits then Wait (next_tick queues.rate queues.start queues.taken) else Delete (trash_deletion queues.chunk file)) queues space) [
      | true ↦ tt
      | false ↦ elim (not (queues.chunk == 0) && nat_lt queues.chunk file.size) as (λ large. CanBeMade (Delete (if large then Cut file.name (file.size - queues.chunk) queues.chunk else RemoveTrash file.name file.size)) queues space) [
        | true ↦ record { possible = tt; first = some; followed = rw tracked refl }
        | false ↦ record { possible = tt; first = some; followed = rw tracked refl }
      ]
    ]

pub next-made : (queues : TrashState) (space : SpaceState) (now : ℕ) → AreQueued queues space → CanBeMade (next_of queues space now) queues space
next-made queues space now queued =
    purge-made queues space (retire_next queues space queues.retire (trash_next queues now queues.trash))
    (retire-made queues space (trash_next queues now queues.trash) queued (trash-made queues space now queued queues.trash refl) queues.retire refl)
    queues.purge refl
