-- The next deletion, as a function of the queues, the tracked files and the tick.
use Rattle.std.specs.Prelude.{ℕ, ◌-◌, ◌==◌, ◌||◌, ◌&&◌, not, nat_lt, Bool, List, [], ◌∷◌, if◌then◌else◌, is_some}
use Rattle.keel_base.specs.declared.file_name.FileName.{FileName}
use Rattle.keel_base.specs.declared.listing.Entry.{Entry}
use Rattle.keel_space.specs.State.{SpaceState}
use Rattle.keel_space.specs.Tracked.{size_of, total_of, trash_of}
use Rattle.keel_trash.specs.declared.entry.Retired.{Retired}
use Rattle.keel_trash.specs.declared.entry.Names.{Names}
use Rattle.keel_trash.specs.declared.entry.Names.TheVariants.{Plain, Both, TrashOnly}
use Rattle.keel_trash.specs.declared.deletion.Deletion.{Deletion}
use Rattle.keel_trash.specs.declared.deletion.Deletion.TheVariants.{Purge, Remove, Rename, RemovePlain, RemoveRenamed, Cut, RemoveTrash}
use Rattle.keel_trash.specs.declared.deletion.Next.{Next}
use Rattle.keel_trash.specs.declared.deletion.Next.TheVariants.{Rest, Wait, Delete}
use Rattle.keel_trash.specs.Formulas.{is_immediate, next_tick}
use Rattle.keel_trash.specs.Names.{trash_name}
use Rattle.keel_trash.specs.State.{TrashState}

-- a retired table is removed at once, also where its trash name is taken
abbrev pub goes_at_once : TrashState → SpaceState → FileName → Bool
goes_at_once queues space name =
    is_immediate queues.rate queues.ratio (total_of space.tracked) (trash_of space.tracked)
    || is_some (size_of (trash_name name) space.tracked)

-- what is done to a retired table; behind a refused rename both names are removed, the plain one first
abbrev pub retirement : Bool → Names → FileName → ℕ → Deletion
retirement at_once Plain name size = if at_once then Remove name else Rename name (trash_name name) size
retirement at_once Both name size = RemovePlain name
retirement at_once TrashOnly name size = RemoveRenamed name (trash_name name)

-- trash is cut by chunks while it is larger than one
abbrev pub trash_deletion : ℕ → Entry → Deletion
trash_deletion chunk file =
    if not (chunk == 0) && nat_lt chunk file.size then Cut file.name (file.size - chunk) chunk
    else RemoveTrash file.name file.size

-- first what is purged
abbrev pub purge_next : List FileName → Next → Next
purge_next [] other = other
purge_next (name ∷ names) other = Delete (Purge name)

-- then what is retired
abbrev pub retire_next : TrashState → SpaceState → List Retired → Next → Next
retire_next queues space [] other = other
retire_next queues space (entry ∷ entries) other =
    Delete (retirement (goes_at_once queues space entry.name) entry.names entry.name entry.size)

-- then trash, which may have to wait
abbrev pub trash_next : TrashState → ℕ → List Entry → Next
trash_next queues now [] = Rest
trash_next queues now (file ∷ files) =
    if nat_lt now (next_tick queues.rate queues.start queues.taken) then Wait (next_tick queues.rate queues.start queues.taken)
    else Delete (trash_deletion queues.chunk file)

abbrev pub next_of : TrashState → SpaceState → ℕ → Next
next_of queues space now = purge_next queues.purge (retire_next queues space queues.retire (trash_next queues now queues.trash))
