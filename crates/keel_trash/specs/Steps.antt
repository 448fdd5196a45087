-- What a step of the deleter answers and leaves.
use Rattle.std.specs.Prelude.{◌≡◌, ℕ, ◌+◌, ◌-◌, ◌^◌, ◌<◌, min, length, IsSome, List, [], ◌∷◌, ◌++◌, take, drop, Option, Some, None, unwrap_or, Result, Ok, Err}
use Rattle.keel_base.specs.declared.file_name.FileName.{FileName}
use Rattle.keel_base.specs.declared.listing.Entry.{Entry}
use Rattle.keel_base.specs.Name.{IsName}
use Rattle.keel_disk.specs.declared.change.Change.{Change}
use Rattle.keel_disk.specs.declared.change.Change.TheVariants as change
use Rattle.keel_disk.specs.declared.error.DiskError.{DiskError}
use Rattle.keel_disk.specs.declared.error.DiskError.TheVariants as error
use Rattle.keel_space.specs.State.{SpaceState}
use Rattle.keel_space.specs.Tracked.{size_of, renamed, resized, without}
use Rattle.keel_trash.specs.declared.entry.Retired.{Retired}
use Rattle.keel_trash.specs.declared.entry.Names.TheVariants.{Both, TrashOnly}
use Rattle.keel_trash.specs.declared.deletion.Deletion.{Deletion}
use Rattle.keel_trash.specs.declared.deletion.Deletion.TheVariants.{Purge, Remove, Rename, RemovePlain, RemoveRenamed, Cut, RemoveTrash}
use Rattle.keel_trash.specs.declared.deletion.Next.{Next}
use Rattle.keel_trash.specs.declared.deletion.Next.TheVariants.{Rest, Wait, Delete}
use Rattle.keel_trash.specs.declared.step.DeleteStep.{DeleteStep}
use Rattle.keel_trash.specs.declared.step.DeleteStep.TheVariants as step
use Rattle.keel_trash.specs.State.{TrashState}

-- the one call that a deletion makes
abbrev pub change_of : Deletion → Change
change_of (Purge name) = change.Remove name
change_of (Remove name) = change.Remove name
change_of (Rename name trash size) = change.Rename name trash
change_of (RemovePlain name) = change.Remove name
change_of (RemoveRenamed name trash) = change.Remove trash
change_of (Cut name length taken) = change.Cut name length
change_of (RemoveTrash name size) = change.Remove name

-- what a deletion that was done answers
abbrev pub answer_of : Deletion → DeleteStep
answer_of (Purge name) = step.Purged name
answer_of (Remove name) = step.Removed name
answer_of (Rename name trash size) = step.Trashed name
answer_of (RemovePlain name) = step.Removed name
answer_of (RemoveRenamed name trash) = step.Removed trash
answer_of (Cut name length taken) = step.Cut name length
answer_of (RemoveTrash name size) = step.Removed name

-- the first entry goes to the end
abbrev pub put_back : {X : Type 0} → List X → List X
put_back entries = drop 1 entries ++ take 1 entries

-- both names of the first table are to be removed, and it goes to the end
abbrev pub doubted : List Retired → List Retired
doubted [] = []
doubted (entry ∷ entries) = entries ++ record { name = entry.name; size = entry.size; names = Both } ∷ []

-- the plain name of the first table is gone
abbrev pub halved : List Retired → List Retired
halved [] = []
halved (entry ∷ entries) = record { name = entry.name; size = entry.size; names = TrashOnly } ∷ entries

-- so many bytes of trash went at this tick, and other trash waits
abbrev pub went : ℕ → ℕ → List Entry → TrashState → TrashState
went now taken [] queues = record queues { trash = []; start = None; taken = 0 }
went now taken (file ∷ files) queues = record queues {
  trash = file ∷ files;
  start = Some (unwrap_or queues.start now);
  taken = min (queues.taken + taken) (2 ^ 128 - 1);
}

-- the queues behind a deletion that was done
abbrev pub after : Deletion → ℕ → TrashState → TrashState
after (Purge name) now queues = record queues { purge = drop 1 queues.purge }
after (Remove name) now queues = record queues { retire = drop 1 queues.retire }
after (Rename name trash size) now queues = record queues {
  retire = drop 1 queues.retire;
  trash = queues.trash ++ record { name = trash; size = size } ∷ [];
}
after (RemovePlain name) now queues = record queues { retire = halved queues.retire }
after (RemoveRenamed name trash) now queues = record queues { retire = drop 1 queues.retire }
after (Cut name length taken) now queues = went now taken (record { name = name; size = length } ∷ drop 1 queues.trash) queues
after (RemoveTrash name size) now queues = went now size (drop 1 queues.trash) queues

-- the queues behind one that the device refused
abbrev pub after_refusal : Deletion → TrashState → TrashState
after_refusal (Purge name) queues = record queues { purge = put_back queues.purge }
after_refusal (Remove name) queues = record queues { retire = put_back queues.retire }
after_refusal (Rename name trash size) queues = record queues { retire = doubted queues.retire }
after_refusal (RemovePlain name) queues = record queues { retire = put_back queues.retire }
after_refusal (RemoveRenamed name trash) queues = record queues { retire = put_back queues.retire }
after_refusal (Cut name length taken) queues = record queues { trash = put_back queues.trash }
after_refusal (RemoveTrash name size) queues = record queues { trash = put_back queues.trash }

-- a name is tracked no more
abbrev pub untracked : FileName → SpaceState → SpaceState
untracked name space = record space { tracked = without name space.tracked; spare = space.spare + 1 }

-- The tracked files behind a deletion that was done. A table whose rename was refused is tracked under its plain name
-- until its trash name is removed.
abbrev pub space_after : Deletion → SpaceState → SpaceState
space_after (Purge name) space = space
space_after (Remove name) space = untracked name space
space_after (Rename name trash size) space = record space { tracked = renamed name trash space.tracked }
space_after (RemovePlain name) space = space
space_after (RemoveRenamed name trash) space = untracked name space
space_after (Cut name length taken) space = record space { tracked = resized name length space.tracked }
space_after (RemoveTrash name size) space = untracked name space

-- A deletion is done, is refused and comes to the end of its queue, or leaves all as it was for want of memory.
abbrev pub Deletes : Deletion → ℕ → DeleteStep → TrashState → TrashState → SpaceState → SpaceState → Type 0
Deletes deletion now (step.Refused fault) old new space space' = (new ≡ after_refusal deletion old) × (space' ≡ space)
Deletes deletion now step.OutOfMemory old new space space' = (new ≡ old) × (space' ≡ space)
Deletes deletion now answer old new space space' =
    (answer ≡ answer_of deletion) × (new ≡ after deletion now old) × (space' ≡ space_after deletion space)

-- A step rests, waits, or makes the next deletion.
abbrev pub Steps : Next → ℕ → DeleteStep → TrashState → TrashState → SpaceState → SpaceState → Type 0
Steps Rest now answer old new space space' = (answer ≡ step.Idle) × (new ≡ old) × (space' ≡ space)
Steps (Wait until) now answer old new space space' = (answer ≡ step.Wait until) × (new ≡ old) × (space' ≡ space)
Steps (Delete deletion) now answer old new space space' = Deletes deletion now answer old new space space'

-- the call of a step, where it makes one
abbrev pub call_of : Next → Option Change
call_of Rest = None
call_of (Wait until) = None
call_of (Delete deletion) = Some (change_of deletion)

-- how the device answered that call
abbrev pub outcome : DeleteStep → Result (Unit {0}) DiskError
outcome (step.Refused fault) = Err (error.Fault fault)
outcome step.OutOfMemory = Err error.OutOfMemory
outcome answer = Ok tt

-- a file is renamed to a name of the store
abbrev pub IsPossible : Deletion → Type 0
IsPossible (Rename name trash size) = IsName trash
IsPossible deletion = Unit {0}

-- the queue of a deletion has a first entry
abbrev pub HasFirst : Deletion → TrashState → Type 0
HasFirst (Purge name) queues = 0 < length queues.purge
HasFirst (Remove name) queues = 0 < length queues.retire
HasFirst (Rename name trash size) queues = 0 < length queues.retire
HasFirst (RemovePlain name) queues = 0 < length queues.retire
HasFirst (RemoveRenamed name trash) queues = 0 < length queues.retire
HasFirst (Cut name size taken) queues = 0 < length queues.trash
HasFirst (RemoveTrash name size) queues = 0 < length queues.trash

-- the names of a deletion are tracked, or free, as it needs them
abbrev pub IsFollowed : Deletion → SpaceState → Type 0
IsFollowed (Purge name) space = Unit {0}
IsFollowed (Remove name) space = IsSome (size_of name space.tracked)
IsFollowed (Rename name trash size) space = IsSome (size_of name space.tracked) × (size_of trash space.tracked ≡ None)
IsFollowed (RemovePlain name) space = Unit {0}
IsFollowed (RemoveRenamed name trash) space = IsSome (size_of name space.tracked)
IsFollowed (Cut name length taken) space = IsSome (size_of name space.tracked)
IsFollowed (RemoveTrash name size) space = IsSome (size_of name space.tracked)

-- a deletion that can be made
pub record IsNext (deletion : Deletion) (queues : TrashState) (space : SpaceState) : Type 0 where
  pub possible : IsPossible deletion
  pub first : HasFirst deletion queues
  pub followed : IsFollowed deletion space
