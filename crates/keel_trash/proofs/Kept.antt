-- The files go on to wait under names of their own, with their sizes.
use Rattle.std.proofs.Common.{◌≡◌, ℕ, ◌-◌, Bool, true, false, not, ◌&&◌, ◌==◌, List, [], ◌∷◌, ◌++◌, take, drop, Some, None, All, refl, sym, subst, ap, ◌∙◌, nat_lt}
use Rattle.std.specs.Prelude.{IsSome, if◌then◌else◌, map, slice_index_or}
use Rattle.std.proofs.lemmas.List.Elements.{All-nil, All-cons, All-head, All-tail, All-append, All-take, All-drop, All-push}
use Rattle.keel_base.specs.declared.file_name.FileName.{FileName}
use Rattle.keel_base.specs.declared.listing.Entry.{Entry}
use Rattle.keel_base.specs.Name.{name_eq}
use Rattle.keel_space.specs.State.{SpaceState}
use Rattle.keel_space.specs.Tracked.{size_of, AreDistinct, resized, renamed}
use Rattle.keel_space.proofs.Files.{apart_back, distinct-pushed}
use Rattle.keel_trash.specs.declared.entry.Retired.{Retired}
use Rattle.keel_trash.specs.declared.entry.Names.{Names}
use Rattle.keel_trash.specs.declared.entry.Names.TheVariants.{Plain, Both, TrashOnly}
use Rattle.keel_trash.specs.declared.deletion.Deletion.{Deletion}
use Rattle.keel_trash.specs.declared.deletion.Deletion.TheVariants.{Cut, RemoveTrash}
use Rattle.keel_trash.specs.declared.deletion.Next.{Next}
use Rattle.keel_trash.specs.declared.deletion.Next.TheVariants.{Rest, Wait, Delete}
use Rattle.keel_trash.specs.declared.step.DeleteStep.{DeleteStep}
use Rattle.keel_trash.specs.declared.step.DeleteStep.TheVariants as step
use Rattle.keel_trash.specs.Names.{trash_name, IsTable, IsTrash}
use Rattle.keel_trash.specs.Next.{next_of, purge_next, retire_next, trash_next, retirement, trash_deletion, goes_at_once}
use Rattle.keel_trash.specs.Formulas.{next_tick}
use Rattle.keel_trash.specs.State.{TrashState, AreQueued, file_of}
use Rattle.keel_trash.specs.Steps.{put_back, went, untracked, after, after_refusal, space_after, Deletes, Steps}
use Rattle.keel_trash.proofs.Renaming.{others-without, others-resized, others-renamed, size_of-resized, size_of-renamed, kinds_apart, trash_is_trash, files-apart, tables-apart, free_apart}
use Rattle.keel_trash.proofs.Queued.{not_taken}

-- Purge entries.

purged : (queues : TrashState) (space : SpaceState) → AreQueued queues space → AreQueued (record queues { purge = drop 1 queues.purge }) space
purged queues space queued = record {
  tables = queued.tables;
  trashes = queued.trashes;
  tables_differ = queued.tables_differ;
  trashes_differ = queued.trashes_differ;
  tables_tracked = queued.tables_tracked;
  trashes_tracked = queued.trashes_tracked;
  untracked = All-drop (λ (n : FileName). size_of n space.tracked ≡ None) 1 queues.purge queued.untracked;
}

purge_back : (queues : TrashState) (space : SpaceState) → AreQueued queues space → AreQueued (record queues { purge = put_back queues.purge }) space
purge_back queues space queued =
    let Free : FileName → Type 0 = λ n. size_of n space.tracked ≡ None in record {
      tables = queued.tables;
      trashes = queued.trashes;
      tables_differ = queued.tables_differ;
      trashes_differ = queued.trashes_differ;
      tables_tracked = queued.tables_tracked;
      trashes_tracked = queued.trashes_tracked;
      untracked = All-append Free (drop 1 queues.purge) (take 1 queues.purge) (All-drop Free 1 queues.purge queued.untracked) (All-take Free 1 queues.purge queued.untracked);
    }

-- Retired tables, while nothing is to be purged.

map-push : (entries : List Retired) (entry : Retired) → map file_of (entries ++ entry ∷ []) ≡ map file_of entries ++ file_of entry ∷ []
map-push [] entry = refl
map-push (first ∷ entries) entry = ap (λ rest. file_of first ∷ rest) (map-push entries entry)

abbrev Tracked : SpaceState → Retired → Type 0
Tracked space entry = size_of entry.name space.tracked ≡ Some entry.size

abbrev Kept : SpaceState → Entry → Type 0
Kept space file = size_of file.name space.tracked ≡ Some file.size

-- what is known of the first table and of the others
record AreFirst (entry : Retired) (entries : List Retired) (space : SpaceState) : Type 0 where
  table : IsTable entry.name
  others : All (λ e. IsTable e.name) entries
  apart : AreDistinct (file_of entry ∷ map file_of entries)
  tracked : Tracked space entry
  others_tracked : All (Tracked space) entries

first : (queues : TrashState) (space : SpaceState) (entry : Retired) (entries : List Retired) → AreQueued queues space → queues.retire ≡ entry ∷ entries → AreFirst entry entries space
first queues space entry entries queued is =
    let tables : All (λ (e : Retired). IsTable e.name) (entry ∷ entries) = subst (λ (list : List Retired). All (λ (e : Retired). IsTable e.name) list) is queued.tables in
    let tracked : All (Tracked space) (entry ∷ entries) = subst (λ (list : List Retired). All (Tracked space) list) is queued.tables_tracked in record {
      table = All-head (λ (e : Retired). IsTable e.name) entry entries tables;
      others = All-tail (λ (e : Retired). IsTable e.name) entry entries tables;
      apart = subst (λ (list : List Retired). AreDistinct (map file_of list)) is queued.tables_differ;
      tracked = All-head (Tracked space) entry entries tracked;
      others_tracked = All-tail (Tracked space) entry entries tracked;
    }

-- a name that isn't tracked is none of these
none_of : (name : FileName) (space : SpaceState) (files : List Entry) → size_of name space.tracked ≡ None → All (Kept space) files → size_of name files ≡ None
none_of name space [] free tracked = refl
none_of name space (file ∷ files) free tracked =
    let apart : name_eq file.name name ≡ false = free_apart name file.name file.size space.tracked free (All-head (Kept space) file files tracked) in
    rw apart (none_of name space files free (All-tail (Kept space) file files tracked))

table_gone : (queues : TrashState) (space : SpaceState) (entry : Retired) (entries : List Retired) → AreQueued queues space → queues.purge ≡ [] → queues.retire ≡ entry ∷ entries
    → AreQueued (record queues { retire = drop 1 queues.retire }) (untracked entry.name space)
table_gone queues space entry entries queued empty is =
    let here = first queues space entry entries queued is in
    let apart = tables-apart entry.name entries here.apart.0 in record {
      tables = rw is here.others;
      trashes = queued.trashes;
      tables_differ = rw is here.apart.1;
      trashes_differ = queued.trashes_differ;
      tables_tracked = rw is (λ k d lt. others-without (slice_index_or entries k d).name entry.name space.tracked (apart_back (slice_index_or entries k d).name entry.name (apart k d lt)) ∙ here.others_tracked k d lt);
      trashes_tracked = λ k d lt. others-without (slice_index_or queues.trash k d).name entry.name space.tracked (kinds_apart entry.name (slice_index_or queues.trash k d).name here.table (queued.trashes k d lt)) ∙ queued.trashes_tracked k d lt;
      untracked = rw empty (All-nil (λ (n : FileName). size_of n (untracked entry.name space).tracked ≡ None));
    }

table_trashed : (queues : TrashState) (space : SpaceState) (entry : Retired) (entries : List Retired) → AreQueued queues space → queues.purge ≡ [] → queues.retire ≡ entry ∷ entries
    → size_of (trash_name entry.name) space.tracked ≡ None
    → AreQueued (record queues { retire = drop 1 queues.retire; trash = queues.trash ++ record { name = trash_name entry.name; size = entry.size } ∷ [] }) (record space { tracked = renamed entry.name (trash_name entry.name) space.tracked })
table_trashed queues space entry entries queued empty is free =
    let here = first queues space entry entries queued is in
    let to = trash_name entry.name in
    let file : Entry = record { name = to; size = entry.size } in
    let space' : SpaceState = record space { tracked = renamed entry.name to space.tracked } in
    let apart = tables-apart entry.name entries here.apart.0 in
    let trash_free : size_of to queues.trash ≡ None = none_of to space queues.trash free queued.trashes_tracked in
    let trashes_tracked : All (Kept space') queues.trash = λ k d lt.
    others-renamed (slice_index_or queues.trash k d).name entry.name to space.tracked (kinds_apart entry.name (slice_index_or queues.trash k d).name here.table (queued.trashes k d lt))
    (apart_back (slice_index_or queues.trash k d).name to (free_apart to (slice_index_or queues.trash k d).name (slice_index_or queues.trash k d).size space.tracked free (queued.trashes_tracked k d lt)))
    ∙ queued.trashes_tracked k d lt in record {
      tables = rw is here.others;
      trashes = All-push (λ (f : Entry). IsTrash f.name) queues.trash file queued.trashes (trash_is_trash entry.name here.table);
      tables_differ = rw is here.apart.1;
      trashes_differ = distinct-pushed queues.trash file trash_free queued.trashes_differ;
      tables_tracked = rw is (λ k d lt.
          others-renamed (slice_index_or entries k d).name entry.name to space.tracked (apart_back (slice_index_or entries k d).name entry.name (apart k d lt))
          (apart_back (slice_index_or entries k d).name to (free_apart to (slice_index_or entries k d).name (slice_index_or entries k d).size space.tracked free (here.others_tracked k d lt)))
          ∙ here.others_tracked k d lt);
      trashes_tracked = All-push (Kept space') queues.trash file trashes_tracked (size_of-renamed entry.name to entry.size space.tracked here.tracked free);
      untracked = rw empty (All-nil (λ (n : FileName). size_of n space'.tracked ≡ None));
    }

-- of a table other names are to be removed
names_changed : (queues : TrashState) (space : SpaceState) (entry : Retired) (entries : List Retired) (names : Names) → AreQueued queues space → queues.retire ≡ entry ∷ entries
    → AreQueued (record queues { retire = record { name = entry.name; size = entry.size; names = names } ∷ entries }) space
names_changed queues space entry entries names queued is =
    let here = first queues space entry entries queued is in
    let changed : Retired = record { name = entry.name; size = entry.size; names = names } in record {
      tables = All-cons (λ (e : Retired). IsTable e.name) changed entries here.table here.others;
      trashes = queued.trashes;
      tables_differ = (here.apart.0, here.apart.1);
      trashes_differ = queued.trashes_differ;
      tables_tracked = All-cons (Tracked space) changed entries here.tracked here.others_tracked;
      trashes_tracked = queued.trashes_tracked;
      untracked = queued.untracked;
    }

-- a table comes to the end of its queue, with these names
table_back : (queues : TrashState) (space : SpaceState) (entry : Retired) (entries : List Retired) (names : Names) → AreQueued queues space → queues.retire ≡ entry ∷ entries
    → AreQueued (record queues { retire = entries ++ record { name = entry.name; size = entry.size; names = names } ∷ [] }) space
table_back queues space entry entries names queued is =
    let here = first queues space entry entries queued is in
    let changed : Retired = record { name = entry.name; size = entry.size; names = names } in record {
      tables = All-push (λ (e : Retired). IsTable e.name) entries changed here.others here.table;
      trashes = queued.trashes;
      tables_differ = rw (map-push entries changed) (distinct-pushed (map file_of entries) (file_of entry) here.apart.0 here.apart.1);
      trashes_differ = queued.trashes_differ;
      tables_tracked = All-push (Tracked space) entries changed here.others_tracked here.tracked;
      trashes_tracked = queued.trashes_tracked;
      untracked = queued.untracked;
    }

-- Trash.

record AreFirstTrash (file : Entry) (files : List Entry) (space : SpaceState) : Type 0 where
  trash : IsTrash file.name
  others : All (λ f. IsTrash f.name) files
  apart : AreDistinct (file ∷ files)
  tracked : Kept space file
  others_tracked : All (Kept space) files

first_trash : (queues : TrashState) (space : SpaceState) (file : Entry) (files : List Entry) → AreQueued queues space → queues.trash ≡ file ∷ files → AreFirstTrash file files space
first_trash queues space file files queued is =
    let trashes : All (λ (f : Entry). IsTrash f.name) (file ∷ files) = subst (λ (list : List Entry). All (λ (f : Entry). IsTrash f.name) list) is queued.trashes in
    let tracked : All (Kept space) (file ∷ files) = subst (λ (list : List Entry). All (Kept space) list) is queued.trashes_tracked in record {
      trash = All-head (λ (f : Entry). IsTrash f.name) file files trashes;
      others = All-tail (λ (f : Entry). IsTrash f.name) file files trashes;
      apart = subst (λ (list : List Entry). AreDistinct list) is queued.trashes_differ;
      tracked = All-head (Kept space) file files tracked;
      others_tracked = All-tail (Kept space) file files tracked;
    }

trash_gone : (queues : TrashState) (space : SpaceState) (file : Entry) (files : List Entry) → AreQueued queues space → queues.purge ≡ [] → queues.trash ≡ file ∷ files
    → AreQueued (record queues { trash = files }) (untracked file.name space)
trash_gone queues space file files queued empty is =
    let here = first_trash queues space file files queued is in
    let apart = files-apart file.name files here.apart.0 in record {
      tables = queued.tables;
      trashes = here.others;
      tables_differ = queued.tables_differ;
      trashes_differ = here.apart.1;
      tables_tracked = λ k d lt. others-without (slice_index_or queues.retire k d).name file.name space.tracked
          (apart_back (slice_index_or queues.retire k d).name file.name (kinds_apart (slice_index_or queues.retire k d).name file.name (queued.tables k d lt) here.trash)) ∙ queued.tables_tracked k d lt;
      trashes_tracked = λ k d lt. others-without (slice_index_or files k d).name file.name space.tracked (apart_back (slice_index_or files k d).name file.name (apart k d lt)) ∙ here.others_tracked k d lt;
      untracked = rw empty (All-nil (λ (n : FileName). size_of n (untracked file.name space).tracked ≡ None));
    }

trash_cut : (queues : TrashState) (space : SpaceState) (file : Entry) (files : List Entry) (size : ℕ) → AreQueued queues space → queues.purge ≡ [] → queues.trash ≡ file ∷ files
    → AreQueued (record queues { trash = record { name = file.name; size = size } ∷ files }) (record space { tracked = resized file.name size space.tracked })
trash_cut queues space file files size queued empty is =
    let here = first_trash queues space file files queued is in
    let apart = files-apart file.name files here.apart.0 in
    let shorter : Entry = record { name = file.name; size = size } in
    let space' : SpaceState = record space { tracked = resized file.name size space.tracked } in
    let there : IsSome (size_of file.name space.tracked) = rw here.tracked refl in record {
      tables = queued.tables;
      trashes = All-cons (λ (f : Entry). IsTrash f.name) shorter files here.trash here.others;
      tables_differ = queued.tables_differ;
      trashes_differ = (here.apart.0, here.apart.1);
      tables_tracked = λ k d lt. others-resized (slice_index_or queues.retire k d).name file.name size space.tracked
          (apart_back (slice_index_or queues.retire k d).name file.name (kinds_apart (slice_index_or queues.retire k d).name file.name (queued.tables k d lt) here.trash)) ∙ queued.tables_tracked k d lt;
      trashes_tracked = All-cons (Kept space') shorter files (size_of-resized file.name size space.tracked there)
          (λ k d lt. others-resized (slice_index_or files k d).name file.name size space.tracked (apart_back (slice_index_or files k d).name file.name (apart k d lt)) ∙ here.others_tracked k d lt);
      untracked = rw empty (All-nil (λ (n : FileName). size_of n space'.tracked ≡ None));
    }

trash_back : (queues : TrashState) (space : SpaceState) (file : Entry) (files : List Entry) → AreQueued queues space → queues.trash ≡ file ∷ files
    → AreQueued (record queues { trash = files ++ file ∷ [] }) space
trash_back queues space file files queued is =
    let here = first_trash queues space file files queued is in record {
      tables = queued.tables;
      trashes = All-push (λ (f : Entry). IsTrash f.name) files file here.others here.trash;
      tables_differ = queued.tables_differ;
      trashes_differ = distinct-pushed files file here.apart.0 here.apart.1;
      tables_tracked = queued.tables_tracked;
      trashes_tracked = All-push (Kept space) files file here.others_tracked here.tracked;
      untracked = queued.untracked;
    }

-- the count of what went is no part of it
counted : (now taken : ℕ) (files : List Entry) (queues : TrashState) (space : SpaceState) → AreQueued (record queues { trash = files }) space → AreQueued (went now taken files queues) space
counted now taken [] queues space queued = record {
  tables = queued.tables;
  trashes = queued.trashes;
  tables_differ = queued.tables_differ;
  trashes_differ = queued.trashes_differ;
  tables_tracked = queued.tables_tracked;
  trashes_tracked = queued.trashes_tracked;
  untracked = queued.untracked;
}
counted now taken (file ∷ files) queues space queued = record {
  tables = queued.tables;
  trashes = queued.trashes;
  tables_differ = queued.tables_differ;
  trashes_differ = queued.trashes_differ;
  tables_tracked = queued.tables_tracked;
  trashes_tracked = queued.trashes_tracked;
  untracked = queued.untracked;
}

-- Steps.

-- behind a deletion, done or refused, files are queued
pub record IsKept (deletion : Deletion) (now : ℕ) (queues : TrashState) (space : SpaceState) : Type 0 where
  pub done : AreQueued (after deletion now queues) (space_after deletion space)
  pub refused : AreQueued (after_refusal deletion queues) space

abbrev pub NextKept : Next → ℕ → TrashState → SpaceState → Type 0
NextKept Rest now queues space = Unit {0}
NextKept (Wait until) now queues space = Unit {0}
NextKept (Delete deletion) now queues space = IsKept deletion now queues space

retirement-kept : (queues : TrashState) (space : SpaceState) (now : ℕ) (entry : Retired) (entries : List Retired) → AreQueued queues space → queues.purge ≡ [] → queues.retire ≡ entry ∷ entries
    → (at_once : Bool) (names : Names) → goes_at_once queues space entry.name ≡ at_once → names ≡ entry.names
    → IsKept (retirement at_once names entry.name entry.size) now queues space
retirement-kept queues space now entry entries queued empty is true Plain way same = record {
  done = table_gone queues space entry entries queued empty is;
  refused = rw is (table_back queues space entry entries entry.names queued is);
}
retirement-kept queues space now entry entries queued empty is false Plain way same = record {
  done = table_trashed queues space entry entries queued empty is (not_taken _ (size_of (trash_name entry.name) space.tracked) way);
  refused = rw is (table_back queues space entry entries Both queued is);
}
retirement-kept queues space now entry entries queued empty is at_once Both way same = record {
  done = rw is (names_changed queues space entry entries TrashOnly queued is);
  refused = rw is (table_back queues space entry entries entry.names queued is);
}
retirement-kept queues space now entry entries queued empty is at_once TrashOnly way same = record {
  done = table_gone queues space entry entries queued empty is;
  refused = rw is (table_back queues space entry entries entry.names queued is);
}

trash_deletion-kept : (queues : TrashState) (space : SpaceState) (now : ℕ) (file : Entry) (files : List Entry) → AreQueued queues space → queues.purge ≡ [] → queues.trash ≡ file ∷ files
    → (large : Bool) → IsKept (if large then Cut file.name (file.size - queues.chunk) queues.chunk else RemoveTrash file.name file.size) now queues space
trash_deletion-kept queues space now file files queued empty is true = record {
  done = rw is (counted now queues.chunk (record { name = file.name; size = file.size - queues.chunk } ∷ files) queues (record space { tracked = resized file.name (file.size - queues.chunk) space.tracked })
      (trash_cut queues space file files (file.size - queues.chunk) queued empty is));
  refused = rw is (trash_back queues space file files queued is);
}
trash_deletion-kept queues space now file files queued empty is false = record {
  done = counted now file.size (drop 1 queues.trash) queues (untracked file.name space) (rw is (trash_gone queues space file files queued empty is));
  refused = rw is (trash_back queues space file files queued is);
}

trash-kept : (queues : TrashState) (space : SpaceState) (now : ℕ) → AreQueued queues space → queues.purge ≡ []
    → (files : List Entry) → queues.trash ≡ files → NextKept (trash_next queues now files) now queues space
trash-kept queues space now queued empty [] is = tt
trash-kept queues space now queued empty (file ∷ files) is =
    elim (nat_lt now (next_tick queues.rate queues.start queues.taken)) as (λ waits. NextKept (if waits then Wait (next_tick queues.rate queues.start queues.taken) else Delete (trash_deletion queues.chunk file)) now queues space) [
      | true ↦ tt
      | false ↦ trash_deletion-kept queues space now file files queued empty is (not (queues.chunk == 0) && nat_lt queues.chunk file.size)
    ]

retire-kept : (queues : TrashState) (space : SpaceState) (now : ℕ) (other : Next) → AreQueued queues space → queues.purge ≡ [] → NextKept other now queues space
    → (entries : List Retired) → queues.retire ≡ entries → NextKept (retire_next queues space entries other) now queues space
retire-kept queues space now other queued empty kept [] is = kept
retire-kept queues space now other queued empty kept (entry ∷ entries) is =
    retirement-kept queues space now entry entries queued empty is (goes_at_once queues space entry.name) entry.names refl refl

purge-kept : (queues : TrashState) (space : SpaceState) (now : ℕ) (other : Next) → AreQueued queues space → (queues.purge ≡ [] → NextKept other now queues space)
    → (names : List FileName) → queues.purge ≡ names → NextKept (purge_next names other) now queues space
purge-kept queues space now other queued kept [] is = kept is
purge-kept queues space now other queued kept (name ∷ names) is = record { done = purged queues space queued; refused = purge_back queues space queued }

pub next-kept : (queues : TrashState) (space : SpaceState) (now : ℕ) → AreQueued queues space → NextKept (next_of queues space now) now queues space
next-kept queues space now queued =
    purge-kept queues space now (retire_next queues space queues.retire (trash_next queues now queues.trash)) queued
    (λ empty. retire-kept queues space now (trash_next queues now queues.trash) queued empty (trash-kept queues space now queued empty queues.trash refl) queues.retire refl)
    queues.purge refl

moved : (queues queues' : TrashState) (space space' : SpaceState) → queues' ≡ queues → space' ≡ space → AreQueued queues space → AreQueued queues' space'
moved queues queues' space space' same same_space queued =
    subst (λ (s : SpaceState). AreQueued queues' s) (sym same_space) (subst (λ (q : TrashState). AreQueued q space) (sym same) queued)

deletes-kept : (deletion : Deletion) (now : ℕ) (answer : DeleteStep) (old new : TrashState) (space space' : SpaceState) → AreQueued old space → IsKept deletion now old space
    → Deletes deletion now answer old new space space' → AreQueued new space'
deletes-kept deletion now (step.Refused fault) old new space space' queued kept done = moved (after_refusal deletion old) new space space' done.0 done.1 kept.refused
deletes-kept deletion now step.OutOfMemory old new space space' queued kept done = moved old new space space' done.0 done.1 queued
deletes-kept deletion now step.Idle old new space space' queued kept done = moved (after deletion now old) new (space_after deletion space) space' done.1 done.2 kept.done
deletes-kept deletion now (step.Wait until) old new space space' queued kept done = moved (after deletion now old) new (space_after deletion space) space' done.1 done.2 kept.done
deletes-kept deletion now (step.Purged name) old new space space' queued kept done = moved (after deletion now old) new (space_after deletion space) space' done.1 done.2 kept.done
deletes-kept deletion now (step.Trashed name) old new space space' queued kept done = moved (after deletion now old) new (space_after deletion space) space' done.1 done.2 kept.done
deletes-kept deletion now (step.Cut name size) old new space space' queued kept done = moved (after deletion now old) new (space_after deletion space) space' done.1 done.2 kept.done
deletes-kept deletion now (step.Removed name) old new space space' queued kept done = moved (after deletion now old) new (space_after deletion space) space' done.1 done.2 kept.done

steps-kept : (next : Next) (now : ℕ) (answer : DeleteStep) (old new : TrashState) (space space' : SpaceState) → AreQueued old space → NextKept next now old space
    → Steps next now answer old new space space' → AreQueued new space'
steps-kept Rest now answer old new space space' queued kept steps = moved old new space space' steps.1 steps.2 queued
steps-kept (Wait until) now answer old new space space' queued kept steps = moved old new space space' steps.1 steps.2 queued
steps-kept (Delete deletion) now answer old new space space' queued kept steps = deletes-kept deletion now answer old new space space' queued kept steps

-- a step keeps it
pub step-kept : (now : ℕ) (answer : DeleteStep) (old new : TrashState) (space space' : SpaceState) → AreQueued old space
    → Steps (next_of old space now) now answer old new space space' → AreQueued new space'
step-kept now answer old new space space' queued steps = steps-kept (next_of old space now) now answer old new space space' queued (next-kept old space now queued) steps
