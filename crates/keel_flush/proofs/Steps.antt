-- What holds between two calls is kept.
use Rattle.std.proofs.Common.{◌≡◌, ℕ, ◌+◌, Bool, true, false, List, [], ◌∷◌, drop, Some, Ok, refl, ap, sym, ◌∙◌}
use Rattle.std.proofs.lemmas.List.{drop-drop}
use Rattle.keel_base.specs.declared.failure.Call.{Call}
use Rattle.keel_disk.specs.Seen.{Seen, Calls}
use Rattle.keel_draft.specs.Drafts.{Draft}
use Rattle.keel_manifest.specs.State.{ManifestState}
use Rattle.keel_flush.specs.declared.course.Course.{Course}
use Rattle.keel_flush.specs.declared.stage.Stage.{Stage}
use Rattle.keel_flush.specs.Plans.{Act, MakeTable, AddPiece, SyncTable, SyncName, AppendEdit, SyncManifest, Job, Progress, change_of, handed, left_of, moved, plan_of}
use Rattle.keel_flush.specs.Jobs.{IsLast, IsMove}
use Rattle.keel_flush.specs.Courses.{IsCalled, IsHanded, IsOnCourse, StageBehind, act_at, act_in, job_in, later_at, state_in}

drop_next : {A : Type 0} (n : ℕ) (xs later : List A) (x : A) → drop n xs ≡ x ∷ later → drop (n + 1) xs ≡ later
drop_next n xs later x e = sym (drop-drop 1 n xs) ∙ ap (drop 1) e

-- a file that was handed to `create` makes no call
pub handed_made : (next : ℕ) (act : Act) (p : Progress) → (handed next act p).made ≡ p.made
handed_made next MakeTable p = refl
handed_made next (AddPiece bytes) p = refl
handed_made next SyncTable p = refl
handed_made next SyncName p = refl
handed_made next AppendEdit p = refl
handed_made next SyncManifest p = refl

-- what is left behind a call that was handed in
left_behind : (before after : Course) (act : Act) (later : List Act) (n n' : ℕ) (m m' : ManifestState) (made : ℕ) (s : Stage) (over : Bool)
    → IsHanded act (record { course = before; next = n; manifest = m }) (record { course = after; next = n'; manifest = m' })
    → made ≡ before.made + 1 → left_of (job_in before) ≡ act ∷ later → left_of (job_in (record after { made = made; stage = s; over = over })) ≡ later
left_behind before after act later n n' m m' made s over h made_is left =
    let draft : after.draft ≡ before.draft = ap (λ (j : Job). j.draft) h.job in
    ap (λ (k : ℕ). drop k (plan_of after.draft)) made_is ∙ ap (λ (d : Draft). drop (before.made + 1) (plan_of d)) draft
    ∙ drop_next before.made (plan_of before.draft) later act left

later_same : (before after : Course) (act : Act) (n n' : ℕ) (m m' : ManifestState) → IsHanded act (record { course = before; next = n; manifest = m }) (record { course = after; next = n'; manifest = m' })
    → later_at before.stage before.draft ≡ later_at after.stage after.draft
later_same before after act n n' m m' h =
    ap (λ (s : Stage). later_at s before.draft) (sym h.stage) ∙ ap (λ (d : Draft). later_at after.stage d) (sym (ap (λ (j : Job). j.draft) h.job))

job_moved : (before after : Course) (act : Act) (n n' : ℕ) (m m' : ManifestState) (made : ℕ) (s : Stage) (over : Bool)
    → IsHanded act (record { course = before; next = n; manifest = m }) (record { course = after; next = n'; manifest = m' })
    → made ≡ before.made + 1 → job_in (record after { made = made; stage = s; over = over }) ≡ moved n act (job_in before)
job_moved before after act n n' m m' made s over h made_is =
    ap (λ (j : Job). record j { progress = record j.progress { made = made } }) h.job
    ∙ ap (λ (k : ℕ). record (job_in before) { progress = record (handed n act (job_in before).progress) { made = k } }) (made_is ∙ ap (λ (k : ℕ). k + 1) (sym (handed_made n act (job_in before).progress)))

-- a call was made, and others are left
pub goes_on : (before after : Course) (n n' : ℕ) (m m' : ManifestState) (made : ℕ) (s : Stage) → IsOnCourse before → before.over ≡ false
    → IsHanded (act_in before) (record { course = before; next = n; manifest = m }) (record { course = after; next = n'; manifest = m' })
    → made ≡ before.made + 1 → StageBehind (later_at after.stage after.draft) after.draft (Some s)
    → IsOnCourse (record after { made = made; stage = s })
goes_on before after n n' m m' made s on going h made_is behind = record {
  left = λ e. left_behind before after (act_in before) (later_at before.stage before.draft) n n' m m' made s after.over h made_is (on.left going) ∙ later_same before after (act_in before) n n' m m' h ∙ behind.0;
  stage = λ e. behind.1;
}

-- the move that a call is
pub is_move : (before after : Course) (n n' : ℕ) (m m' : ManifestState) (seen seen' : Seen) (made : ℕ) (s : Stage) (call : Call) → IsOnCourse before → before.over ≡ false
    → IsCalled (act_in before) call (record { course = before; next = n; manifest = m }) (record { course = after; next = n'; manifest = m' })
    → Calls seen (change_of (job_in before) n m (act_in before)) (Ok tt) seen'
    → made ≡ before.made + 1 → StageBehind (later_at after.stage after.draft) after.draft (Some s)
    → IsMove call (record { state = state_in before; next = n; manifest = m; seen = seen })
    (record { state = state_in (record after { made = made; stage = s }); next = n'; manifest = m'; seen = seen' })
is_move before after n n' m m' seen seen' made s call on going h calls made_is behind = record {
  act = act_in before;
  another = act_at s after.draft;
  later = later_at s after.draft;
  made = record {
    next = on.left going ∙ ap (λ (l : List Act). act_in before ∷ l) (later_same before after (act_in before) n n' m m' h.handed ∙ behind.0);
    calls = calls;
    job_is = job_moved before after (act_in before) n n' m m' made s after.over h.handed made_is;
    left = left_behind before after (act_in before) (later_at before.stage before.draft) n n' m m' made s after.over h.handed made_is (on.left going) ∙ later_same before after (act_in before) n n' m m' h.handed ∙ behind.0;
    next_is = h.handed.next;
    manifest_is = h.manifest;
  };
  call_is = h.call_is;
  goes_on = h.handed.over ∙ going;
}

-- the last one that it is
pub is_last_move : (before after : Course) (n n' : ℕ) (m m' : ManifestState) (seen seen' : Seen) (made : ℕ) (call : Call) → IsOnCourse before → before.over ≡ false
    → IsCalled (act_in before) call (record { course = before; next = n; manifest = m }) (record { course = after; next = n'; manifest = m' })
    → Calls seen (change_of (job_in before) n m (act_in before)) (Ok tt) seen'
    → made ≡ before.made + 1 → later_at after.stage after.draft ≡ []
    → IsLast (record { state = state_in before; next = n; manifest = m; seen = seen })
    (record { state = state_in (record after { made = made; over = true }); next = n'; manifest = m'; seen = seen' })
is_last_move before after n n' m m' seen seen' made call on going h calls made_is behind = record {
  act = act_in before;
  made = record {
    next = on.left going ∙ ap (λ (l : List Act). act_in before ∷ l) (later_same before after (act_in before) n n' m m' h.handed ∙ behind);
    calls = calls;
    job_is = job_moved before after (act_in before) n n' m m' made after.stage true h.handed made_is;
    left = left_behind before after (act_in before) (later_at before.stage before.draft) n n' m m' made after.stage true h.handed made_is (on.left going) ∙ later_same before after (act_in before) n n' m m' h.handed ∙ behind;
    next_is = h.handed.next;
    manifest_is = h.manifest;
  };
  over = refl;
}
