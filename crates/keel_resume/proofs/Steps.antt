-- What holds between two calls is kept.
use Rattle.std.proofs.Common.{◌≡◌, ℕ, ◌+◌, ◌<◌, Bool, true, false, List, [], ◌∷◌, length, drop, Option, Some, None, Ok, refl, ap, sym, subst, unwrap_or, ◌∙◌}
use Rattle.std.proofs.lemmas.List.{drop-drop}
use Rattle.keel_base.specs.declared.failure.Call.{Call}
use Rattle.keel_disk.specs.Seen.{Seen, Calls}
use Rattle.keel_edit.specs.declared.edit.Added.{Added}
use Rattle.keel_edit.specs.Spelling.{spelling}
use Rattle.keel_frag.specs.Writing.{record_bytes}
use Rattle.keel_manifest.specs.declared.roll.RollCall.{RollCall}
use Rattle.keel_manifest.specs.declared.roll.RollCall.TheVariants.{MakeManifest, AppendEdit, SyncManifest, MakeTemporary, AppendName, SyncTemporary, Rename, SyncDirectory}
use Rattle.keel_manifest.specs.Rolls.{RollState}
use Rattle.keel_manifest.specs.State.{ManifestState}
use Rattle.keel_resume.specs.declared.course.Course.{Course}
use Rattle.keel_resume.specs.declared.stage.Stage.{Stage}
use Rattle.keel_resume.specs.declared.stage.Stage.TheVariants as stage
use Rattle.keel_draft.specs.Drafts.{Draft}
use Rattle.keel_resume.specs.Plans.{Act, MakeTable, AddPiece, SyncTable, MakeLog, SyncLogName, Rolls, Job, Progress, change_of, edit_of, handed, left_of, moved, nothing_made, plan_of}
use Rattle.keel_resume.specs.Jobs.{IsMove, IsLast, UsesNew, manifest_behind}
use Rattle.keel_resume.specs.Courses.{HasRoll, IsCalled, IsHanded, IsOnCourse, IsStage, RollAt, RollReady, StageBehind, act_at, act_in, job_in, later_at, state_in}
use Rattle.keel_resume.proofs.Stages.{before_begins, last_stage}

drop_next : {A : Type 0} (n : ℕ) (xs later : List A) (x : A) → drop n xs ≡ x ∷ later → drop (n + 1) xs ≡ later
drop_next n xs later x e = sym (drop-drop 1 n xs) ∙ ap (drop 1) e

-- a file that was handed to `create` makes no call
pub handed_made : (next : ℕ) (act : Act) (p : Progress) → (handed next act p).made ≡ p.made
handed_made next MakeTable p = refl
handed_made next (AddPiece bytes) p = refl
handed_made next SyncTable p = refl
handed_made next MakeLog p = refl
handed_made next SyncLogName p = refl
handed_made next (Rolls MakeManifest) p = refl
handed_made next (Rolls AppendEdit) p = refl
handed_made next (Rolls SyncManifest) p = refl
handed_made next (Rolls MakeTemporary) p = refl
handed_made next (Rolls AppendName) p = refl
handed_made next (Rolls SyncTemporary) p = refl
handed_made next (Rolls Rename) p = refl
handed_made next (Rolls SyncDirectory) p = refl

has_made : (next : Option RollCall) (roll : Option RollState) (c : Course) (made : ℕ) (s : Stage) → HasRoll next roll (job_in c) c.tables → HasRoll next roll (job_in (record c { made = made; stage = s })) c.tables
has_made next None c made s h = h
has_made next (Some roll) c made s h = record { next_is = h.next_is; number_is = h.number_is; edit_is = h.edit_is; tables_are = h.tables_are }

roll_made : (act : Act) (c : Course) (made : ℕ) (s : Stage) → RollAt act c → RollAt act (record c { made = made; stage = s })
roll_made MakeTable c made s h = tt
roll_made (AddPiece bytes) c made s h = tt
roll_made SyncTable c made s h = tt
roll_made MakeLog c made s h = tt
roll_made SyncLogName c made s h = tt
roll_made (Rolls MakeManifest) c made s h = tt
roll_made (Rolls AppendEdit) c made s h = has_made (Some AppendEdit) c.roll c made s h
roll_made (Rolls SyncManifest) c made s h = has_made (Some SyncManifest) c.roll c made s h
roll_made (Rolls MakeTemporary) c made s h = has_made (Some MakeTemporary) c.roll c made s h
roll_made (Rolls AppendName) c made s h = has_made (Some AppendName) c.roll c made s h
roll_made (Rolls SyncTemporary) c made s h = has_made (Some SyncTemporary) c.roll c made s h
roll_made (Rolls Rename) c made s h = has_made (Some Rename) c.roll c made s h
roll_made (Rolls SyncDirectory) c made s h = has_made (Some SyncDirectory) c.roll c made s h

-- what is left behind a call that was handed in
left_behind : (before after : Course) (act : Act) (later : List Act) (n n' : ℕ) (m m' : ManifestState) (made : ℕ) (s : Stage) (over : Bool)
    → IsHanded act (record { course = before; next = n; manifest = m }) (record { course = after; next = n'; manifest = m' })
    → made ≡ before.made + 1 → left_of (job_in before) ≡ act ∷ later → left_of (job_in (record after { made = made; stage = s; over = over })) ≡ later
left_behind before after act later n n' m m' made s over h made_is left =
    let drafts : after.drafts ≡ before.drafts = ap (λ (j : Job). j.drafts) h.job in
    ap (λ (k : ℕ). drop k (plan_of after.drafts)) made_is ∙ ap (λ (ds : List Draft). drop (before.made + 1) (plan_of ds)) drafts
    ∙ drop_next before.made (plan_of before.drafts) later act left

later_same : (before after : Course) (act : Act) (n n' : ℕ) (m m' : ManifestState) → IsHanded act (record { course = before; next = n; manifest = m }) (record { course = after; next = n'; manifest = m' })
    → later_at before.stage before.drafts ≡ later_at after.stage after.drafts
later_same before after act n n' m m' h =
    ap (λ (s : Stage). later_at s before.drafts) (sym h.stage) ∙ ap (λ (ds : List Draft). later_at after.stage ds) (sym (ap (λ (j : Job). j.drafts) h.job))

job_moved : (before after : Course) (act : Act) (n n' : ℕ) (m m' : ManifestState) (made : ℕ) (s : Stage) (over : Bool)
    → IsHanded act (record { course = before; next = n; manifest = m }) (record { course = after; next = n'; manifest = m' })
    → made ≡ before.made + 1 → job_in (record after { made = made; stage = s; over = over }) ≡ moved n act (job_in before)
job_moved before after act n n' m m' made s over h made_is =
    ap (λ (j : Job). record j { progress = record j.progress { made = made } }) h.job
    ∙ ap (λ (k : ℕ). record (job_in before) { progress = record (handed n act (job_in before).progress) { made = k } }) (made_is ∙ ap (λ (k : ℕ). k + 1) (sym (handed_made n act (job_in before).progress)))

-- a call was made, and others are left
pub goes_on : (before after : Course) (n n' : ℕ) (m m' : ManifestState) (made : ℕ) (s : Stage) → IsOnCourse before → before.over ≡ false
    → IsHanded (act_in before) (record { course = before; next = n; manifest = m }) (record { course = after; next = n'; manifest = m' })
    → made ≡ before.made + 1 → StageBehind (later_at after.stage after.drafts) after.drafts (Some s) → RollReady (Some s) after
    → IsOnCourse (record after { made = made; stage = s })
goes_on before after n n' m m' made s on going h made_is behind ready =
    let left : left_of (job_in (record after { made = made; stage = s })) ≡ act_at s after.drafts ∷ later_at s after.drafts =
    left_behind before after (act_in before) (later_at before.stage before.drafts) n n' m m' made s after.over h made_is (on.left going) ∙ later_same before after (act_in before) n n' m m' h ∙ behind.0 in
    record {
      left = λ e. left;
      stage = λ e. behind.1;
      roll = λ e. roll_made (act_at s after.drafts) after made s ready;
      tables = λ none. absurd (let apart : act_at s after.drafts ∷ later_at s after.drafts ≡ [] = sym left ∙ none in cc);
    }

-- the last call was made
pub is_done : (after : Course) (made : ℕ) → RollReady None after → IsOnCourse (record after { made = made; over = true })
is_done after made ready = record {
  left = λ e. absurd cc;
  stage = λ e. absurd cc;
  roll = λ e. absurd cc;
  tables = λ none. ready;
}

-- a call failed
pub is_over : (before after : Course) (n n' : ℕ) (m m' : ManifestState) → IsOnCourse before → before.over ≡ false
    → IsHanded (act_in before) (record { course = before; next = n; manifest = m }) (record { course = after; next = n'; manifest = m' })
    → IsOnCourse (record after { over = true })
is_over before after n n' m m' on going h =
    let drafts : after.drafts ≡ before.drafts = ap (λ (j : Job). j.drafts) h.job in
    let made : after.made ≡ before.made = ap (λ (j : Job). j.progress.made) h.job ∙ handed_made n (act_in before) (job_in before).progress in
    let same : left_of (job_in after) ≡ left_of (job_in before) = ap (λ (k : ℕ). drop k (plan_of after.drafts)) made ∙ ap (λ (ds : List Draft). drop before.made (plan_of ds)) drafts in
    record {
      left = λ e. absurd cc;
      stage = λ e. absurd cc;
      roll = λ e. absurd cc;
      tables = λ none. absurd (let apart : act_in before ∷ later_at before.stage before.drafts ≡ [] = sym (on.left going) ∙ sym same ∙ none in cc);
    }

-- the move that a call is
pub is_move : (before after : Course) (n n' : ℕ) (m m' : ManifestState) (seen seen' : Seen) (made : ℕ) (s : Stage) (call : Call) → IsOnCourse before → before.over ≡ false
    → IsCalled (act_in before) call (record { course = before; next = n; manifest = m }) (record { course = after; next = n'; manifest = m' })
    → Calls seen (change_of (job_in before) n (act_in before)) (Ok tt) seen'
    → made ≡ before.made + 1 → StageBehind (later_at after.stage after.drafts) after.drafts (Some s)
    → IsMove call (record { state = state_in before; next = n; manifest = m; seen = seen })
    (record { state = state_in (record after { made = made; stage = s }); next = n'; manifest = m'; seen = seen' })
is_move before after n n' m m' seen seen' made s call on going h calls made_is behind = record {
  act = act_in before;
  another = act_at s after.drafts;
  later = later_at s after.drafts;
  made = record {
    next = on.left going ∙ ap (λ (l : List Act). act_in before ∷ l) (later_same before after (act_in before) n n' m m' h.handed ∙ behind.0);
    calls = calls;
    job_is = job_moved before after (act_in before) n n' m m' made s after.over h.handed made_is;
    left = left_behind before after (act_in before) (later_at before.stage before.drafts) n n' m m' made s after.over h.handed made_is (on.left going) ∙ later_same before after (act_in before) n n' m m' h.handed ∙ behind.0;
    next_is = h.handed.next;
    manifest_is = h.manifest;
  };
  call_is = h.call_is;
  goes_on = h.handed.over ∙ going;
}

drawn_is : (next : Option RollCall) (roll : Option RollState) (job : Job) (tables : List Added) → HasRoll next roll job tables → job.progress.manifest ≡ Some (unwrap_or job.progress.manifest 0)
drawn_is next None job tables h = absurd h
drawn_is next (Some roll) job tables h = h.number_is ∙ ap (λ (m : Option ℕ). Some (unwrap_or m 0)) (sym h.number_is)

-- behind the last call the manifest that was made is in use
uses_new : (before : Course) (job : Job) (act : Act) (n : ℕ) (m m' : ManifestState) → act ≡ Rolls SyncDirectory → RollAt act before
    → job ≡ moved n act (job_in before) → m' ≡ manifest_behind act (job_in before) n m → UsesNew job m'
uses_new before job act n m m' is roll job_is manifest_is =
    let there : RollAt (Rolls SyncDirectory) before = subst (λ (a : Act). RollAt a before) is roll in
    record {
      number = unwrap_or before.manifest 0;
      length = length (record_bytes 0 (spelling (edit_of (job_in before) n)));
      drawn = ap (λ (j : Job). j.progress.manifest) (job_is ∙ ap (λ (a : Act). moved n a (job_in before)) is) ∙ drawn_is (Some SyncDirectory) before.roll (job_in before) before.tables there;
      used = ap (λ (s : ManifestState). s.in_use) (manifest_is ∙ ap (λ (a : Act). manifest_behind a (job_in before) n m) is);
    }

last_act : (before after : Course) (act : Act) (n n' : ℕ) (m m' : ManifestState) → IsStage before.stage before.drafts
    → IsHanded act (record { course = before; next = n; manifest = m }) (record { course = after; next = n'; manifest = m' }) → later_at after.stage after.drafts ≡ []
    → act_in before ≡ Rolls SyncDirectory
last_act before after act n n' m m' there h none =
    ap (λ (s : Stage). act_at s before.drafts) (last_stage before.stage before.drafts there (later_same before after act n n' m m' h ∙ none))

pub is_last : (before after : Course) (n n' : ℕ) (m m' : ManifestState) (seen seen' : Seen) (made : ℕ) (call : Call) → IsOnCourse before → before.over ≡ false
    → IsCalled (act_in before) call (record { course = before; next = n; manifest = m }) (record { course = after; next = n'; manifest = m' })
    → Calls seen (change_of (job_in before) n (act_in before)) (Ok tt) seen'
    → made ≡ before.made + 1 → later_at after.stage after.drafts ≡ []
    → IsLast (record { state = state_in before; next = n; manifest = m; seen = seen })
    (record { state = state_in (record after { made = made; over = true }); next = n'; manifest = m'; seen = seen' })
is_last before after n n' m m' seen seen' made call on going h calls made_is behind = record {
  act = act_in before;
  made = record {
    next = on.left going ∙ ap (λ (l : List Act). act_in before ∷ l) (later_same before after (act_in before) n n' m m' h.handed ∙ behind);
    calls = calls;
    job_is = job_moved before after (act_in before) n n' m m' made after.stage true h.handed made_is;
    left = left_behind before after (act_in before) (later_at before.stage before.drafts) n n' m m' made after.stage true h.handed made_is (on.left going) ∙ later_same before after (act_in before) n n' m m' h.handed ∙ behind;
    next_is = h.handed.next;
    manifest_is = h.manifest;
  };
  in_use = uses_new before (job_in (record after { made = made; over = true })) (act_in before) n m m'
      (last_act before after (act_in before) n n' m m' (on.stage going) h.handed behind) (on.roll going)
      (job_moved before after (act_in before) n n' m m' made after.stage true h.handed made_is) h.manifest;
  over = refl;
}

-- one table more, before any call was made
pub covered : (c : Course) (drafts : List Draft) → (job_in c).progress ≡ nothing_made → 0 < length drafts → IsOnCourse (record c { drafts = drafts; stage = stage.MakeTable 0 })
covered c drafts start some =
    let none : c.made ≡ 0 = ap (λ (p : Progress). p.made) start in
    let left : left_of (job_in (record c { drafts = drafts; stage = stage.MakeTable 0 })) ≡ act_at (stage.MakeTable 0) drafts ∷ later_at (stage.MakeTable 0) drafts =
    ap (λ (k : ℕ). drop k (plan_of drafts)) none ∙ before_begins drafts some in
    record {
      left = λ e. left;
      stage = λ e. some;
      roll = λ e. tt;
      tables = λ none. absurd (let apart : act_at (stage.MakeTable 0) drafts ∷ later_at (stage.MakeTable 0) drafts ≡ [] = sym left ∙ none in cc);
    }
