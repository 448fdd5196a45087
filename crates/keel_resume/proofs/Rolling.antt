-- The calls of a job's roll, one behind the other.
use Rattle.std.proofs.Common.{◌≡◌, ℕ, ◌+◌, false, List, [], Option, Some, None, Ok, Err, refl, ap, sym, subst, ◌∙◌, unwrap_or, option_map}
use Rattle.std.specs.Prelude.{Result, IfOk, IfSome}
use Rattle.keel_base.specs.declared.failure.Call.{Call}
use Rattle.keel_disk.specs.declared.error.DiskError.{DiskError}
use Rattle.keel_disk.specs.declared.error.DiskError.TheVariants as error
use Rattle.keel_edit.specs.declared.edit.Added.{Added}
use Rattle.keel_edit.specs.Spelling.{spelling}
use Rattle.keel_frag.specs.Writing.{record_bytes}
use Rattle.keel_manifest.specs.declared.roll.RollCall.{RollCall}
use Rattle.keel_manifest.specs.declared.roll.RollCall.TheVariants.{MakeManifest, AppendEdit, SyncManifest, MakeTemporary, AppendName, SyncTemporary, Rename, SyncDirectory}
use Rattle.keel_manifest.specs.declared.roll.Rolled.{Rolled}
use Rattle.keel_manifest.specs.Rolls.{RollState, RollSteps, Steps, after_call, after_failure, answer_of, begun, next_behind, word_of}
use Rattle.keel_manifest.specs.Rolls as rolls
use Rattle.keel_manifest.specs.State.{ManifestState}
use Rattle.keel_resume.specs.declared.course.Course.{Course}
use Rattle.keel_resume.specs.declared.stage.Stage.TheVariants as stage
use Rattle.keel_resume.specs.Plans.{Job, Rolls, draws, edit_of, handed, manifest_of, roll_of, with_progress}
use Rattle.keel_resume.specs.Plans as plans
use Rattle.keel_resume.specs.Jobs.{IsBehindManifest, tables_of}
use Rattle.keel_resume.specs.Courses.{HasRoll, IsHanded, IsRollTo, Leaves, RollAt, RollBehind, RollReady, is_refused, job_in, outcome, roll_next}

next_is : (next : Option RollCall) (roll : Option RollState) (job : Job) (tables : List Added) → HasRoll next roll job tables → roll_next roll ≡ next
next_is next None job tables h = absurd h
next_is next (Some roll) job tables h = h.next_is

tables_are : (next : Option RollCall) (roll : Option RollState) (job : Job) (tables : List Added) → HasRoll next roll job tables → tables ≡ tables_of job
tables_are next None job tables h = absurd h
tables_are next (Some roll) job tables h = h.tables_are

-- behind a call the roll is there for the next one
pub roll_follows : (asked : RollCall) (c : Course) → HasRoll (next_behind asked) c.roll (job_in c) c.tables → RollReady (option_map stage.Roll (roll_next c.roll)) c
roll_follows MakeManifest c h = subst (λ (o : Option RollCall). RollReady (option_map stage.Roll o) c) (sym (next_is (Some AppendEdit) c.roll (job_in c) c.tables h)) h
roll_follows AppendEdit c h = subst (λ (o : Option RollCall). RollReady (option_map stage.Roll o) c) (sym (next_is (Some SyncManifest) c.roll (job_in c) c.tables h)) h
roll_follows SyncManifest c h = subst (λ (o : Option RollCall). RollReady (option_map stage.Roll o) c) (sym (next_is (Some MakeTemporary) c.roll (job_in c) c.tables h)) h
roll_follows MakeTemporary c h = subst (λ (o : Option RollCall). RollReady (option_map stage.Roll o) c) (sym (next_is (Some AppendName) c.roll (job_in c) c.tables h)) h
roll_follows AppendName c h = subst (λ (o : Option RollCall). RollReady (option_map stage.Roll o) c) (sym (next_is (Some SyncTemporary) c.roll (job_in c) c.tables h)) h
roll_follows SyncTemporary c h = subst (λ (o : Option RollCall). RollReady (option_map stage.Roll o) c) (sym (next_is (Some Rename) c.roll (job_in c) c.tables h)) h
roll_follows Rename c h = subst (λ (o : Option RollCall). RollReady (option_map stage.Roll o) c) (sym (next_is (Some SyncDirectory) c.roll (job_in c) c.tables h)) h
roll_follows SyncDirectory c h =
    subst (λ (o : Option RollCall). RollReady (option_map stage.Roll o) c) (sym (next_is None c.roll (job_in c) c.tables h)) (tables_are None c.roll (job_in c) c.tables h)

-- before a call but the first the roll is there
pub roll_at : (asked : RollCall) (c : Course) → draws (Rolls asked) ≡ false → RollAt (Rolls asked) c → HasRoll (Some asked) c.roll (job_in c) c.tables
roll_at MakeManifest c later h = absurd cc
roll_at AppendEdit c later h = h
roll_at SyncManifest c later h = h
roll_at MakeTemporary c later h = h
roll_at AppendName c later h = h
roll_at SyncTemporary c later h = h
roll_at Rename c later h = h
roll_at SyncDirectory c later h = h

-- what a roll's call leaves of a manifest depends on number and edit alone
call_same : (asked : RollCall) (r other : RollState) (m : ManifestState) → r.number ≡ other.number → r.edit_record ≡ other.edit_record → after_call r asked m ≡ after_call other asked m
call_same MakeManifest r other m e f = refl
call_same AppendEdit r other m e f = refl
call_same SyncManifest r other m e f = refl
call_same MakeTemporary r other m e f = refl
call_same AppendName r other m e f = refl
call_same SyncTemporary r other m e f = refl
call_same Rename r other m e f = ap (λ (n : ℕ). after_call (record { number = n; edit_record = []; next = None }) Rename m) e
call_same SyncDirectory r other m e f =
    ap (λ (n : ℕ). after_call (record { number = n; edit_record = r.edit_record; next = None }) SyncDirectory m) e
    ∙ ap (λ (b : List ℕ). after_call (record { number = other.number; edit_record = b; next = None }) SyncDirectory m) f

failure_same : (asked : RollCall) (r other : RollState) (m : ManifestState) → r.number ≡ other.number → after_failure r asked m ≡ after_failure other asked m
failure_same MakeManifest r other m e = refl
failure_same AppendEdit r other m e = refl
failure_same SyncManifest r other m e = refl
failure_same MakeTemporary r other m e = refl
failure_same AppendName r other m e = refl
failure_same SyncTemporary r other m e = refl
failure_same Rename r other m e = ap (λ (n : ℕ). after_failure (record { number = n; edit_record = []; next = None }) Rename m) e
failure_same SyncDirectory r other m e = refl

later_number : (asked : RollCall) (job : Job) (next : ℕ) → draws (Rolls asked) ≡ false → manifest_of job next asked ≡ unwrap_or job.progress.manifest 0
later_number MakeManifest job next later = absurd cc
later_number AppendEdit job next later = refl
later_number SyncManifest job next later = refl
later_number MakeTemporary job next later = refl
later_number AppendName job next later = refl
later_number SyncTemporary job next later = refl
later_number Rename job next later = refl
later_number SyncDirectory job next later = refl

job_handed : (asked : RollCall) (c : Course) (next : ℕ) (roll : Option RollState) (temporary : Option ℕ) → draws (Rolls asked) ≡ false → temporary ≡ (handed next (Rolls asked) (job_in c).progress).temporary
    → job_in (record c { roll = roll; temporary = temporary }) ≡ with_progress (handed next (Rolls asked) (job_in c).progress) (job_in c)
job_handed MakeManifest c next roll temporary later e = absurd cc
job_handed AppendEdit c next roll temporary later e = ap (λ (t : Option ℕ). job_in (record c { temporary = t })) e
job_handed SyncManifest c next roll temporary later e = ap (λ (t : Option ℕ). job_in (record c { temporary = t })) e
job_handed MakeTemporary c next roll temporary later e = ap (λ (t : Option ℕ). job_in (record c { temporary = t })) e
job_handed AppendName c next roll temporary later e = ap (λ (t : Option ℕ). job_in (record c { temporary = t })) e
job_handed SyncTemporary c next roll temporary later e = ap (λ (t : Option ℕ). job_in (record c { temporary = t })) e
job_handed Rename c next roll temporary later e = ap (λ (t : Option ℕ). job_in (record c { temporary = t })) e
job_handed SyncDirectory c next roll temporary later e = ap (λ (t : Option ℕ). job_in (record c { temporary = t })) e

no_draw : (asked : RollCall) (next : ℕ) → draws (Rolls asked) ≡ false → next ≡ plans.next_behind (Rolls asked) next
no_draw MakeManifest next later = absurd cc
no_draw AppendEdit next later = refl
no_draw SyncManifest next later = refl
no_draw MakeTemporary next later = refl
no_draw AppendName next later = refl
no_draw SyncTemporary next later = refl
no_draw Rename next later = refl
no_draw SyncDirectory next later = refl

behind_is : (manifest : Option ℕ) (next number : ℕ) → manifest ≡ Some number → IfSome manifest (λ n. next ≡ n + 1) → next ≡ number + 1
behind_is None next number e h = absurd cc
behind_is (Some n) next number e h = let same : n ≡ number = cc in h ∙ ap (λ (k : ℕ). k + 1) same

unwrapped : (manifest : Option ℕ) (number : ℕ) → manifest ≡ Some number → unwrap_or manifest 0 ≡ number
unwrapped manifest number e = ap (λ (m : Option ℕ). unwrap_or m 0) e

-- the roll is the one that the plan tells
number_same : (asked : RollCall) (job : Job) (tables : List Added) (next : ℕ) (r : RollState) → draws (Rolls asked) ≡ false → IsRollTo (Some asked) r job tables → r.number ≡ manifest_of job next asked
number_same asked job tables next r later h = sym (later_number asked job next later ∙ unwrapped job.progress.manifest r.number h.number_is)

edit_same : (asked : RollCall) (job : Job) (tables : List Added) (next : ℕ) (r : RollState) → IsRollTo (Some asked) r job tables → IsBehindManifest job next
    → r.edit_record ≡ record_bytes 0 (spelling (edit_of job next))
edit_same asked job tables next r h behind =
    h.edit_is ∙ ap (λ (n : ℕ). record_bytes 0 (spelling (edit_of job n))) (sym (behind_is job.progress.manifest next r.number h.number_is behind))

handed_on : (asked : RollCall) (c : Course) (next : ℕ) (m m' : ManifestState) (roll : Option RollState) (temporary : Option ℕ) → draws (Rolls asked) ≡ false
    → temporary ≡ (handed next (Rolls asked) (job_in c).progress).temporary
    → IsHanded (Rolls asked) (record { course = c; next = next; manifest = m }) (record { course = record c { roll = roll; temporary = temporary }; next = next; manifest = m' })
handed_on asked c next m m' roll temporary later e = record { job = job_handed asked c next roll temporary later e; stage = refl; over = refl; next = no_draw asked next later }

has_behind : (asked : RollCall) (c : Course) (r : RollState) (temporary : Option ℕ) → IsRollTo (Some asked) r (job_in c) c.tables
    → RollBehind (Rolls asked) (record c { roll = Some (record r { next = next_behind asked }); temporary = temporary })
has_behind asked c r temporary h = record { next_is = refl; number_is = h.number_is; edit_is = h.edit_is; tables_are = h.tables_are }

-- what a call of the roll leaves
pub rolled_on : (asked : RollCall) (c : Course) (r r' : RollState) (next : ℕ) (m m' : ManifestState) (answer : Result Rolled DiskError) (result : Result Call DiskError) (temporary : Option ℕ)
    → draws (Rolls asked) ≡ false → HasRoll (Some asked) (Some r) (job_in c) c.tables → IsBehindManifest (job_in c) next
    → Steps asked answer r r' m m' → outcome result ≡ rolls.outcome answer → ((a : RollCall) → answer ≡ Ok (answer_of a) → IfOk result (λ made. made ≡ word_of a))
    → is_refused answer ≡ false → temporary ≡ (handed next (Rolls asked) (job_in c).progress).temporary
    → Leaves (Rolls asked) result (record { course = c; next = next; manifest = m }) (record { course = record c { roll = Some r'; temporary = temporary }; next = next; manifest = m' })
rolled_on asked c r r' next m m' (Ok rolled) (Ok made) temporary later h behind steps done call some e =
    let at = λ (x : RollState). RollBehind (Rolls asked) (record c { roll = Some x; temporary = temporary }) in
    record {
      handed = handed_on asked c next m m' (Some r') temporary later e;
      call_is = call asked (ap (λ (x : Rolled). Ok x) steps.0);
      manifest = steps.2 ∙ call_same asked r (roll_of (job_in c) (manifest_of (job_in c) next asked) next) m (number_same asked (job_in c) c.tables next r later h) (edit_same asked (job_in c) c.tables next r h behind);
      roll = subst at (sym steps.1) (has_behind asked c r temporary h);
    }
rolled_on asked c r r' next m m' (Ok rolled) (Err error) temporary later h behind steps done call some e = absurd cc
rolled_on asked c r r' next m m' (Err error) (Ok made) temporary later h behind steps done call some e = absurd cc
rolled_on asked c r r' next m m' (Err error.OutOfMemory) (Err x) temporary later h behind steps done call some e = absurd cc
rolled_on asked c r r' next m m' (Err (error.Fault fault)) (Err error.OutOfMemory) temporary later h behind steps done call some e = absurd cc
rolled_on asked c r r' next m m' (Err (error.Fault fault)) (Err (error.Fault other)) temporary later h behind steps done call some e = record {
  handed = handed_on asked c next m m' (Some r') temporary later e;
  manifest = steps.1 ∙ failure_same asked r (roll_of (job_in c) (manifest_of (job_in c) next asked) next) m (number_same asked (job_in c) c.tables next r later h);
}

-- what its first call leaves
pub roll_begun : (c : Course) (r' : RollState) (next : ℕ) (tables : List Added) (m m' : ManifestState) (answer : Result Rolled DiskError) (result : Result Call DiskError)
    → tables ≡ tables_of (job_in c)
    → Steps MakeManifest answer (begun next (spelling (edit_of (job_in c) (next + 1)))) r' m m' → outcome result ≡ rolls.outcome answer
    → ((a : RollCall) → answer ≡ Ok (answer_of a) → IfOk result (λ made. made ≡ word_of a)) → is_refused answer ≡ false
    → Leaves (Rolls MakeManifest) result (record { course = c; next = next; manifest = m })
    (record { course = record c { roll = Some r'; manifest = Some next; tables = tables }; next = next + 1; manifest = m' })
roll_begun c r' next tables m m' (Ok rolled) (Ok made) are steps done call some =
    let at = λ (x : RollState). RollBehind (Rolls MakeManifest) (record c { roll = Some x; manifest = Some next; tables = tables }) in
    record {
      handed = record { job = refl; stage = refl; over = refl; next = refl };
      call_is = call MakeManifest (ap (λ (x : Rolled). Ok x) steps.0);
      manifest = steps.2;
      roll = subst at (sym steps.1) (record { next_is = refl; number_is = refl; edit_is = refl; tables_are = are });
    }
roll_begun c r' next tables m m' (Ok rolled) (Err error) are steps done call some = absurd cc
roll_begun c r' next tables m m' (Err error) (Ok made) are steps done call some = absurd cc
roll_begun c r' next tables m m' (Err error.OutOfMemory) (Err x) are steps done call some = absurd cc
roll_begun c r' next tables m m' (Err (error.Fault fault)) (Err error.OutOfMemory) are steps done call some = absurd cc
roll_begun c r' next tables m m' (Err (error.Fault fault)) (Err (error.Fault other)) are steps done call some = record {
  handed = record { job = refl; stage = refl; over = refl; next = refl };
  manifest = steps.1;
}
