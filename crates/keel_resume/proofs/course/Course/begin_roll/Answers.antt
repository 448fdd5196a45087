use Rattle.std.proofs.Common.{◌≡◌, ℕ, ◌+◌, false, Some, ap, subst, sym, ◌∙◌}
use Rattle.keel_manifest.specs.declared.roll.RollCall.TheVariants.{MakeManifest}
use Rattle.keel_manifest.specs.Rolls.{RollState, RollSteps, begun}
use Rattle.keel_resume.specs.Courses.{Leaves, Place, is_refused, job_in}
use Rattle.keel_resume.specs.Plans.{Rolls, edit_of}
use Rattle.keel_edit.specs.Spelling.{spelling}
use Rattle.keel_resume.proofs.Rolling.{roll_begun}
use Rattle.keel_resume.proofs.course.Course.begin_roll.Goals as goal

pub returns-clause-leaves : goal.returns-clause-leaves
returns-clause-leaves g c =
    let made : is_refused c.roll_step-answer.result ≡ false = sym c.is_refused.ensures ∙ c.if-is_refused.false in
    let number = c.args.next.now.number in
    let edit = spelling (edit_of (job_in c.args.self.now) (number + 1)) in
    let roll : c.in_ok-roll.roll ≡ begun number edit =
    c.in_ok-roll.ensures.roll ∙ ap (λ (n : ℕ). begun n (spelling (edit_of (job_in c.args.self.now) (n + 1)))) c.number.ensures in
    let steps : RollSteps (begun number edit).next c.roll_step-answer.result (begun number edit) c.roll_step-answer.new.roll c.args.manifest.now c.roll_step-answer.new.self =
    subst (λ (r : RollState). RollSteps r.next c.roll_step-answer.result r c.roll_step-answer.new.roll c.args.manifest.now c.roll_step-answer.new.self) roll c.roll_step-answer.ensures.step in
    let after : ℕ → ℕ → Place = λ n next. record {
      course = record c.args.self.now { roll = Some c.roll_step-answer.new.roll; manifest = Some n; tables = c.in_ok-roll.tables };
      next = next;
      manifest = c.roll_step-answer.new.self;
    } in
    let before : Place = record { course = c.args.self.now; next = number; manifest = c.args.manifest.now } in
    subst (λ (n : ℕ). Leaves (Rolls MakeManifest) c.rolled.result before (after n c.draw.new.self.number)) (sym c.draw.ensures.number)
    (subst (λ (next : ℕ). Leaves (Rolls MakeManifest) c.rolled.result before (after number next)) (sym c.draw.ensures.next)
    (roll_begun c.args.self.now c.roll_step-answer.new.roll number c.in_ok-roll.tables c.args.manifest.now c.roll_step-answer.new.self c.roll_step-answer.result c.rolled.result
    c.in_ok-roll.ensures.tables steps c.rolled.ensures.done c.rolled.ensures.call made))
