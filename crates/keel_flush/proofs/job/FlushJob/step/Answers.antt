use Rattle.std.proofs.Common.{◌≡◌, true, false, ap, subst, ◌∙◌}
use Rattle.keel_flush.specs.Jobs.{IsLast, IsMove, JobState}
use Rattle.keel_flush.specs.Courses.{state_in}
use Rattle.keel_flush.proofs.Steps.{goes_on, is_last_move, is_move}
use Rattle.keel_flush.proofs.job.FlushJob.step.Goals as goal

pub invariant_of-self : goal.invariant_of-self
invariant_of-self g c =
    let going : c.self.inside.course.over ≡ false = ap (λ (s : JobState). s.over) c.self.view_is ∙ c.requires.going in
    goes_on c.self.inside.course c.call.new.self c.args.next.now.number c.call.new.next.number c.args.manifest.now c.call.new.manifest c.in-Some.made c.in-Some-behind.stage
    c.self.invariant going c.in-Ok.ensures.leaves.handed c.in-Some.ensures.1 c.in-Some-behind.ensures

pub returns-in-Some-behind : goal.returns-in-Some-behind
returns-in-Some-behind g c =
    let D = g.D.Disk in
    let going : c.self.inside.course.over ≡ false = ap (λ (s : JobState). s.over) c.self.view_is ∙ c.requires.going in
    let move = is_move c.self.inside.course c.call.new.self c.args.next.now.number c.call.new.next.number c.args.manifest.now c.call.new.manifest (D.seen c.args.disk.now) (D.seen c.call.new.disk)
    c.in-Some.made c.in-Some-behind.stage c.in-Ok.call c.self.invariant going c.in-Ok.ensures.leaves c.in-Ok.ensures.calls c.in-Some.ensures.1 c.in-Some-behind.ensures in
    subst
    (λ (s : JobState). IsMove c.in-Ok.call (record { state = s; next = c.args.next.now.number; manifest = c.args.manifest.now; seen = D.seen c.args.disk.now })
    (record {
      state = state_in (record c.call.new.self { made = c.in-Some.made; stage = c.in-Some-behind.stage });
      next = c.call.new.next.number;
      manifest = c.call.new.manifest;
      seen = D.seen c.call.new.disk;
    }))
    c.self.view_is move

pub returns-in-None : goal.returns-in-None
returns-in-None g c =
    let D = g.D.Disk in
    let going : c.self.inside.course.over ≡ false = ap (λ (s : JobState). s.over) c.self.view_is ∙ c.requires.going in
    let last = is_last_move c.self.inside.course c.call.new.self c.args.next.now.number c.call.new.next.number c.args.manifest.now c.call.new.manifest (D.seen c.args.disk.now) (D.seen c.call.new.disk)
    c.in-Some.made c.in-Ok.call c.self.invariant going c.in-Ok.ensures.leaves c.in-Ok.ensures.calls c.in-Some.ensures.1 c.in-None.ensures in
    subst
    (λ (s : JobState). IsLast (record { state = s; next = c.args.next.now.number; manifest = c.args.manifest.now; seen = D.seen c.args.disk.now })
    (record {
      state = state_in (record c.call.new.self { made = c.in-Some.made; over = true });
      next = c.call.new.next.number;
      manifest = c.call.new.manifest;
      seen = D.seen c.call.new.disk;
    }))
    c.self.view_is last
