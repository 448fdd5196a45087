use Rattle.std.proofs.Common.{◌≡◌, ◌++◌, ◌∷◌, [], ℕ, List, subst}
use Rattle.std.specs.Prelude.{OnOk, codes}
use Rattle.std.specs.Fmt.{decimal}
use Rattle.keel_script.specs.Replies.{told}
use Rattle.keel_script.proofs.answering.add_reply.Goals as goal

pub returns-in-RefusedDevice : goal.returns-in-RefusedDevice
returns-in-RefusedDevice c =
    rw c.in-RefusedDevice.is
    (subst (λ (w : List ℕ). OnOk c.worded-in-RefusedDevice.result (c.worded-in-RefusedDevice.new.line ≡ c.args.line.now ++ told (codes "refused device") (w ∷ [])))
    c.fault_name.ensures c.worded-in-RefusedDevice.ensures)

pub returns-in-BadOption : goal.returns-in-BadOption
returns-in-BadOption c =
    rw c.in-BadOption.is
    (subst (λ (w : List ℕ). OnOk c.worded_pair.result
    (c.worded_pair.new.line ≡ c.args.line.now ++ told (codes "bad-option") (w ∷ decimal c.in-BadOption.least ∷ decimal c.in-BadOption.greatest ∷ [])))
    c.name-in-BadOption.ensures c.worded_pair.ensures)

pub returns-in-OverLimit : goal.returns-in-OverLimit
returns-in-OverLimit c = rw c.in-OverLimit.is c.great_pair.ensures

pub returns-in-RefusedNoCurrent : goal.returns-in-RefusedNoCurrent
returns-in-RefusedNoCurrent c = rw c.in-RefusedNoCurrent.is c.named.ensures

pub returns-in-RefusedDamagedManifest : goal.returns-in-RefusedDamagedManifest
returns-in-RefusedDamagedManifest c = rw c.in-RefusedDamagedManifest.is c.one-in-RefusedDamagedManifest.ensures

pub returns-in-RefusedLogGap : goal.returns-in-RefusedLogGap
returns-in-RefusedLogGap c = rw c.in-RefusedLogGap.is c.three.ensures

pub returns-in-AbsentTable : goal.returns-in-AbsentTable
returns-in-AbsentTable c = rw c.in-AbsentTable.is c.one-in-AbsentTable.ensures
