use Rattle.std.proofs.Common.{◌≡◌, false, All, take}
use Rattle.keel_dirdisk.proofs.held.HeldFiles.sync_cuts.Given as goal

abbrev pub invariant-loop-held : goal.invariant-loop-held
invariant-loop-held g l = All (λ held. held.cut ≡ false) (take l.held-index l.held-items)
