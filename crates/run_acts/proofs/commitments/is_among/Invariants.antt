use Rattle.std.proofs.Common.{◌≡◌, false, take}
use Rattle.app_quota.specs.Commitments.{is_among}
use Rattle.run_acts.proofs.commitments.is_among.Given as goal

abbrev pub invariant-loop-other : goal.invariant-loop-other
invariant-loop-other l = is_among l.app (take l.other-index l.apps) ≡ false
