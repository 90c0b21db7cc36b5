use Rattle.std.proofs.Common.{◌≡◌}
use Rattle.quota_store.proofs.ShownHalves.{AreShownBelow}
use Rattle.quota_store.proofs.app_halves.show_halves.Given as goal

abbrev pub invariant-loop-half : goal.invariant-loop-half
invariant-loop-half g l = record { same : l.gate ≡ l.initial.gate; shown : AreShownBelow l.initial.gate.journal.knows l.half-index l.initial.kept l.kept }
