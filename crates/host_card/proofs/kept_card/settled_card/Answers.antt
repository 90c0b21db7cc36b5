use Rattle.disk_model.proofs.Goings.{rests_then}
use Rattle.host_card.proofs.Moments.{on_err}
use Rattle.host_card.proofs.kept_card.settled_card.Goals as goal

pub returns-in_err-sync-clause-rests : goal.returns-in_err-sync-clause-rests
returns-in_err-sync-clause-rests g c = on_err c.from_residual-in_err-sync.result (rests_then _ _ _ c.in_ok-card.ensures.rests c.in_err-sync.ensures.unsettled)
