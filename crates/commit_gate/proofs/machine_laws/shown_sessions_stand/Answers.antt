use Rattle.commit_gate.proofs.Knowing.{shown_stand}
use Rattle.commit_gate.proofs.machine_laws.shown_sessions_stand.Goals as goal

pub returns : goal.returns
returns g c = shown_stand g.row.E.Denot
