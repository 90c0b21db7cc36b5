use Rattle.commit_gate.proofs.Knowing.{guarded_know}
use Rattle.commit_gate.proofs.machine_laws.guarded_gates_know.Goals as goal

pub returns : goal.returns
returns g c = guarded_know g.row.F.Denot g.row.R.Denot
