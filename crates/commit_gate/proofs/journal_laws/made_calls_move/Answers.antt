use Rattle.commit_gate.proofs.CallMoves.{made_move}
use Rattle.commit_gate.proofs.journal_laws.made_calls_move.Goals as goal

pub returns : goal.returns
returns g c = made_move g.row.E.Denot
