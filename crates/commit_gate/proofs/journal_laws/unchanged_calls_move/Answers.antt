use Rattle.commit_gate.proofs.CallMoves.{unchanged_move}
use Rattle.commit_gate.proofs.journal_laws.unchanged_calls_move.Goals as goal

pub returns : goal.returns
returns g c = unchanged_move g.row.E.Denot
