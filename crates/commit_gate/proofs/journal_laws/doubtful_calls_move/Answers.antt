use Rattle.commit_gate.proofs.CallMoves.{doubtful_move}
use Rattle.commit_gate.proofs.journal_laws.doubtful_calls_move.Goals as goal

pub returns : goal.returns
returns g c = doubtful_move g.row.E.Denot
