-- Where there is no live handle, nothing is closed.
use Rattle.commit_gate.proofs.JournalClosings.{closed_none}
use Rattle.commit_gate.proofs.session.close_live.Goals as goal

pub returns-in-None : goal.returns-in-None
returns-in-None c = closed_none c.args.state.now c.args.number c.in-None.ensures
