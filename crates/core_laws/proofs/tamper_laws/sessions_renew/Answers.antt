use Rattle.core_laws.proofs.CallSessions.{sessions_renew}
use Rattle.core_laws.proofs.tamper_laws.sessions_renew.Goals as goal

pub returns : goal.returns
returns c = sessions_renew
