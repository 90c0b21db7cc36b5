use Rattle.core_laws.proofs.CallSessions.{calls_extend}
use Rattle.core_laws.proofs.tamper_laws.calls_extend_sessions.Goals as goal

pub returns : goal.returns
returns c = calls_extend
