use Rattle.core_laws.proofs.CallSessions.{entries_tag}
use Rattle.core_laws.proofs.tamper_laws.entries_tag_calls.Goals as goal

pub returns : goal.returns
returns c = entries_tag
