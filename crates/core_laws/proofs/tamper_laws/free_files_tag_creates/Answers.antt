use Rattle.core_laws.proofs.CallSessions.{free_tag}
use Rattle.core_laws.proofs.tamper_laws.free_files_tag_creates.Goals as goal

pub returns : goal.returns
returns c = free_tag
