use Rattle.std.proofs.Common.{sym}
use Rattle.call_steps.proofs.read_call.read_live.Goals as goal

pub returns-clause-reads : goal.returns-clause-reads
returns-clause-reads g c = λ v gives. c.read_bytes.ensures.reads v gives (sym (c.size-size.ensures.version v gives))
