use Rattle.object_calls.proofs.EntryCounting.{count_none}
use Rattle.object_calls.proofs.opening.count_entries.Goals as goal

pub loop-index-init : goal.loop-index-init
loop-index-init g c = count_none c.args.gate.now.dir.dir.entries
