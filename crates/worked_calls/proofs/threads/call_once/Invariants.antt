use Rattle.std.proofs.Common.{None}
use Rattle.worked_calls.proofs.threads.call_once.Given as goal

abbrev pub ghost-append : goal.ghost-append
ghost-append g a = record { committed = None; doubted = None }
