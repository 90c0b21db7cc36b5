use Rattle.std.proofs.Common.{refl}
use Rattle.run_acts.proofs.serial_phase.serve_alone.Goals as goal

pub serve_calls-requires-clause-store : goal.serve_calls-requires-clause-store
serve_calls-requires-clause-store g c = record { keyed = c.requires.keyed; is = refl }
