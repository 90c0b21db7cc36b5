use Rattle.std.proofs.Common.{refl}
use Rattle.run_acts.proofs.threads_phase.serve_shared_once.Goals as goal

pub serve_shared-requires-clause-store : goal.serve_shared-requires-clause-store
serve_shared-requires-clause-store g c κs within = record { keyed = c.requires.keyed; is = refl }
