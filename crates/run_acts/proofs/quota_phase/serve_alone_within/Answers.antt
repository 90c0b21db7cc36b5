use Rattle.std.proofs.Common.{refl}
use Rattle.run_acts.proofs.quota_phase.serve_alone_within.Goals as goal

pub serve_calls_within-requires-clause-store : goal.serve_calls_within-requires-clause-store
serve_calls_within-requires-clause-store g c = record { keyed = c.requires.keyed; is = refl }
