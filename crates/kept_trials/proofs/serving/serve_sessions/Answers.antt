use Rattle.std.proofs.Common.{refl}
use Rattle.kept_trials.proofs.serving.serve_sessions.Goals as goal

pub serve_named-requires-clause-store : goal.serve_named-requires-clause-store
serve_named-requires-clause-store g c = record { keyed = c.requires.keyed; is = refl }
