use Rattle.object_calls.specs.OpenedStores.{store_in}
use Rattle.kept_trials.proofs.serving.serve_sessions.Given as goal

abbrev pub ghosts-serve_named : goal.ghosts-serve_named
ghosts-serve_named g a = record { store = store_in a._keys.now g.F.StoreFile.state a.opening }
