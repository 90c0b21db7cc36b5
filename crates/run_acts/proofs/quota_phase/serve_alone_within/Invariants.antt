use Rattle.object_calls.specs.OpenedStores.{store_in}
use Rattle.run_acts.proofs.quota_phase.serve_alone_within.Given as goal

abbrev pub ghosts-serve_calls_within : goal.ghosts-serve_calls_within
ghosts-serve_calls_within g a = record { store = store_in a._keys.now g.F.StoreFile.state a.opening }
