use Rattle.object_calls.specs.OpenedStores.{store_in}
use Rattle.run_acts.proofs.serial_phase.serve_alone.Given as goal

abbrev pub ghosts-serve_calls : goal.ghosts-serve_calls
ghosts-serve_calls g a = record { store = store_in a._keys.now g.F.StoreFile.state a.opening }
