use Rattle.object_calls.specs.OpenedStores.{store_in}
use Rattle.run_acts.specs.Sharing.{opening_devices}
use Rattle.run_acts.proofs.threads_phase.serve_shared_once.Given as goal

abbrev pub ghosts-serve_shared-L-StoreName : goal.ghosts-serve_shared-L-StoreName
ghosts-serve_shared-L-StoreName g a = record { store = store_in a._keys.now g.F.StoreFile.state a.opening }

abbrev pub ghosts-serve_shared-L-DevicesName : goal.ghosts-serve_shared-L-DevicesName
ghosts-serve_shared-L-DevicesName g a = record { devices = opening_devices g.F.StoreFile.state g.R.RpmbPort.state a.opening }
