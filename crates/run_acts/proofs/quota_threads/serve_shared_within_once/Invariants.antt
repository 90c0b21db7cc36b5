use Rattle.object_calls.specs.OpenedStores.{store_in}
use Rattle.run_acts.specs.Sharing.{opening_devices}
use Rattle.run_acts.proofs.quota_threads.serve_shared_within_once.Given as goal

abbrev pub ghosts-serve_shared_within-L-StoreName : goal.ghosts-serve_shared_within-L-StoreName
ghosts-serve_shared_within-L-StoreName g a = record { store = store_in a._keys.now g.F.StoreFile.state a.opening }

abbrev pub ghosts-serve_shared_within-L-DevicesName : goal.ghosts-serve_shared_within-L-DevicesName
ghosts-serve_shared_within-L-DevicesName g a = record { devices = opening_devices g.F.StoreFile.state g.R.RpmbPort.state a.opening }
