use Rattle.object_calls.specs.OpenedStores.{store_in}
use Rattle.object_calls.proofs.whole_phase.close_at_once.Given as goal

abbrev pub ghosts-close_unserved : goal.ghosts-close_unserved
ghosts-close_unserved g a = record { store = store_in g.keys g.F.StoreFile.state a.opening }
