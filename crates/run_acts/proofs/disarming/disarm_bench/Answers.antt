use Rattle.object_calls.proofs.Files.{files_sound}
use Rattle.run_acts.proofs.disarming.disarm_bench.Goals as goal

pub returns-clause-sound : goal.returns-clause-sound
returns-clause-sound g c = files_sound g.F.StoreFile.state g.met.F.StoreFile.sound _
