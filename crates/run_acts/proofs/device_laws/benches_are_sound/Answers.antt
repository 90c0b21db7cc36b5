use Rattle.object_calls.proofs.Files.{files_sound}
use Rattle.run_acts.proofs.device_laws.benches_are_sound.Goals as goal

pub returns : goal.returns
returns g c = files_sound g.F.StoreFile.state g.met.F.StoreFile.sound c.args.bench.now.files.items
