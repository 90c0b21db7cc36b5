use Rattle.std.proofs.Common.{arith}
use Rattle.run_acts.proofs.PhaseChains.{files_none}
use Rattle.run_acts.proofs.untainted_laws.benches_end.Goals as goal

pub returns : goal.returns
returns g c = λ file beyond. files_none g.F.StoreFile.state c.args.bench.now.files.items file (omega (arith, beyond, c.requires, c.args.bench.now.files.ok.0))
