use Rattle.std.proofs.Common.{◌⊎◌}
use Rattle.tee_ports.specs.Faults.{Rose}
use Rattle.script_runner.proofs.MigrationEnds.{migrations_tell_no_old_file}
use Rattle.script_runner.proofs.record_laws.migrations_tell_no_old_file.Goals as goal

pub returns : goal.returns
returns g c = λ held sink. migrations_tell_no_old_file g.F.StoreFile.state g.R.RpmbPort.state (Rose (g.K.Sink.faults held) (g.K.Sink.faults sink) ⊎ g.K.Sink.is_full sink)
