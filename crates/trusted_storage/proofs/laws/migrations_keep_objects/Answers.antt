use Rattle.std.proofs.Common.{◌⊎◌}
use Rattle.tee_ports.specs.Faults.{Rose}
use Rattle.trusted_storage.proofs.Migrated.{migrations_keep}
use Rattle.trusted_storage.proofs.laws.migrations_keep_objects.Goals as goal

pub returns : goal.returns
returns g c = λ held sink. migrations_keep g.F.StoreFile.state g.R.RpmbPort.state (Rose (g.K.Sink.faults held) (g.K.Sink.faults sink) ⊎ g.K.Sink.is_full sink)
