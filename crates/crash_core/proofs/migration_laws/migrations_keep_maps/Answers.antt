use Rattle.crash_core.proofs.Migrations.{migrations_keep_maps}
use Rattle.crash_core.proofs.migration_laws.migrations_keep_maps.Goals as goal

pub returns : goal.returns
returns c = migrations_keep_maps
