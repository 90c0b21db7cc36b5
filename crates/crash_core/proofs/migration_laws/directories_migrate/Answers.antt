use Rattle.crash_core.proofs.MigrationSeals.{directories_migrate}
use Rattle.crash_core.proofs.migration_laws.directories_migrate.Goals as goal

pub returns : goal.returns
returns c = directories_migrate
