use Rattle.crash_core.proofs.MigrationSeals.{entries_migrate}
use Rattle.crash_core.proofs.migration_laws.entries_migrate.Goals as goal

pub returns : goal.returns
returns c = entries_migrate
