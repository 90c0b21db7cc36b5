use Rattle.crash_core.proofs.Migrations.{calls_migrate}
use Rattle.crash_core.proofs.migration_laws.calls_migrate.Goals as goal

pub returns : goal.returns
returns c = calls_migrate
