use Rattle.crash_core.proofs.Migrations.{exchanges_migrate}
use Rattle.crash_core.proofs.migration_laws.exchanges_migrate.Goals as goal

pub returns : goal.returns
returns c = exchanges_migrate
