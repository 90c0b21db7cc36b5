use Rattle.crash_core.proofs.Migrations.{stages_migrate}
use Rattle.crash_core.proofs.migration_laws.stages_migrate.Goals as goal

pub returns : goal.returns
returns c = stages_migrate
