use Rattle.crash_core.proofs.Migrations.{rests_migrate}
use Rattle.crash_core.proofs.migration_laws.rests_migrate.Goals as goal

pub returns : goal.returns
returns c = rests_migrate
