use Rattle.crash_core.proofs.Migrations.{copies_migrate}
use Rattle.crash_core.proofs.migration_laws.copies_migrate.Goals as goal

pub returns : goal.returns
returns c = copies_migrate
