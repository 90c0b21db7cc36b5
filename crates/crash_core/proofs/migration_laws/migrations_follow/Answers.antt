use Rattle.crash_core.proofs.Migrations.{migrations_follow}
use Rattle.crash_core.proofs.migration_laws.migrations_follow.Goals as goal

pub returns : goal.returns
returns c = migrations_follow
