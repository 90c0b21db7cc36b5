-- The commit's versions are those of the call.
use Rattle.call_steps.proofs.object_commit.commit_versions.Given as goal

abbrev pub ghosts-commit : goal.ghosts-commit
ghosts-commit g a = record { versions = g.versions }
