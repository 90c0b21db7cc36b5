-- The tag has the versions that `N` names.
use Rattle.commit_gate.proofs.journal.Journal.append.Given as goal

abbrev pub ghost-append : goal.ghost-append
ghost-append g a = g.N.VersionsName.versions
