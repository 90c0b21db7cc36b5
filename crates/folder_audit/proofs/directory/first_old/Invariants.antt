-- None of the entries before the next is of the old format.
use Rattle.crash_core.proofs.OldFormats.{NoneOldBelow}
use Rattle.folder_audit.proofs.directory.first_old.Given as goal

abbrev pub invariant-loop-index : goal.invariant-loop-index
invariant-loop-index l = NoneOldBelow l.entries l.index
