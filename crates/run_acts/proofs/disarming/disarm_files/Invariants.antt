use Rattle.run_acts.proofs.Disarmed.{AreDisarmedBelow}
use Rattle.run_acts.proofs.disarming.disarm_files.Given as goal

abbrev pub invariant-loop-file : goal.invariant-loop-file
invariant-loop-file g l = AreDisarmedBelow g.F.StoreFile.state l.initial.files l.files l.file-index
