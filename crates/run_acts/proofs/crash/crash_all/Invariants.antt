use Rattle.object_calls.specs.OpeningFiles.{files_of}
use Rattle.run_acts.specs.Crashes.{CrashesBelow}
use Rattle.run_acts.proofs.crash.crash_all.Given as goal

abbrev pub invariant-loop-file : goal.invariant-loop-file
invariant-loop-file g l = CrashesBelow g.F.FileRig.crash_image l.fn.seed l.file (files_of g.F.StoreFile.state l.fn.files) (files_of g.F.StoreFile.state l.files)
