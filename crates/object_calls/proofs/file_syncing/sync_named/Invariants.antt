use Rattle.object_calls.specs.OpeningFiles.{object_files}
use Rattle.object_calls.specs.Syncing.{SyncsNamed}
use Rattle.object_calls.proofs.file_syncing.sync_named.Given as goal

abbrev pub invariant-loop-index : goal.invariant-loop-index
invariant-loop-index g l =
    SyncsNamed l.gate.dir.dir.entries l.index (object_files g.F.StoreFile.state l.fn.files) (object_files g.F.StoreFile.state l.files)
