use Rattle.std.proofs.Common.{◌≡◌, ◌<◌, ℕ, Some, length}
use Rattle.std.specs.Prelude.{slice_get}
use Rattle.object_calls.specs.OpeningFiles.{files_of}
use Rattle.run_acts.proofs.alterations.save_all.Given as goal

abbrev pub invariant-loop-file : goal.invariant-loop-file
invariant-loop-file g l = record {
  count : length l.images.items ≡ l.file-index;
  each : (k : ℕ) → k < length l.images.items → slice_get l.images.items k ≡ Some (files_of g.F.StoreFile.state l.files k).reads;
}
