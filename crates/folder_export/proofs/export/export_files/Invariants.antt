use Rattle.std.proofs.Common.{ℕ}
use Rattle.disk_model.specs.Calls.{GoesOn, Rests}
use Rattle.disk_model.specs.State.{FileState}
use Rattle.folder_export.specs.Folders.{states_of}
use Rattle.folder_export.proofs.Below.{CopiedBelow}
use Rattle.folder_export.proofs.export.export_files.Given as goal

abbrev pub invariant-loop-number : goal.invariant-loop-number
invariant-loop-number g l = record {
  rests : (none : FileState) (k : ℕ) → Rests (states_of none g.F.StoreFile.state l.initial.files k) (states_of none g.F.StoreFile.state l.files k);
  goes_on : (none : FileState) (k : ℕ) → GoesOn (states_of none g.G.StoreFile.state l.initial.folder k) (states_of none g.G.StoreFile.state l.folder k);
  copied : (none : FileState) → CopiedBelow (states_of none g.F.StoreFile.state l.initial.files) (states_of none g.F.StoreFile.state l.files)
      (states_of none g.G.StoreFile.state l.initial.folder) (states_of none g.G.StoreFile.state l.folder) l.number;
}
