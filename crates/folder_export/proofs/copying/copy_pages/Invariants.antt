use Rattle.std.proofs.Common.{◌-◌, ◌≤◌}
use Rattle.disk_model.specs.Calls.{GoesOn, Rests}
use Rattle.folder_export.specs.Copies.{CopiesFront}
use Rattle.folder_export.proofs.copying.copy_pages.Given as goal

abbrev pub invariant-loop-at : goal.invariant-loop-at
invariant-loop-at g l = record {
  within : l.at ≤ l.length;
  rests : Rests (g.F.StoreFile.state l.initial.from) (g.F.StoreFile.state l.from);
  goes_on : GoesOn (g.G.StoreFile.state l.initial.to) (g.G.StoreFile.state l.to);
  copied : CopiesFront l.at (g.F.StoreFile.state l.initial.from) (g.F.StoreFile.state l.from) (g.G.StoreFile.state l.initial.to) (g.G.StoreFile.state l.to);
}

abbrev pub decreases-loop-at : goal.decreases-loop-at
decreases-loop-at g l = l.length - l.at
