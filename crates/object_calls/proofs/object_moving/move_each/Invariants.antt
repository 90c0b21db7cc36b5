-- So many turns are behind, of which so many moved an object.
use Rattle.std.proofs.Common.{◌≡◌, ◌≤◌, vec_len}
use Rattle.std.specs.Vec.{vec_capacity}
use Rattle.tee_types.specs.Limits.{file_count, last_file}
use Rattle.object_calls.proofs.ObjectsMoved.{AreTurned}
use Rattle.object_calls.proofs.object_moving.move_each.Given as goal

abbrev pub invariant-loop-index : goal.invariant-loop-index
invariant-loop-index g l = record {
  turned : AreTurned g.F.StoreFile.state g.R.RpmbPort.state l.fn.gate l.gate l.fn.files.items l.files.items l.index l.moved;
  whole : vec_len l.files ≡ last_file;
  room : file_count ≤ vec_capacity l.files;
  undrawn : g.E.Entropy.faults l.entropy ≡ g.E.Entropy.faults l.fn.entropy;
  reliable : g.E.Entropy.is_reliable l.fn.entropy → g.E.Entropy.is_reliable l.entropy;
}
