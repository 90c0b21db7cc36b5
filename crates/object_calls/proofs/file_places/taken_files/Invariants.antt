use Rattle.std.proofs.Common.{◌≡◌, ◌+◌, ◌≤◌, vec_len}
use Rattle.std.specs.Vec.{vec_capacity}
use Rattle.object_calls.proofs.Placings.{AreFirstTaken}
use Rattle.object_calls.proofs.file_places.taken_files.Given as goal

abbrev pub invariant-loop-place : goal.invariant-loop-place
invariant-loop-place g l = record {
  taken : AreFirstTaken l.fn.places.items l.left.items l.files.items;
  count : vec_len l.files + vec_len l.left ≡ vec_len l.fn.places;
  room : vec_capacity l.fn.room ≤ vec_capacity l.files;
}

abbrev pub decreases-loop-place : goal.decreases-loop-place
decreases-loop-place g l = vec_len l.left
