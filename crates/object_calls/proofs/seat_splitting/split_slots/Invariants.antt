use Rattle.std.proofs.Common.{◌≡◌, ◌+◌, ◌≤◌, vec_len}
use Rattle.std.specs.Vec.{vec_capacity}
use Rattle.tee_types.specs.Limits.{last_file}
use Rattle.object_calls.specs.Seats.{IsSplitting}
use Rattle.object_calls.proofs.SplitFiles.{IsSplitTo}
use Rattle.object_calls.proofs.seat_splitting.split_slots.Given as goal

abbrev pub invariant-loop-file : goal.invariant-loop-file
invariant-loop-file g l = record {
  table : l.seat.table ≡ (g.L.StoreName.store).table;
  splitting : IsSplitting g.L.StoreName.store l.seat.knows (vec_len l.slots + 1);
  split : IsSplitTo g.L.StoreName.store l.gate.dir.dir.entries g.F.StoreFile.state l.fn.files.items l.seat.knows l.slots.items l.left.items;
  count : vec_len l.slots + vec_len l.left ≡ last_file;
  room : last_file ≤ vec_capacity l.slots;
  kept : vec_capacity l.left ≡ vec_capacity l.fn.files;
}

abbrev pub decreases-loop-file : goal.decreases-loop-file
decreases-loop-file g l = vec_len l.left
