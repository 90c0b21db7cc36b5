use Rattle.std.proofs.Common.{◌≡◌, ◌+◌, ◌≤◌, vec_len}
use Rattle.std.specs.Vec.{vec_capacity}
use Rattle.tee_types.specs.Limits.{last_file}
use Rattle.run_acts.specs.Sharing.{AreKept}
use Rattle.run_acts.proofs.shared_slots.unshare_slots.Given as goal

abbrev pub invariant-loop-slot : goal.invariant-loop-slot
invariant-loop-slot g l = record {
  keep : AreKept g.L.DevicesName.devices (vec_len l.slots) l.slots.items;
  count : vec_len l.slots + vec_len l.left ≡ last_file;
  room : last_file ≤ vec_capacity l.slots;
}

abbrev pub decreases-loop-slot : goal.decreases-loop-slot
decreases-loop-slot g l = vec_len l.left
